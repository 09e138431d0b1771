-- What two ends agree on by the two texts that they exchange.
use Rattle.std.proofs.Common.{◌≡◌, ◌&&◌, ◌∙◌, ℕ, Bool, true, false, cond, List, [], ◌∷◌, Option, Some, None, ap, refl}
use Rattle.std.proofs.Common.{sym, subst}
use Rattle.std.specs.Str.{bytes_eq}
use Rattle.rtp_media_exchange.specs.Exchanges.{Exchanged, accepted_agreement, answered_agreement}
use Rattle.rtp_media_exchange.specs.Mutual.{AreMutual, ExchangesAreMutual, HaveExchanged, IsMutual, RepairsAreMutual}
use Rattle.rtp_media_exchange.specs.Mutual.{wanted_of}
use Rattle.rtp_media_exchange.specs.Requests.{AreAnswers, AreOffers, IsAnswerOf, IsOfferOf}
use Rattle.rtp_media_exchange.proofs.OneAgreement.{said_once}
use Rattle.rtp_media_sections.specs.Agreement.{Agreed, agreed_by_accept, agreed_by_answer, own_repairs_in}
use Rattle.rtp_media_sections.specs.Agreement.{remote_repairs_in, said_of, section_of}
use Rattle.rtp_media_sections.specs.Answered.{answered_direction, flow}
use Rattle.rtp_media_sections.specs.Sections.{Section, Wanted}
use Rattle.rtp_wire.specs.Direction.{receives, sends}
use Rattle.rtp_wire.specs.declared.direction.Direction.{Direction}

some_same : (x y : List Wanted) → Some x ≡ Some y → x ≡ y
some_same x y e = cc

-- ways of flows
flow_sends : (p q : Bool) → sends (flow p q) ≡ p
flow_sends true true = refl
flow_sends true false = refl
flow_sends false true = refl
flow_sends false false = refl

flow_receives : (p q : Bool) → receives (flow p q) ≡ q
flow_receives true true = refl
flow_receives true false = refl
flow_receives false true = refl
flow_receives false false = refl

other_order : (p q : Bool) → (p && q) ≡ (q && p)
other_order true true = refl
other_order true false = refl
other_order false true = refl
other_order false false = refl

twice : (p q : Bool) → (p && q) ≡ ((p && q) && q)
twice true true = refl
twice true false = refl
twice false q = refl

answer_sends : (offered request dir : Direction) → dir ≡ answered_direction offered request
    → sends dir ≡ (sends dir && receives offered)
answer_sends offered request dir e =
    let is : sends dir ≡ (sends request && receives offered) =
    ap sends e ∙ flow_sends (sends request && receives offered) (receives request && sends offered) in
    is ∙ twice (sends request) (receives offered) ∙ ap (λ b. b && receives offered) (sym is)

answer_receives : (offered request dir : Direction) → dir ≡ answered_direction offered request
    → receives dir ≡ (receives dir && sends offered)
answer_receives offered request dir e =
    let is : receives dir ≡ (receives request && sends offered) =
    ap receives e ∙ flow_receives (sends request && receives offered) (receives request && sends offered) in
    is ∙ twice (receives request) (sends offered) ∙ ap (λ b. b && sends offered) (sym is)

-- one section
one_mutual : (o s : Section) (wx wy : Wanted) → IsOfferOf o wx → IsAnswerOf s wy o
    → IsMutual o s wx wy (agreed_by_accept wx s) (agreed_by_answer wy o s)
unfolding agreed_by_accept agreed_by_answer
one_mutual o s wx wy offer answer = record {
  offered_is = offer.dir;
  answered_is = answer.dir;
  offering = record {
    flows_out = other_order (receives s.dir) (sends wx.dir) ∙ ap (λ d. sends d && receives s.dir) (sym offer.dir);
    flows_in = other_order (sends s.dir) (receives wx.dir) ∙ ap (λ d. receives d && sends s.dir) (sym offer.dir);
    own_ssrcs = λ ssrc. sym (offer.names.ssrcs ssrc);
    remote_ssrcs = λ ssrc. refl;
    own_repairs = sym offer.names.repairs;
    remote_repairs = refl;
  };
  answering = record {
    flows_out = answer_sends o.dir wy.dir s.dir answer.dir;
    flows_in = answer_receives o.dir wy.dir s.dir answer.dir;
    own_ssrcs = λ ssrc. sym (answer.names.ssrcs ssrc);
    remote_ssrcs = λ ssrc. refl;
    own_repairs = sym answer.names.repairs;
    remote_repairs = refl;
  };
}

-- those of a name
abbrev picked : Bool → Bool → Bool → Bool → Bool → Bool → Section → Section → Wanted → Wanted → Agreed → Agreed
    → List Section → List Section → List Wanted → List Wanted → List ℕ → Type 0
picked bo bs bx by ba bb o s wx wy a b os ss wxs wys mid =
    AreMutual (cond bo (Some o) (said_of os mid)) (cond bs (Some s) (said_of ss mid))
    (cond bx (Some wx) (wanted_of wxs mid)) (cond by (Some wy) (wanted_of wys mid))
    (cond ba (Some a) (section_of (accepted_agreement wxs ss) mid))
    (cond bb (Some b) (section_of (answered_agreement wys os ss) mid))

mutual_by : (os ss : List Section) (wxs wys : List Wanted) → AreOffers os wxs → AreAnswers ss wys os → (mid : List ℕ)
    → AreMutual (said_of os mid) (said_of ss mid) (wanted_of wxs mid) (wanted_of wys mid)
    (section_of (accepted_agreement wxs ss) mid) (section_of (answered_agreement wys os ss) mid)
unfolding agreed_by_accept agreed_by_answer
mutual_by [] [] [] [] offers answers mid = tt
mutual_by (o ∷ os) (s ∷ ss) (wx ∷ wxs) (wy ∷ wys) offers answers mid =
    let of_x : o.mid ≡ wx.mid = offers.0.names.mid in
    let of_y : s.mid ≡ wy.mid = answers.0.names.mid in
    let of_o : o.mid ≡ wy.mid = answers.0.offer_mid in
    all (bytes_eq s.mid mid) (bytes_eq o.mid mid) (bytes_eq wx.mid mid) (bytes_eq wy.mid mid)
    (ap (λ m. bytes_eq m mid) (of_o ∙ sym of_y))
    (ap (λ m. bytes_eq m mid) (sym of_x ∙ of_o ∙ sym of_y))
    (ap (λ m. bytes_eq m mid) (sym of_y))
    (one_mutual o s wx wy offers.0 answers.0)
    (mutual_by os ss wxs wys offers.1 answers.1 mid)
  where
    go : (b : Bool) → IsMutual o s wx wy (agreed_by_accept wx s) (agreed_by_answer wy o s)
        → AreMutual (said_of os mid) (said_of ss mid) (wanted_of wxs mid) (wanted_of wys mid)
        (section_of (accepted_agreement wxs ss) mid) (section_of (answered_agreement wys os ss) mid)
        → picked b b b b b b o s wx wy (agreed_by_accept wx s) (agreed_by_answer wy o s) os ss wxs wys mid
    go true here later = here
    go false here later = later

    all : (b bo bx by : Bool) → bo ≡ b → bx ≡ b → by ≡ b
        → IsMutual o s wx wy (agreed_by_accept wx s) (agreed_by_answer wy o s)
        → AreMutual (said_of os mid) (said_of ss mid) (wanted_of wxs mid) (wanted_of wys mid)
        (section_of (accepted_agreement wxs ss) mid) (section_of (answered_agreement wys os ss) mid)
        → picked bo b bx by b b o s wx wy (agreed_by_accept wx s) (agreed_by_answer wy o s) os ss wxs wys mid
    all b bo bx by e f g here later =
        subst (λ d. picked d b bx by b b o s wx wy (agreed_by_accept wx s) (agreed_by_answer wy o s) os ss wxs wys mid)
        (sym e)
        (subst (λ d. picked b b d by b b o s wx wy (agreed_by_accept wx s) (agreed_by_answer wy o s) os ss wxs wys mid)
        (sym f)
        (subst (λ d. picked b b b d b b o s wx wy (agreed_by_accept wx s) (agreed_by_answer wy o s) os ss wxs wys mid)
        (sym g) (go b here later)))
mutual_by [] ss (wx ∷ wxs) wys offers answers mid = absurd offers
mutual_by (o ∷ os) ss [] wys offers answers mid = absurd offers
mutual_by [] [] [] (wy ∷ wys) offers answers mid = absurd answers
mutual_by [] (s ∷ ss) [] [] offers answers mid = absurd answers
mutual_by [] (s ∷ ss) [] (wy ∷ wys) offers answers mid = absurd answers
mutual_by (o ∷ os) [] (wx ∷ wxs) [] offers answers mid = absurd answers
mutual_by (o ∷ os) [] (wx ∷ wxs) (wy ∷ wys) offers answers mid = absurd answers
mutual_by (o ∷ os) (s ∷ ss) (wx ∷ wxs) [] offers answers mid = absurd answers

agreed_accepted : (x y after_x after_y : Exchanged) (offer answer : List ℕ) (wanted_x wanted_y : List Wanted)
    (h : HaveExchanged offer answer wanted_x wanted_y x y after_x after_y)
    → after_x.agreed ≡ accepted_agreement wanted_x h.answers.said
agreed_accepted x y after_x after_y offer answer wanted_x wanted_y h =
    ap (λ (e : Exchanged). e.agreed) h.accepts.after_is
    ∙ ap (λ wanted. accepted_agreement wanted h.accepts.answer)
    (some_same h.accepts.wanted wanted_x (sym h.accepts.pending ∙ h.pending))
    ∙ ap (accepted_agreement wanted_x)
    (said_once answer h.accepts.answer h.answers.said h.accepts.answer_is h.answers.said_is)

agreed_answered : (x y after_x after_y : Exchanged) (offer answer : List ℕ) (wanted_x wanted_y : List Wanted)
    (h : HaveExchanged offer answer wanted_x wanted_y x y after_x after_y)
    → after_y.agreed ≡ answered_agreement wanted_y h.answers.offer h.answers.said
agreed_answered x y after_x after_y offer answer wanted_x wanted_y h =
    ap (λ (e : Exchanged). e.agreed) h.answers.after_is

mutual_of : (offer answer : List ℕ) (wanted_x wanted_y : List Wanted) (x y after_x after_y : Exchanged)
    (h : HaveExchanged offer answer wanted_x wanted_y x y after_x after_y) (mid : List ℕ)
    → AreMutual (said_of h.answers.offer mid) (said_of h.answers.said mid) (wanted_of wanted_x mid)
    (wanted_of wanted_y mid) (section_of after_x.agreed mid) (section_of after_y.agreed mid)
mutual_of offer answer wanted_x wanted_y x y after_x after_y h mid =
    let offered = subst (λ sections. AreOffers sections wanted_x)
    (said_once offer h.offers.sections h.answers.offer h.offers.says h.answers.offer_is) h.offers.are_offers in
    subst (λ agreed. AreMutual (said_of h.answers.offer mid) (said_of h.answers.said mid) (wanted_of wanted_x mid)
    (wanted_of wanted_y mid) (section_of after_x.agreed mid) (section_of agreed mid))
    (sym (agreed_answered x y after_x after_y offer answer wanted_x wanted_y h))
    (subst (λ agreed. AreMutual (said_of h.answers.offer mid) (said_of h.answers.said mid) (wanted_of wanted_x mid)
    (wanted_of wanted_y mid) (section_of agreed mid)
    (section_of (answered_agreement wanted_y h.answers.offer h.answers.said) mid))
    (sym (agreed_accepted x y after_x after_y offer answer wanted_x wanted_y h))
    (mutual_by h.answers.offer h.answers.said wanted_x wanted_y offered h.answers.are_answers mid))

pub exchanges_mutual : ExchangesAreMutual
exchanges_mutual offer answer wanted_x wanted_y x y after_x after_y h offered answered say_offer say_answer mid =
    subst (λ sections. AreMutual (said_of sections mid) (said_of answered mid) (wanted_of wanted_x mid)
    (wanted_of wanted_y mid) (section_of after_x.agreed mid) (section_of after_y.agreed mid))
    (said_once offer h.answers.offer offered h.answers.offer_is say_offer)
    (subst (λ sections. AreMutual (said_of h.answers.offer mid) (said_of sections mid) (wanted_of wanted_x mid)
    (wanted_of wanted_y mid) (section_of after_x.agreed mid) (section_of after_y.agreed mid))
    (said_once answer h.answers.said answered h.answers.said_is say_answer)
    (mutual_of offer answer wanted_x wanted_y x y after_x after_y h mid))

-- repairs
each_others : (o s : Option Section) (wx wy : Option Wanted) (a b : Option Agreed) → AreMutual o s wx wy a b
    → (own_repairs_in a ≡ remote_repairs_in b) × (own_repairs_in b ≡ remote_repairs_in a)
each_others (Some o) (Some s) (Some wx) (Some wy) (Some a) (Some b) m = (
  m.offering.own_repairs ∙ sym m.answering.remote_repairs,
  m.answering.own_repairs ∙ sym m.offering.remote_repairs,
)
each_others None None None None None None m = (refl, refl)
each_others _ _ _ _ _ _ m = absurd m

pub repairs_mutual : RepairsAreMutual
repairs_mutual offer answer wanted_x wanted_y x y after_x after_y h mid =
    each_others _ _ _ _ (section_of after_x.agreed mid) (section_of after_y.agreed mid)
    (mutual_of offer answer wanted_x wanted_y x y after_x after_y h mid)
