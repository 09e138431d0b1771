-- What holds of requests with sections rejected that have no row in common.
use Rattle.std.proofs.Common.{◌≡◌, ◌⊎◌, ◌∙◌, ◌&&◌, ◌||◌, ℕ, suc, zero, ap, refl, subst, sym, Bool, true, false, not}
use Rattle.std.proofs.Common.{cond}
use Rattle.std.proofs.Common.{List, [], ◌∷◌, Option, None, Some, Result, Ok, Err, filter, find, inl, inr, is_some}
use Rattle.std.proofs.Common.{length, map}
use Rattle.std.proofs.Common.{slice_get}
use Rattle.std.specs.Cmp.Lexicographic.{bytes_decides}
use Rattle.std.specs.List.{list_any}
use Rattle.rtp_media_exchange.specs.Exchanges.{Exchanged}
use Rattle.rtp_media_exchange.specs.Refusals.{after_rounds, answers_none, else_refused, in_turn}
use Rattle.rtp_media_exchange.specs.Refusals.{is_nameless, no_answer, no_common_row_of, not_media_of}
use Rattle.rtp_media_exchange.specs.Refusals.{not_written, refusal_of_answer}
use Rattle.rtp_media_exchange.specs.Refusals.{refusal_of_sections, round_refusal}
use Rattle.rtp_media_exchange.specs.Says.{SaysSections}
use Rattle.rtp_media_exchange.specs.declared.errors.ExchangeError.{ExchangeError}
use Rattle.rtp_media_exchange.specs.declared.errors.ExchangeError.TheVariants.{NoCommonRow, NotCorresponding}
use Rattle.rtp_media_exchange.specs.declared.errors.ExchangeError.TheVariants.{NotWritable}
use Rattle.rtp_wire.specs.Direction.{receives}
use Rattle.rtp_media_sections.specs.Agreement.{may_follow}
use Rattle.rtp_media_sections.specs.Lines.{remote_of, section_of}
use Rattle.rtp_media_sections.specs.Sections.{Section, Wanted, corresponds}
use Rattle.sdp_formats_data.specs.WholeTexts.{is_name}
use Rattle.sdp_formats_data.specs.declared.media.MediaLine.{MediaLine}
use Rattle.sdp_formats_data.specs.declared.session.Sdp.{Sdp}
use Rattle.sdp_formats_reader.specs.Grammar.{SdpSays}
use Rattle.sdp_formats_rounds.specs.Laws.{rounds}
use Rattle.sdp_formats_rounds.specs.declared.error.RoundError.{RoundError}
use Rattle.sdp_formats_rows.specs.Rows.{Row}
use Rattle.rtp_media_browsers.specs.ForEnds.{IsHanded, places_of, without}
use Rattle.rtp_media_browsers.specs.InCommon.{AnswersInCommon, OnlyRejects, OthersStay, SaysToEnd}
use Rattle.rtp_media_browsers.specs.InCommon.{has_named, left_of, less_of, names_none, names_without, without_named}
use Rattle.rtp_media_browsers.specs.Names.{is_among}
use Rattle.rtp_media_browsers.specs.Places.{is_place_of}
use Rattle.rtp_media_browsers.specs.Received.{asked_of}
use Rattle.rtp_media_browsers.specs.Wanted.{number_from}
use Rattle.rtp_media_browsers.specs.declared.state.Place.{Place}
use Rattle.rtp_media_browsers.specs.declared.state.Place.TheVariants.{Free, Kept, Taken}
use Rattle.rtp_media_browsers.specs.declared.request.SectionRequest.{SectionRequest}
use Rattle.rtp_media_browsers.specs.declared.request.SectionRequest.TheVariants.{Accept, Receive, Reject}
use Rattle.rtp_media_browsers.proofs.Named.{not_true}

-- each request stays, or only receives, or rejects
abbrev Stays : Option SectionRequest → Option SectionRequest → Type 0
Stays before after = (after ≡ before) ⊎ (after ≡ Some Receive) ⊎ (after ≡ Some Reject)

less_by : (b : Bool) (w : SectionRequest) → Stays (Some w) (Some (cond b Receive Reject))
less_by true w = inr (inl refl)
less_by false w = inr (inr refl)

less_stays : (w : SectionRequest) → Stays (Some w) (Some (less_of w))
less_stays (Accept direction ssrcs repairs) = less_by (receives direction) (Accept direction ssrcs repairs)
less_stays Receive = inr (inr refl)
less_stays Reject = inr (inr refl)

one_request : (b : Bool) (w : SectionRequest) → Stays (Some w) (Some (left_of b w))
one_request true w = less_stays w
one_request false w = inl refl

each_request : (names : List (List ℕ)) (ps : List Place) (ws : List SectionRequest) (n : ℕ)
    → Stays (slice_get ws n) (slice_get (without_named names ps ws) n)
each_request names ps [] n = inl refl
each_request names [] (w ∷ ws) zero = inl refl
each_request names [] (w ∷ ws) (suc n) = each_request names [] ws n
each_request names (p ∷ ps) (w ∷ ws) zero = one_request (has_named names p) w
each_request names (p ∷ ps) (w ∷ ws) (suc n) = each_request names ps ws n

same_length : (names : List (List ℕ)) (ps : List Place) (ws : List SectionRequest)
    → length (without_named names ps ws) ≡ length ws
same_length names ps [] = refl
same_length names [] (w ∷ ws) = ap suc (same_length names [] ws)
same_length names (p ∷ ps) (w ∷ ws) = ap suc (same_length names ps ws)

both_stay : (x y z : Option SectionRequest) → Stays x y → Stays y z → Stays x z
both_stay x y z (inl a) (inl b) = inl (b ∙ a)
both_stay x y z (inr (inl a)) (inl b) = inr (inl (b ∙ a))
both_stay x y z (inr (inr a)) (inl b) = inr (inr (b ∙ a))
both_stay x y z h (inr b) = inr b

pub only_rejects : OnlyRejects
only_rejects offer state rows zero before after h =
    subst (OthersStay before) h (record { length = refl; requests = λ n. inl refl })
only_rejects offer state rows (suc times) before after h =
    let between = h.0 in
    let r = h.2 in
    let kept = only_rejects offer state rows times before between h.1 in
    subst (OthersStay before) (sym r.rejected) (record {
      length = same_length r.names r.planned.places between ∙ kept.length;
      requests = λ n. both_stay (slice_get before n) (slice_get between n)
          (slice_get (without_named r.names r.planned.places between) n) (kept.requests n)
          (each_request r.names r.planned.places between n);
    })

-- what is read of a text is what it says to an end
pub says_to_end : (text : List ℕ) (sdp : Sdp) (rest : List ℕ) (sections : List Section) → SdpSays text sdp rest
    → ((other : Sdp) (left : List ℕ) → SdpSays text other left → (other ≡ sdp) × (left ≡ rest))
    → sections ≡ map section_of sdp.media_lines → SaysToEnd text sections
says_to_end text sdp rest sections says only is = inl (record {
  lines = sdp.media_lines;
  says = record {
    says = (sdp.session, rest, says);
    only = λ others h.
        ap (λ (s : Sdp). s.media_lines) (only (record { session = h.0; media_lines = others }) h.1 h.2).0;
  };
  sections_are = is;
})

-- what an end is handed is determined
one_handed : (text : List ℕ) (sdp kept : Sdp) (a b : List ℕ) → IsHanded text sdp kept a → IsHanded text sdp kept b
    → a ≡ b
unfolding IsHanded
one_handed text sdp kept a b (inl x) (inl y) = x.1 ∙ sym y.1
one_handed text sdp kept a b (inl x) (inr y) = absurd (y.0 x.0)
one_handed text sdp kept a b (inr x) (inl y) = absurd (x.0 y.0)
one_handed text sdp kept a b (inr x) (inr y) = x.1 ∙ sym y.1

-- and so are the sections that it says
one_reading : (text : List ℕ) (a b : List Section) → SaysToEnd text a → SaysSections text b → b ≡ a
one_reading text a b (inl x) y =
    y.sections_are ∙ ap (λ (ls : List MediaLine). map section_of ls) (x.says.only y.lines y.says.says)
    ∙ sym x.sections_are
one_reading text a b (inr x) y =
    absurd (x.0 (record { session = y.says.says.0; media_lines = y.lines }) y.says.says.1 y.says.says.2)

module _ (mid : List ℕ) where
  abbrev IsThat : Option ExchangeError → Type 0
  IsThat why = why ≡ Some (NoCommonRow mid)

  in_its_turn : (b : Bool) (next : Option ExchangeError) → IsThat (in_turn b next) → IsThat next
  in_its_turn true next h = absurd (cc)
  in_its_turn false next h = h

  unless_first : (a next : Option ExchangeError) → (IsThat a → ⊥) → IsThat (else_refused a next) → IsThat next
  unless_first (Some why) next other h = absurd (other h)
  unless_first None next other h = h

  not_of_media : (o : Option Section) → IsThat (not_media_of o) → ⊥
  not_of_media None h = cc
  not_of_media (Some s) h = cc

  not_of_rounds : (b : Bool) (r : Result (List Row) RoundError)
      → IsThat (cond b (round_refusal r) (Some NotCorresponding)) → ⊥
  not_of_rounds true (Ok rows) h = cc
  not_of_rounds true (Err e) h = cc
  not_of_rounds false r h = cc

  not_of_sections : (x : Exchanged) (sections : List Section) (wanted : List Wanted)
      → IsThat (refusal_of_sections x sections wanted) → ⊥
  unfolding refusal_of_sections
  not_of_sections x sections wanted h =
      not_of_rounds (corresponds sections wanted && may_follow x.agreed wanted)
      (rounds (map remote_of sections) x.config.rows)
      (unless_first (not_media_of (find (λ s. not s.is_media) sections))
      (cond (corresponds sections wanted && may_follow x.agreed wanted)
      (round_refusal (rounds (map remote_of sections) x.config.rows)) (Some NotCorresponding))
      (not_of_media (find (λ s. not s.is_media) sections)) h)

  not_of_names : (b : Bool) → IsThat (cond b (Some NotWritable) None) → ⊥
  not_of_names true h = cc
  not_of_names false h = cc

  same_name : (s : Section) → IsThat (Some (NoCommonRow s.mid)) → s.mid ≡ mid
  same_name s h = cc

  abbrev mids : List Section → List (List ℕ)
  mids sections = map (λ s. s.mid) sections

  one_named : (b : Bool) (s : Section) (found : Option Section) (rest : List Section) (next : Option ExchangeError)
      → (IsThat (else_refused (no_common_row_of found) next) → is_among (mids rest) mid ≡ true)
      → IsThat (else_refused (no_common_row_of (cond b (Some s) found)) next)
      → is_among (mids (cond b (s ∷ rest) rest)) mid ≡ true
  one_named true s found rest next later h =
      ap (λ (b : Bool). b || is_among (mids rest) mid) ((bytes_decides mid s.mid).1 (sym (same_name s h)))
  one_named false s found rest next later h = later h

  module _ (rows : List Row) (wanted : List Wanted) where
    is_named : (sections : List Section) → IsThat (else_refused (no_answer rows sections) (not_written wanted))
        → is_among (mids (filter (answers_none rows) sections)) mid ≡ true
    is_named [] h = absurd (not_of_names (list_any is_nameless wanted) h)
    is_named (s ∷ ss) h =
        one_named (answers_none rows s) s (find (answers_none rows) ss) (filter (answers_none rows) ss)
        (not_written wanted) (is_named ss) h

  by_rounds : (r : Result (List Row) RoundError) (sections : List Section) (wanted : List Wanted)
      → IsThat (after_rounds r (λ rows. else_refused (no_answer rows sections) (not_written wanted)))
      → is_among (names_none r sections) mid ≡ true
  by_rounds (Ok rows) sections wanted h = is_named rows wanted sections h
  by_rounds (Err e) sections wanted h = absurd (cc)

  -- the section that is refused for want of a row is among those without one
  lacks_row : (x : Exchanged) (sections : List Section) (wanted : List Wanted)
      → IsThat (refusal_of_answer x sections wanted) → is_among (names_without x.config.rows sections) mid ≡ true
  unfolding refusal_of_answer
  lacks_row x sections wanted h =
      let after = after_rounds (rounds (map remote_of sections) x.config.rows)
      (λ rows. else_refused (no_answer rows sections) (not_written wanted)) in
      by_rounds (rounds (map remote_of sections) x.config.rows) sections wanted
      (unless_first (refusal_of_sections x sections wanted) after (not_of_sections x sections wanted)
      (in_its_turn (is_some x.pending) (else_refused (refusal_of_sections x sections wanted) after) h))

  both_off : (a b : Bool) → (a || b) ≡ false → (a ≡ false) × (b ≡ false)
  both_off true b h = absurd (not_true (sym h))
  both_off false b h = (refl, h)

  one_place : (name : List ℕ) (names : List (List ℕ)) (b : Bool) → is_name mid name ≡ b → (n : ℕ) (rest : Option ℕ)
      → is_among names mid ≡ true → is_among names name ≡ false → rest ≡ None → cond b (Some n) rest ≡ None
  one_place name names true is n rest among off none =
      let same = (bytes_decides mid name).0 is in
      absurd (not_true (sym off ∙ ap (is_among names) (sym same) ∙ among))
  one_place name names false is n rest among off none = none

  -- if no place is that of one of the names, none of the names has one
  no_place : (names : List (List ℕ)) (n : ℕ) (ps : List Place) → is_among names mid ≡ true
      → list_any (has_named names) ps ≡ false → number_from mid n ps ≡ None
  unfolding has_named is_place_of
  no_place names n [] among off = refl
  no_place names n (Kept name ∷ ps) among off =
      let offs = both_off (is_among names name) (list_any (has_named names) ps) off in
      one_place name names (is_name mid name) refl n (number_from mid (suc n) ps) among offs.0
      (no_place names (suc n) ps among offs.1)
  no_place names n (Taken r ∷ ps) among off = no_place names (suc n) ps among off
  no_place names n (Free r ∷ ps) among off = no_place names (suc n) ps among off

pub answers_in_common : AnswersInCommon
answers_in_common offer state planned requests handed x wanted mid has passes (inl unread) = absurd unread
answers_in_common offer state planned requests handed x wanted mid has passes (inr refused) =
    let first = has.lacks.passes in
    let same = (first.says.1 passes.sdp [] passes.says.0).0 in
    let places = passes.planned.places ∙ ap (places_of requests) same ∙ sym first.planned.places in
    let text = one_handed offer first.sdp
    (without state.sections (places_of requests first.sdp) (asked_of requests first.sdp)) handed
    has.lacks.handed
    (subst (λ (s : Sdp).
    IsHanded offer s (without state.sections (places_of requests s) (asked_of requests s)) handed) same
    passes.handed) first.handed in
    let sections = one_reading has.lacks.handed has.lacks.sections refused.0 has.lacks.says
    (subst (λ t. SaysSections t refused.0) text refused.1) in
    let lacks = subst (λ ss. is_among (names_without x.config.rows ss) mid ≡ true) sections
    (lacks_row mid x refused.0 wanted refused.2) in
    let among = subst (λ names. is_among names mid ≡ true) (sym has.lacks.named) lacks in
    subst (λ ps. number_from mid 0 ps ≡ None) (sym places)
    (no_place mid has.names 0 has.planned.places among has.none)
