-- Limits of a stream are read if and only if a text says them.
use Rattle.std.proofs.Common.{◌≡◌, ◌≢◌, ◌⊎◌, ℕ, cond, List, [], ◌∷◌, ◌++◌, Option, Some, None}
use Rattle.std.proofs.Common.{is_some, codes, refl, sym, ◌∙◌, ap, subst, inl, inr, ⊎_elim}
use Rattle.std.specs.Option.{option_map}
use Rattle.sdp_formats_grammar.specs.Bind.{◌>>=◌}
use Rattle.sdp_formats_grammar.specs.Cuts.{IsCut, somewhere, nowhere, cut_of, other_byte}
use Rattle.sdp_formats_grammar.specs.Form.{some_text}
use Rattle.sdp_formats_grammar.specs.Split.{Lacks, behind, halves}
use Rattle.sdp_formats_grammar.specs.Steps.{bind_some, map_some, none_some, some_same}
use Rattle.sdp_formats_grammar.specs.Words.{behind-append, behind-sound}
use Rattle.sdp_formats_reader.specs.Maps.{payload_type}
use Rattle.sdp_formats_reader.specs.PairLemmas.{at-cut, at-none}
use Rattle.sdp_formats_reader.specs.Pairs.{restrictions_of}
use Rattle.sdp_formats_reader.specs.Rids.{later_limits, limits_behind, limits_of, make_limits, of_type}
use Rattle.sdp_formats_reader.specs.Rids.{typed_limits, untyped_limits}
use Rattle.sdp_formats_values.specs.declared.Pair.{Pair}
use Rattle.sdp_formats_laws.proofs.Printed.{text_some}
use Rattle.sdp_formats_laws.proofs.RestrictionTexts.{restrictions_exact}
use Rattle.sdp_formats_laws.proofs.ValueTexts.{some_of}
use Rattle.sdp_formats_laws.specs.RestrictionTexts.{LimitsAreExact, LimitsSay, RestrictionsSay, TypeSays}

-- after a payload type
abbrev pub Later : List ℕ → List ℕ → List Pair → Type 0
Later rest types ps = (word : List ℕ) × (pt : ℕ) × (payload_type.reads word ≡ Some pt) × Lacks 32 word
    × (types ≡ pt ∷ []) × (((rest ≡ word) × (ps ≡ []))
    ⊎ ((more : List ℕ) × (rest ≡ word ++ 32 ∷ more) × (more ≢ []) × RestrictionsSay more ps))

typed_by : (rest types : List ℕ) (ps : List Pair) → IsCut 32 rest → typed_limits rest ≡ Some (make_limits types ps)
    → Later rest types ps
unfolding typed_limits
typed_by rest types ps (somewhere front back whole lacks) h =
    let at = at-cut 32 rest front back whole lacks in
    let pt = bind_some (payload_type.reads (halves 32 rest).0) _ (make_limits types ps) h in
    let pairs = bind_some (later_limits (halves 32 rest).1) _ (make_limits types ps) pt.2 in
    let made = some_same (make_limits (pt.0 ∷ []) pairs.0) (make_limits types ps) pairs.2 in
    let read : (some_text back >>= restrictions_of) ≡ Some pairs.0 =
    ap (λ (x : List ℕ × Option (List ℕ)). later_limits x.1) (sym at) ∙ pairs.1 in
    let text = bind_some (some_text back) _ pairs.0 read in
    let there = some_of back text.0 text.1 in (
      front,
      pt.0,
      ap (λ (x : List ℕ × Option (List ℕ)). payload_type.reads x.0) (sym at) ∙ pt.1,
      lacks,
      (λ i. (sym made i).pt),
      inr (
        back,
        whole,
        there.1,
        subst (RestrictionsSay back) (λ i. (made i).restriction)
            ((restrictions_exact back pairs.0).0 (ap restrictions_of there.0 ∙ text.2)),
      ),
    )
typed_by rest types ps (nowhere lacks) h =
    let at = at-none 32 rest lacks in
    let pt = bind_some (payload_type.reads (halves 32 rest).0) _ (make_limits types ps) h in
    let pairs = bind_some (later_limits (halves 32 rest).1) _ (make_limits types ps) pt.2 in
    let made = some_same (make_limits (pt.0 ∷ []) pairs.0) (make_limits types ps) pairs.2 in
    let none : [] ≡ pairs.0 =
    some_same _ _ (ap (λ (x : List ℕ × Option (List ℕ)). later_limits x.1) (sym at) ∙ pairs.1) in (
      rest,
      pt.0,
      ap (λ (x : List ℕ × Option (List ℕ)). payload_type.reads x.0) (sym at) ∙ pt.1,
      lacks,
      (λ i. (sym made i).pt),
      inl (refl, (λ i. (sym made i).restriction) ∙ sym none),
    )

typed_read : (rest types : List ℕ) (ps : List Pair) → Later rest types ps
    → typed_limits rest ≡ Some (make_limits types ps)
unfolding typed_limits
typed_read rest types ps h = ⊎_elim
    (λ (e : (rest ≡ h.0) × (ps ≡ [])).
    let at : halves 32 rest ≡ (h.0, None) = ap (halves 32) e.0 ∙ at-none 32 h.0 h.3 in
    ap (λ (x : List ℕ × Option (List ℕ)). payload_type.reads x.0 >>= λ pt. later_limits x.1 >>= λ pairs. of_type pt
    >>= λ list. Some (make_limits list pairs)) at
    ∙ ap (λ o. o >>= λ pt. Some (make_limits (pt ∷ []) [])) h.2
    ∙ (λ i. Some (make_limits (sym h.4 i) (sym e.1 i))))
    (λ (e : (more : List ℕ) × (rest ≡ h.0 ++ 32 ∷ more) × (more ≢ []) × RestrictionsSay more ps).
    let at : halves 32 rest ≡ (h.0, Some e.0) = at-cut 32 rest h.0 e.0 e.1 h.3 in
    ap (λ (x : List ℕ × Option (List ℕ)). payload_type.reads x.0 >>= λ pt. later_limits x.1 >>= λ pairs. of_type pt
    >>= λ list. Some (make_limits list pairs)) at
    ∙ ap (λ o. o >>= λ pt. (some_text e.0 >>= restrictions_of) >>= λ pairs. Some (make_limits (pt ∷ []) pairs)) h.2
    ∙ ap (λ o. (o >>= restrictions_of) >>= λ pairs. Some (make_limits (h.1 ∷ []) pairs)) (text_some e.0 e.2)
    ∙ ap (λ o. o >>= λ pairs. Some (make_limits (h.1 ∷ []) pairs)) ((restrictions_exact e.0 ps).1 e.3)
    ∙ (λ i. Some (make_limits (sym h.4 i) ps))) h.5

-- restrictions alone
not_there : {A B : Type 0} (o : Option A) (b : Option B) (l : B) → cond (is_some o) None b ≡ Some l
    → (o ≡ None) × (b ≡ Some l)
not_there None b l h = (refl, h)
not_there (Some a) b l h = absurd (none_some l h)

other_letter : (t : List ℕ) → behind (codes "p") t ≡ None → (rest : List ℕ) → t ≢ 112 ∷ rest
other_letter t h rest e = none_some rest (sym h ∙ ap (behind (codes "p")) e ∙ behind-append (codes "p") rest)

no_letter : (words t : List ℕ) → ((rest : List ℕ) → t ≢ 112 ∷ rest) → behind (112 ∷ words) t ≡ None
no_letter words [] h = refl
no_letter words (b ∷ t) h = other_byte b 112 (behind words t) None (λ e. h t (ap (λ x. x ∷ t) e))

untyped_says : (t types : List ℕ) (ps : List Pair) → untyped_limits t ≡ Some (make_limits types ps)
    → LimitsSay t types ps
untyped_says t types ps h =
    let two = not_there (behind (codes "p") t) (option_map (make_limits []) (restrictions_of t))
    (make_limits types ps) h in
    let list = map_some (make_limits []) (restrictions_of t) (make_limits types ps) two.1 in
    inr (
      (λ i. (list.2 i).pt),
      subst (RestrictionsSay t) (sym (λ i. (list.2 i).restriction)) ((restrictions_exact t list.0).0 list.1),
      other_letter t two.0,
    )

typed_says : (t rest types : List ℕ) (ps : List Pair) → t ≡ codes "pt=" ++ rest → Later rest types ps
    → LimitsSay t types ps
typed_says t rest types ps e h = inl (
  h.0,
  h.1,
  h.2,
  h.3,
  h.4,
  ⊎_elim (λ (x : (rest ≡ h.0) × (ps ≡ [])). inl (e ∙ ap (λ y. codes "pt=" ++ y) x.0, x.1))
      (λ (x : (more : List ℕ) × (rest ≡ h.0 ++ 32 ∷ more) × (more ≢ []) × RestrictionsSay more ps).
      inr (x.0, e ∙ ap (λ y. codes "pt=" ++ y) x.1, x.2, x.3)) h.5,
)

sound : (t types : List ℕ) (ps : List Pair) (o : Option (List ℕ)) → behind (codes "pt=") t ≡ o
    → limits_behind t o ≡ Some (make_limits types ps) → LimitsSay t types ps
sound t types ps (Some rest) e h =
    typed_says t rest types ps (behind-sound (codes "pt=") t rest e) (typed_by rest types ps (cut_of 32 rest) h)
sound t types ps None e h = untyped_says t types ps h

typed_complete : (t rest types : List ℕ) (ps : List Pair) → t ≡ codes "pt=" ++ rest → Later rest types ps
    → limits_of t ≡ Some (make_limits types ps)
typed_complete t rest types ps e h =
    ap (limits_behind t) (ap (behind (codes "pt=")) e ∙ behind-append (codes "pt=") rest) ∙ typed_read rest types ps h

complete : (t types : List ℕ) (ps : List Pair) → LimitsSay t types ps → limits_of t ≡ Some (make_limits types ps)
complete t types ps h = ⊎_elim
    (λ (k : TypeSays t types ps). ⊎_elim
    (λ (x : (t ≡ codes "pt=" ++ k.0) × (ps ≡ [])).
    typed_complete t k.0 types ps x.0 (k.0, k.1, k.2, k.3, k.4, inl (refl, x.1)))
    (λ (x : (rest : List ℕ) × (t ≡ codes "pt=" ++ (k.0 ++ 32 ∷ rest)) × (rest ≢ []) × RestrictionsSay rest ps).
    typed_complete t (k.0 ++ 32 ∷ x.0) types ps x.1 (k.0, k.1, k.2, k.3, k.4, inr (x.0, refl, x.2, x.3))) k.5)
    (λ (k : (types ≡ []) × RestrictionsSay t ps × ((rest : List ℕ) → t ≢ 112 ∷ rest)).
    ap (limits_behind t) (no_letter (codes "t=") t k.2)
    ∙ ap (λ o. cond (is_some o) None (option_map (make_limits []) (restrictions_of t))) (no_letter [] t k.2)
    ∙ ap (option_map (make_limits [])) ((restrictions_exact t ps).1 k.1)
    ∙ (λ i. Some (make_limits (sym k.0 i) ps))) h

pub limits_exact : LimitsAreExact
limits_exact t types ps = (sound t types ps (behind (codes "pt=") t) refl, complete t types ps)
