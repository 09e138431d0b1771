-- One pair after the other.
use Rattle.std.proofs.Common.{◌≡◌, ◌≤◌, ◌+◌, ◌==◌, ◌++◌, ℕ, Bool, true, false, cond, List, [], ◌∷◌, length}
use Rattle.std.proofs.Common.{Option, Some, None, Result, Ok, Err, Bor, refl, sym, ◌∙◌, ap, subst, arith}
use Rattle.std.specs.List.{list_all}
use Rattle.sdp_formats_grammar.specs.Cuts.{split_first-cuts, IsCut, somewhere, nowhere, cut_of, split_first-at}
use Rattle.sdp_formats_grammar.specs.Cuts.{split_first-nowhere}
use Rattle.sdp_formats_grammar.specs.Split.{split_first, halves, halves_of}
use Rattle.sdp_formats_grammar.specs.Refusals.{GivesBy}
use Rattle.sdp_formats_grammar.specs.Steps.{bind_some, some_same, none_some}
use Rattle.sdp_formats_grammar.specs.declared.refusal.Refusal.{Refusal}
use Rattle.sdp_formats_grammar.specs.declared.refusal.Refusal.TheVariants.{Unfit, Memory}
use Rattle.sdp_formats_grammar.specs.Step.{Steps, Shortens, Many, Stops, IsShortening}
use Rattle.std.proofs.lemmas.Bool.Decides.{nat_tests}
use Rattle.sdp_formats_grammar.specs.Form.{IsExact}
use Rattle.sdp_formats_grammar.specs.Step.{Begins}
use Rattle.sdp_formats_reader.specs.PairsSay.{PairSays, pair_list}
use Rattle.sdp_formats_reader.specs.PairLemmas.{pair-sound, pair-complete, blank_word}
use Rattle.sdp_formats_reader.specs.Runs.{At, run, run-complete, run-sound}
use Rattle.sdp_formats_reader.specs.Pairs.{word, is_blank, unblanked, padded, or_empty}
use Rattle.sdp_formats_reader.specs.Pairs.{pair_at, pairs_of, whole, with_rest}
use Rattle.sdp_formats_reader.specs.Pairs.{restriction_at, ends_open, all_read}
use Rattle.sdp_formats_reader.specs.Pairs.{restrictions_of}
use Rattle.sdp_formats_values.specs.declared.Pair.{Pair}

longer : (c r : List ℕ) → length (c ++ r) ≡ length c + length r
longer [] r = omega arith
longer (x ∷ c) r = omega (arith, longer c r)

shorter_cond : (b : Bool) (x y z : List ℕ) → length x ≤ length z → length y ≤ length z → length (cond b x y) ≤ length z
shorter_cond true x y z h k = h
shorter_cond false x y z h k = k

pub unblanked-shorter : (t : List ℕ) → length (unblanked t) ≤ length t
unblanked-shorter [] = omega arith
unblanked-shorter (b ∷ t) = shorter_cond (is_blank b) (unblanked t) (b ∷ t) (b ∷ t)
    (omega (arith, unblanked-shorter t)) (omega arith)

by_cut : (t : List ℕ) → IsCut 59 t → length (or_empty (halves 59 t).1) ≤ length t
by_cut t (somewhere front back whole lacks) =
    let at : halves 59 t ≡ (front, Some back) =
    ap (halves_of t) (ap (split_first 59) whole ∙ split_first-at 59 front back lacks) in
    omega (
      arith,
      ap (λ (x : List ℕ × Option (List ℕ)). length (or_empty x.1)) at,
      ap length whole,
      longer front (59 ∷ back),
    )
by_cut t (nowhere lacks) =
    let at : halves 59 t ≡ (t, None) = ap (halves_of t) (split_first-nowhere 59 t lacks) in
    omega (arith, ap (λ (x : List ℕ × Option (List ℕ)). length (or_empty x.1)) at)

pub pair-shorter : IsShortening (At pair_at)
unfolding pair_at
pair-shorter t p r h =
    let cut = bind_some (split_first 61 (unblanked t)) _ (p, r) h in
    let key = bind_some (word.reads cut.0.0) _ (p, r) cut.2 in
    let value = bind_some (padded (halves 59 cut.0.1).0) _ (p, r) key.2 in
    let same = some_same _ _ value.2 in
    let cuts = split_first-cuts 61 (unblanked t) cut.0.0 cut.0.1 cut.1 in
    omega (
      arith,
      ap (λ (x : Pair × List ℕ). length x.1) same,
      by_cut cut.0.1 (cut_of 59 cut.0.1),
      ap length cuts.0,
      longer cut.0.0 (61 ∷ cut.0.1),
      unblanked-shorter t,
    )

pub pair-steps : (t : List ℕ) (r : Result (Pair × Bor (List ℕ)) Refusal) → GivesBy with_rest r (pair_at t)
    → Steps (At pair_at) t r
pair-steps t (Ok x) h = h
pair-steps t (Err Unfit) h = λ a r k. none_some (a, r) (sym h ∙ k)
pair-steps t (Err Memory) h = tt

pub pair-shortens : (t : List ℕ) (r : Result (Pair × Bor (List ℕ)) Refusal) → GivesBy with_rest r (pair_at t)
    → Shortens t r
pair-shortens t (Ok x) h = pair-shorter t x.0 x.1.now h
pair-shortens t (Err e) h = tt

pub pairs-are : (t : List ℕ) (ps : List Pair) (r : List ℕ) → Many (At pair_at) t ps r → pairs_of t ≡ whole (ps, r)
unfolding pairs_of
pairs-are t ps r h = ap whole (run-complete pair_at pair-shorter (length t) t ps r (omega arith) h.0 h.1)

-- the list is read if and only if it says pairs
from_at : (t : List ℕ) (ps : List Pair) (r : List ℕ) → Begins (At pair_at) t ps r → Begins PairSays t ps r
from_at t [] r h = h
from_at t (p ∷ ps) r h = (h.0, pair-sound t p h.0 h.1, from_at h.0 ps r h.2)

to_at : (t : List ℕ) (ps : List Pair) (r : List ℕ) → Begins PairSays t ps r → Begins (At pair_at) t ps r
to_at t [] r h = h
to_at t (p ∷ ps) r h = (h.0, pair-complete t p h.0 h.1, to_at h.0 ps r h.2)

whole_cond : (a b : Bool) (ps qs : List Pair) → cond a None (cond b (Some ps) None) ≡ Some qs → (a ≡ false)
    × (b ≡ true) × (ps ≡ qs)
whole_cond true b ps qs h = absurd (none_some qs h)
whole_cond false true ps qs h = (refl, refl, some_same ps qs h)
whole_cond false false ps qs h = absurd (none_some qs h)

nonempty : (ps : List Pair) → (length ps == 0) ≡ false → (ps ≡ [] → ⊥)
nonempty [] h = absurd (grind (arith, nat_tests))
nonempty (p ∷ ps) h = λ e. cc

counted : (ps : List Pair) → (ps ≡ [] → ⊥) → (length ps == 0) ≡ false
counted [] h = absurd (h refl)
counted (p ∷ ps) h = grind (arith, nat_tests)

no_pair : (t : List ℕ) → list_all is_blank t ≡ true → Stops (At pair_at) t
no_pair t b = λ p r h. let s = pair-sound t p r h in
    blank_word s.0 p.key (61 ∷ ((p.value ++ s.1) ++ s.2)) (subst (λ x. list_all is_blank x ≡ true) s.3 b) s.5.0 s.5.1

pub pairs-exact : IsExact pair_list
unfolding pairs_of
pairs-exact = record {
  sound = λ t ps h.
      let x = run pair_at (length t) t in
      let w = whole_cond (length x.0 == 0) (list_all is_blank x.1) x.0 ps h in
      let m = run-sound pair_at pair-shorter (length t) t (omega arith) in (
        x.1,
        from_at t ps x.1 (subst (λ y. Begins (At pair_at) t y x.1) w.2 m.0),
        subst (λ (y : List Pair). y ≡ [] → ⊥) w.2 (nonempty x.0 w.0),
        w.1,
      );
  complete = λ t ps s.
      ap whole (run-complete pair_at pair-shorter (length t) t ps s.0 (omega arith) (to_at t ps s.0 s.1)
      (no_pair s.0 s.3))
      ∙ ap (λ b. cond b None (cond (list_all is_blank s.0) (Some ps) None)) (counted ps s.2)
      ∙ ap (λ b. cond b (Some ps) None) s.3;
}

-- restrictions
pub restriction-shorter : IsShortening (At restriction_at)
unfolding restriction_at
restriction-shorter t p r h =
    let cut = bind_some (split_first 61 (unblanked t)) _ (p, r) h in
    let key = bind_some (word.reads cut.0.0) _ (p, r) cut.2 in
    let value = bind_some (word.reads (halves 59 cut.0.1).0) _ (p, r) key.2 in
    let same = some_same _ _ value.2 in
    let cuts = split_first-cuts 61 (unblanked t) cut.0.0 cut.0.1 cut.1 in
    omega (
      arith,
      ap (λ (x : Pair × List ℕ). length x.1) same,
      by_cut cut.0.1 (cut_of 59 cut.0.1),
      ap length cuts.0,
      longer cut.0.0 (61 ∷ cut.0.1),
      unblanked-shorter t,
    )

pub restriction-steps : (t : List ℕ) (r : Result (Pair × Bor (List ℕ)) Refusal)
    → GivesBy with_rest r (restriction_at t) → Steps (At restriction_at) t r
restriction-steps t (Ok x) h = h
restriction-steps t (Err Unfit) h = λ a r k. none_some (a, r) (sym h ∙ k)
restriction-steps t (Err Memory) h = tt

pub restriction-shortens : (t : List ℕ) (r : Result (Pair × Bor (List ℕ)) Refusal)
    → GivesBy with_rest r (restriction_at t) → Shortens t r
restriction-shortens t (Ok x) h = restriction-shorter t x.0 x.1.now h
restriction-shortens t (Err e) h = tt

pub restrictions-are : (t : List ℕ) (ps : List Pair) (r : List ℕ) → Many (At restriction_at) t ps r
    → all_read (run restriction_at (length t) t) ≡ all_read (ps, r)
restrictions-are t ps r h = ap all_read (run-complete restriction_at restriction-shorter (length t) t ps r
    (omega arith) h.0 h.1)

pub restrictions-read : (t : List ℕ) (ps : List Pair) (r : List ℕ) → ends_open t ≡ false
    → Many (At restriction_at) t ps r → restrictions_of t ≡ all_read (ps, r)
unfolding restrictions_of
restrictions-read t ps r closed h = ap (λ b. cond b None (all_read (run restriction_at (length t) t))) closed
    ∙ restrictions-are t ps r h
