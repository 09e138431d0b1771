-- What the tests of a row see is what its claims say.
use Rattle.std.proofs.Common.{◌≡◌, ℕ, Bool, true, false, not, ◌||◌, ◌==◌, List, ◌∷◌, ◌++◌, refl, sym, ◌∙◌, ap}
use Rattle.std.proofs.Common.{Option, Some, None, find}
use Rattle.sdp_formats_rows.specs.Rows.{Row}
use Rattle.sdp_formats_rounds.specs.Laws.{is_among}
use Rattle.sdp_formats_rounds.specs.Rounds.{given, none_given}
use Rattle.sdp_formats_rounds.specs.Types.{free_type, is_claimed, is_free, is_locked_type, is_own, is_used, listed}
use Rattle.sdp_formats_rounds.specs.Types.{preferred}
use Rattle.sdp_formats_rounds.proofs.Apart.{among_append}
use Rattle.sdp_formats_rounds.specs.Named.{Claims, free_of, with_own}

pub record Sees (before now : List Row) (c : Claims) : Type 0 where
  pub claimed : (t : ℕ) → is_locked_type now t ≡ is_among c.claimed t
  pub used : (t : ℕ) → (is_used before t || is_used now t) ≡ is_among c.used t

pub or_false : (b : Bool) → (b || false) ≡ b
or_false true = refl
or_false false = refl

own_is : (pt : ℕ) (o : Option ℕ) (t : ℕ) → is_own (given pt o) t ≡ is_among (pt ∷ listed o) t
own_is pt None t = refl
own_is pt (Some r) t = ap (λ b. pt == t || b) (sym (or_false (r == t)))

pub claimed_none : (before now : List Row) (c : Claims) → Sees before now c
    → is_claimed now none_given ≡ is_among c.claimed
claimed_none before now c s = λ i t. (or_false (is_locked_type now t) ∙ s.claimed t) i

claimed_at : (before now : List Row) (c : Claims) → Sees before now c → (pt : ℕ) (o : Option ℕ) (t : ℕ)
    → is_claimed now (given pt o) t ≡ is_among (c.claimed ++ (pt ∷ listed o)) t
claimed_at before now c s pt o t = ap (λ b. b || is_own (given pt o) t) (s.claimed t)
    ∙ ap (λ b. is_among c.claimed t || b) (own_is pt o t) ∙ sym (among_append t c.claimed (pt ∷ listed o))

pub claimed_given : (before now : List Row) (c : Claims) → Sees before now c → (pt : ℕ) (o : Option ℕ)
    → is_claimed now (given pt o) ≡ is_among (c.claimed ++ (pt ∷ listed o))
claimed_given before now c s pt o = λ i t. claimed_at before now c s pt o t i

free_one : (a b u o : Bool) → (a || b) ≡ u → not (a || b || o) ≡ not (u || o)
free_one true b u o e = rw (← e) refl
free_one false b u o e = rw (← e) refl

none_at : (before now : List Row) (c : Claims) → Sees before now c → (t : ℕ)
    → is_free before now none_given t ≡ not (is_among c.used t)
none_at before now c s t = free_one (is_used before t) (is_used now t) (is_among c.used t) false (s.used t)
    ∙ ap (λ b. not b) (or_false (is_among c.used t))

pub free_none : (before now : List Row) (c : Claims) → Sees before now c
    → free_type before now none_given ≡ free_of c
free_none before now c s =
    let same : is_free before now none_given ≡ (λ t. not (is_among c.used t)) = λ i t. none_at before now c s t i in
    ap (λ p. find p preferred) same

given_at : (before now : List Row) (c : Claims) → Sees before now c → (pt : ℕ) (o : Option ℕ) (t : ℕ)
    → is_free before now (given pt o) t ≡ not (is_among (c.used ++ (pt ∷ listed o)) t)
given_at before now c s pt o t =
    free_one (is_used before t) (is_used now t) (is_among c.used t) (is_own (given pt o) t) (s.used t)
    ∙ ap (λ b. not (is_among c.used t || b)) (own_is pt o t)
    ∙ ap (λ b. not b) (sym (among_append t c.used (pt ∷ listed o)))

pub free_given : (before now : List Row) (c : Claims) → Sees before now c → (pt : ℕ) (o : Option ℕ)
    → free_type before now (given pt o) ≡ free_of (with_own (pt ∷ listed o) c)
free_given before now c s pt o =
    let same : is_free before now (given pt o) ≡ (λ t. not (is_among (c.used ++ (pt ∷ listed o)) t))
    = λ i t. given_at before now c s pt o t i in
    ap (λ p. find p preferred) same
