-- The entries that are none of a profile, tier and level.
use Rattle.std.proofs.Common.{◌≡◌, inl, inr, ℕ, Bool, true, false, not, ◌||◌, List, [], ◌∷◌, cond, filter, map}
use Rattle.std.proofs.Common.{codes, if◌then◌else◌, refl, ◌∙◌, ap}
use Rattle.std.specs.Str.{bytes_eq}
use Rattle.std.proofs.lemmas.Bool.{or_cases, or_left, or_right}
use Rattle.std.proofs.lemmas.Slice.Eq.{bytes_eq-Decides}
use Rattle.sdp_formats_values.specs.Params.{Entries, is_level_name, onto_others, param_of}
use Rattle.sdp_formats_values.specs.declared.param.FormatParam.{FormatParam}
use Rattle.sdp_formats_laws.specs.RepeatedKeys.{LevelNamesAreThree, OthersAreInOrder}

abbrev is_other : List ℕ × List ℕ → Bool
is_other e = not (is_level_name e.0)

abbrev param : List ℕ × List ℕ → FormatParam
param e = param_of e.0 e.1

onto : (b : Bool) (e : List ℕ × List ℕ) (es : Entries)
    → (if b then map param es else param e ∷ map param es) ≡ map param (cond (not b) (e ∷ es) es)
onto true e es = refl
onto false e es = refl

pub others : OthersAreInOrder
others [] = refl
others (e ∷ es) = ap (onto_others e) (others es) ∙ onto (is_level_name e.0) e (filter is_other es)

pub level_names : LevelNamesAreThree
level_names key =
    let profile = bytes_eq key (codes "profile-id") in
    let tier = bytes_eq key (codes "tier-flag") in
    let level = bytes_eq key (codes "level-id") in (
      (λ e. elim (or_cases profile (tier || level) e) [
        | inl a ↦ inl ((bytes_eq-Decides key (codes "profile-id")).0 a)
        | inr f ↦ inr (elim (or_cases tier level f) [
          | inl b ↦ inl ((bytes_eq-Decides key (codes "tier-flag")).0 b)
          | inr c ↦ inr ((bytes_eq-Decides key (codes "level-id")).0 c)
        ])
      ]),
      elim [
        | inl a ↦ or_left profile (tier || level) ((bytes_eq-Decides key (codes "profile-id")).1 a)
        | inr f ↦ or_right profile (tier || level) (elim f [
          | inl b ↦ or_left tier level ((bytes_eq-Decides key (codes "tier-flag")).1 b)
          | inr c ↦ or_right tier level ((bytes_eq-Decides key (codes "level-id")).1 c)
        ])
      ],
    )
