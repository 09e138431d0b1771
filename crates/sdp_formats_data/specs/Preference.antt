-- Which of several fingerprints is preferred (RFC 8122 5).
use Rattle.std.specs.Prelude.{◌≡◌, ℕ, IsTrue, nat_lt, nat_le, List, [], ◌∷◌, ◌++◌, Option, Some, None, fold}
use Rattle.std.specs.Prelude.{if◌then◌else◌}
use Rattle.std.specs.List.{list_all}
use Rattle.sdp_formats_values.specs.Preference.{hash_preference}
use Rattle.sdp_formats_values.specs.declared.fingerprint.Fingerprint.{Fingerprint}

-- It is in the list; every one before it has a higher place, and none after it has a lower one.
pub record IsFirstOfLowest (prints : List Fingerprint) (print : Fingerprint) : Type 0 where
  pub before : List Fingerprint
  pub behind : List Fingerprint
  pub placed : prints ≡ before ++ print ∷ behind
  pub first : IsTrue (list_all (λ p. nat_lt (hash_preference print) (hash_preference p)) before)
  pub lowest : IsTrue (list_all (λ p. nat_le (hash_preference print) (hash_preference p)) behind)

-- None for an empty list; otherwise the first fingerprint with the lowest place.
abbrev pub IsPreferred : List Fingerprint → Option Fingerprint → Type 0
IsPreferred prints None = prints ≡ []
IsPreferred prints (Some print) = IsFirstOfLowest prints print

-- The better of the best so far and one more; and the best of a list.
abbrev pub chosen : Option Fingerprint → Option Fingerprint → Option Fingerprint
chosen best None = best
chosen None (Some print) = Some print
chosen (Some best) (Some print) =
    if nat_lt (hash_preference print) (hash_preference best) then Some print else Some best

abbrev pub better : {A : Type 0} → (A → Option Fingerprint) → Option Fingerprint → A → Option Fingerprint
better f best a = chosen best (f a)

abbrev pub best_of : {A : Type 0} → (A → Option Fingerprint) → List A → Option Fingerprint
best_of f attrs = fold (better f) None attrs
