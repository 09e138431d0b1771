-- Temporal units, and which of their OBUs are sent (AV1 bitstream specification 7.5; RTP payload format for AV1, 5).
use Rattle.std.specs.Prelude.{◌≡◌, ℕ, zero, suc, ◌==◌, Bool, false, List, [], ◌∷◌, ◌++◌, length, filter, Option, Some}
use Rattle.std.specs.Prelude.{None, option_map}
use Rattle.std.specs.List.{flat_map, list_any}
use Rattle.payload_core_av1.specs.Obus.{Obu, ObuCut, first_obu, has_size, is_kept, type_of, with_its_size}
use Rattle.payload_core_av1.specs.Av1Layout.{IsObu}

abbrev pub obu_in_front : Obu → Option (List Obu) → Option (List Obu)
obu_in_front o None = None
obu_in_front o (Some os) = Some (o ∷ os)

abbrev pub and_obus : Option ObuCut → (List ℕ → Option (List Obu)) → Option (List Obu)
and_obus None others = None
and_obus (Some cut) others = obu_in_front cut.obu (others cut.rest)

-- The OBUs of a text, at most n.
abbrev pub obus_within : ℕ → List ℕ → Option (List Obu)
obus_within n [] = Some []
obus_within zero (b ∷ bs) = None
obus_within (suc n) (b ∷ bs) = and_obus (first_obu (b ∷ bs)) (λ rest. obus_within n rest)

abbrev pub obus_of : List ℕ → Option (List Obu)
obus_of sample = obus_within (length sample) sample

-- The same as a relation: a sequence of OBUs, of which only the last may have no size field.
abbrev pub AreObus : List ℕ → List Obu → Type 0
AreObus sample [] = sample ≡ []
AreObus sample (o ∷ os) = (front : List ℕ) × (rest : List ℕ) × (sample ≡ front ++ rest) × IsObu front o
    × (has_size o.header ≡ false → rest ≡ []) × AreObus rest os

-- The units of a sample that are sent.
abbrev pub kept_of : List ℕ → Option (List Obu)
kept_of sample = option_map (λ os. filter is_kept os) (obus_of sample)

-- What a receiver gets of a sample: its kept OBUs, each with S and its size in the shortest form.
abbrev pub kept_text : List ℕ → Option (List ℕ)
kept_text sample = option_map (λ os. flat_map with_its_size os) (kept_of sample)

-- A sequence header begins a coded video sequence.
abbrev pub is_sequence_header : Obu → Bool
is_sequence_header o = type_of o.header == 1

abbrev pub begins_sequence : List Obu → Bool
begins_sequence os = list_any is_sequence_header os

-- A text has OBUs if and only if it is a sequence of OBUs.
abbrev pub SampleLaw : Type 0
SampleLaw = (sample : List ℕ) (os : List Obu) → (AreObus sample os → obus_of sample ≡ Some os)
    × (obus_of sample ≡ Some os → AreObus sample os)

-- Dropping OBUs is idempotent.
abbrev pub KeptOnce : Type 0
KeptOnce = (sample kept : List ℕ) → kept_text sample ≡ Some kept → kept_text kept ≡ Some kept
