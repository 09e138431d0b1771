-- Entries of the table of contents, and frames one after the other.
use Rattle.std.proofs.Common.{◌≡◌, ℕ, zero, suc, ◌+◌, ◌*◌, ◌/◌, ◌<◌, ◌≤◌, Bool, true, false, leb, List, [], ◌∷◌, ◌++◌}
use Rattle.std.proofs.Common.{length, Option, Some, None, if◌then◌else◌, refl, sym, ap, ◌∙◌, append_assoc, arith, inl}
use Rattle.std.proofs.Common.{inr}
use mathlib.Core.Bool.{false≢true}
use Rattle.std.proofs.lemmas.Bool.{cases_lt}
use Rattle.std.proofs.lemmas.Bool.Decides.{nat_tests}
use Rattle.std.proofs.lemmas.List.FromFn.{length-map-range_with_len}
use Rattle.payload_core_audio.specs.AmrWb.{amr_wb_packet, behind, byte_from, efficient_bit, field_of, entry_place}
use Rattle.payload_core_audio.specs.AmrWb.{entry_room, entry_size, field_size, first_place, frame_then, frames_from}
use Rattle.payload_core_audio.specs.AmrWb.{head_size, header_at, is_last_entry, last_entry, speech_bits, speech_of}

pub is_room : (a b : ℕ) → leb a b ≡ true → a ≤ b
is_room a b e = grind (arith, nat_tests)

pub no_room : (a b : ℕ) → leb a b ≡ false → b < a
no_room a b e = grind (arith, nat_tests)

found_by : (p : ℕ → Bool) (n k m : ℕ) (b : Bool) → p k ≡ b → k ≤ m → p m ≡ true
    → (p k ≡ false → k < m → first_place p (k + 1) n ≡ Some m) → (k < m → p k ≡ false)
    → (if b then Some k else first_place p (k + 1) n) ≡ Some m
found_by p n k m true e le is later before = elim (cases_lt k m) [
  | inl lt ↦ absurd (false≢true (sym (before lt) ∙ e))
  | inr ge ↦ let same : k ≡ m = omega arith in ap Some same
]
found_by p n k m false e le is later before = elim (cases_lt k m) [
  | inl lt ↦ later e lt
  | inr ge ↦ let same : k ≡ m = omega arith in absurd (false≢true (sym e ∙ ap p same ∙ is))
]

-- the first place at which a test holds
pub first_found : (p : ℕ → Bool) (n k m : ℕ) → k ≤ m → m < k + n → ((j : ℕ) → k ≤ j → j < m → p j ≡ false) → p m
    ≡ true → first_place p k n ≡ Some m
first_found p zero k m le lt before is = absurd (omega arith)
first_found p (suc n) k m le lt before is =
    found_by p n k m (p k) refl le is (λ e less. first_found p n (k + 1) m (omega arith) (omega arith)
    (λ j from to. before j (omega arith) to) is) (λ less. before k (omega arith) less)

pub first_none : (p : ℕ → Bool) (n k : ℕ) → ((j : ℕ) → k ≤ j → j < k + n → p j ≡ false) → first_place p k n ≡ None
first_none p zero k none = refl
first_none p (suc n) k none =
    ap (λ b. if b then Some k else first_place p (k + 1) n) (none k (omega arith) (omega arith))
    ∙ first_none p n (k + 1) (λ j from to. none j (omega arith) (omega arith))

-- entries are one after the other
pub next_entry : (o : Bool) (k : ℕ) → entry_place o k + entry_size o ≡ entry_place o (k + 1)
next_entry true k = omega arith
next_entry false k = omega arith

pub first_entry : (o : Bool) (place : ℕ) → place ≡ head_size o → place ≡ entry_place o 0
first_entry true place e = omega arith
first_entry false place e = omega arith

in_room : (o : Bool) (bytes : List ℕ) (k place : ℕ) → place ≡ entry_place o k
    → place + entry_size o ≤ 8 * length bytes → k < entry_room o bytes
in_room true bytes k place e room = omega arith
in_room false bytes k place e room = omega arith

past_room : (o : Bool) (bytes : List ℕ) (k place : ℕ) → place ≡ entry_place o k
    → 8 * length bytes < place + entry_size o → entry_room o bytes ≤ k
past_room true bytes k place e room = omega arith
past_room false bytes k place e room = omega arith

-- the last entry is found
pub last_found : (o : Bool) (bytes : List ℕ) (k place : ℕ) → place ≡ entry_place o k
    → place + entry_size o ≤ 8 * length bytes → ((j : ℕ) → j < k → is_last_entry o bytes j ≡ false)
    → is_last_entry o bytes k ≡ true → last_entry o bytes ≡ Some k
unfolding last_entry
last_found o bytes k place at room before is =
    first_found (is_last_entry o bytes) (entry_room o bytes) 0 k (omega arith)
    (omega (arith, in_room o bytes k place at room)) (λ j from to. before j to) is

-- none is there
pub last_none : (o : Bool) (bytes : List ℕ) (k place : ℕ) → place ≡ entry_place o k
    → 8 * length bytes < place + entry_size o → ((j : ℕ) → j < k → is_last_entry o bytes j ≡ false)
    → last_entry o bytes ≡ None
unfolding last_entry
last_none o bytes k place at room before =
    first_none (is_last_entry o bytes) (entry_room o bytes) 0
    (λ j from to. before j (omega (arith, past_room o bytes k place at room)))

behind_behind : (a b : List ℕ) (o : Option (List ℕ)) → behind a (behind b o) ≡ behind (a ++ b) o
behind_behind a b None = refl
behind_behind a b (Some c) = ap Some (sym (append_assoc a b c))

pub behind_none : (o : Option (List ℕ)) → behind [] o ≡ o
behind_none None = refl
behind_none (Some c) = refl

room_test : (place field room : ℕ) (o other : Option (List ℕ)) → place + field ≤ room
    → (if leb (place + field) room then o else other) ≡ o
room_test place field room o other le = let yes : leb (place + field) room ≡ true = grind (arith, nat_tests) in
    ap (λ (b : Bool). if b then o else other) yes

no_room_test : (place field room : ℕ) (o other : Option (List ℕ)) → room < place + field
    → (if leb (place + field) room then o else other) ≡ other
no_room_test place field room o other lt = let no : leb (place + field) room ≡ false = grind (arith, nat_tests) in
    ap (λ (b : Bool). if b then o else other) no

module _ (o : Bool) (bytes : List ℕ) (n k place h : ℕ) (out : List ℕ)
    (header : h ≡ header_at bytes (entry_place o k)) where
  frames_are : behind out (frames_from o bytes (suc n) k place)
      ≡ behind out (frame_then o bytes h (speech_bits (h / 8)) place (λ next. frames_from o bytes n (k + 1) next))
  frames_are = ap (λ g. behind out (frame_then o bytes g (speech_bits (g / 8)) place
      (λ next. frames_from o bytes n (k + 1) next))) (sym header)

  -- one frame more
  pub frames_go : (size : ℕ) → Some size ≡ speech_bits (h / 8) → place + field_size o size ≤ 8 * length bytes
      → behind out (frames_from o bytes (suc n) k place)
      ≡ behind (out ++ (h ∷ speech_of bytes place size)) (frames_from o bytes n (k + 1) (place + field_size o size))
  frames_go size is room =
      frames_are
      ∙ ap (λ s. behind out (frame_then o bytes h s place (λ next. frames_from o bytes n (k + 1) next))) (sym is)
      ∙ ap (behind out) (room_test place (field_size o size) (8 * length bytes) _ None room)
      ∙ behind_behind out (h ∷ speech_of bytes place size) (frames_from o bytes n (k + 1) (place + field_size o size))

  -- a frame type for later use
  pub frames_stop_type : None ≡ speech_bits (h / 8) → behind out (frames_from o bytes (suc n) k place) ≡ None
  frames_stop_type is = frames_are ∙ ap (λ s. behind out
      (frame_then o bytes h s place (λ next. frames_from o bytes n (k + 1) next))) (sym is)

  -- a frame that is cut short
  pub frames_stop_room : (size : ℕ) → Some size ≡ speech_bits (h / 8) → 8 * length bytes < place + field_size o size
      → behind out (frames_from o bytes (suc n) k place) ≡ None
  frames_stop_room size is room =
      frames_are
      ∙ ap (λ s. behind out (frame_then o bytes h s place (λ next. frames_from o bytes n (k + 1) next))) (sym is)
      ∙ ap (behind out) (no_room_test place (field_size o size) (8 * length bytes) _ None room)

-- a packet without bytes has no room for an entry
pub empty_room : (o : Bool) (n : ℕ) → n ≡ 0 → 8 * n < head_size o + entry_size o
empty_room true n e = omega arith
empty_room false n e = omega arith

-- how long packets are
pub aligned_len : (sample : List ℕ) (size : ℕ) → length (amr_wb_packet true sample size) ≡ (size + 7) / 8 + 2
unfolding speech_of
aligned_len sample size = omega (
  arith,
  length-map-range_with_len (byte_from (field_of sample 8 size)) 0
      ((size + 7) / 8),
)

pub efficient_len : (sample : List ℕ) (size : ℕ) → length (amr_wb_packet false sample size) ≡ (size + 17) / 8
efficient_len sample size = length-map-range_with_len (byte_from (efficient_bit sample size)) 0 ((size + 17) / 8)
