-- Times that are near, and silence that is as long.
use Rattle.std.proofs.Common.{◌≡◌, ◌+◌, ◌-◌, ◌/◌, ◌%◌, ◌<◌, ◌≤◌, ◌==◌, ℕ, true, false, nat_lt, List, [], ◌∷◌, length}
use Rattle.std.proofs.Common.{slice_index, refl, sym, ap, ◌∙◌, arith, ⊎_elim, ◌⊎◌, inl, inr}
use Rattle.std.proofs.lemmas.Bool.{cases_lt}
use Rattle.media_files.specs.Ivf.{nearest_time, ahead}
use Rattle.media_files.specs.Opus.{opus_duration, opus_frames, silence_of}

-- a time ahead, and one after
pub nearest_time-ahead : (p low : ℕ) → ahead p low < 2147483648 → nearest_time p low ≡ p + ahead p low
unfolding nearest_time
nearest_time-ahead p low near =
    let one : nat_lt (ahead p low) 2147483648 ≡ true = grind (arith, near) in rw one refl

pub nearest_time-behind : (p low : ℕ) → 2147483648 ≤ ahead p low
    → nearest_time p low ≡ p - (4294967296 - ahead p low)
unfolding nearest_time
nearest_time-behind p low far =
    let none : nat_lt (ahead p low) 2147483648 ≡ false = grind (arith, far) in rw none refl

pub low_bits-ahead : (p low : ℕ) → low < 4294967296 → (p + ahead p low) % 4294967296 ≡ low
low_bits-ahead p low small = omega arith

pub low_bits-behind : (p low : ℕ) → 2147483648 ≤ p → low < 4294967296 → 2147483648 ≤ ahead p low
    → (p - (4294967296 - ahead p low)) % 4294967296 ≡ low
low_bits-behind p low room small far = omega arith

pub low_bits : (p low : ℕ) → 2147483648 ≤ p → low < 4294967296 → nearest_time p low % 4294967296 ≡ low
low_bits p low room small = ⊎_elim
    (λ (near : ahead p low < 2147483648). ap (λ (t : ℕ). t % 4294967296) (nearest_time-ahead p low near)
    ∙ low_bits-ahead p low small)
    (λ (far : 2147483648 ≤ ahead p low). ap (λ (t : ℕ). t % 4294967296) (nearest_time-behind p low far)
    ∙ low_bits-behind p low room small far)
    (cases_lt (ahead p low) 2147483648)

pub near-ahead : (p low : ℕ) → nearest_time p low < p + 2147483648
near-ahead p low = ⊎_elim
    (λ (near : ahead p low < 2147483648). rw (nearest_time-ahead p low near) (omega arith))
    (λ (far : 2147483648 ≤ ahead p low). rw (nearest_time-behind p low far) (omega arith))
    (cases_lt (ahead p low) 2147483648)

pub near-behind : (p low : ℕ) → p ≤ nearest_time p low + 2147483648
near-behind p low = ⊎_elim
    (λ (near : ahead p low < 2147483648). rw (nearest_time-ahead p low near) (omega arith))
    (λ (far : 2147483648 ≤ ahead p low). rw (nearest_time-behind p low far) (omega arith))
    (cases_lt (ahead p low) 2147483648)

-- of packets that begin with a byte, how many frames there are
pub frames-single : (a : ℕ) (rest : List ℕ) → a % 4 ≡ 0 → opus_frames (a ∷ rest) ≡ 1
unfolding opus_frames
frames-single a rest code =
    let some : (length (a ∷ rest) == 0) ≡ false = grind arith in
    let is_code : (a % 4 == 0) ≡ true = grind (arith, code) in
    rw (some, is_code) refl

pub frames-pair : (a : ℕ) (rest : List ℕ) → (a % 4 ≡ 1) ⊎ (a % 4 ≡ 2) → opus_frames (a ∷ rest) ≡ 2
unfolding opus_frames
frames-pair a rest code =
    let some : (length (a ∷ rest) == 0) ≡ false = grind arith in
    let is_zero : (a % 4 == 0) ≡ false = grind (arith, code) in
    let is_three : (a % 4 == 3) ≡ false = grind (arith, code) in
    rw (some, is_zero, is_three) refl

pub frames-counted : (a b : ℕ) (rest : List ℕ) → a % 4 ≡ 3 → opus_frames (a ∷ b ∷ rest) ≡ b % 64
unfolding opus_frames
frames-counted a b rest code =
    let some : (length (a ∷ b ∷ rest) == 0) ≡ false = grind arith in
    let is_zero : (a % 4 == 0) ≡ false = grind (arith, code) in
    let is_three : (a % 4 == 3) ≡ true = grind (arith, code) in
    let enough : nat_lt (length (a ∷ b ∷ rest)) 2 ≡ false = grind arith in
    rw (some, is_zero, is_three, enough) refl

pub frames-uncounted : (a : ℕ) → a % 4 ≡ 3 → opus_frames (a ∷ []) ≡ 0
unfolding opus_frames
frames-uncounted a code =
    let is_zero : (a % 4 == 0) ≡ false = grind (arith, code) in
    let is_three : (a % 4 == 3) ≡ true = grind (arith, code) in
    rw (is_zero, is_three) refl

-- what a packet without sound is, by the code of the other
pub silence-plain : (a : ℕ) (rest : List ℕ) → (a % 4 ≡ 0) ⊎ (a % 4 ≡ 1) → silence_of (a ∷ rest) ≡ a ∷ []
unfolding silence_of
silence-plain a rest code =
    let some : (length (a ∷ rest) == 0) ≡ false = grind arith in
    let is_two : (a % 4 == 2) ≡ false = grind (arith, code) in
    let is_three : (a % 4 == 3) ≡ false = grind (arith, code) in
    rw (some, is_two, is_three) refl

pub silence-two : (a : ℕ) (rest : List ℕ) → a % 4 ≡ 2 → silence_of (a ∷ rest) ≡ (a - 1) ∷ []
unfolding silence_of
silence-two a rest code =
    let some : (length (a ∷ rest) == 0) ≡ false = grind arith in
    let is_two : (a % 4 == 2) ≡ true = grind (arith, code) in
    rw (some, is_two) refl

pub silence-counted : (a b : ℕ) (rest : List ℕ) → a % 4 ≡ 3 → silence_of (a ∷ b ∷ rest) ≡ a ∷ (b % 64 ∷ [])
unfolding silence_of
silence-counted a b rest code =
    let some : (length (a ∷ b ∷ rest) == 0) ≡ false = grind arith in
    let is_two : (a % 4 == 2) ≡ false = grind (arith, code) in
    let is_three : (a % 4 == 3) ≡ true = grind (arith, code) in
    let enough : nat_lt 1 (length (a ∷ b ∷ rest)) ≡ true = grind arith in
    rw (some, is_two, is_three, enough) refl

-- packets of as many frames of one configuration are as long
pub duration-same : (p q : List ℕ) → opus_frames p ≡ opus_frames q → slice_index p 0 / 8 ≡ slice_index q 0 / 8
    → opus_duration p ≡ opus_duration q
unfolding opus_duration
duration-same p q frames config = rw (frames, config) refl

pub duration-none : (p : List ℕ) → opus_frames p ≡ 0 → opus_duration p ≡ 0
unfolding opus_duration
duration-none p none = rw none (grind arith)

pub frames-none : opus_frames [] ≡ 0
unfolding opus_frames
frames-none = refl

-- codes 0 to 2 say how many frames there are
pub short : (a : ℕ) (rest : List ℕ) → a % 4 < 3 → opus_duration (silence_of (a ∷ rest)) ≡ opus_duration (a ∷ rest)
short a rest few = ⊎_elim
    (λ (plain : a % 4 < 2). ⊎_elim
    (λ (single : a % 4 < 1). rw (silence-plain a rest (inl (omega arith)))
    (duration-same (a ∷ []) (a ∷ rest)
    (frames-single a [] (omega arith) ∙ sym (frames-single a rest (omega arith))) refl))
    (λ (pair : 1 ≤ a % 4). rw (silence-plain a rest (inr (omega arith)))
    (duration-same (a ∷ []) (a ∷ rest)
    (frames-pair a [] (inl (omega arith)) ∙ sym (frames-pair a rest (inl (omega arith)))) refl))
    (cases_lt (a % 4) 1))
    (λ (two : 2 ≤ a % 4). rw (silence-two a rest (omega arith))
    (duration-same ((a - 1) ∷ []) (a ∷ rest)
    (frames-pair (a - 1) [] (inl (omega arith)) ∙ sym (frames-pair a rest (inr (omega arith)))) (omega arith)))
    (cases_lt (a % 4) 2)

pub silence-long : (packet : List ℕ) → 0 < opus_duration packet
    → opus_duration (silence_of packet) ≡ opus_duration packet
silence-long [] long = absurd (omega (arith, duration-none [] frames-none))
silence-long (a ∷ []) long = by_code (cases_lt (a % 4) 3) where
  by_code : (a % 4 < 3) ⊎ (3 ≤ a % 4) → opus_duration (silence_of (a ∷ [])) ≡ opus_duration (a ∷ [])
  by_code (inl few) = short a [] few
  by_code (inr code) = absurd (omega (arith, duration-none (a ∷ []) (frames-uncounted a (omega arith))))
silence-long (a ∷ b ∷ rest) long = by_code (cases_lt (a % 4) 3) where
  by_code : (a % 4 < 3) ⊎ (3 ≤ a % 4) → opus_duration (silence_of (a ∷ b ∷ rest)) ≡ opus_duration (a ∷ b ∷ rest)
  by_code (inl few) = short a (b ∷ rest) few
  by_code (inr code) =
      let three : a % 4 ≡ 3 = omega arith in
      rw (silence-counted a b rest three)
      (duration-same (a ∷ (b % 64 ∷ [])) (a ∷ b ∷ rest)
      (frames-counted a (b % 64) [] three ∙ omega arith ∙ sym (frames-counted a b rest three)) refl)
