-- A bandwidth-efficient packet, from the bytes of the sample.
use Rattle.std.proofs.Common.{◌≡◌, Bool, true, false, ℕ, ◌+◌, ◌-◌, ◌*◌, ◌/◌, ◌%◌, ◌^◌, ◌<◌, ◌≤◌, List, [], ◌++◌}
use Rattle.std.proofs.Common.{length, get_or}
use Rattle.std.proofs.Common.{set, take, drop, ltb, eqb, if◌then◌else◌, refl, sym, ap, ◌∙◌, arith, below_more}
use mathlib.Core.Bool.{false≢true}
use Rattle.std.proofs.lemmas.Bool.Decides.{nat_tests}
use Rattle.std.proofs.lemmas.List.{append-nil, drop_all, ext_get_or, get_or-set_other, get_or-set_same}
use Rattle.std.proofs.lemmas.List.{length-append, length-drop, length-set, take_at}
use Rattle.std.proofs.lemmas.List.FromFn.{get_or-map-range_with_len, length-map-range_with_len}
use Rattle.payload_core_audio.specs.AmrWb.{amr_wb_packet, bit_of, byte_from, bytes_from, efficient_bit}
use Rattle.payload_core_audio.specs.BitBytes.{bits_from, endless_bit, first_bits, front_of}
use Rattle.payload_core_audio.proofs.BitLemmas.{bit_small, byte-here, front-byte, same_byte, whole}

endless_small : (sample : List ℕ) (i : ℕ) → endless_bit sample i < 2
endless_small sample i = by_tests (ltb i 4) (eqb i 4) (ltb i 10)
  where
    by_tests : (a b c : Bool) → (if a then 1 else (if b then 0 else (if c then bit_of sample (i - 4)
        else bit_of sample (i - 2)))) < 2
    by_tests true b c = omega arith
    by_tests false true c = omega arith
    by_tests false false true = bit_small sample (i - 4)
    by_tests false false false = bit_small sample (i - 2)

-- a bandwidth-efficient packet is the first bits of what goes on
efficient_here : (sample : List ℕ) (size i : ℕ) → efficient_bit sample size i
    ≡ first_bits (size + 10) (endless_bit sample) i
unfolding efficient_bit
efficient_here sample size i = by_tests (ltb i 4) (eqb i 4) (ltb i 10) (ltb i (size + 10))
    (λ e. grind (arith, nat_tests)) (λ e. grind (arith, nat_tests)) (λ e. grind (arith, nat_tests))
  where
    by_tests : (a b c d : Bool) → (d ≡ false → a ≡ false) → (d ≡ false → b ≡ false) → (d ≡ false → c ≡ false)
        → (if a then 1 else (if b then 0 else (if c then bit_of sample (i - 4)
        else (if d then bit_of sample (i - 2) else 0))))
        ≡ (if d then (if a then 1 else (if b then 0 else (if c then bit_of sample (i - 4)
        else bit_of sample (i - 2)))) else 0)
    by_tests a b c true none_a none_b none_c = refl
    by_tests true b c false none_a none_b none_c = absurd (false≢true (sym (none_a refl)))
    by_tests false true c false none_a none_b none_c = absurd (false≢true (sym (none_b refl)))
    by_tests false false true false none_a none_b none_c = absurd (false≢true (sym (none_c refl)))
    by_tests false false false false none_a none_b none_c = refl

pub efficient-byte : (sample : List ℕ) (size k : ℕ) → 8 * k < size + 10 → byte_from (efficient_bit sample size) k
    ≡ front_of (size + 10 - 8 * k) (byte_from (endless_bit sample) k)
efficient-byte sample size k lt =
    same_byte (efficient_bit sample size) (first_bits (size + 10) (endless_bit sample)) k k
    (efficient_here sample size (8 * k)) (λ j. efficient_here sample size (8 * k + j))
    ∙ front-byte (size + 10) k (endless_bit sample) (endless_small sample) lt

-- its first two bytes, and the others
pub endless-first : (sample : List ℕ) → byte_from (endless_bit sample) 0 ≡ 240 + get_or sample 0 0 / 16 % 8
endless-first sample = omega arith

-- a byte without padding
pub efficient-full : (sample : List ℕ) (size k : ℕ) → 8 * k + 8 ≤ size + 10 → byte_from (efficient_bit sample size) k
    ≡ byte_from (endless_bit sample) k
efficient-full sample size k le = efficient-byte sample size k (omega arith)
    ∙ sym (whole (byte_from (endless_bit sample) k) (byte_from (endless_bit sample) k) (size + 10 - 8 * k) (omega arith)
    refl)

pub endless-second : (sample : List ℕ) → get_or sample 1 0 < 256
    → byte_from (endless_bit sample) 1 ≡ get_or sample 0 0 / 4 % 4 * 64 + get_or sample 1 0 / 4
endless-second sample small = omega arith

endless_past : (sample : List ℕ) (i : ℕ) → 10 ≤ i → endless_bit sample i ≡ bit_of sample (i - 2)
endless_past sample i le = by_tests (ltb i 4) (eqb i 4) (ltb i 10) (grind (arith, nat_tests)) (grind (arith, nat_tests))
    (grind (arith, nat_tests))
  where
    by_tests : (a b c : Bool) → a ≡ false → b ≡ false → c ≡ false
        → (if a then 1 else (if b then 0 else (if c then bit_of sample (i - 4) else bit_of sample (i - 2))))
        ≡ bit_of sample (i - 2)
    by_tests true b c no_a no_b no_c = absurd (false≢true (sym no_a))
    by_tests false true c no_a no_b no_c = absurd (false≢true (sym no_b))
    by_tests false false true no_a no_b no_c = absurd (false≢true (sym no_c))
    by_tests false false false no_a no_b no_c = refl

pub endless-later : (sample : List ℕ) (k : ℕ) → 2 ≤ k → byte_from (endless_bit sample) k
    ≡ byte_from (bits_from sample (8 * k - 2)) 0
endless-later sample k le =
    let e0 : 8 * k - 2 ≡ 8 * k - 2 + 8 * 0 = omega arith in
    let e : (j : ℕ) → 8 * k + j - 2 ≡ 8 * k - 2 + (8 * 0 + j) = λ j. omega arith in
    same_byte (endless_bit sample) (bits_from sample (8 * k - 2)) k 0
    (endless_past sample (8 * k) (omega arith) ∙ ap (bit_of sample) e0)
    (λ j. endless_past sample (8 * k + j) (omega arith) ∙ ap (bit_of sample) (e j))

-- after the second byte each has the low two bits of one octet, and the high six of the next
pub endless-next : (sample : List ℕ) (k : ℕ) → 1 ≤ k → get_or sample k 0 < 256 → get_or sample (k + 1) 0 < 256
    → byte_from (endless_bit sample) (k + 1) ≡ get_or sample k 0 % 4 * 64 + get_or sample (k + 1) 0 / 4
endless-next sample k some small small' =
    endless-later sample (k + 1) (omega arith)
    ∙ byte-here sample (8 * (k + 1) - 2) k 6 (omega arith) (omega arith) small small'
    ∙ moved (get_or sample k 0) (get_or sample (k + 1) 0) small small'
  where
    moved : (a b : ℕ) → a < 256 → b < 256 → (a * 256 + b) / 2 ^ (8 - 6) % 256 ≡ a % 4 * 64 + b / 4
    moved a b lt lt' = omega arith

-- one byte more
pub written-more : (sample out : List ℕ) (k b : ℕ) → k < length out
    → ((j : ℕ) → j < k → get_or out j 0 ≡ byte_from (endless_bit sample) j) → b ≡ byte_from (endless_bit sample) k
    → (j : ℕ) → j < k + 1 → get_or (set out k b) j 0 ≡ byte_from (endless_bit sample) j
written-more sample out k b room written is = below_more _ _
    (λ j lt. get_or-set_other out k j b 0 (omega arith) ∙ written j lt) (get_or-set_same out k b 0 room ∙ is)

-- bytes without padding, and the last one with it, are the packet
pub efficient-written : (sample : List ℕ) (size last b : ℕ) (out : List ℕ) → last + 1 ≡ (size + 17) / 8
    → length out ≡ last + 1 → ((j : ℕ) → j < last → get_or out j 0 ≡ byte_from (endless_bit sample) j)
    → b ≡ front_of (size + 10 - 8 * last) (byte_from (endless_bit sample) last)
    → set out last b ≡ amr_wb_packet false sample size
efficient-written sample size last b out count long written is =
    ext_get_or 0 (set out last b) (bytes_from bit ((size + 17) / 8))
    (length-set out last b ∙ long ∙ count ∙ sym (length-map-range_with_len (byte_from bit) 0 ((size + 17) / 8)))
    (λ i lt. here i (omega (arith, lt, length-set out last b, long))
    ∙ sym (get_or-map-range_with_len (byte_from bit) 0 ((size + 17) / 8) i i 0
    (omega (arith, lt, length-set out last b, long, count)) (omega arith)))
  where
    bit : ℕ → ℕ
    bit = efficient_bit sample size

    here : (i : ℕ) → i < last + 1 → get_or (set out last b) i 0 ≡ byte_from (efficient_bit sample size) i
    here = below_more _ _
        (λ i lt. get_or-set_other out last i b 0 (omega arith) ∙ written i lt
        ∙ sym (efficient-full sample size i (omega arith)))
        (get_or-set_same out last b 0 (omega (arith, long)) ∙ is ∙ sym (efficient-byte sample size last (omega arith)))

-- what is written after the front of a text takes the place of the rest
pub after-front : (front new old others : List ℕ) (l k : ℕ) → take (length front) old ≡ front
    → length old ≡ length front + length new → l ≡ length old
    → take l ((take (length front) old ++ (new ++ drop (length old - length front) (drop (length front) old)))
    ++ drop k others) ≡ front ++ new
after-front front new old others l k same long all =
    let end : drop (length old - length front) (drop (length front) old) ≡ [] =
    drop_all (length old - length front) (drop (length front) old)
    (omega (arith, length-drop (length front) old)) in
    ap (λ xs. take l ((take (length front) old ++ (new ++ xs)) ++ drop k others)) end
    ∙ ap (λ xs. take l ((take (length front) old ++ xs) ++ drop k others)) (append-nil new)
    ∙ ap (λ xs. take l ((xs ++ new) ++ drop k others)) same
    ∙ take_at (front ++ new) (drop k others) l (omega (arith, length-append front new, long, all))
