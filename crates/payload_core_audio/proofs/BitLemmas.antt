-- Bytes of bit strings, from the bytes of the text.
use Rattle.std.proofs.Common.{◌≡◌, Bool, ℕ, zero, suc, ◌+◌, ◌-◌, ◌*◌, ◌/◌, ◌%◌, ◌^◌, ◌<◌, ◌≤◌, List, [], ◌∷◌, ◌++◌}
use Rattle.std.proofs.Common.{length, take, drop, ltb, leb}
use Rattle.std.proofs.Common.{get_or, true}
use Rattle.std.proofs.Common.{false, if◌then◌else◌, refl, sym, ap, ◌∙◌, arith}
use mir.Syntax.{w8}
use mir.Val.{Fits}
use Rattle.std.proofs.lemmas.List.{ext_get_or, get_or-drop, get_or-take, length-drop, length-take}
use Rattle.std.proofs.lemmas.List.FromFn.{get_or-map-range_with_len, length-map-range_with_len}
use Rattle.std.proofs.lemmas.List.FromFn.{map-range_with_len_more}
use Rattle.std.proofs.lemmas.Bool.Decides.{nat_tests}
use Rattle.payload_core_audio.specs.AmrWb.{bit_of, byte_from, bytes_from, field_of, header_at}
use Rattle.payload_core_audio.specs.AmrWb.{speech_of}
use Rattle.payload_core_audio.specs.BitBytes.{bits_from, first_bits, front_of}

-- a bit by its byte and its place there
bit_in : (bytes : List ℕ) (n q s : ℕ) → n ≡ 8 * q + s → s < 8 → bit_of bytes n ≡ get_or bytes q 0 / 2 ^ (7 - s) % 2
bit_in bytes n q s is few =
    let octet : n / 8 ≡ q = omega arith in
    let rest : n % 8 ≡ s = omega arith in
    ap (λ k. get_or bytes k 0 / 2 ^ (7 - n % 8) % 2) octet ∙ ap (λ k. get_or bytes q 0 / 2 ^ (7 - k) % 2) rest

-- the byte of eight bits that begin at a place in a byte and go on in the next
eight_bits : (r : ℕ) → r < 8 → (bit : ℕ → ℕ) (k a b : ℕ) → a < 256 → b < 256 → bit (8 * k) ≡ a / 2 ^ (7 - r) % 2
    → ((j : ℕ) → 0 < j → r + j < 8 → bit (8 * k + j) ≡ a / 2 ^ (7 - (r + j)) % 2)
    → ((j : ℕ) → j < 8 → 8 ≤ r + j → bit (8 * k + j) ≡ b / 2 ^ (15 - (r + j)) % 2)
    → byte_from bit k ≡ (a * 256 + b) / 2 ^ (8 - r) % 256
eight_bits zero few bit k a b small small' first high low =
    omega (
      arith,
      first,
      high 1 (omega arith) (omega arith),
      high 2 (omega arith) (omega arith),
      high 3 (omega arith) (omega arith),
      high 4 (omega arith) (omega arith),
      high 5 (omega arith) (omega arith),
      high 6 (omega arith) (omega arith),
      high 7 (omega arith) (omega arith),
    )
eight_bits (suc zero) few bit k a b small small' first high low =
    omega (
      arith,
      first,
      high 1 (omega arith) (omega arith),
      high 2 (omega arith) (omega arith),
      high 3 (omega arith) (omega arith),
      high 4 (omega arith) (omega arith),
      high 5 (omega arith) (omega arith),
      high 6 (omega arith) (omega arith),
      low 7 (omega arith) (omega arith),
    )
eight_bits (suc (suc zero)) few bit k a b small small' first high low =
    omega (
      arith,
      first,
      high 1 (omega arith) (omega arith),
      high 2 (omega arith) (omega arith),
      high 3 (omega arith) (omega arith),
      high 4 (omega arith) (omega arith),
      high 5 (omega arith) (omega arith),
      low 6 (omega arith) (omega arith),
      low 7 (omega arith) (omega arith),
    )
eight_bits (suc (suc (suc zero))) few bit k a b small small' first high low =
    omega (
      arith,
      first,
      high 1 (omega arith) (omega arith),
      high 2 (omega arith) (omega arith),
      high 3 (omega arith) (omega arith),
      high 4 (omega arith) (omega arith),
      low 5 (omega arith) (omega arith),
      low 6 (omega arith) (omega arith),
      low 7 (omega arith) (omega arith),
    )
eight_bits (suc (suc (suc (suc zero)))) few bit k a b small small' first high low =
    omega (
      arith,
      first,
      high 1 (omega arith) (omega arith),
      high 2 (omega arith) (omega arith),
      high 3 (omega arith) (omega arith),
      low 4 (omega arith) (omega arith),
      low 5 (omega arith) (omega arith),
      low 6 (omega arith) (omega arith),
      low 7 (omega arith) (omega arith),
    )
eight_bits (suc (suc (suc (suc (suc zero))))) few bit k a b small small' first high low =
    omega (
      arith,
      first,
      high 1 (omega arith) (omega arith),
      high 2 (omega arith) (omega arith),
      low 3 (omega arith) (omega arith),
      low 4 (omega arith) (omega arith),
      low 5 (omega arith) (omega arith),
      low 6 (omega arith) (omega arith),
      low 7 (omega arith) (omega arith),
    )
eight_bits (suc (suc (suc (suc (suc (suc zero)))))) few bit k a b small small' first high low =
    omega (
      arith,
      first,
      high 1 (omega arith) (omega arith),
      low 2 (omega arith) (omega arith),
      low 3 (omega arith) (omega arith),
      low 4 (omega arith) (omega arith),
      low 5 (omega arith) (omega arith),
      low 6 (omega arith) (omega arith),
      low 7 (omega arith) (omega arith),
    )
eight_bits (suc (suc (suc (suc (suc (suc (suc zero))))))) few bit k a b small small' first high low =
    omega (
      arith,
      first,
      low 1 (omega arith) (omega arith),
      low 2 (omega arith) (omega arith),
      low 3 (omega arith) (omega arith),
      low 4 (omega arith) (omega arith),
      low 5 (omega arith) (omega arith),
      low 6 (omega arith) (omega arith),
      low 7 (omega arith) (omega arith),
    )
eight_bits (suc (suc (suc (suc (suc (suc (suc (suc r)))))))) few bit k a b small small' first high low =
    absurd (omega arith)

pub byte-here : (bytes : List ℕ) (place o r : ℕ) → place ≡ 8 * o + r → r < 8 → get_or bytes o 0 < 256
    → get_or bytes (o + 1) 0 < 256
    → byte_from (bits_from bytes place) 0 ≡ (get_or bytes o 0 * 256 + get_or bytes (o + 1) 0) / 2 ^ (8 - r) % 256
byte-here bytes place o r is few small small' =
    eight_bits r few (bits_from bytes place) 0 (get_or bytes o 0) (get_or bytes (o + 1) 0) small small'
    (bit_in bytes (place + 8 * 0) o r (omega arith) few)
    (λ j some lt. bit_in bytes (place + (8 * 0 + j)) o (r + j) (omega arith) lt)
    (λ j lt past. let p : 7 - (r + j - 8) ≡ 15 - (r + j) = omega arith in
    bit_in bytes (place + (8 * 0 + j)) (o + 1) (r + j - 8) (omega arith) (omega arith)
    ∙ ap (λ e. get_or bytes (o + 1) 0 / 2 ^ e % 2) p)

-- a byte of one bit string and a byte of another, if they have the same bits
pub same_byte : (bit other : ℕ → ℕ) (k m : ℕ) → bit (8 * k) ≡ other (8 * m)
    → ((j : ℕ) → bit (8 * k + j) ≡ other (8 * m + j)) → byte_from bit k ≡ byte_from other m
same_byte bit other k m first others =
    omega (arith, first, others 1, others 2, others 3, others 4, others 5, others 6, others 7)

-- a byte further on
pub byte-after : (bytes : List ℕ) (place k : ℕ) → byte_from (bits_from bytes place) k
    ≡ byte_from (bits_from bytes (place + 8 * k)) 0
byte-after bytes place k =
    let e0 : place + 8 * k ≡ place + 8 * k + 8 * 0 = omega arith in
    let e : (j : ℕ) → place + (8 * k + j) ≡ place + 8 * k + (8 * 0 + j) = λ j. omega arith in
    same_byte (bits_from bytes place) (bits_from bytes (place + 8 * k)) k 0 (ap (bit_of bytes) e0)
    (λ j. ap (bit_of bytes) (e j))

pub bit_small : (bytes : List ℕ) (n : ℕ) → bit_of bytes n < 2
bit_small bytes n = omega arith

inside : (size : ℕ) (bit : ℕ → ℕ) (i : ℕ) → i < size → first_bits size bit i ≡ bit i
inside size bit i lt = let t : ltb i size ≡ true = grind (arith, nat_tests) in
    ap (λ (b : Bool). if b then bit i else 0) t

past : (size : ℕ) (bit : ℕ → ℕ) (i : ℕ) → size ≤ i → first_bits size bit i ≡ 0
past size bit i le = let t : ltb i size ≡ false = grind (arith, nat_tests) in
    ap (λ (b : Bool). if b then bit i else 0) t

-- all bits of a byte
pub whole : (a b count : ℕ) → 8 ≤ count → a ≡ b → a ≡ front_of count b
whole a b count le same = let t : leb 8 count ≡ true = grind (arith, nat_tests) in
    same ∙ sym (ap (λ (x : Bool). if x then b else b / 2 ^ (8 - count) * 2 ^ (8 - count)) t)

-- the first bits of a byte, and zeros after them
front_bits : (size k count : ℕ) (bit : ℕ → ℕ) → ((i : ℕ) → bit i < 2) → size ≡ 8 * k + count → 0 < count
    → byte_from (first_bits size bit) k ≡ front_of count (byte_from bit k)
front_bits size k zero bit small is some = absurd (omega arith)
front_bits size k (suc zero) bit small is some =
    omega (arith, inside size bit, past size bit, small)
front_bits size k (suc (suc zero)) bit small is some =
    omega (arith, inside size bit, past size bit, small)
front_bits size k (suc (suc (suc zero))) bit small is some =
    omega (arith, inside size bit, past size bit, small)
front_bits size k (suc (suc (suc (suc zero)))) bit small is some =
    omega (arith, inside size bit, past size bit, small)
front_bits size k (suc (suc (suc (suc (suc zero))))) bit small is some =
    omega (arith, inside size bit, past size bit, small)
front_bits size k (suc (suc (suc (suc (suc (suc zero)))))) bit small is some =
    omega (arith, inside size bit, past size bit, small)
front_bits size k (suc (suc (suc (suc (suc (suc (suc zero))))))) bit small is some =
    omega (arith, inside size bit, past size bit, small)
front_bits size k (suc (suc (suc (suc (suc (suc (suc (suc count)))))))) bit small is some =
    whole (byte_from (first_bits size bit) k) (byte_from bit k)
    (suc (suc (suc (suc (suc (suc (suc (suc count)))))))) (omega arith)
    (omega (arith, inside size bit))

pub front-byte : (size k : ℕ) (bit : ℕ → ℕ) → ((i : ℕ) → bit i < 2) → 8 * k < size
    → byte_from (first_bits size bit) k ≡ front_of (size - 8 * k) (byte_from bit k)
front-byte size k bit small lt = front_bits size k (size - 8 * k) bit small (omega arith) (omega arith)

entry_bits : (bit : ℕ → ℕ) → ((i : ℕ) → bit i < 2) → (k : ℕ)
    → bit (8 * k + 1) * 64 + bit (8 * k + 2) * 32 + bit (8 * k + 3) * 16 + bit (8 * k + 4) * 8 + bit (8 * k + 5) * 4
    ≡ byte_from bit k % 128 / 4 * 4
entry_bits bit small k = omega (
  arith,
  small (8 * k),
  small (8 * k + 1),
  small (8 * k + 2),
  small (8 * k + 3),
  small (8 * k + 4),
  small (8 * k + 5),
  small (8 * k + 6),
  small (8 * k + 7),
)

-- an entry of the table of contents, from the byte that begins with it
pub header-byte : (bytes : List ℕ) (place : ℕ) → header_at bytes place
    ≡ byte_from (bits_from bytes place) 0 % 128 / 4 * 4
unfolding header_at
header-byte bytes place = entry_bits (bits_from bytes place) (λ i. bit_small bytes (place + i)) 0

-- bytes of one bit string, if each is the same
pub same-bytes : (bit other : ℕ → ℕ) (n : ℕ) → ((k : ℕ) → k < n → byte_from bit k ≡ byte_from other k)
    → bytes_from bit n ≡ bytes_from other n
same-bytes bit other zero same = refl
same-bytes bit other (suc n) same =
    let e : suc n ≡ n + 1 = omega arith in
    ap (bytes_from bit) e ∙ map-range_with_len_more (byte_from bit) 0 n n (omega arith)
    ∙ ap (λ xs. xs ++ byte_from bit n ∷ []) (same-bytes bit other n (λ k lt. same k (omega arith)))
    ∙ ap (λ b. bytes_from other n ++ b ∷ []) (same n (omega arith))
    ∙ sym (map-range_with_len_more (byte_from other) 0 n n (omega arith)) ∙ ap (bytes_from other) (sym e)

field_byte : (bytes : List ℕ) (place size k : ℕ) → 8 * k < size → byte_from (field_of bytes place size) k
    ≡ front_of (size - 8 * k) (byte_from (bits_from bytes place) k)
field_byte bytes place size k lt = front-byte size k (bits_from bytes place) (λ i. bit_small bytes (place + i)) lt

speech_byte : (bytes : List ℕ) (place size k : ℕ) → k < size / 8 → byte_from (field_of bytes place size) k
    ≡ byte_from (bits_from bytes place) k
speech_byte bytes place size k lt = field_byte bytes place size k (omega arith)
    ∙ sym (whole (byte_from (bits_from bytes place) k) (byte_from (bits_from bytes place) k) (size - 8 * k)
    (omega arith)
    refl)

pub field-byte : (bytes : List ℕ) (place size k : ℕ) → 8 * k < size → byte_from (field_of bytes place size) k
    ≡ front_of (size - 8 * k) (byte_from (bits_from bytes (place + 8 * k)) 0)
field-byte bytes place size k lt = field_byte bytes place size k lt
    ∙ ap (front_of (size - 8 * k)) (byte-after bytes place k)

-- speech of whole bytes, and speech with a byte that is filled up
pub speech-whole : (bytes : List ℕ) (place size : ℕ) → size % 8 ≡ 0 → speech_of bytes place size
    ≡ bytes_from (bits_from bytes place) (size / 8)
unfolding speech_of
speech-whole bytes place size none =
    let e : (size + 7) / 8 ≡ size / 8 = omega arith in
    ap (bytes_from (field_of bytes place size)) e
    ∙ same-bytes (field_of bytes place size) (bits_from bytes place) (size / 8) (speech_byte bytes place size)

pub speech-filled : (bytes : List ℕ) (place size : ℕ) → 0 < size % 8 → speech_of bytes place size
    ≡ bytes_from (bits_from bytes place) (size / 8) ++ byte_from (field_of bytes place size) (size / 8) ∷ []
unfolding speech_of
speech-filled bytes place size some =
    let e : (size + 7) / 8 ≡ size / 8 + 1 = omega arith in
    ap (bytes_from (field_of bytes place size)) e
    ∙ map-range_with_len_more (byte_from (field_of bytes place size)) 0 (size / 8) (size / 8) (omega arith)
    ∙ ap (λ xs. xs ++ byte_from (field_of bytes place size) (size / 8) ∷ [])
    (same-bytes (field_of bytes place size) (bits_from bytes place) (size / 8) (speech_byte bytes place size))

-- an octet of the text
pub octet-here : (bytes : List ℕ) (place o : ℕ) → place ≡ 8 * o → ((k : ℕ) → get_or bytes k 0 < 256)
    → byte_from (bits_from bytes place) 0 ≡ get_or bytes o 0
octet-here bytes place o is small =
    byte-here bytes place o 0 (omega arith) (omega arith) (small o) (small (o + 1))
    ∙ high (get_or bytes o 0) (get_or bytes (o + 1) 0) (small o) (small (o + 1))
  where
    high : (a b : ℕ) → a < 256 → b < 256 → (a * 256 + b) / 2 ^ 8 % 256 ≡ a
    high a b lt lt' = omega arith

-- octets that are copied
pub octets : (bytes : List ℕ) (place o n : ℕ) → place ≡ 8 * o → o + n ≤ length bytes
    → ((k : ℕ) → get_or bytes k 0 < 256) → take n (drop o bytes) ≡ bytes_from (bits_from bytes place) n
octets bytes place o n is room small = ext_get_or 0 (take n (drop o bytes)) (bytes_from (bits_from bytes place) n)
    (taken ∙ sym (length-map-range_with_len (byte_from (bits_from bytes place)) 0 n))
    (λ i lt.
    get_or-take n (drop o bytes) i 0 (omega (arith, lt, taken)) ∙ get_or-drop o bytes i 0
    ∙ sym (byte-after bytes place i ∙ octet-here bytes (place + 8 * i) (o + i) (omega arith) small)
    ∙ sym (get_or-map-range_with_len (byte_from (bits_from bytes place)) 0 n i i 0 (omega (
      arith,
      lt,
      taken,
    )) (omega arith)))
  where
    taken : length (take n (drop o bytes)) ≡ n
    taken = omega (arith, length-take n (drop o bytes), length-drop o bytes)

-- the octets of a text are below 256, and 0 after it
pub octet-small : (bytes : List ℕ) → ((k : ℕ) → Fits w8 (get_or bytes k 0)) → (k : ℕ) → get_or bytes k 0 < 256
octet-small bytes fit k = omega (arith, fit k)
