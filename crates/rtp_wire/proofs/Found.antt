-- What is read is spelled so.
use Rattle.std.proofs.Common.{◌≡◌, ℕ, zero, suc, ◌+◌, ◌*◌, ◌/◌, ◌%◌, ◌^◌, ◌<◌, ◌≤◌, refl, sym, ◌∙◌, ap, arith, Bool}
use Rattle.std.proofs.Common.{true, false, true≢false, List, [], ◌∷◌, ◌++◌, length, take, drop, get_or, length-append}
use Rattle.std.proofs.Common.{length-drop, length-take, append_assoc, subst}
use Rattle.std.specs.Prelude.{if◌then◌else◌, Option, Some, None, ◌==◌, ◌&&◌, nat_le, slice_index}
use Rattle.std.specs.Int.{w16, w32, to_be_bytes, from_be_bytes}
use Rattle.std.proofs.lemmas.Bool.Decides.{nat_tests}
use Rattle.std.proofs.lemmas.List.{drop-drop, get_or-drop, take-append-drop}
use Rattle.std.proofs.lemmas.Nat.{be_bytes_2, be_bytes_4}
use Rattle.rtp_wire.specs.Values.{Numbering, Block}
use Rattle.rtp_wire.specs.declared.header.RtpHeader.{RtpHeader}
use Rattle.rtp_wire.specs.Header.{u16_at, words_in, has_bit, csrc_count_in, has_extension_in, block_at}
use Rattle.rtp_wire.specs.Header.{header_length_in, is_header, block_in, values_in, slots, fields_in, header_in}
use Rattle.rtp_wire.specs.Header.{header_of, layout_in, IsSpelled}
use Rattle.rtp_wire.specs.Layout.{bit, is_some_block, block_bytes, words, layout_bytes, IsBlock, IsLayout, IsBytes}
use Rattle.rtp_wire.proofs.Words.{length-words_in}

IsBytes-drop : (n : ℕ) (bytes : List ℕ) → IsBytes bytes → IsBytes (drop n bytes)
IsBytes-drop n bytes h i = rw get_or-drop (h (n + i))

two : (a b : ℕ) → a < 256 → b < 256 → IsBytes (a ∷ b ∷ [])
two a b h k zero = h
two a b h k (suc zero) = k
two a b h k (suc (suc i)) = omega arith

four : (a b c d : ℕ) → a < 256 → b < 256 → c < 256 → d < 256 → IsBytes (a ∷ b ∷ c ∷ d ∷ [])
four a b c d h k l m zero = h
four a b c d h k l m (suc zero) = k
four a b c d h k l m (suc (suc zero)) = l
four a b c d h k l m (suc (suc (suc zero))) = m
four a b c d h k l m (suc (suc (suc (suc i)))) = omega arith

half-again : (a b : ℕ) → a < 256 → b < 256 → a ∷ b ∷ [] ≡ to_be_bytes w16 (from_be_bytes w16 (a ∷ b ∷ []))
half-again a b h k = sym (be_bytes_2 (a ∷ b ∷ []) (from_be_bytes w16 (a ∷ b ∷ [])) refl (two a b h k) refl)

word-again : (a b c d : ℕ) → a < 256 → b < 256 → c < 256 → d < 256 → a ∷ b ∷ c ∷ d ∷ []
    ≡ to_be_bytes w32 (from_be_bytes w32 (a ∷ b ∷ c ∷ d ∷ []))
word-again a b c d h k l m = sym (be_bytes_4 (a ∷ b ∷ c ∷ d ∷ []) (from_be_bytes w32 (a ∷ b ∷ c ∷ d ∷ [])) refl
    (four a b c d h k l m) refl)

bit-is : (n : ℕ) → n < 2 → bit (n == 1) ≡ n
bit-is zero h = refl
bit-is (suc zero) h = refl
bit-is (suc (suc n)) h = absurd (omega arith)

-- words that are read are spelled so
pub words-words_in : (n : ℕ) (bytes : List ℕ) → IsBytes bytes → 4 * n ≤ length bytes → bytes
    ≡ words (words_in n bytes) ++ drop (4 * n) bytes
words-words_in zero bytes h l = refl
words-words_in (suc n) [] h l = absurd (omega arith)
words-words_in (suc n) (a ∷ []) h l = absurd (omega arith)
words-words_in (suc n) (a ∷ b ∷ []) h l = absurd (omega arith)
words-words_in (suc n) (a ∷ b ∷ c ∷ []) h l = absurd (omega arith)
words-words_in (suc n) (a ∷ b ∷ c ∷ d ∷ bytes) h l =
    let this = word-again a b c d (h 0) (h 1) (h 2) (h 3) in
    let more : bytes ≡ words (words_in n bytes) ++ drop (4 * n) bytes =
    words-words_in n bytes (λ i. h (suc (suc (suc (suc i))))) (omega arith) in
    let step : 4 + 4 * n ≡ 4 * suc n = omega arith in
    let end : drop (4 * n) bytes ≡ drop (4 * suc n) (a ∷ b ∷ c ∷ d ∷ bytes) =
    drop-drop (4 * n) 4 (a ∷ b ∷ c ∷ d ∷ bytes) ∙ ap (λ (k : ℕ). drop k (a ∷ b ∷ c ∷ d ∷ bytes)) step in
    (λ i. this i ++ more i) ∙ ap (λ (ys : List ℕ). to_be_bytes w32 (from_be_bytes w32 (a ∷ b ∷ c ∷ d ∷ []))
    ++ (words (words_in n bytes) ++ ys)) end

-- sources fit
pub words_in-fit : (n : ℕ) (bytes : List ℕ) → IsBytes bytes → (k d : ℕ) → k < length (words_in n bytes)
    → get_or (words_in n bytes) k d < 2 ^ 32
words_in-fit zero bytes h k d l = absurd (omega arith)
words_in-fit (suc n) bytes h zero d l = omega (arith, h 0, h 1, h 2, h 3)
words_in-fit (suc n) bytes h (suc k) d l = words_in-fit n (drop 4 bytes) (IsBytes-drop 4 bytes h) k d (omega arith)

-- a block that is read is spelled so
block-found : (xs : List ℕ) → IsBytes xs → 4 + 4 * from_be_bytes w16 (drop 2 xs) ≤ length xs →
    xs ≡ block_bytes (Some (record {
      profile = from_be_bytes w16 xs;
      content =
          take (4 * from_be_bytes w16 (drop 2 xs)) (drop 4 xs);
    })) ++ drop (4 + 4 * from_be_bytes w16 (drop 2 xs)) xs
block-found [] h l = absurd (omega arith)
block-found (a ∷ []) h l = absurd (omega arith)
block-found (a ∷ b ∷ []) h l = absurd (omega arith)
block-found (a ∷ b ∷ c ∷ []) h l = absurd (omega arith)
block-found (a ∷ b ∷ c ∷ d ∷ ys) h l =
    let w = from_be_bytes w16 (c ∷ d ∷ []) in
    let len : length (take (4 * w) ys) / 4 ≡ w = omega (arith, length-take (4 * w) ys) in
    let profile = half-again a b (h 0) (h 1) in
    let count : c ∷ d ∷ [] ≡ to_be_bytes w16 (length (take (4 * w) ys) / 4) =
    half-again c d (h 2) (h 3) ∙ ap (to_be_bytes w16) (sym len) in
    let end : drop (4 * w) ys ≡ drop (4 + 4 * w) (a ∷ b ∷ c ∷ d ∷ ys) = drop-drop (4 * w) 4 (a ∷ b ∷ c ∷ d ∷ ys) in
    let content : ys ≡ take (4 * w) ys ++ drop (4 + 4 * w) (a ∷ b ∷ c ∷ d ∷ ys) =
    sym (take-append-drop (4 * w) ys) ∙ ap (λ (zs : List ℕ). take (4 * w) ys ++ zs) end in
    λ i. profile i ++ (count i ++ content i)

if-then : {A : Type 0} (b : Bool) (x y : A) → b ≡ true → (if b then x else y) ≡ x
if-then true x y h = refl
if-then false x y h = absurd (true≢false (sym h))

if-else : {A : Type 0} (b : Bool) (x y : A) → b ≡ false → (if b then x else y) ≡ y
if-else true x y h = absurd (true≢false h)
if-else false x y h = refl

some-if : (b : Bool) (x : Block) → is_some_block (if b then Some x else None) ≡ b
some-if true x = refl
some-if false x = refl

pub block_in-some : (bytes : List ℕ) → is_some_block (block_in bytes) ≡ has_extension_in bytes
block_in-some bytes = some-if (has_extension_in bytes) _

-- the part after the sources, by whether there is a block
behind : (bytes : List ℕ) → IsBytes bytes → header_length_in bytes ≤ length bytes → (b : Bool)
    → has_extension_in bytes ≡ b →
    drop (block_at bytes) bytes ≡ block_bytes (block_in bytes) ++ drop (header_length_in bytes) bytes
behind bytes h l false e =
    let none : block_in bytes ≡ None = if-else (has_extension_in bytes) _ _ e in
    let len : header_length_in bytes ≡ block_at bytes = if-else (has_extension_in bytes) _ _ e in
    rw (none, len) refl
behind bytes h l true e =
    let at = block_at bytes in
    let xs = drop at bytes in
    let words_at : drop 2 xs ≡ drop (at + 2) bytes = drop-drop 2 at bytes in
    let w : from_be_bytes w16 (drop 2 xs) ≡ u16_at bytes (at + 2) = ap (from_be_bytes w16) words_at in
    let len : header_length_in bytes ≡ at + 4 + 4 * u16_at bytes (at + 2) = if-then (has_extension_in bytes) _ _ e in
    let enough : 4 + 4 * from_be_bytes w16 (drop 2 xs) ≤ length xs = omega (arith, w, len, length-drop at bytes) in
    let there : block_in bytes ≡ Some (record
    { profile = u16_at bytes at; content = take (4 * u16_at bytes (at + 2)) (drop (at + 4) bytes) }) =
    if-then (has_extension_in bytes) _ _ e in
    let content : take (4 * from_be_bytes w16 (drop 2 xs)) (drop 4 xs)
    ≡ take (4 * u16_at bytes (at + 2)) (drop (at + 4) bytes) =
    λ i. take (4 * w i) (drop-drop 4 at bytes i) in
    let same : at + (4 + 4 * from_be_bytes w16 (drop 2 xs)) ≡ header_length_in bytes = omega (arith, w, len) in
    let end : drop (4 + 4 * from_be_bytes w16 (drop 2 xs)) xs ≡ drop (header_length_in bytes) bytes =
    drop-drop (4 + 4 * from_be_bytes w16 (drop 2 xs)) at bytes ∙ ap (λ (k : ℕ). drop k bytes) same in
    block-found xs (IsBytes-drop at bytes h) enough
    ∙ (λ i. block_bytes (Some (record { profile = from_be_bytes w16 xs; content = content i })) ++ end i)
    ∙ ap (λ (b : Option Block). block_bytes b ++ drop (header_length_in bytes) bytes) (sym there)

block-le : (bytes : List ℕ) (b : Bool) → has_extension_in bytes ≡ b → block_at bytes ≤ header_length_in bytes
block-le bytes true e = omega (
  arith,
  if-then (has_extension_in bytes)
      (block_at bytes + 4 + 4 * u16_at bytes (block_at bytes + 2)) (block_at bytes) e,
)
block-le bytes false e = omega (
  arith,
  if-else (has_extension_in bytes)
      (block_at bytes + 4 + 4 * u16_at bytes (block_at bytes + 2)) (block_at bytes) e,
)

-- the first byte
first-again : (b : ℕ) (x : Bool) (n : ℕ) → b / 64 ≡ 2 → x ≡ has_bit b 16 → n ≡ b % 16 → b
    ≡ 128 + 32 * bit (has_bit b 32) + 16 * bit x + n
first-again b x n v e c =
    let p : bit (has_bit b 32) ≡ b / 32 % 2 = bit-is (b / 32 % 2) (omega arith) in
    let q : bit x ≡ b / 16 % 2 = ap bit e ∙ bit-is (b / 16 % 2) (omega arith) in
    omega (arith, p, q)

second-again : (b : ℕ) → b < 256 → b ≡ 128 * bit (has_bit b 128) + b % 128
second-again b h = let m : bit (has_bit b 128) ≡ b / 128 % 2 = bit-is (b / 128 % 2) (omega arith) in omega (arith, m)

found-spelling : (bytes : List ℕ) → 12 ≤ length bytes → IsBytes bytes → slice_index bytes 0 / 64 ≡ 2
    → header_length_in bytes ≤ length bytes →
    bytes ≡ layout_bytes (layout_in bytes) ++ drop (header_length_in bytes) bytes
found-spelling [] long h v l = absurd (omega arith)
found-spelling (b0 ∷ []) long h v l = absurd (omega arith)
found-spelling (b0 ∷ b1 ∷ []) long h v l = absurd (omega arith)
found-spelling (b0 ∷ b1 ∷ b2 ∷ []) long h v l = absurd (omega arith)
found-spelling (b0 ∷ b1 ∷ b2 ∷ b3 ∷ []) long h v l = absurd (omega arith)
found-spelling (b0 ∷ b1 ∷ b2 ∷ b3 ∷ b4 ∷ []) long h v l = absurd (omega arith)
found-spelling (b0 ∷ b1 ∷ b2 ∷ b3 ∷ b4 ∷ b5 ∷ []) long h v l = absurd (omega arith)
found-spelling (b0 ∷ b1 ∷ b2 ∷ b3 ∷ b4 ∷ b5 ∷ b6 ∷ []) long h v l = absurd (omega arith)
found-spelling (b0 ∷ b1 ∷ b2 ∷ b3 ∷ b4 ∷ b5 ∷ b6 ∷ b7 ∷ []) long h v l = absurd (omega arith)
found-spelling (b0 ∷ b1 ∷ b2 ∷ b3 ∷ b4 ∷ b5 ∷ b6 ∷ b7 ∷ b8 ∷ []) long h v l = absurd (omega arith)
found-spelling (b0 ∷ b1 ∷ b2 ∷ b3 ∷ b4 ∷ b5 ∷ b6 ∷ b7 ∷ b8 ∷ b9 ∷ []) long h v l = absurd (omega arith)
found-spelling (b0 ∷ b1 ∷ b2 ∷ b3 ∷ b4 ∷ b5 ∷ b6 ∷ b7 ∷ b8 ∷ b9 ∷ b10 ∷ []) long h v l = absurd (omega arith)
found-spelling (b0 ∷ b1 ∷ b2 ∷ b3 ∷ b4 ∷ b5 ∷ b6 ∷ b7 ∷ b8 ∷ b9 ∷ b10 ∷ b11 ∷ tail) long h v l =
    let bytes = b0 ∷ b1 ∷ b2 ∷ b3 ∷ b4 ∷ b5 ∷ b6 ∷ b7 ∷ b8 ∷ b9 ∷ b10 ∷ b11 ∷ tail in
    let n = b0 % 16 in
    let few : 4 * n ≤ length tail = omega (arith, block-le bytes (has_extension_in bytes) refl, l) in
    let first = first-again b0 (is_some_block (block_in bytes)) (length (words_in n tail)) v (block_in-some bytes)
    (length-words_in n tail) in
    let second = second-again b1 (h 1) in
    let number = half-again b2 b3 (h 2) (h 3) in
    let time = word-again b4 b5 b6 b7 (h 4) (h 5) (h 6) (h 7) in
    let ssrc = word-again b8 b9 b10 b11 (h 8) (h 9) (h 10) (h 11) in
    let tail-bytes : IsBytes tail = IsBytes-drop 12 bytes h in
    let sources : tail ≡ words (words_in n tail) ++ drop (4 * n) tail = words-words_in n tail tail-bytes few in
    let rest : drop (4 * n) tail ≡ block_bytes (block_in bytes) ++ drop (header_length_in bytes) bytes =
    drop-drop (4 * n) 12 bytes ∙ behind bytes h l (has_extension_in bytes) refl in
    let end : tail ≡ (words (words_in n tail) ++ block_bytes (block_in bytes)) ++ drop (header_length_in bytes) bytes =
    sources ∙ ap (λ (ys : List ℕ). words (words_in n tail) ++ ys) rest
    ∙ sym (append_assoc (words (words_in n tail)) (block_bytes (block_in bytes))
    (drop (header_length_in bytes) bytes)) in
    λ i. first i ∷ second i ∷ (number i ++ (time i ++ (ssrc i ++ end i)))

IsBlock-in : (bytes : List ℕ) → IsBytes bytes → header_length_in bytes ≤ length bytes → (b : Bool)
    → has_extension_in bytes ≡ b → IsBlock (block_in bytes)
IsBlock-in bytes h l false e = subst IsBlock (sym (if-else (has_extension_in bytes) _ _ e)) tt
IsBlock-in bytes h l true e =
    let at = block_at bytes in
    let len : header_length_in bytes ≡ at + 4 + 4 * u16_at bytes (at + 2) = if-then (has_extension_in bytes) _ _ e in
    let there : block_in bytes ≡ Some (record
    { profile = u16_at bytes at; content = take (4 * u16_at bytes (at + 2)) (drop (at + 4) bytes) }) =
    if-then (has_extension_in bytes) _ _ e in
    let count : length (take (4 * u16_at bytes (at + 2)) (drop (at + 4) bytes)) ≡ 4 * u16_at bytes (at + 2) =
    omega (arith, length-take (4 * u16_at bytes (at + 2)) (drop (at + 4) bytes), length-drop (at + 4) bytes, len) in
    let p : u16_at bytes at < 2 ^ 16 = omega (arith, IsBytes-drop at bytes h 0, IsBytes-drop at bytes h 1) in
    let w : u16_at bytes (at + 2) < 2 ^ 16 =
    omega (arith, IsBytes-drop (at + 2) bytes h 0, IsBytes-drop (at + 2) bytes h 1) in
    subst IsBlock (sym there) (p, omega (arith, count), omega (arith, count, w))

IsLayout-in : (bytes : List ℕ) → IsBytes bytes → header_length_in bytes ≤ length bytes → IsLayout (layout_in bytes)
IsLayout-in bytes h l = record {
  payload_type = omega arith;
  number = omega (arith, IsBytes-drop 2 bytes h 0, IsBytes-drop 2 bytes h 1);
  time = omega (
    arith,
    IsBytes-drop 4 bytes h 0,
    IsBytes-drop 4 bytes h 1,
    IsBytes-drop 4 bytes h 2,
    IsBytes-drop 4 bytes h 3,
  );
  ssrc = omega (
    arith,
    IsBytes-drop 8 bytes h 0,
    IsBytes-drop 8 bytes h 1,
    IsBytes-drop 8 bytes h 2,
    IsBytes-drop 8 bytes h 3,
  );
  few = omega (arith, length-words_in (csrc_count_in bytes) (drop 12 bytes));
  csrc = words_in-fit (csrc_count_in bytes) (drop 12 bytes) (IsBytes-drop 12 bytes h);
  extension = IsBlock-in bytes h l (has_extension_in bytes) refl;
}

if-some : {A : Type 0} (b : Bool) (x y : A) → (if b then Some x else None) ≡ Some y → (b ≡ true) × (x ≡ y)
if-some true x y h = (refl, cc)
if-some false x y h = absurd cc

parts : (a b : Bool) → (a && b) ≡ true → (a ≡ true) × (b ≡ true)
parts true true h = (refl, refl)
parts true false h = absurd (true≢false (sym h))
parts false b h = absurd (true≢false (sym h))

le-of : (a b : ℕ) → nat_le a b ≡ true → a ≤ b
le-of a b h = grind (arith, nat_tests)

eq-of : (a b : ℕ) → (a == b) ≡ true → a ≡ b
eq-of a b h = grind (arith, nat_tests)

-- What is read is spelled so.
pub header_in-found : (map : Numbering) (bytes : List ℕ) (header : RtpHeader) → IsBytes bytes → header_in map bytes
    ≡ Some header → IsSpelled map bytes header
header_in-found map bytes header h e =
    let found = if-some (is_header bytes) (fields_in map bytes) header e in
    let tests = parts _ _ found.0 in
    let version : slice_index bytes 0 / 64 ≡ 2 = eq-of _ _ tests.0 in
    let len : header_length_in bytes ≤ length bytes = le-of _ _ tests.1 in
    let long : 12 ≤ length bytes = omega (arith, block-le bytes (has_extension_in bytes) refl, len) in
    let spelling = found-spelling bytes long h version len in
    let lay = layout_in bytes in
    let whole : header_length_in bytes ≡ length (layout_bytes lay) =
    omega (
      arith,
      ap length spelling,
      length-append (layout_bytes lay) (drop (header_length_in bytes) bytes),
      length-drop (header_length_in bytes) bytes,
      len,
    ) in
    let meaning : fields_in map bytes ≡ header_of map lay = λ i. record {
      version = 2;
      has_padding = lay.padding;
      has_extension = sym (block_in-some bytes) i;
      csrc_count = sym (length-words_in (csrc_count_in bytes) (drop 12 bytes)) i;
      marker = lay.marker;
      payload_type = lay.payload_type;
      sequence_number = lay.number;
      timestamp = lay.time;
      ssrc = lay.ssrc;
      csrc = slots lay.csrc;
      ext_vals = values_in map (block_in bytes);
      header_len = whole i;
    } in
    record {
      layout = lay;
      rest = drop (header_length_in bytes) bytes;
      sound = IsLayout-in bytes h len;
      spelling = spelling;
      meaning = sym found.1 ∙ meaning;
    }
