-- What makes the laws hold.
use Rattle.std.proofs.Common.{◌≡◌, ℕ, ◌+◌, ◌%◌, true, cond, List, [], ◌∷◌, ◌++◌, length, map, reverse, take, refl}
use Rattle.std.proofs.Common.{sym, ap, ◌∙◌, inl, inr, arith}
use Rattle.std.specs.Prelude.{All, filter, flat_map}
use Rattle.std.proofs.lemmas.Bool.{cases_lt}
use Rattle.std.proofs.lemmas.Bool.Decides.{nat_tests}
use Rattle.std.proofs.lemmas.List.{length-append, reverse-append, take_all}
use Rattle.std.proofs.lemmas.List.Elements.{All-head, All-tail}
use Rattle.std.proofs.lemmas.List.Sums.{sum_by-append, sum_by-cons}
use Rattle.payload_core_audio.specs.Red.{Block, HasRoom, IsRed, header, spelled}
use Rattle.payload_core_audio.specs.RedLaws.{PackedComesBack, ReadIsPackedAgain, WrapIsOne, WrapIsRead, WrapIsWithin}
use Rattle.payload_core_audio.specs.RedSending.{fits, masked, sent_blocks}
use Rattle.payload_core_audio.specs.RedWrapping.{IsLongestPrefix, bytes_of, levels}
use Rattle.payload_core_audio.proofs.FitLemmas.{sent-few, sent-room}
use Rattle.payload_core_audio.proofs.LayoutLemmas.{payloads_of, red-read}

-- what is packed is laid out so
pub packed-red : (blocks : List Block) (pt : ℕ) (primary : List ℕ)
    → IsRed (spelled (sent_blocks blocks) (pt % 128) primary) (sent_blocks blocks) (pt % 128) primary
packed-red blocks pt primary = record {
  is_spelled = refl;
  few = sent-few blocks;
  room =
      sent-room blocks;
  primary_pt = omega arith;
}

pub packed-comes-back : PackedComesBack
packed-comes-back blocks pt primary = red-read (spelled (sent_blocks blocks) (pt % 128) primary) (sent_blocks blocks)
    (pt % 128) primary (packed-red blocks pt primary)

-- blocks that have room are sent as they are
filter-same : (bs : List Block) → All HasRoom bs → filter fits bs ≡ bs
filter-same [] room = refl
filter-same (b ∷ bs) room =
    let here = All-head HasRoom b bs room in
    let offset = here.timestamp_offset in
    let size = here.payload in
    let fit : fits b ≡ true = grind (arith, nat_tests) in
    ap (λ t. cond t (b ∷ filter fits bs) (filter fits bs)) fit
    ∙ ap (λ xs. b ∷ xs) (filter-same bs (All-tail HasRoom b bs room))

masked-same : (bs : List Block) → All HasRoom bs → map masked bs ≡ bs
masked-same [] room = refl
masked-same (b ∷ bs) room =
    let here = All-head HasRoom b bs room in
    let pt : b.pt % 128 ≡ b.pt = omega (arith, here.pt) in
    let same : masked b ≡ b = λ i. record { pt = pt i; timestamp_offset = b.timestamp_offset; payload = b.payload } in
    ap (λ x. x ∷ map masked bs) same ∙ ap (λ xs. b ∷ xs) (masked-same bs (All-tail HasRoom b bs room))

pub packed-again : ReadIsPackedAgain
packed-again packet blocks pt primary is =
    let small : pt % 128 ≡ pt = omega (arith, is.primary_pt) in
    let same : sent_blocks blocks ≡ blocks = ap (λ xs. map masked (take 32 xs)) (filter-same blocks is.room)
    ∙ ap (map masked) (take_all 32 blocks is.few) ∙ masked-same blocks is.room in
    ap (λ bs. spelled bs (pt % 128) primary) same ∙ ap (λ n. spelled blocks n primary) small ∙ sym is.is_spelled

abbrev size_of : Block → ℕ
size_of b = 4 + length b.payload

-- the bytes of headers and payloads
bytes-spelled : (bs : List Block) → length (flat_map header bs) + length (payloads_of bs) ≡ bytes_of bs
bytes-spelled [] = refl
bytes-spelled (b ∷ bs) =
    let whole : bytes_of (b ∷ bs) ≡ 4 + length b.payload + bytes_of bs = sum_by-cons size_of b bs in
    let heads : length (flat_map header (b ∷ bs)) ≡ 4 + length (flat_map header bs) = omega arith in
    let bodies : length (payloads_of (b ∷ bs)) ≡ length b.payload + length (payloads_of bs) =
    length-append b.payload (payloads_of bs) in
    omega (arith, whole, heads, bodies, bytes-spelled bs)

pub bytes-masked : (bs : List Block) → bytes_of (map masked bs) ≡ bytes_of bs
bytes-masked [] = refl
bytes-masked (b ∷ bs) = sum_by-cons size_of (masked b) (map masked bs)
    ∙ ap (λ n. 4 + length b.payload + n) (bytes-masked bs) ∙ sym (sum_by-cons size_of b bs)

pub bytes-reverse : (bs : List Block) → bytes_of (reverse bs) ≡ bytes_of bs
bytes-reverse [] = refl
bytes-reverse (b ∷ bs) =
    let parts : bytes_of (reverse (b ∷ bs)) ≡ bytes_of (reverse bs) + bytes_of (b ∷ []) =
    ap bytes_of (reverse-append (b ∷ []) bs) ∙ sum_by-append size_of (reverse bs) (b ∷ []) in
    let one : bytes_of (b ∷ []) ≡ 4 + length b.payload = omega arith in
    omega (arith, parts, one, bytes-reverse bs, sum_by-cons size_of b bs)

pub spelled-length : (bs : List Block) (pt : ℕ) (primary : List ℕ) → length (spelled bs pt primary)
    ≡ 1 + bytes_of bs + length primary
spelled-length bs pt primary = omega (
  arith,
  length-append (flat_map header bs) (pt ∷ (payloads_of bs ++ primary)),
  length-append (payloads_of bs) primary,
  bytes-spelled bs,
)

pub wrap-within : WrapIsWithin
wrap-within r pt payload time budget sent le is =
    let w = is.wrapped le in
    let bs : List Block = take w.count (levels r.history r.distances time) in
    let long = ap length w.is_red.is_spelled ∙ spelled-length (map masked (reverse bs)) (pt % 128) payload in
    omega (arith, long, bytes-masked (reverse bs), bytes-reverse bs, w.longest.within)

pub wrap-read : WrapIsRead
wrap-read r pt payload time budget sent le is =
    let w = is.wrapped le in
    let bs : List Block = map masked (reverse (take w.count (levels r.history r.distances time))) in
    (bs, red-read sent bs (pt % 128) payload w.is_red)

-- there is one longest prefix
pub longest-one : (budget size : ℕ) (bs : List Block) (m n : ℕ) → IsLongestPrefix budget size bs m
    → IsLongestPrefix budget size bs n → m ≡ n
longest-one budget size bs m n is other = elim (cases_lt m n) [
  | inl less ↦ absurd (omega (arith, is.longest n less other.existing, other.within))
  | inr more ↦ elim (cases_lt n m) [
    | inl less' ↦ absurd (omega (arith, other.longest m less' is.existing, is.within))
    | inr more' ↦ omega arith
  ]
]

pub wrap-one : WrapIsOne
wrap-one r pt payload time budget sent other is also = elim (cases_lt budget (length payload + 1)) [
  | inl less ↦ is.unwrapped less ∙ sym (also.unwrapped less)
  | inr more ↦
      let w = is.wrapped more in
      let v = also.wrapped more in
      let ls : List Block = levels r.history r.distances time in
      w.is_red.is_spelled
      ∙ ap (λ n. spelled (map masked (reverse (take n ls))) (pt % 128) payload)
      (longest-one budget (length payload) ls w.count v.count w.longest v.longest)
      ∙ sym v.is_red.is_spelled
]
