-- What is spelled so is read.
use Rattle.std.proofs.Common.{◌≡◌, ℕ, zero, suc, ◌+◌, ◌*◌, ◌/◌, ◌%◌, ◌<◌, ◌≤◌, true, false, leb, List, [], ◌∷◌, ◌++◌}
use Rattle.std.proofs.Common.{length, take, drop, Option, Some, None, refl, sym, ap, subst, ◌∙◌, append_assoc}
use Rattle.std.proofs.Common.{if◌then◌else◌, arith}
use Rattle.std.specs.Prelude.{All, flat_map, option_and_then, slice_index}
use Rattle.std.proofs.lemmas.Bool.Decides.{nat_tests}
use Rattle.std.proofs.lemmas.List.{drop_at, get_or_at, length-append, take_at}
use Rattle.std.proofs.lemmas.List.Elements.{All-head, All-tail}
use Rattle.payload_core_audio.specs.Red.{Block, HasRoom, IsNotRed, IsRed, header, spelled}
use Rattle.payload_core_audio.specs.RedReading.{Item, block_at, count_of_blocks, items_from, items_of, offset_at}
use Rattle.payload_core_audio.specs.RedReading.{primary_item, pt_at, read_blocks, read_red, redundant_item, size_at}
use Rattle.payload_core_audio.specs.RedReading.{size_of_blocks}
use Rattle.payload_core_audio.proofs.CountLemmas.{count-is}

abbrev pub payloads_of : List Block → List ℕ
payloads_of bs = flat_map (λ b. b.payload) bs

-- the fields of a header that was written
header-pt : (b : Block) (t : List ℕ) → HasRoom b → pt_at (header b ++ t) ≡ b.pt
header-pt b t room = let lt = room.pt in let e : (128 + b.pt) % 128 ≡ b.pt = omega arith in e

header-offset : (b : Block) (t : List ℕ) → HasRoom b → offset_at (header b ++ t) ≡ b.timestamp_offset
header-offset b t room =
    let lt = room.payload in
    let e : b.timestamp_offset / 64 * 64 + (b.timestamp_offset % 64 * 4 + length b.payload / 256) / 4
    ≡ b.timestamp_offset = omega arith in e

header-size : (b : Block) (t : List ℕ) → HasRoom b → size_at (header b ++ t) ≡ length b.payload
header-size b t room =
    let lt = room.payload in
    let e : (b.timestamp_offset % 64 * 4 + length b.payload / 256) % 4 * 256 + length b.payload % 256
    ≡ length b.payload = omega arith in e

block-at : (b : Block) (t rest : List ℕ) → HasRoom b → block_at (header b ++ t) (b.payload ++ rest) ≡ b
block-at b t rest room =
    let taken : take (size_at (header b ++ t)) (b.payload ++ rest) ≡ b.payload =
    ap (λ n. take n (b.payload ++ rest)) (header-size b t room) ∙ take_at b.payload rest (length b.payload) refl in
    λ i. record { pt = header-pt b t room i; timestamp_offset = header-offset b t room i; payload = taken i }

-- four bytes further
pub four-more : (k : ℕ) → 4 * suc k ≡ suc (suc (suc (suc (4 * k))))
four-more k = omega arith

-- every header has F set
headers-set : (bs : List Block) (t : List ℕ) (k : ℕ) → k < length bs
    → 128 ≤ slice_index (flat_map header bs ++ t) (4 * k)
headers-set [] t k lt = absurd (omega arith)
headers-set (b ∷ bs) t zero lt = let e : 128 ≤ 128 + b.pt = omega arith in e
headers-set (b ∷ bs) t (suc k) lt =
    let P : ℕ → Type 0 = λ n. 128 ≤ slice_index (flat_map header (b ∷ bs) ++ t) n in
    subst P (sym (four-more k)) (headers-set bs t k (omega arith))

headers-length : (bs : List Block) → length (flat_map header bs) ≡ 4 * length bs
headers-length [] = refl
headers-length (b ∷ bs) = omega (arith, headers-length bs)

-- the lengths in the headers are those of the payloads
headers-sizes : (bs : List Block) (t : List ℕ) → All HasRoom bs
    → size_of_blocks (length bs) (flat_map header bs ++ t) ≡ length (payloads_of bs)
headers-sizes [] t room = refl
headers-sizes (b ∷ bs) t room =
    ap (λ n. n + size_of_blocks (length bs) (flat_map header bs ++ t))
    (header-size b (flat_map header bs ++ t) (All-head HasRoom b bs room))
    ∙ ap (λ n. length b.payload + n) (headers-sizes bs t (All-tail HasRoom b bs room))
    ∙ sym (length-append b.payload (payloads_of bs))

items-spelled : (bs : List Block) (pt : ℕ) (t primary : List ℕ) → All HasRoom bs → pt < 128
    → items_from (suc (length bs)) (flat_map header bs ++ (pt ∷ t)) (payloads_of bs ++ primary) ≡ items_of bs pt primary
items-spelled [] pt t primary room small = let e : pt % 128 ≡ pt = omega arith in
    ap (λ n. primary_item n primary ∷ []) e
items-spelled (b ∷ bs) pt t primary room small =
    let here = All-head HasRoom b bs room in
    let hs : List ℕ = flat_map header bs ++ (pt ∷ t) in
    let ps : List ℕ = payloads_of bs ++ primary in
    let behind : drop (size_at (header b ++ hs)) (b.payload ++ ps) ≡ ps =
    ap (λ n. drop n (b.payload ++ ps)) (header-size b hs here) ∙ drop_at b.payload ps (length b.payload) refl in
    ap (λ p. redundant_item (block_at (header b ++ hs) p)
    ∷ items_from (suc (length bs)) hs (drop (size_at (header b ++ hs)) p))
    (append_assoc b.payload (payloads_of bs) primary)
    ∙ ap (λ x. redundant_item x ∷ items_from (suc (length bs)) hs
    (drop (size_at (header b ++ hs)) (b.payload ++ ps))) (block-at b hs ps here)
    ∙ ap (λ p. redundant_item b ∷ items_from (suc (length bs)) hs p) behind
    ∙ ap (λ xs. redundant_item b ∷ xs) (items-spelled bs pt t primary (All-tail HasRoom b bs room) small)

-- what is read with so many blocks that the packet has room for
pub read-some : (packet : List ℕ) (n : ℕ) → count_of_blocks packet ≡ Some n
    → 4 * n + 1 + size_of_blocks n packet ≤ length packet → read_red packet
    ≡ Some (items_from (suc n) packet (drop (4 * n + 1) packet))
read-some packet n is within =
    let items : Option (List Item) = Some (items_from (suc n) packet (drop (4 * n + 1) packet)) in
    let fits : leb (4 * n + 1 + size_of_blocks n packet) (length packet) ≡ true = grind (arith, nat_tests) in
    let nothing : Option (List Item) = None in
    ap (option_and_then (read_blocks packet)) is ∙ ap (λ t. if t then items else nothing) fits

pub read-short : (packet : List ℕ) (n : ℕ) → count_of_blocks packet ≡ Some n
    → length packet < 4 * n + 1 + size_of_blocks n packet → read_red packet ≡ None
read-short packet n is past =
    let items : Option (List Item) = Some (items_from (suc n) packet (drop (4 * n + 1) packet)) in
    let fails : leb (4 * n + 1 + size_of_blocks n packet) (length packet) ≡ false = grind (arith, nat_tests) in
    let nothing : Option (List Item) = None in
    ap (option_and_then (read_blocks packet)) is ∙ ap (λ t. if t then items else nothing) fails

pub read-none : (packet : List ℕ) → count_of_blocks packet ≡ None → read_red packet ≡ None
read-none packet is = ap (option_and_then (read_blocks packet)) is

spelled-read : (bs : List Block) (pt : ℕ) (primary : List ℕ) → length bs ≤ 32 → All HasRoom bs → pt < 128
    → read_red (spelled bs pt primary) ≡ Some (items_of bs pt primary)
spelled-read bs pt primary few room small =
    let n : ℕ = length bs in
    let hs : List ℕ = flat_map header bs in
    let behind : List ℕ = payloads_of bs ++ primary in
    let packet : List ℕ = spelled bs pt primary in
    let last : slice_index packet (4 * n) ≡ pt = get_or_at hs pt behind 0 (4 * n) (headers-length bs) in
    let count : count_of_blocks packet ≡ Some n =
    count-is packet n few (omega (arith, last)) (headers-set bs (pt ∷ behind)) in
    let sizes = headers-sizes bs (pt ∷ behind) room in
    let long : length packet ≡ 4 * n + 1 + (length (payloads_of bs) + length primary) =
    omega (arith, length-append hs (pt ∷ behind), headers-length bs, length-append (payloads_of bs) primary) in
    let dropped : drop (4 * n + 1) packet ≡ behind =
    ap (drop (4 * n + 1)) (sym (append_assoc hs (pt ∷ []) behind))
    ∙ drop_at (hs ++ pt ∷ []) behind (4 * n + 1) (length-append hs (pt ∷ []) ∙ ap (λ m. m + 1) (headers-length bs)) in
    read-some packet n count (omega (arith, long, sizes))
    ∙ ap (λ p. Some (items_from (suc n) packet p)) dropped
    ∙ ap Some (items-spelled bs pt behind primary room small)

-- every packet that is laid out so is read
pub red-read : (packet : List ℕ) (bs : List Block) (pt : ℕ) (primary : List ℕ) → IsRed packet bs pt primary
    → read_red packet ≡ Some (items_of bs pt primary)
red-read packet bs pt primary is = ap read_red is.is_spelled ∙ spelled-read bs pt primary is.few is.room is.primary_pt

-- what isn't read is laid out so by nothing
pub not-red : (packet : List ℕ) → read_red packet ≡ None → IsNotRed packet
not-red packet none = λ bs pt primary is. let some = red-read packet bs pt primary is in cc
