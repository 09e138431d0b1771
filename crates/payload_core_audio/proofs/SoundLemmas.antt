-- What is read is spelled so.
use Rattle.std.proofs.Common.{◌≡◌, ℕ, zero, suc, ◌+◌, ◌*◌, ◌/◌, ◌%◌, ◌<◌, ◌≤◌, Bool, true, false, leb, List, [], ◌∷◌}
use Rattle.std.proofs.Common.{◌++◌, length, take, drop, Option, Some, None, refl, sym, ap, subst, ◌∙◌, append_assoc}
use Rattle.std.proofs.Common.{if◌then◌else◌, arith}
use Rattle.std.specs.Prelude.{All, flat_map, option_and_then, slice_index}
use Rattle.std.proofs.lemmas.Bool.Decides.{nat_tests}
use Rattle.std.proofs.lemmas.List.{drop-drop, get_or-drop, length-drop, length-take-le, take-append-drop}
use Rattle.std.proofs.lemmas.List.Elements.{All-cons, All-nil}
use Rattle.payload_core_audio.specs.Red.{Block, HasRoom, header}
use Rattle.payload_core_audio.specs.RedReading.{IsReadAs, Item, block_at, count_of_blocks, items_from, items_of, pt_at}
use Rattle.payload_core_audio.specs.RedReading.{read_blocks, read_red, redundant_item, size_at, size_of_blocks}
use Rattle.payload_core_audio.proofs.CountLemmas.{IsCounted, counted}
use Rattle.payload_core_audio.proofs.LayoutLemmas.{four-more, payloads_of}

-- as many payloads as are asked for
pub items-length : (n : ℕ) (hs ps : List ℕ) → length (items_from n hs ps) ≡ n
items-length zero hs ps = refl
items-length (suc zero) hs ps = refl
items-length (suc (suc n)) hs ps = omega (arith, items-length (suc n) (drop 4 hs) (drop (size_at hs) ps))

-- each byte is one
abbrev pub AreBytes : List ℕ → Type 0
AreBytes text = (k : ℕ) → slice_index text k < 256

-- the blocks whose headers and payloads are there
blocks_from : ℕ → List ℕ → List ℕ → List Block
blocks_from zero hs ps = []
blocks_from (suc n) hs ps = block_at hs ps ∷ blocks_from n (drop 4 hs) (drop (size_at hs) ps)

-- the headers and payloads are those of this many blocks, and what is after them
record AreSpelled (n : ℕ) (hs ps : List ℕ) (bs : List Block) : Type 0 where
  pub headers : hs ≡ flat_map header bs ++ drop (4 * n) hs
  pub payloads : ps ≡ payloads_of bs ++ drop (size_of_blocks n hs) ps
  pub room : All HasRoom bs
  pub count : length bs ≡ n
  pub items : items_from (suc n) hs ps ≡ items_of bs (pt_at (drop (4 * n) hs)) (drop (size_of_blocks n hs) ps)

-- a header that was read is written so
header-back : (a b c d : ℕ) (rest ps : List ℕ) → AreBytes (a ∷ b ∷ c ∷ d ∷ rest) → 128 ≤ a
    → c % 4 * 256 + d ≤ length ps → header (block_at (a ∷ b ∷ c ∷ d ∷ rest) ps) ≡ a ∷ b ∷ c ∷ d ∷ []
header-back a b c d rest ps bytes set within =
    let a' : a < 256 = bytes 0 in
    let c' : c < 256 = bytes 2 in
    let d' : d < 256 = bytes 3 in
    let size : length (take (c % 4 * 256 + d) ps) ≡ c % 4 * 256 + d = length-take-le (c % 4 * 256 + d) ps within in
    let first : 128 + a % 128 ≡ a = omega arith in
    let second : (b * 64 + c / 4) / 64 ≡ b = omega arith in
    let third : (b * 64 + c / 4) % 64 * 4 + length (take (c % 4 * 256 + d) ps) / 256 ≡ c = omega (arith, size) in
    let fourth : length (take (c % 4 * 256 + d) ps) % 256 ≡ d = omega (arith, size) in
    λ i. first i ∷ second i ∷ third i ∷ fourth i ∷ []

block-room : (a b c d : ℕ) (rest ps : List ℕ) → AreBytes (a ∷ b ∷ c ∷ d ∷ rest) → c % 4 * 256 + d ≤ length ps
    → HasRoom (block_at (a ∷ b ∷ c ∷ d ∷ rest) ps)
block-room a b c d rest ps bytes within =
    let b' : b < 256 = bytes 1 in
    let c' : c < 256 = bytes 2 in
    let d' : d < 256 = bytes 3 in
    let size : length (take (c % 4 * 256 + d) ps) ≡ c % 4 * 256 + d = length-take-le (c % 4 * 256 + d) ps within in
    record { pt = omega arith; timestamp_offset = omega arith; payload = omega (arith, size) }

blocks-spelled : (n : ℕ) (hs ps : List ℕ) → AreBytes hs → ((j : ℕ) → j < n → 128 ≤ slice_index hs (4 * j))
    → 4 * n ≤ length hs → size_of_blocks n hs ≤ length ps → AreSpelled n hs ps (blocks_from n hs ps)
unfolding blocks_from
blocks-spelled zero hs ps bytes set long within =
    record { headers = refl; payloads = refl; room = All-nil HasRoom; count = refl; items = refl }
blocks-spelled (suc n) [] ps bytes set long within = let past : 4 * suc n ≤ 0 = long in absurd (omega arith)
blocks-spelled (suc n) (a ∷ []) ps bytes set long within = let past : 4 * suc n ≤ 1 = long in absurd (omega arith)
blocks-spelled (suc n) (a ∷ b ∷ []) ps bytes set long within = let past : 4 * suc n ≤ 2 = long in absurd (omega arith)
blocks-spelled (suc n) (a ∷ b ∷ c ∷ []) ps bytes set long within = let past : 4 * suc n ≤ 3 = long in
    absurd (omega arith)
blocks-spelled (suc n) (a ∷ b ∷ c ∷ d ∷ rest) ps bytes set long within =
    let hs : List ℕ = a ∷ b ∷ c ∷ d ∷ rest in
    let size : ℕ = c % 4 * 256 + d in
    let sizes : ℕ = size_of_blocks n rest in
    let block : Block = block_at hs ps in
    let behind : List ℕ = drop size ps in
    let bs : List Block = blocks_from n rest behind in
    let here : 128 ≤ a = set 0 (omega arith) in
    let room : size + sizes ≤ length ps = within in
    let fits : size ≤ length ps = omega arith in
    let later : (j : ℕ) → j < n → 128 ≤ slice_index rest (4 * j) = λ j lt.
    let P : ℕ → Type 0 = λ m. 128 ≤ slice_index hs m in
    let there : 128 ≤ slice_index hs (4 * suc j) = set (suc j) (omega arith) in
    subst P (four-more j) there in
    let rest_bytes : AreBytes rest = λ k. bytes (suc (suc (suc (suc k)))) in
    let whole = blocks-spelled n rest behind rest_bytes later (omega (arith, long))
    (omega (arith, length-drop size ps)) in
    let back = header-back a b c d rest ps bytes here fits in
    let further : drop (4 * suc n) hs ≡ drop (4 * n) rest = ap (λ m. drop m hs) (four-more n) in
    let left : drop (size + sizes) ps ≡ drop sizes behind = sym (drop-drop sizes size ps) in
    record {
      headers =
          ap (λ t. a ∷ b ∷ c ∷ d ∷ t) whole.headers
          ∙ ap (λ h. h ++ (flat_map header bs ++ drop (4 * n) rest)) (sym back)
          ∙ sym (append_assoc (header block) (flat_map header bs) (drop (4 * n) rest))
          ∙ ap (λ t. (header block ++ flat_map header bs) ++ t) (sym further);
      payloads =
          sym (take-append-drop size ps)
          ∙ ap (λ t. take size ps ++ t) whole.payloads
          ∙ sym (append_assoc (take size ps) (payloads_of bs) (drop sizes behind))
          ∙ ap (λ t. (take size ps ++ payloads_of bs) ++ t) (sym left);
      room = All-cons HasRoom block bs (block-room a b c d rest ps bytes fits) whole.room;
      count = ap suc whole.count;
      items =
          ap (λ xs. redundant_item block ∷ xs) whole.items
          ∙ ap (λ h. redundant_item block ∷ items_of bs (pt_at h) (drop sizes behind)) (sym further)
          ∙ ap (λ p. redundant_item block ∷ items_of bs (pt_at (drop (4 * suc n) hs)) p) (sym left);
    }

-- what is read of a packet of this many blocks is in it
blocks-read : (packet : List ℕ) (n : ℕ) → AreBytes packet → IsCounted packet n
    → 4 * n + 1 + size_of_blocks n packet ≤ length packet
    → IsReadAs packet (items_from (suc n) packet (drop (4 * n + 1) packet))
blocks-read packet n bytes is within =
    let behind : List ℕ = drop (4 * n + 1) packet in
    let sizes : ℕ = size_of_blocks n packet in
    let whole = blocks-spelled n packet behind bytes is.set (omega arith)
    (omega (arith, length-drop (4 * n + 1) packet)) in
    let bs : List Block = blocks_from n packet behind in
    let last : slice_index (drop (4 * n) packet) 0 ≡ slice_index packet (4 * n) =
    get_or-drop (4 * n) packet 0 0 ∙ ap (slice_index packet) (omega arith) in
    let clear : slice_index (drop (4 * n) packet) 0 < 128 = omega (arith, is.clear, last) in
    let pt : ℕ = pt_at (drop (4 * n) packet) in
    let at_end : drop (4 * n) packet ≡ pt ∷ behind =
    one_more (drop (4 * n) packet) clear (omega (arith, length-drop (4 * n) packet))
    ∙ ap (λ t. pt ∷ t) (drop-drop 1 (4 * n) packet) in
    record {
      blocks = bs;
      pt = pt;
      primary = drop sizes behind;
      is_red = record {
        is_spelled = whole.headers ∙ ap (λ t. flat_map header bs ++ t) at_end
            ∙ ap (λ t. flat_map header bs ++ (pt ∷ t)) whole.payloads;
        few = omega (arith, whole.count, is.few);
        room = whole.room;
        primary_pt = omega arith;
      };
      items_are = whole.items;
    }
  where
    one_more : (text : List ℕ) → slice_index text 0 < 128 → 0 < length text → text ≡ pt_at text ∷ drop 1 text
    one_more [] small some = absurd (omega arith)
    one_more (x ∷ xs) small some = let e : x ≡ x % 128 = omega (arith, small) in ap (λ y. y ∷ xs) e

-- what is read is in the packet
pub red-sound : (packet : List ℕ) (items : List Item) → AreBytes packet → read_red packet ≡ Some items
    → IsReadAs packet items
red-sound packet items bytes is = by_count (count_of_blocks packet) refl is
  where
    by_room : (n : ℕ) (fits : Bool) → leb (4 * n + 1 + size_of_blocks n packet) (length packet) ≡ fits
        → IsCounted packet n
        → (if fits then Some (items_from (suc n) packet (drop (4 * n + 1) packet)) else None) ≡ Some items
        → IsReadAs packet items
    by_room n true e counted is =
        let within : 4 * n + 1 + size_of_blocks n packet ≤ length packet = grind (arith, nat_tests) in
        let same : items_from (suc n) packet (drop (4 * n + 1) packet) ≡ items = cc in
        subst (IsReadAs packet) same (blocks-read packet n bytes counted within)
    by_room n false e counted is = absurd (cc)

    by_count : (count : Option ℕ) → count_of_blocks packet ≡ count → option_and_then (read_blocks packet) count
        ≡ Some items → IsReadAs packet items
    by_count None e is = absurd (cc)
    by_count (Some n) e is = by_room n (leb (4 * n + 1 + size_of_blocks n packet) (length packet)) refl
        (counted packet n e) is
