-- What is spelled is read.
use Rattle.std.proofs.Common.{◌≡◌, ℕ, suc, ◌+◌, ◌*◌, ◌/◌, ◌%◌, ◌^◌, ◌<◌, ◌≤◌, refl, sym, ◌∙◌, ap, arith, Bool, true}
use Rattle.std.proofs.Common.{false, true≢false, List, [], ◌∷◌, ◌++◌, length, take, drop, get_or, length-append}
use Rattle.std.proofs.Common.{length-take, append_assoc}
use Rattle.std.specs.Prelude.{if◌then◌else◌, Option, Some, None, ◌==◌, ◌&&◌, nat_le, slice_index}
use Rattle.std.specs.Int.{w16, w32, to_be_bytes, from_be_bytes}
use Rattle.std.proofs.lemmas.Bool.Decides.{nat_tests}
use Rattle.std.proofs.lemmas.List.{drop-drop, take_at, drop_at}
use Rattle.std.proofs.lemmas.Nat.{from_be_bytes-to_be_bytes_4, from_be_bytes-to_be_bytes_2}
use Rattle.rtp_wire.specs.Values.{Numbering, Block, absent, values_of, block_of, two_byte_block}
use Rattle.rtp_wire.specs.Values.{image_values}
use Rattle.rtp_wire.specs.declared.header.RtpHeader.{RtpHeader}
use Rattle.rtp_wire.specs.Header.{u16_at, u32_at, words_in, has_bit, csrc_count_in, has_extension_in, block_at}
use Rattle.rtp_wire.specs.Header.{header_length_in, is_header, block_in, values_in, slots, fields_in, header_in}
use Rattle.rtp_wire.specs.Header.{header_of, layout_of, spelled, two_byte_length, image, payload_in, IsWritable}
use Rattle.rtp_wire.specs.Layout.{Layout, bit, is_some_block, block_bytes, words, layout_bytes, IsBlock, IsLayout}
use Rattle.rtp_wire.proofs.LengthsLemmas.{length-words, length-layout, block-not}
use Rattle.rtp_wire.proofs.BlockLaws.{block_of-shorter, block_of-fits, block_of-words}
use Rattle.rtp_wire.proofs.BlockLaws.{values_of-block_of}
use Rattle.rtp_wire.specs.declared.values.ExtensionValues.{ExtensionValues}

-- the first two bytes
first-version : (p x : Bool) (n : ℕ) → n ≤ 15 → (128 + 32 * bit p + 16 * bit x + n) / 64 ≡ 2
first-version true true n h = omega arith
first-version true false n h = omega arith
first-version false true n h = omega arith
first-version false false n h = omega arith

first-count : (p x : Bool) (n : ℕ) → n ≤ 15 → (128 + 32 * bit p + 16 * bit x + n) % 16 ≡ n
first-count true true n h = omega arith
first-count true false n h = omega arith
first-count false true n h = omega arith
first-count false false n h = omega arith

first-extension : (p x : Bool) (n : ℕ) → n ≤ 15 → has_bit (128 + 32 * bit p + 16 * bit x + n) 16 ≡ x
first-extension true true n h = grind (arith, nat_tests)
first-extension true false n h = grind (arith, nat_tests)
first-extension false true n h = grind (arith, nat_tests)
first-extension false false n h = grind (arith, nat_tests)

first-padding : (p x : Bool) (n : ℕ) → n ≤ 15 → has_bit (128 + 32 * bit p + 16 * bit x + n) 32 ≡ p
first-padding true true n h = grind (arith, nat_tests)
first-padding true false n h = grind (arith, nat_tests)
first-padding false true n h = grind (arith, nat_tests)
first-padding false false n h = grind (arith, nat_tests)

second-marker : (m : Bool) (n : ℕ) → n < 128 → has_bit (128 * bit m + n) 128 ≡ m
second-marker true n h = grind (arith, nat_tests)
second-marker false n h = grind (arith, nat_tests)

second-type : (m : Bool) (n : ℕ) → n < 128 → (128 * bit m + n) % 128 ≡ n
second-type true n h = omega arith
second-type false n h = omega arith

-- words are read back
pub words_in-words : (csrc rest : List ℕ) → ((k d : ℕ) → k < length csrc → get_or csrc k d < 2 ^ 32)
    → words_in (length csrc) (words csrc ++ rest) ≡ csrc
words_in-words [] rest fits = refl
words_in-words (c ∷ cs) rest fits =
    let here : c < 2 ^ 32 = fits 0 0 (omega arith) in
    let more : words_in (length cs) (words cs ++ rest) ≡ cs =
    words_in-words cs rest (λ k d h. fits (suc k) d (omega arith)) in
    let this : from_be_bytes w32 (to_be_bytes w32 c) ≡ c = from_be_bytes-to_be_bytes_4 c here in
    λ i. this i ∷ more i

if-true : {A : Type 0} (b : Bool) (x : A) → b ≡ true → (if b then Some x else None) ≡ Some x
if-true true x h = refl
if-true false x h = absurd (true≢false (sym h))

both-true : (a b : Bool) → a ≡ true → b ≡ true → (a && b) ≡ true
both-true true true h k = refl
both-true true false h k = k
both-true false b h k = h

if-then : {A : Type 0} (b : Bool) (x y : A) → b ≡ true → (if b then x else y) ≡ x
if-then true x y h = refl
if-then false x y h = absurd (true≢false (sym h))

if-else : {A : Type 0} (b : Bool) (x y : A) → b ≡ false → (if b then x else y) ≡ y
if-else true x y h = absurd (true≢false h)
if-else false x y h = refl

le-true : (a b : ℕ) → a ≤ b → nat_le a b ≡ true
le-true a b h = grind (arith, nat_tests)

eq-true : (a b : ℕ) → a ≡ b → (a == b) ≡ true
eq-true a b h = grind (arith, nat_tests)

-- bytes in which the sources, a block and the rest are
record Stands (bytes csrc : List ℕ) (ext : Option Block) (rest : List ℕ) : Type 0 where
  count : csrc_count_in bytes ≡ length csrc
  extension : has_extension_in bytes ≡ is_some_block ext
  behind : drop (12 + 4 * length csrc) bytes ≡ block_bytes ext ++ rest

module _ (bytes csrc rest : List ℕ) where
  at-block : (ext : Option Block) → Stands bytes csrc ext rest → (k : ℕ) → drop (block_at bytes + k) bytes
      ≡ drop k (block_bytes ext ++ rest)
  at-block ext s k =
      ap (λ (n : ℕ). drop (12 + 4 * n + k) bytes) s.count
      ∙ sym (drop-drop k (12 + 4 * length csrc) bytes)
      ∙ ap (drop k) s.behind

  block-profile : (b : Block) → Stands bytes csrc (Some b) rest → b.profile < 2 ^ 16 → u16_at bytes (block_at bytes)
      ≡ b.profile
  block-profile b s fits =
      ap (λ (n : ℕ). u16_at bytes n) (omega arith)
      ∙ ap (from_be_bytes w16) (at-block (Some b) s 0)
      ∙ from_be_bytes-to_be_bytes_2 b.profile fits

  block-words : (b : Block) → Stands bytes csrc (Some b) rest → length b.content / 4 < 2 ^ 16
      → u16_at bytes (block_at bytes + 2) ≡ length b.content / 4
  block-words b s fits = ap (from_be_bytes w16) (at-block (Some b) s 2)
      ∙ from_be_bytes-to_be_bytes_2 (length b.content / 4) fits

  header_length-is : (ext : Option Block) → Stands bytes csrc ext rest → IsBlock ext → header_length_in bytes
      ≡ 12 + 4 * length csrc + length (block_bytes ext)
  header_length-is None s fits = if-else (has_extension_in bytes) _ _ s.extension ∙ omega (arith, s.count)
  header_length-is (Some b) s fits =
      if-then (has_extension_in bytes) _ _ s.extension ∙ omega (arith, s.count, block-words b s fits.2, fits.1)

  block-is : (ext : Option Block) → Stands bytes csrc ext rest → IsBlock ext → block_in bytes ≡ ext
  block-is None s fits = if-else (has_extension_in bytes) _ _ s.extension
  block-is (Some b) s fits =
      let p : u16_at bytes (block_at bytes) ≡ b.profile = block-profile b s fits.0 in
      let n : 4 * u16_at bytes (block_at bytes + 2) ≡ length b.content =
      omega (arith, block-words b s fits.2, fits.1) in
      let q : take (4 * u16_at bytes (block_at bytes + 2)) (drop (block_at bytes + 4) bytes) ≡ b.content =
      ap (λ (k : ℕ). take k (drop (block_at bytes + 4) bytes)) n
      ∙ ap (take (length b.content)) (at-block (Some b) s 4)
      ∙ take_at b.content rest (length b.content) refl in
      if-then (has_extension_in bytes) _ _ s.extension ∙ (λ i. Some (record { profile = p i; content = q i }))

Stands-layout : (l : Layout) (rest : List ℕ) → IsLayout l → Stands (layout_bytes l ++ rest) l.csrc l.extension rest
Stands-layout l rest fits = record {
  count = first-count l.padding (is_some_block l.extension) (length l.csrc) fits.few;
  extension = first-extension l.padding (is_some_block l.extension) (length l.csrc) fits.few;
  behind = sym (drop-drop (4 * length l.csrc) 12 (layout_bytes l ++ rest))
      ∙ ap (drop (4 * length l.csrc)) (append_assoc (words l.csrc) (block_bytes l.extension) rest)
      ∙ drop_at (words l.csrc) (block_bytes l.extension ++ rest) (4 * length l.csrc) (length-words l.csrc);
}

-- A layout is read as what it means, whatever follows it.
pub header_in-layout : (map : Numbering) (l : Layout) (rest : List ℕ) → IsLayout l
    → header_in map (layout_bytes l ++ rest) ≡ Some (header_of map l)
header_in-layout map l rest fits =
    let bytes = layout_bytes l ++ rest in
    let s = Stands-layout l rest fits in
    let len : header_length_in bytes ≡ length (layout_bytes l) =
    header_length-is bytes l.csrc rest l.extension s fits.extension ∙ sym (length-layout l) in
    let enough : nat_le (header_length_in bytes) (length bytes) ≡ true =
    le-true _ _ (omega (arith, len, length-append (layout_bytes l) rest)) in
    let version : (slice_index bytes 0 / 64 == 2) ≡ true =
    eq-true _ _ (first-version l.padding (is_some_block l.extension) (length l.csrc) fits.few) in
    let sources : words_in (csrc_count_in bytes) (drop 12 bytes) ≡ l.csrc =
    ap (λ (n : ℕ). words_in n (drop 12 bytes)) s.count
    ∙ ap (words_in (length l.csrc)) (append_assoc (words l.csrc) (block_bytes l.extension) rest)
    ∙ words_in-words l.csrc (block_bytes l.extension ++ rest) fits.csrc in
    let padding : has_bit (slice_index bytes 0) 32 ≡ l.padding =
    first-padding l.padding (is_some_block l.extension) (length l.csrc) fits.few in
    let marker : has_bit (slice_index bytes 1) 128 ≡ l.marker =
    second-marker l.marker l.payload_type fits.payload_type in
    let type_is : slice_index bytes 1 % 128 ≡ l.payload_type = second-type l.marker l.payload_type fits.payload_type in
    let number : u16_at bytes 2 ≡ l.number = from_be_bytes-to_be_bytes_2 l.number fits.number in
    let time : u32_at bytes 4 ≡ l.time = from_be_bytes-to_be_bytes_4 l.time fits.time in
    let ssrc : u32_at bytes 8 ≡ l.ssrc = from_be_bytes-to_be_bytes_4 l.ssrc fits.ssrc in
    let block : block_in bytes ≡ l.extension = block-is bytes l.csrc rest l.extension s fits.extension in
    let fields : fields_in map bytes ≡ header_of map l = λ i. record {
      version = 2;
      has_padding = padding i;
      has_extension = s.extension i;
      csrc_count = s.count i;
      marker = marker i;
      payload_type = type_is i;
      sequence_number = number i;
      timestamp = time i;
      ssrc = ssrc i;
      csrc = slots (sources i);
      ext_vals = values_in map (block i);
      header_len = len i;
    } in
    if-true (is_header bytes) (fields_in map bytes) (both-true _ _ version enough)
    ∙ ap (λ (h : RtpHeader). Some h) fields

if-some_block : (x : Bool) (b : Block) → is_some_block (if x then Some b else None) ≡ x
if-some_block true b = refl
if-some_block false b = refl

if-values : (map : Numbering) (x : Bool) (b : Block) (v : ExtensionValues) → (x ≡ true → values_of map b ≡ v)
    → values_in map (if x then Some b else None) ≡ (if x then v else absent)
if-values map true b v e = e refl
if-values map false b v e = refl

if-fits : (x : Bool) (b : Block) → (x ≡ true → IsBlock (Some b)) → IsBlock (if x then Some b else None)
if-fits true b fits = fits refl
if-fits false b fits = tt

-- what is written has a layout
pub IsLayout-of : (map : Numbering) (h : RtpHeader) → IsWritable h → IsLayout (layout_of map h)
IsLayout-of map h w = record {
  payload_type = w.payload_type;
  number = w.sequence_number;
  time = w.timestamp;
  ssrc = w.ssrc;
  few = omega (arith, length-take h.csrc_count h.csrc, w.csrc_count);
  csrc = w.csrc;
  extension = if-fits h.has_extension (block_of map h.ext_vals) (λ x. block_of-fits map h.ext_vals (w.values x));
}

-- and means its wire image
pub header_of-layout_of : (map : Numbering) (h : RtpHeader) → IsWritable h → header_of map (layout_of map h)
    ≡ image map h
header_of-layout_of map h w =
    let count : length (take h.csrc_count h.csrc) ≡ h.csrc_count =
    omega (arith, length-take h.csrc_count h.csrc, w.csrc_count, w.csrc_slots) in
    let extension = if-some_block h.has_extension (block_of map h.ext_vals) in
    let values = if-values map h.has_extension (block_of map h.ext_vals) (image_values map h.ext_vals)
    (λ x. values_of-block_of map h.ext_vals (w.values x)) in
    λ i. record {
      version = 2;
      has_padding = h.has_padding;
      has_extension = extension i;
      csrc_count = count i;
      marker = h.marker;
      payload_type = h.payload_type;
      sequence_number = h.sequence_number;
      timestamp = h.timestamp;
      ssrc = h.ssrc;
      csrc = slots (take h.csrc_count h.csrc);
      ext_vals = values i;
      header_len = length (spelled map h);
    }

-- Reading what was written.
pub header_in-spelled : (map : Numbering) (h : RtpHeader) (rest : List ℕ) → IsWritable h
    → header_in map (spelled map h ++ rest) ≡ Some (image map h)
header_in-spelled map h rest w = header_in-layout map (layout_of map h) rest (IsLayout-of map h w)
    ∙ ap (λ (x : RtpHeader). Some x) (header_of-layout_of map h w)

-- The payload after what was written.
pub payload_in-spelled : (map : Numbering) (h : RtpHeader) (payload : List ℕ)
    → payload_in (image map h) (spelled map h ++ payload) ≡ payload
payload_in-spelled map h payload = drop_at (spelled map h) payload (length (spelled map h)) refl

-- Whole words are written.
pub length-spelled_words : (map : Numbering) (h : RtpHeader) → length (spelled map h) % 4 ≡ 0
length-spelled_words map h = omega (arith, length-layout (layout_of map h), block-words h.has_extension) where
  block-words : (x : Bool) → length (block_bytes (if x then Some (block_of map h.ext_vals) else None)) % 4 ≡ 0
  block-words false = refl
  block-words true = omega (arith, block_of-words map h.ext_vals)

-- Without sources and without a block it is twelve bytes.
pub length-spelled_least : (map : Numbering) (h : RtpHeader) → h.csrc_count ≡ 0 → h.has_extension ≡ false
    → length (spelled map h) ≡ 12
length-spelled_least map h none x =
    length-layout (layout_of map h)
    ∙ omega (arith, length-take h.csrc_count h.csrc, ap length (block-not h.has_extension (block_of map h.ext_vals) x))

-- It is no longer than in the two-byte form.
pub length-spelled_within : (map : Numbering) (h : RtpHeader) → length (spelled map h) ≤ two_byte_length map h
length-spelled_within map h = omega (
  arith,
  length-layout (layout_of map h),
  length-take h.csrc_count h.csrc,
  block-within h.has_extension,
) where
  block-within : (x : Bool) → length (block_bytes (if x then Some (block_of map h.ext_vals) else None)) ≤
      (if x then 4 + length (two_byte_block map h.ext_vals).content else 0)
  block-within false = omega arith
  block-within true = omega (arith, block_of-shorter map h.ext_vals)
