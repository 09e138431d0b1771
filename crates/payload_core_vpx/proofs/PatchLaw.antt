-- What makes patches keep their law.
use Rattle.std.proofs.Common.{◌≡◌, ℕ, ◌+◌, ◌*◌, ◌/◌, ◌%◌, ◌<◌, ◌≤◌, Bool, true, false, ltb, eqb, List, [], ◌∷◌, drop}
use Rattle.std.proofs.Common.{length, None, Some, Ok, Option, if◌then◌else◌, refl, sym, ap, subst, ◌∙◌, arith}
use Rattle.std.specs.Prelude.{◌&&◌, ◌||◌, slice_index}
use Rattle.std.specs.Option.{ForSome}
use Rattle.std.proofs.lemmas.Bool.Decides.{nat_tests}
use Rattle.std.proofs.lemmas.List.{length-drop}
use Rattle.payload_core_base.specs.Bytes.{has_bit}
use Rattle.payload_core_vpx.specs.Vp8Descriptor.{begins_frame, described_in, key_idx_in, key_place}
use Rattle.payload_core_vpx.specs.Vp8Descriptor.{layout_size, parsed, parsed_in, picture_id_in, shape_of, shape_with}
use Rattle.payload_core_vpx.specs.Vp8Descriptor.{tl0_pic_idx_in, tl0_place, with_frame}
use Rattle.payload_core_vpx.specs.Vp8Patches.{Reaches, first_of_two, key_idx_refusal, max_picture_id, patch_of}
use Rattle.payload_core_vpx.specs.Vp8Patches.{patched, picture_id_end, picture_id_refusal, refusal_of_build}
use Rattle.payload_core_vpx.specs.Vp8Patches.{tl0_pic_idx_refusal, with_key_idx, with_low, with_picture_id}
use Rattle.payload_core_vpx.specs.Vp8Patches.{with_tl0_pic_idx}
use Rattle.payload_core_vpx.specs.Vp8PatchLaw.{ChangesIdsOnly, PatchHolds, PatchLaw, or_old, own_ids, with_ids}
use Rattle.payload_core_vpx.specs.declared.vp8_descriptor.Shape.{Shape}
use Rattle.payload_core_vpx.specs.declared.vp8_descriptor.Vp8Descriptor.{Vp8Descriptor}
use Rattle.payload_core_vpx.specs.declared.vp8_patch.Vp8PatchBuilder.{Vp8PatchBuilder}
use Rattle.payload_core_vpx.specs.declared.vp8_patch.Vp8PatchError.{Vp8PatchError}
use Rattle.payload_core_vpx.specs.declared.vp8_patch.Vp8PatchError.TheVariants.{KeyIdxMissing, KeyIdxTooLarge}
use Rattle.payload_core_vpx.specs.declared.vp8_patch.Vp8PatchError.TheVariants.{PictureIdMissing, PictureIdTooLarge}
use Rattle.payload_core_vpx.specs.declared.vp8_patch.Vp8PatchError.TheVariants.{Tl0PicIdxMissing}
use Rattle.payload_core_vpx.proofs.PatchWrites.{OffId, OffPlace, drop-id, drop-key, drop-tl0, id-key, id-long_low}
use Rattle.payload_core_vpx.proofs.PatchWrites.{id-m_bit, id-other, id-short_low, id-tl0, key-low, key-other}
use Rattle.payload_core_vpx.proofs.PatchWrites.{key-there, key-tid_and_y, key-undone, length-id, length-key}
use Rattle.payload_core_vpx.proofs.PatchWrites.{length-tl0, long-there, long-undone, short-there, short-undone}
use Rattle.payload_core_vpx.proofs.PatchWrites.{tl0-key, tl0-other, tl0-there, tl0-undone}

-- if the ids are in a payload of a shape, and that there is room for them
pub record Placed (s : Shape) (size : ℕ) : Type 0 where
  pub id_end : 2 ≤ picture_id_end s.is_long
  pub behind_id : s.has_picture_id ≡ true → picture_id_end s.is_long < tl0_place s
  pub behind_tl0 : s.has_tl0_pic_idx ≡ true → tl0_place s < key_place s
  pub in_order : tl0_place s ≤ key_place s
  pub from_two : 2 ≤ tl0_place s
  pub room : key_place s < size
  pub whole : key_place s ≤ layout_size s
  pub whole_room : layout_size s < size
  pub behind_key : s.has_key_idx ≡ true → key_place s < layout_size s

-- the ids that a patch has are ids that the shape has
pub record Fits (s : Shape) (id tl0 key : Option ℕ) : Type 0 where
  pub has_id : ForSome id (λ _. s.has_picture_id ≡ true)
  pub has_tl0 : ForSome tl0 (λ _. s.has_tl0_pic_idx ≡ true)
  pub has_key : ForSome key (λ _. s.has_key_idx ≡ true)
  pub small_id : ForSome id (λ v. v ≤ max_picture_id s)
  pub small_key : ForSome key (λ v. v ≤ 31)

two_refusals : (a b : Option Vp8PatchError) → first_of_two a b ≡ None → (a ≡ None) × (b ≡ None)
two_refusals None b e = (refl, e)
two_refusals (Some x) b e = absurd (cc)

has_id_by : (has : Bool) (e : Option Vp8PatchError) → (if has then e else Some PictureIdMissing) ≡ None → has ≡ true
has_id_by true e is = refl
has_id_by false e is = absurd (cc)

has_tl0_by : (has : Bool) → (if has then None else Some Tl0PicIdxMissing) ≡ None → has ≡ true
has_tl0_by true is = refl
has_tl0_by false is = absurd (cc)

has_key_by : (has : Bool) (e : Option Vp8PatchError) → (if has then e else Some KeyIdxMissing) ≡ None → has ≡ true
has_key_by true e is = refl
has_key_by false e is = absurd (cc)

fits_id : (s : Shape) (o : Option ℕ) → picture_id_refusal s o ≡ None → ForSome o (λ _. s.has_picture_id ≡ true)
fits_id s None e id is = absurd (cc)
fits_id s (Some v) e id is = has_id_by s.has_picture_id _ e

fits_tl0 : (s : Shape) (o : Option ℕ) → tl0_pic_idx_refusal s o ≡ None → ForSome o (λ _. s.has_tl0_pic_idx ≡ true)
fits_tl0 s None e id is = absurd (cc)
fits_tl0 s (Some v) e id is = has_tl0_by s.has_tl0_pic_idx e

fits_key : (s : Shape) (o : Option ℕ) → key_idx_refusal s o ≡ None → ForSome o (λ _. s.has_key_idx ≡ true)
fits_key s None e id is = absurd (cc)
fits_key s (Some v) e id is = has_key_by s.has_key_idx _ e

within_by : (has : Bool) (max v : ℕ) (e e' : Vp8PatchError)
    → (if has then (if ltb max v then Some e else None) else Some e') ≡ None → v ≤ max
within_by true max v e e' is = by_test (ltb max v) refl is
  where
    by_test : (above : Bool) → ltb max v ≡ above → (if above then Some e else None) ≡ None → v ≤ max
    by_test true t q = absurd (cc)
    by_test false t q = grind (arith, nat_tests)
within_by false max v e e' is = absurd (cc)

small_id_of : (s : Shape) (o : Option ℕ) → picture_id_refusal s o ≡ None → ForSome o (λ v. v ≤ max_picture_id s)
small_id_of s None e v is = absurd (cc)
small_id_of s (Some x) e v is =
    let same : x ≡ v = cc in
    let within : x ≤ max_picture_id s = within_by s.has_picture_id (max_picture_id s) x PictureIdTooLarge
    PictureIdMissing e in
    let P : ℕ → Type 0 = λ n. n ≤ max_picture_id s in
    subst P same within

small_key_of : (s : Shape) (o : Option ℕ) → key_idx_refusal s o ≡ None → ForSome o (λ v. v ≤ 31)
small_key_of s None e v is = absurd (cc)
small_key_of s (Some x) e v is =
    let same : x ≡ v = cc in
    let within : x ≤ 31 = within_by s.has_key_idx 31 x KeyIdxTooLarge KeyIdxMissing e in
    let P : ℕ → Type 0 = λ n. n ≤ 31 in
    subst P same within

fits : (s : Shape) (id tl0 key : Option ℕ)
    → refusal_of_build (record { shape = s; picture_id = id; tl0_pic_idx = tl0; key_idx = key }) ≡ None
    → Fits s id tl0 key
fits s id tl0 key e =
    let first = two_refusals (picture_id_refusal s id) _ e in
    let second = two_refusals (tl0_pic_idx_refusal s tl0) (key_idx_refusal s key) first.1 in
    record {
      has_id = fits_id s id first.0;
      has_tl0 = fits_tl0 s tl0 second.0;
      has_key =
          fits_key s key second.1;
      small_id = small_id_of s id first.0;
      small_key = small_key_of s key second.1;
    }

-- the places of an extended descriptor
placed : (i m l b : Bool) (size : ℕ) → 2 + (if i then (if m then 2 else 1) else 0) + (if l then 1 else 0) +
    (if b then 1 else 0) < size
    → (2 ≤ (if m then 3 else 2)) × (i ≡ true → (if m then 3 else 2) < 2 + (if i then (if m then 2 else 1) else 0))
    × (l ≡ true → 2 + (if i then (if m then 2 else 1) else 0) < 2 + (if i then (if m then 2 else 1) else 0) +
    (if l then 1 else 0)) × (2 + (if i then (if m then 2 else 1) else 0) + (if l then 1 else 0) < size)
placed true true true b size lt = (omega arith, (λ e. omega arith), (λ e. omega arith), omega arith)
placed true true false b size lt = (omega arith, (λ e. omega arith), (λ e. absurd (cc)), omega arith)
placed true false true b size lt = (omega arith, (λ e. omega arith), (λ e. omega arith), omega arith)
placed true false false b size lt = (omega arith, (λ e. omega arith), (λ e. absurd (cc)), omega arith)
placed false true true b size lt = (omega arith, (λ e. absurd (cc)), (λ e. omega arith), omega arith)
placed false true false b size lt = (omega arith, (λ e. absurd (cc)), (λ e. absurd (cc)), omega arith)
placed false false true b size lt = (omega arith, (λ e. absurd (cc)), (λ e. omega arith), omega arith)
placed false false false b size lt = (omega arith, (λ e. absurd (cc)), (λ e. absurd (cc)), omega arith)

own_has : (has : Bool) (o : Option ℕ) → ForSome (if has then o else None) (λ _. has ≡ true)
own_has true o v e = refl
own_has false o v e = absurd (cc)

id_undone : (i m : Bool) (o : Option ℕ) (p : List ℕ) → ForSome o (λ _. i ≡ true)
    → (i ≡ true → picture_id_end m < length p) → slice_index p 3 < 256
    → with_picture_id m (if i then (if m then Some (slice_index p 2 % 128 * 256 + slice_index p 3)
    else Some (slice_index p 2 % 128)) else None) (with_picture_id m o p) ≡ p
id_undone true true o p has room byte = long-undone p (room refl) byte o
id_undone true false o p has room byte = short-undone o p (room refl)
id_undone false m None p has room byte = refl
id_undone false m (Some v) p has room byte = let no : false ≡ true = has v refl in absurd (cc)

tl0_undone : (l : Bool) (t : ℕ) (o : Option ℕ) (p : List ℕ) → ForSome o (λ _. l ≡ true)
    → with_tl0_pic_idx t (if l then Some (slice_index p t) else None) (with_tl0_pic_idx t o p) ≡ p
tl0_undone true t o p has = tl0-undone t o p
tl0_undone false t None p has = refl
tl0_undone false t (Some v) p has = let no : false ≡ true = has v refl in absurd (cc)

key_undone : (has_key : Bool) (k : ℕ) (o : Option ℕ) (p : List ℕ) → ForSome o (λ _. has_key ≡ true) → k < length p
    → with_key_idx k (if has_key then Some (slice_index p k % 32) else None) (with_key_idx k o p) ≡ p
key_undone true k o p has lt = key-undone k o p lt
key_undone false k None p has lt = refl
key_undone false k (Some v) p has lt = let no : false ≡ true = has v refl in absurd (cc)

-- what is read of a payload whose bytes are those with the new ids
id_read : (i m : Bool) (o : Option ℕ) (p q : List ℕ) → ForSome o (λ _. i ≡ true)
    → ForSome o (λ v. v ≤ (if m then 32767 else 127)) → (i ≡ true → picture_id_end m < length p)
    → (i ≡ true → slice_index q 2 ≡ slice_index (with_picture_id m o p) 2)
    → (i ≡ true → m ≡ true → slice_index q 3 ≡ slice_index (with_picture_id m o p) 3)
    → (if i then (if m then Some (slice_index q 2 % 128 * 256 + slice_index q 3) else Some (slice_index q 2 % 128))
    else None)
    ≡ or_old o (if i then (if m then Some (slice_index p 2 % 128 * 256 + slice_index p 3)
    else Some (slice_index p 2 % 128)) else None)
id_read false m None p q has small room two three = refl
id_read false m (Some v) p q has small room two three = let no : false ≡ true = has v refl in absurd (cc)
id_read true false None p q has small room two three = ap (λ n. Some (n % 128)) (two refl)
id_read true false (Some v) p q has small room two three =
    ap (λ n. Some (n % 128)) (two refl ∙ short-there v p (room refl))
    ∙ ap (λ (n : ℕ). Some n) (id-short_low v (slice_index p 2) (small v refl))
id_read true true None p q has small room two three = ap (λ n. Some (n % 128 * 256 + slice_index q 3)) (two refl)
    ∙ ap (λ n. Some (slice_index p 2 % 128 * 256 + n)) (three refl refl)
id_read true true (Some v) p q has small room two three =
    let there = long-there v p (room refl) in
    ap (λ n. Some (n % 128 * 256 + slice_index q 3)) (two refl ∙ there.0)
    ∙ ap (λ n. Some (with_low 128 (v / 256) (slice_index p 2) % 128 * 256 + n)) (three refl refl ∙ there.1)
    ∙ ap (λ (n : ℕ). Some n) (id-long_low v (slice_index p 2) (small v refl))

tl0_read : (l : Bool) (t : ℕ) (o : Option ℕ) (p q : List ℕ) → ForSome o (λ _. l ≡ true) → t < length p
    → (l ≡ true → slice_index q t ≡ slice_index (with_tl0_pic_idx t o p) t)
    → (if l then Some (slice_index q t) else None) ≡ or_old o (if l then Some (slice_index p t) else None)
tl0_read false t None p q has room there = refl
tl0_read false t (Some v) p q has room there = let no : false ≡ true = has v refl in absurd (cc)
tl0_read true t None p q has room there = ap (λ (n : ℕ). Some n) (there refl)
tl0_read true t (Some v) p q has room there = ap (λ (n : ℕ). Some n) (there refl ∙ tl0-there t v p room)

key_read : (has_key : Bool) (k : ℕ) (o : Option ℕ) (p : List ℕ) → ForSome o (λ _. has_key ≡ true)
    → ForSome o (λ v. v ≤ 31) → k < length p
    → (if has_key then Some (slice_index (with_key_idx k o p) k % 32) else None)
    ≡ or_old o (if has_key then Some (slice_index p k % 32) else None)
key_read false k None p has small room = refl
key_read false k (Some v) p has small room = let no : false ≡ true = has v refl in absurd (cc)
key_read true k None p has small room = refl
key_read true k (Some v) p has small room =
    ap (λ n. Some (n % 32)) (key-there k v p room) ∙ ap (λ (n : ℕ). Some n) (key-low v (slice_index p k) (small v refl))

tl0_over : (t : ℕ) (o : Option ℕ) (q p : List ℕ) → slice_index q t ≡ slice_index p t → t < length q → t < length p
    → slice_index (with_tl0_pic_idx t o q) t ≡ slice_index (with_tl0_pic_idx t o p) t
tl0_over t None q p same in_q in_p = same
tl0_over t (Some v) q p same in_q in_p = tl0-there t v q in_q ∙ sym (tl0-there t v p in_p)

long_end : (m : Bool) → m ≡ true → (t : ℕ) → picture_id_end m < t → 3 < t
long_end true e t lt = lt
long_end false e t lt = absurd (cc)

-- the shape of an extended descriptor with this M bit
abbrev shape_at : ℕ → Bool → Shape
shape_at f long = record {
  is_extended = true;
  has_picture_id = has_bit 128 f;
  is_long = long;
  has_tl0_pic_idx =
      has_bit 64 f;
  has_key_byte = has_bit 32 f || has_bit 16 f;
  has_key_idx = has_bit 16 f;
}

and_same : (i a b : Bool) → (i ≡ true → a ≡ b) → (i && a) ≡ (i && b)
and_same true a b same = same refl
and_same false a b same = refl

-- the M bit counts with a picture id alone
same_shape : (f : ℕ) (a b : Bool) → (has_bit 128 f ≡ true → a ≡ b) → shape_with true f a ≡ shape_with true f b
same_shape f a b same = ap (shape_at f) (and_same (has_bit 128 f) a b same)

-- a payload with these bytes has the same shape
abbrev Stays : Shape → List ℕ → Type 0
Stays s p = (q : List ℕ) → slice_index q 0 ≡ slice_index p 0 → slice_index q 1 ≡ slice_index p 1
    → (s.has_picture_id ≡ true → slice_index q 2 / 128 ≡ slice_index p 2 / 128) → shape_of q ≡ s

extended_stays : (p : List ℕ) → has_bit 128 (slice_index p 0) ≡ true
    → Stays (shape_with true (slice_index p 1) (has_bit 128 (slice_index p 2))) p
extended_stays p x q zero_is one_is two_is =
    ap (λ n. shape_with (has_bit 128 n) (slice_index q 1) (has_bit 128 (slice_index q 2))) zero_is
    ∙ ap (λ b. shape_with b (slice_index q 1) (has_bit 128 (slice_index q 2))) x
    ∙ ap (λ n. shape_with true n (has_bit 128 (slice_index q 2))) one_is
    ∙ same_shape (slice_index p 1) (has_bit 128 (slice_index q 2)) (has_bit 128 (slice_index p 2))
    (λ has. ap (λ n. eqb (n % 2) 1) (two_is has))

-- K announces the byte that KEYIDX is in
key_byte : (n : ℕ) (t k : Bool) → k ≡ true → n < n + (if t || k then 1 else 0)
key_byte n true k e = omega arith
key_byte n false true e = omega arith
key_byte n false false e = absurd (cc)

parsed_some : (q : List ℕ) → 0 < length q → parsed q ≡ parsed_in (shape_of q) q
parsed_some [] lt = absurd (omega arith)
parsed_some (b ∷ bs) lt = refl

with_frame_some : (d : Vp8Descriptor) (rest : List ℕ) → 0 < length rest → with_frame d rest ≡ Ok d
with_frame_some d [] lt = absurd (omega arith)
with_frame_some d (b ∷ bs) lt = refl

-- a descriptor's own ids are not refused
pub none_of : (a b c : Option Vp8PatchError) → a ≡ None → b ≡ None → c ≡ None → first_of_two a (first_of_two b c) ≡ None
none_of None None None e f g = refl
none_of (Some x) b c e f g = absurd (cc)
none_of None (Some x) c e f g = absurd (cc)
none_of None None (Some x) e f g = absurd (cc)

pub not_above : (n max : ℕ) (e : Vp8PatchError) → n ≤ max → (if ltb max n then Some e else None) ≡ None
not_above n max e le = let low : ltb max n ≡ false = grind (arith, nat_tests) in
    ap (λ t. if t then Some e else None) low

own_id_fits : (s : Shape) (p : List ℕ) → slice_index p 3 < 256 → picture_id_refusal s (picture_id_in s p) ≡ None
own_id_fits s p byte = by_width s.has_picture_id s.is_long
  where
    by_width : (i m : Bool) → picture_id_refusal (record s { has_picture_id = i; is_long = m })
        (picture_id_in (record s { has_picture_id = i; is_long = m }) p) ≡ None
    by_width true true = not_above (slice_index p 2 % 128 * 256 + slice_index p 3) 32767 PictureIdTooLarge
        (omega (arith, byte))
    by_width true false = not_above (slice_index p 2 % 128) 127 PictureIdTooLarge (omega arith)
    by_width false m = refl

own_tl0_fits : (s : Shape) (p : List ℕ) → tl0_pic_idx_refusal s (tl0_pic_idx_in s p) ≡ None
own_tl0_fits s p = by_there s.has_tl0_pic_idx (slice_index p (tl0_place s))
  where
    by_there : (l : Bool) (v : ℕ) → tl0_pic_idx_refusal (record s { has_tl0_pic_idx = l })
        (if l then Some v else None) ≡ None
    by_there true v = refl
    by_there false v = refl

own_key_fits : (s : Shape) (p : List ℕ) → key_idx_refusal s (key_idx_in s p) ≡ None
own_key_fits s p = by_there s.has_key_idx (slice_index p (key_place s))
  where
    by_there : (k : Bool) (v : ℕ) → key_idx_refusal (record s { has_key_idx = k })
        (if k then Some (v % 32) else None) ≡ None
    by_there true v = not_above (v % 32) 31 KeyIdxTooLarge (omega arith)
    by_there false v = refl

module _ (s : Shape) (p : List ℕ) (at : Placed s (length p)) (stays : Stays s p) (byte : slice_index p 3 < 256) where
  off_id_tl0 : (o : Option ℕ) → ForSome o (λ _. s.has_picture_id ≡ true) → OffId s.is_long o (tl0_place s)
  off_id_tl0 o has v e = let behind = at.behind_id (has v e) in let end = at.id_end in
      ((λ q. omega (arith, q, behind, end)), (λ q. omega (arith, q, behind)))

  off_id_key : (o : Option ℕ) → ForSome o (λ _. s.has_picture_id ≡ true) → OffId s.is_long o (key_place s)
  off_id_key o has v e = let behind = at.behind_id (has v e) in let end = at.id_end in let order = at.in_order in
      ((λ q. omega (arith, q, behind, end, order)), (λ q. omega (arith, q, behind, order)))

  off_tl0_key : (o : Option ℕ) → ForSome o (λ _. s.has_tl0_pic_idx ≡ true) → OffPlace (tl0_place s) o (key_place s)
  off_tl0_key o has v e q = omega (arith, q, at.behind_tl0 (has v e))

  module _ (id tl0 key : Option ℕ) (fit : Fits s id tl0 key) where
    abbrev builder : Vp8PatchBuilder
    builder = record { shape = s; picture_id = id; tl0_pic_idx = tl0; key_idx = key }

    abbrev id_put : List ℕ
    id_put = with_picture_id s.is_long id p

    abbrev tl0_put : List ℕ
    tl0_put = with_tl0_pic_idx (tl0_place s) tl0 id_put

    reaches : Reaches (patch_of builder) (length p)
    reaches = record {
      picture_id = λ v e. omega (arith, at.behind_id (fit.has_id v e), at.in_order, at.room);
      tl0_pic_idx = λ v e. omega (arith, at.in_order, at.room);
      key_idx = λ v e. at.room;
    }

    ids_only : ChangesIdsOnly (patch_of builder) p (patched (patch_of builder) p)
    ids_only = record {
      same_length = length-key (key_place s) key tl0_put ∙ length-tl0 (tl0_place s) tl0 id_put
          ∙ length-id s.is_long id p;
      other_bytes = λ n apart. key-other (key_place s) key tl0_put n apart.key_idx
          ∙ tl0-other (tl0_place s) tl0 id_put n apart.tl0_pic_idx ∙ id-other s.is_long id p n apart.picture_id;
      m_bit = λ has.
          let behind = at.behind_id has in
          let end = at.id_end in
          let order = at.in_order in
          let two : 2 < length p = omega (arith, behind, end, order, at.room) in
          ap (λ n. n / 128) (key-other (key_place s) key tl0_put 2 (λ v e q. omega (arith, q, behind, end, order))
          ∙ tl0-other (tl0_place s) tl0 id_put 2 (λ v e q. omega (arith, q, behind, end)))
          ∙ id-m_bit s.is_long id p two;
      tid_and_y = λ has.
          let long = length-tl0 (tl0_place s) tl0 id_put ∙ length-id s.is_long id p in
          let room : key_place s < length tl0_put = omega (arith, long, at.room) in
          key-tid_and_y (key_place s) key tl0_put room
          ∙ ap (λ n. n / 32) (tl0-other (tl0_place s) tl0 id_put (key_place s) (off_tl0_key tl0 fit.has_tl0)
          ∙ id-other s.is_long id p (key_place s) (off_id_key id fit.has_id));
    }

    restored : patched (patch_of (own_ids (described_in s p))) (patched (patch_of builder) p) ≡ p
    restored =
        let own_id : Option ℕ = picture_id_in s p in
        let own_tl0 : Option ℕ = tl0_pic_idx_in s p in
        let own_key : Option ℕ = key_idx_in s p in
        let I : List ℕ → List ℕ = λ q. with_picture_id s.is_long own_id q in
        let T : List ℕ → List ℕ = λ q. with_tl0_pic_idx (tl0_place s) own_tl0 q in
        let K : List ℕ → List ℕ = λ q. with_key_idx (key_place s) own_key q in
        let has_own_id : ForSome own_id (λ _. s.has_picture_id ≡ true) = own_has s.has_picture_id _ in
        let has_own_tl0 : ForSome own_tl0 (λ _. s.has_tl0_pic_idx ≡ true) = own_has s.has_tl0_pic_idx _ in
        let room : s.has_picture_id ≡ true → picture_id_end s.is_long < length p =
        λ has. omega (arith, at.behind_id has, at.in_order, at.room) in
        ap (λ q. K (T q)) (id-key s.is_long own_id (key_place s) key tl0_put (off_id_key own_id has_own_id))
        ∙ ap (λ q. K (T (with_key_idx (key_place s) key q)))
        (id-tl0 s.is_long own_id (tl0_place s) tl0 id_put (off_id_tl0 own_id has_own_id))
        ∙ ap (λ q. K (T (with_key_idx (key_place s) key (with_tl0_pic_idx (tl0_place s) tl0 q))))
        (id_undone s.has_picture_id s.is_long id p fit.has_id room byte)
        ∙ ap K (tl0-key (tl0_place s) own_tl0 (key_place s) key (with_tl0_pic_idx (tl0_place s) tl0 p)
        (off_tl0_key own_tl0 has_own_tl0))
        ∙ ap (λ q. K (with_key_idx (key_place s) key q)) (tl0_undone s.has_tl0_pic_idx (tl0_place s) tl0 p fit.has_tl0)
        ∙ key_undone s.has_key_idx (key_place s) key p fit.has_key at.room

    abbrev new : List ℕ
    new = patched (patch_of builder) p

    front : (n : ℕ) → n < 2 → slice_index new n ≡ slice_index p n
    front n lt =
        let from_two = at.from_two in
        let end = at.id_end in
        let order = at.in_order in
        ids_only.other_bytes n (record {
          picture_id = λ v e. ((λ q. omega (arith, q, lt)), (λ q. omega (arith, q, lt, end)));
          tl0_pic_idx = λ v e q. omega (arith, q, lt, from_two);
          key_idx = λ v e q. omega (arith, q, lt, from_two, order);
        })

    behind : drop (layout_size s) new ≡ drop (layout_size s) p
    behind =
        let order = at.in_order in
        let whole = at.whole in
        let end = at.id_end in
        drop-key (layout_size s) (key_place s) key tl0_put (λ v e. at.behind_key (fit.has_key v e))
        ∙ drop-tl0 (layout_size s) (tl0_place s) tl0 id_put
        (λ v e. omega (arith, at.behind_tl0 (fit.has_tl0 v e), whole))
        ∙ drop-id (layout_size s) s.is_long id p
        (λ v e. (
          omega (arith, at.behind_id (fit.has_id v e), order, whole, end),
          omega (arith, at.behind_id (fit.has_id v e), order, whole),
        ))

    new_id : picture_id_in s new ≡ or_old id (picture_id_in s p)
    new_id =
        let order = at.in_order in
        let end = at.id_end in
        let room = at.room in
        id_read s.has_picture_id s.is_long id p new fit.has_id fit.small_id
        (λ has. omega (arith, at.behind_id has, order, room))
        (λ has. let after = at.behind_id has in key-other (key_place s) key tl0_put 2
        (λ v e q. omega (arith, q, after, end, order))
        ∙ tl0-other (tl0_place s) tl0 id_put 2 (λ v e q. omega (arith, q, after, end)))
        (λ has long. let after : 3 < tl0_place s = long_end s.is_long long (tl0_place s) (at.behind_id has) in
        key-other (key_place s) key tl0_put 3 (λ v e q. omega (arith, q, after, order))
        ∙ tl0-other (tl0_place s) tl0 id_put 3 (λ v e q. omega (arith, q, after)))

    new_tl0 : tl0_pic_idx_in s new ≡ or_old tl0 (tl0_pic_idx_in s p)
    new_tl0 =
        let order = at.in_order in
        let room : tl0_place s < length p = omega (arith, order, at.room) in
        let put : tl0_place s < length id_put = omega (arith, room, length-id s.is_long id p) in
        let under : slice_index id_put (tl0_place s) ≡ slice_index p (tl0_place s) =
        id-other s.is_long id p (tl0_place s) (off_id_tl0 id fit.has_id) in
        tl0_read s.has_tl0_pic_idx (tl0_place s) tl0 p new fit.has_tl0 room
        (λ has. let after = at.behind_tl0 has in
        key-other (key_place s) key tl0_put (tl0_place s) (λ v e q. omega (arith, q, after))
        ∙ tl0_over (tl0_place s) tl0 id_put p under put room)

    new_key : key_idx_in s new ≡ or_old key (key_idx_in s p)
    new_key =
        let room : key_place s < length tl0_put =
        omega (arith, at.room, length-tl0 (tl0_place s) tl0 id_put, length-id s.is_long id p) in
        key_read s.has_key_idx (key_place s) key tl0_put fit.has_key fit.small_key room
        ∙ ap (λ n. or_old key (if s.has_key_idx then Some (n % 32) else None))
        (tl0-other (tl0_place s) tl0 id_put (key_place s) (off_tl0_key tl0 fit.has_tl0)
        ∙ id-other s.is_long id p (key_place s) (off_id_key id fit.has_id))

    new_descriptor : described_in s new ≡ with_ids builder (described_in s p)
    new_descriptor =
        let first : slice_index new 0 ≡ slice_index p 0 = front 0 (omega arith) in
        let begins : begins_frame (slice_index new 0) ≡ begins_frame (slice_index p 0) =
        ap (λ n. begins_frame n) first in
        λ i. record {
          begins_frame = begins i;
          shape = s;
          picture_id = new_id i;
          tl0_pic_idx = new_tl0 i;
          key_idx =
              new_key i;
        }

    new_ids : parsed new ≡ Ok (with_ids builder (described_in s p))
    new_ids =
        let some : 0 < length new = omega (arith, at.room, ids_only.same_length) in
        let left : 0 < length (drop (layout_size s) p) = omega (arith, at.whole_room, length-drop (layout_size s) p) in
        parsed_some new some
        ∙ ap (λ z. parsed_in z new) (stays new (front 0 (omega arith)) (front 1 (omega arith)) ids_only.m_bit)
        ∙ ap (λ r. with_frame (described_in s new) r) behind
        ∙ with_frame_some (described_in s new) (drop (layout_size s) p) left
        ∙ ap (λ (d : Vp8Descriptor). Ok d) new_descriptor

    placed_holds : PatchHolds (described_in s p) builder p
    placed_holds = record {
      reaches = reaches;
      ids_only = ids_only;
      new_ids = new_ids;
      comes_back = record {
        built = none_of (picture_id_refusal s (picture_id_in s p)) (tl0_pic_idx_refusal s (tl0_pic_idx_in s p))
            (key_idx_refusal s (key_idx_in s p)) (own_id_fits s p byte) (own_tl0_fits s p) (own_key_fits s p);
        restored = restored;
      };
    }

-- without X there is no id to write
holds : (x : Bool) (p : List ℕ) → has_bit 128 (slice_index p 0) ≡ x → slice_index p 3 < 256
    → layout_size (shape_with x (slice_index p 1) (has_bit 128 (slice_index p 2))) < length p → (id tl0 key : Option ℕ)
    → refusal_of_build (record {
      shape = shape_with x (slice_index p 1) (has_bit 128 (slice_index p 2));
      picture_id =
          id;
      tl0_pic_idx = tl0;
      key_idx = key;
    }) ≡ None
    → PatchHolds (described_in (shape_with x (slice_index p 1) (has_bit 128 (slice_index p 2))) p)
    (record {
      shape = shape_with x (slice_index p 1) (has_bit 128 (slice_index p 2));
      picture_id =
          id;
      tl0_pic_idx = tl0;
      key_idx = key;
    }) p
holds true p x byte room id tl0 key is =
    let f : ℕ = slice_index p 1 in
    let s : Shape = shape_with true f (has_bit 128 (slice_index p 2)) in
    let facts = placed (has_bit 128 f) s.is_long (has_bit 64 f) s.has_key_byte (length p) room in
    let at : Placed s (length p) = record {
      id_end = facts.0;
      behind_id = facts.1;
      behind_tl0 = facts.2;
      in_order = omega arith;
      from_two = omega arith;
      room = facts.3;
      whole = omega arith;
      whole_room = room;
      behind_key = key_byte (key_place s) (has_bit 32 f) (has_bit 16 f);
    } in
    placed_holds s p at (extended_stays p x) byte id tl0 key (fits s id tl0 key is)
holds false p x byte room None None None is =
    let s : Shape = shape_with false (slice_index p 1) (has_bit 128 (slice_index p 2)) in
    let some : 0 < length p = omega (arith, room) in
    let left : 0 < length (drop 1 p) = omega (arith, room, length-drop 1 p) in
    record {
      reaches = record {
        picture_id = λ v e. absurd (cc);
        tl0_pic_idx = λ v e. absurd (cc);
        key_idx =
            λ v e. absurd (cc);
      };
      ids_only = record { same_length = refl; other_bytes = λ k apart. refl; m_bit = λ e. refl; tid_and_y = λ e. refl };
      new_ids = parsed_some p some ∙ ap (λ b. parsed_in
          (shape_with b (slice_index p 1) (has_bit 128 (slice_index p 2))) p) x
          ∙ with_frame_some (described_in s p) (drop 1 p) left;
      comes_back = record { built = refl; restored = refl };
    }
holds false p x byte room (Some v) tl0 key is = let no : false ≡ true =
    (fits (shape_with false (slice_index p 1) (has_bit 128 (slice_index p 2))) (Some v) tl0 key is).has_id v refl in
    absurd (cc)
holds false p x byte room None (Some v) key is = let no : false ≡ true =
    (fits (shape_with false (slice_index p 1) (has_bit 128 (slice_index p 2))) None (Some v) key is).has_tl0 v refl
    in absurd (cc)
holds false p x byte room None None (Some v) is = let no : false ≡ true =
    (fits (shape_with false (slice_index p 1) (has_bit 128 (slice_index p 2))) None None (Some v) is).has_key v refl
    in absurd (cc)

pub frame_behind : (d e : Vp8Descriptor) (rest : List ℕ) → with_frame d rest ≡ Ok e → (0 < length rest) × (e ≡ d)
frame_behind d e [] is = absurd (cc)
frame_behind d e (b ∷ bs) is = (omega arith, cc)

pub patch_law : PatchLaw
patch_law [] d b byte is shape built = absurd (cc)
patch_law (c ∷ cs) d b byte is shape built =
    let p : List ℕ = c ∷ cs in
    let s : Shape = shape_of p in
    let frame = frame_behind (described_in s p) d (drop (layout_size s) p) is in
    let room : layout_size s < length p = omega (arith, frame.0, length-drop (layout_size s) p) in
    let to_s : b.shape ≡ s = shape ∙ ap (λ (e : Vp8Descriptor). e.shape) frame.1 in
    let P : Vp8Descriptor → Type 0 = λ e. PatchHolds e b p in
    let Q : Shape → Type 0 = λ z. refusal_of_build
    (record { shape = z; picture_id = b.picture_id; tl0_pic_idx = b.tl0_pic_idx; key_idx = b.key_idx }) ≡ None
    → PatchHolds (described_in s p) (record {
      shape = z;
      picture_id = b.picture_id;
      tl0_pic_idx =
          b.tl0_pic_idx;
      key_idx = b.key_idx;
    }) p in
    let there : Q s = holds (has_bit 128 (slice_index p 0)) p refl byte room b.picture_id b.tl0_pic_idx b.key_idx in
    subst P (sym frame.1) (subst Q (sym to_s) there built)
