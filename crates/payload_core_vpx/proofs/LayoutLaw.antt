-- Payloads that are laid out as a descriptor and a part of a frame are those that are read.
use Rattle.std.proofs.Common.{◌≡◌, ℕ, ◌+◌, ◌-◌, ◌*◌, ◌%◌, ◌<◌, Bool, true, false, List, [], ◌∷◌, ◌++◌}
use Rattle.std.proofs.Common.{drop, take, length, None, Some, Ok, Err, Option, Result, if◌then◌else◌, refl, sym, ap}
use Rattle.std.proofs.Common.{◌∙◌, subst, arith}
use Rattle.std.specs.Prelude.{◌&&◌, ◌||◌, slice_index}
use Rattle.std.proofs.lemmas.List.{drop-drop, drop_at, get_or-drop, length-drop, take-append-drop}
use Rattle.payload_core_base.specs.declared.extra.CodecExtra.TheVariants.{Vp8}
use Rattle.payload_core_vpx.specs.Vp8.{reading_of, was_keyframe}
use Rattle.payload_core_base.specs.Bytes.{has_bit}
use Rattle.payload_core_vpx.specs.Vp8Descriptor.{begins_frame, begins_keyframe, described_in, key_idx_in}
use Rattle.payload_core_vpx.specs.Vp8Descriptor.{layout_size, parsed, picture_id_in, shape_of, shape_with}
use Rattle.payload_core_vpx.specs.Vp8Descriptor.{tl0_pic_idx_in, with_frame}
use Rattle.payload_core_vpx.specs.Vp8Layout.{IsExtension, IsKeyByte, IsLaidOut, IsParsedAs, IsPictureId, IsTl0PicIdx}
use Rattle.payload_core_vpx.specs.Vp8Layout.{IsVp8Packet, LayoutLaw, OnlyLaw, ParsedLaw, ReadLaw, Told, told_by}
use Rattle.payload_core_vpx.specs.declared.vp8_descriptor.Shape.{Shape}
use Rattle.payload_core_vpx.specs.declared.vp8_descriptor.Vp8Descriptor.{Vp8Descriptor}
use Rattle.payload_core_vpx.specs.declared.vp8_descriptor.Vp8DescriptorError.{Vp8DescriptorError}
use Rattle.payload_core_vpx.specs.declared.vp8_descriptor.Vp8DescriptorError.TheVariants.{MalformedDescriptor}
use Rattle.payload_core_vpx.specs.declared.vp8_descriptor.Vp8DescriptorError.TheVariants.{ShortPayload}

index_at : (n : ℕ) (p : List ℕ) → slice_index p n ≡ slice_index (drop n p) 0
index_at n p = let same : n ≡ n + 0 = omega arith in ap (slice_index p) same ∙ sym (get_or-drop n p 0 0)

-- ---- the fields, by the bits that announce them

abbrev id_size : Bool → Bool → ℕ
id_size i m = if i then (if i && m then 2 else 1) else 0

abbrev id_value : Bool → Bool → List ℕ → Option ℕ
id_value i m text = if i then (if i && m then Some (slice_index text 0 % 128 * 256 + slice_index text 1)
    else Some (slice_index text 0 % 128)) else None

abbrev one_if : Bool → ℕ
one_if b = if b then 1 else 0

abbrev byte_if : Bool → List ℕ → Option ℕ
byte_if l text = if l then Some (slice_index text 0) else None

abbrev key_if : Bool → List ℕ → Option ℕ
key_if k text = if k then Some (slice_index text 0 % 32) else None

sized : (i m : Bool) (bytes rest : List ℕ) (id : Option ℕ) → has_bit 128 (slice_index (bytes ++ rest) 0) ≡ m
    → IsPictureId i bytes id → length bytes ≡ id_size i m
sized false m [] rest id q is = refl
sized false m (b ∷ bs) rest id q is = absurd is
sized true m [] rest id q is = absurd is
sized true m (b ∷ []) rest id q is = ap (λ n. if n then 2 else 1) (sym is.0 ∙ q)
sized true m (h ∷ l ∷ []) rest id q is = ap (λ n. if n then 2 else 1) (sym is.0 ∙ q)
sized true m (h ∷ l ∷ x ∷ xs) rest id q is = absurd is

valued : (i m : Bool) (bytes rest : List ℕ) (id : Option ℕ) → has_bit 128 (slice_index (bytes ++ rest) 0) ≡ m
    → IsPictureId i bytes id → id_value i m (bytes ++ rest) ≡ id
valued false m [] rest id q is = sym is
valued false m (b ∷ bs) rest id q is = absurd is
valued true m [] rest id q is = absurd is
valued true m (b ∷ []) rest id q is =
    ap (λ n. if n then Some (b % 128 * 256 + slice_index rest 0) else Some (b % 128)) (sym q ∙ is.0) ∙ sym is.1
valued true m (h ∷ l ∷ []) rest id q is =
    ap (λ n. if n then Some (h % 128 * 256 + l) else Some (h % 128)) (sym q ∙ is.0) ∙ sym is.1
valued true m (h ∷ l ∷ x ∷ xs) rest id q is = absurd is

byte_sized : (l : Bool) (bytes : List ℕ) (index : Option ℕ) → IsTl0PicIdx l bytes index → length bytes ≡ one_if l
byte_sized false [] index is = refl
byte_sized false (b ∷ bs) index is = absurd is
byte_sized true [] index is = absurd is
byte_sized true (b ∷ []) index is = refl
byte_sized true (b ∷ c ∷ bs) index is = absurd is

byte_valued : (l : Bool) (bytes rest : List ℕ) (index : Option ℕ) → IsTl0PicIdx l bytes index
    → byte_if l (bytes ++ rest) ≡ index
byte_valued false [] rest index is = sym is
byte_valued false (b ∷ bs) rest index is = absurd is
byte_valued true [] rest index is = absurd is
byte_valued true (b ∷ []) rest index is = sym is
byte_valued true (b ∷ c ∷ bs) rest index is = absurd is

key_sized : (y k : Bool) (bytes : List ℕ) (index : Option ℕ) → IsKeyByte y k bytes index → length bytes ≡ one_if y
key_sized false k [] index is = refl
key_sized false k (b ∷ bs) index is = absurd is
key_sized true k [] index is = absurd is
key_sized true k (b ∷ []) index is = refl
key_sized true k (b ∷ c ∷ bs) index is = absurd is

key_valued : (y k : Bool) → (y ≡ false → k ≡ false) → (bytes rest : List ℕ) (index : Option ℕ)
    → IsKeyByte y k bytes index → key_if k (bytes ++ rest) ≡ index
key_valued false k f [] rest index is = ap (λ n. key_if n rest) (f refl) ∙ sym is
key_valued false k f (b ∷ bs) rest index is = absurd is
key_valued true k f [] rest index is = absurd is
key_valued true k f (b ∷ []) rest index is = sym is
key_valued true k f (b ∷ c ∷ bs) rest index is = absurd is

-- ---- every payload that is laid out is read

record IsToldAt (s : Shape) (p : List ℕ) (told : Told) (frame : List ℕ) : Type 0 where
  pub picture_id : picture_id_in s p ≡ told.picture_id
  pub tl0_pic_idx : tl0_pic_idx_in s p ≡ told.tl0_pic_idx
  pub key_idx : key_idx_in s p ≡ told.key_idx
  pub behind : drop (layout_size s) p ≡ frame

abbrev extended : Bool → Bool → Bool → Bool → Bool → Shape
extended i m l y k = record {
  is_extended = true;
  has_picture_id = i;
  is_long = i && m;
  has_tl0_pic_idx = l;
  has_key_byte = y;
  has_key_idx = k;
}

told_extended : (i m l y k : Bool) → (y ≡ false → k ≡ false) → (first flags : ℕ) (ids tl0 key frame : List ℕ)
    (told : Told) → has_bit 128 (slice_index (ids ++ (tl0 ++ (key ++ frame))) 0) ≡ m
    → IsPictureId i ids told.picture_id → IsTl0PicIdx l tl0 told.tl0_pic_idx → IsKeyByte y k key told.key_idx
    → IsToldAt (extended i m l y k) (first ∷ flags ∷ (ids ++ (tl0 ++ (key ++ frame)))) told frame
told_extended i m l y k f first flags ids tl0 key frame told q is_id is_tl0 is_key =
    let behind_tl0 : List ℕ = key ++ frame in
    let behind_id : List ℕ = tl0 ++ behind_tl0 in
    let p : List ℕ = first ∷ flags ∷ (ids ++ behind_id) in
    let at_tl0 : drop (2 + id_size i m) p ≡ behind_id =
    sym (drop-drop (id_size i m) 2 p) ∙ drop_at ids behind_id (id_size i m) (sized i m ids behind_id _ q is_id) in
    let at_key : drop ((2 + id_size i m) + one_if l) p ≡ behind_tl0 =
    sym (drop-drop (one_if l) (2 + id_size i m) p) ∙ ap (drop (one_if l)) at_tl0
    ∙ drop_at tl0 behind_tl0 (one_if l) (byte_sized l tl0 _ is_tl0) in
    let at_frame : drop (((2 + id_size i m) + one_if l) + one_if y) p ≡ frame =
    sym (drop-drop (one_if y) ((2 + id_size i m) + one_if l) p) ∙ ap (drop (one_if y)) at_key
    ∙ drop_at key frame (one_if y) (key_sized y k key _ is_key) in
    record {
      picture_id = valued i m ids behind_id _ q is_id;
      tl0_pic_idx = ap (λ (b : ℕ). if l then Some b else None)
          (index_at (2 + id_size i m) p ∙ ap (λ (t : List ℕ). slice_index t 0) at_tl0)
          ∙ byte_valued l tl0 behind_tl0 _ is_tl0;
      key_idx = ap (λ (b : ℕ). if k then Some (b % 32) else None)
          (index_at ((2 + id_size i m) + one_if l) p ∙ ap (λ (t : List ℕ). slice_index t 0) at_key)
          ∙ key_valued y k f key frame _ is_key;
      behind = at_frame;
    }

told_bare : (first flags : ℕ) (m : Bool) (ids tl0 key frame : List ℕ) (told : Told)
    → IsPictureId false ids told.picture_id → IsTl0PicIdx false tl0 told.tl0_pic_idx
    → IsKeyByte false false key told.key_idx
    → IsToldAt (shape_with false flags m) (first ∷ (ids ++ (tl0 ++ (key ++ frame)))) told frame
told_bare first flags m [] [] [] frame told is_id is_tl0 is_key =
    record { picture_id = sym is_id; tl0_pic_idx = sym is_tl0; key_idx = sym is_key; behind = refl }
told_bare first flags m [] [] (b ∷ bs) frame told is_id is_tl0 is_key = absurd is_key
told_bare first flags m [] (b ∷ bs) key frame told is_id is_tl0 is_key = absurd is_tl0
told_bare first flags m (b ∷ bs) tl0 key frame told is_id is_tl0 is_key = absurd is_id

neither : (t k : Bool) → (t || k) ≡ false → k ≡ false
neither true k e = absurd (cc)
neither false k e = e

told_at : (first flags : ℕ) (x : Bool) (extension ids tl0 key frame : List ℕ) (told : Told)
    → IsExtension x extension flags → IsPictureId (has_bit 128 flags) ids told.picture_id
    → IsTl0PicIdx (has_bit 64 flags) tl0 told.tl0_pic_idx
    → IsKeyByte (has_bit 32 flags || has_bit 16 flags) (has_bit 16 flags) key told.key_idx
    → let p : List ℕ = first ∷ (extension ++ (ids ++ (tl0 ++ (key ++ frame)))) in
    IsToldAt (shape_with x (slice_index p 1) (has_bit 128 (slice_index p 2))) p told frame
told_at first flags false [] ids tl0 key frame told is_x is_id is_tl0 is_key =
    told_bare first 0 false ids tl0 key frame told
    (subst (λ (f : ℕ). IsPictureId (has_bit 128 f) ids told.picture_id) is_x is_id)
    (subst (λ (f : ℕ). IsTl0PicIdx (has_bit 64 f) tl0 told.tl0_pic_idx) is_x is_tl0)
    (subst (λ (f : ℕ). IsKeyByte (has_bit 32 f || has_bit 16 f) (has_bit 16 f) key told.key_idx) is_x is_key)
told_at first flags false (b ∷ bs) ids tl0 key frame told is_x is_id is_tl0 is_key = absurd is_x
told_at first flags true [] ids tl0 key frame told is_x is_id is_tl0 is_key = absurd is_x
told_at first flags true (b ∷ []) ids tl0 key frame told is_x is_id is_tl0 is_key =
    told_extended (has_bit 128 b) (has_bit 128 (slice_index (ids ++ (tl0 ++ (key ++ frame))) 0)) (has_bit 64 b)
    (has_bit 32 b || has_bit 16 b) (has_bit 16 b) (neither (has_bit 32 b) (has_bit 16 b)) first b ids tl0 key frame told
    refl
    (subst (λ (f : ℕ). IsPictureId (has_bit 128 f) ids told.picture_id) is_x is_id)
    (subst (λ (f : ℕ). IsTl0PicIdx (has_bit 64 f) tl0 told.tl0_pic_idx) is_x is_tl0)
    (subst (λ (f : ℕ). IsKeyByte (has_bit 32 f || has_bit 16 f) (has_bit 16 f) key told.key_idx) is_x is_key)
told_at first flags true (b ∷ c ∷ bs) ids tl0 key frame told is_x is_id is_tl0 is_key = absurd is_x

with_some : (d : Vp8Descriptor) (frame : List ℕ) → 0 < length frame → with_frame d frame ≡ Ok d
with_some d [] some = absurd (omega arith)
with_some d (b ∷ bs) some = refl

parsed_told : (first : ℕ) (rest : List ℕ) (told : Told) (frame : List ℕ)
    → IsToldAt (shape_of (first ∷ rest)) (first ∷ rest) told frame → told.begins_frame ≡ begins_frame first
    → 0 < length frame → IsParsedAs (first ∷ rest) told frame
parsed_told first rest told frame at begins some =
    let p : List ℕ = first ∷ rest in
    let d : Vp8Descriptor = described_in (shape_of p) p in
    record {
      descriptor = d;
      is_parsed = ap (with_frame d) at.behind ∙ with_some d frame some;
      tells = λ i. record {
        begins_frame = sym begins i;
        picture_id = at.picture_id i;
        tl0_pic_idx = at.tl0_pic_idx i;
        key_idx = at.key_idx i;
      };
      behind = at.behind;
    }

pub layout_law : LayoutLaw
layout_law packet told frame is =
    let rest : List ℕ = is.extension ++ (is.picture_id ++ (is.tl0_pic_idx ++ (is.key_byte ++ frame))) in
    subst (λ (p : List ℕ). IsParsedAs p told frame) (sym is.laid_out)
    (parsed_told is.first rest told frame
    (told_at is.first is.flags (has_bit 128 is.first) is.extension is.picture_id is.tl0_pic_idx is.key_byte frame told
    is.is_extension is.is_picture_id is.is_tl0_pic_idx is.is_key_byte) is.begins is.some_frame)

pub read_law : ReadLaw
read_law fragment extra packet told frame is =
    let done = layout_law packet told frame is in
    let tells = done.tells in
    ap (reading_of fragment extra packet) done.is_parsed
    ∙ (λ i. Ok (record {
      written = done.behind i;
      extra = Vp8 (record {
        is_keyframe = was_keyframe extra || ((tells i).begins_frame && begins_keyframe (done.behind i));
        picture_id = (tells i).picture_id;
        tl0_pic_idx = (tells i).tl0_pic_idx;
      });
      fragment = fragment;
    }))

-- ---- and no other one

id_taken : (i m : Bool) (text : List ℕ) → has_bit 128 (slice_index text 0) ≡ m → id_size i m < length text
    → IsPictureId i (take (id_size i m) text) (id_value i m text)
id_taken false m text q long = refl
id_taken true m [] q long = absurd (omega arith)
id_taken true false (b ∷ bs) q long = (q, refl)
id_taken true true (b ∷ []) q long = absurd (omega arith)
id_taken true true (b ∷ c ∷ bs) q long = (q, refl)

byte_taken : (l : Bool) (text : List ℕ) → one_if l < length text
    → IsTl0PicIdx l (take (one_if l) text) (byte_if l text)
byte_taken false text long = refl
byte_taken true [] long = absurd (omega arith)
byte_taken true (b ∷ bs) long = refl

key_taken : (y k : Bool) → (y ≡ false → k ≡ false) → (text : List ℕ) → one_if y < length text
    → IsKeyByte y k (take (one_if y) text) (key_if k text)
key_taken false k f text long = ap (λ n. key_if n text) (f refl)
key_taken true k f [] long = absurd (omega arith)
key_taken true k f (b ∷ bs) long = refl

split_extended : (i m l y k : Bool) → (y ≡ false → k ≡ false) → (first flags : ℕ) (body : List ℕ)
    → has_bit 128 first ≡ true → has_bit 128 (slice_index body 0) ≡ m → has_bit 128 flags ≡ i → has_bit 64 flags ≡ l
    → (has_bit 32 flags || has_bit 16 flags) ≡ y → has_bit 16 flags ≡ k
    → let p : List ℕ = first ∷ flags ∷ body in
    let s : Shape = extended i m l y k in 0 < length (drop (layout_size s) p)
    → IsVp8Packet p (told_by (described_in s p)) (drop (layout_size s) p)
split_extended i m l y k f first flags body q qm qi ql qy qk some =
    let p : List ℕ = first ∷ flags ∷ body in
    let a : ℕ = id_size i m in
    let b : ℕ = one_if l in
    let c : ℕ = one_if y in
    let behind_id : List ℕ = drop a body in
    let behind_tl0 : List ℕ = drop b behind_id in
    let frame : List ℕ = drop c behind_tl0 in
    let at_tl0 : drop (2 + a) p ≡ behind_id = sym (drop-drop a 2 p) in
    let at_key : drop ((2 + a) + b) p ≡ behind_tl0 = sym (drop-drop b (2 + a) p) ∙ ap (drop b) at_tl0 in
    let at_frame : drop (((2 + a) + b) + c) p ≡ frame = sym (drop-drop c ((2 + a) + b) p) ∙ ap (drop c) at_key in
    let long : ((2 + a) + b) + c < length p = omega (arith, some, length-drop (((2 + a) + b) + c) p) in
    let long_id : length behind_id ≡ length body - a = length-drop a body in
    let long_tl0 : length behind_tl0 ≡ length behind_id - b = length-drop b behind_id in
    let tl0 : slice_index p (2 + a) ≡ slice_index behind_id 0 =
    index_at (2 + a) p ∙ ap (λ (t : List ℕ). slice_index t 0) at_tl0 in
    let key : slice_index p ((2 + a) + b) ≡ slice_index behind_tl0 0 =
    index_at ((2 + a) + b) p ∙ ap (λ (t : List ℕ). slice_index t 0) at_key in
    let tl0_is : byte_if l behind_id ≡ (if l then Some (slice_index p (2 + a)) else None) =
    ap (λ (n : ℕ). if l then Some n else None) (sym tl0) in
    let key_is : key_if k behind_tl0 ≡ (if k then Some (slice_index p ((2 + a) + b) % 32) else None) =
    ap (λ (n : ℕ). if k then Some (n % 32) else None) (sym key) in
    record {
      first = first;
      flags = flags;
      extension = flags ∷ [];
      picture_id = take a body;
      tl0_pic_idx = take b behind_id;
      key_byte = take c behind_tl0;
      laid_out = ap (λ (t : List ℕ). first ∷ flags ∷ t) (sym (take-append-drop a body)
          ∙ ap (λ (t : List ℕ). take a body ++ t) (sym (take-append-drop b behind_id)
          ∙ ap (λ (t : List ℕ). take b behind_id ++ t) (sym (take-append-drop c behind_tl0)
          ∙ ap (λ (t : List ℕ). take c behind_tl0 ++ t) (sym at_frame))));
      begins = refl;
      is_extension = subst (λ (x : Bool). IsExtension x (flags ∷ []) flags) (sym q) refl;
      is_picture_id = subst (λ (x : Bool). IsPictureId x (take a body) (id_value i m body)) (sym qi)
          (id_taken i m body qm (omega (arith, long)));
      is_tl0_pic_idx = subst (λ (x : Bool). IsTl0PicIdx x (take b behind_id)
          (if l then Some (slice_index p (2 + a)) else None)) (sym ql)
          (subst (λ (v : Option ℕ). IsTl0PicIdx l (take b behind_id) v) tl0_is
          (byte_taken l behind_id (omega (arith, long, long_id))));
      is_key_byte = let told : Option ℕ = if k then Some (slice_index p ((2 + a) + b) % 32) else None in
          subst (λ (x : Bool). IsKeyByte x (has_bit 16 flags) (take c behind_tl0) told) (sym qy)
          (subst (λ (x : Bool). IsKeyByte y x (take c behind_tl0) told) (sym qk)
          (subst (λ (v : Option ℕ). IsKeyByte y k (take c behind_tl0) v) key_is
          (key_taken y k f behind_tl0 (omega (arith, long, long_id, long_tl0)))));
      some_frame = some;
    }

split_at : (first : ℕ) (rest : List ℕ) (x : Bool) → has_bit 128 first ≡ x → let p : List ℕ = first ∷ rest in
    let s : Shape = shape_with x (slice_index p 1) (has_bit 128 (slice_index p 2)) in
    0 < length (drop (layout_size s) p) → IsVp8Packet p (told_by (described_in s p)) (drop (layout_size s) p)
split_at first rest false q some = record {
  first = first;
  flags = 0;
  extension = [];
  picture_id = [];
  tl0_pic_idx = [];
  key_byte = [];
  laid_out = refl;
  begins = refl;
  is_extension = subst (λ (x : Bool). IsExtension x [] 0) (sym q) refl;
  is_picture_id = refl;
  is_tl0_pic_idx = refl;
  is_key_byte = refl;
  some_frame = some;
}
split_at first [] true q some = absurd (omega (arith, some))
split_at first (flags ∷ body) true q some =
    split_extended (has_bit 128 flags) (has_bit 128 (slice_index body 0)) (has_bit 64 flags)
    (has_bit 32 flags || has_bit 16 flags) (has_bit 16 flags) (neither (has_bit 32 flags) (has_bit 16 flags)) first
    flags body q refl refl refl refl refl some

with_ok : (d e : Vp8Descriptor) (frame : List ℕ) → with_frame d frame ≡ Ok e → (d ≡ e) × (0 < length frame)
with_ok d e [] is = absurd (cc)
with_ok d e (b ∷ bs) is = (cc, omega arith)

pub parsed_law : ParsedLaw
parsed_law [] d is = absurd (cc)
parsed_law (first ∷ rest) d is =
    let p : List ℕ = first ∷ rest in
    let s : Shape = shape_of p in
    let ok = with_ok (described_in s p) d (drop (layout_size s) p) is in
    subst (λ (e : Vp8Descriptor). IsVp8Packet p (told_by e) (drop (layout_size e.shape) p)) ok.0
    (split_at first rest (has_bit 128 first) refl ok.1)

pub only_law : OnlyLaw
only_law fragment extra packet r is = by_parsed (parsed packet) refl is where
  by_parsed : (o : Result Vp8Descriptor Vp8DescriptorError) → parsed packet ≡ o
      → reading_of fragment extra packet o ≡ Ok r → IsLaidOut packet
  by_parsed (Err ShortPayload) q e = absurd (cc)
  by_parsed (Err MalformedDescriptor) q e = absurd (cc)
  by_parsed (Ok d) q e = record {
    told = told_by d;
    frame = drop (layout_size d.shape) packet;
    is_packet = parsed_law packet d q;
  }
