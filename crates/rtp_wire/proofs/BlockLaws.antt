-- Blocks that are written, and read again.
use Rattle.std.proofs.Common.{◌≡◌, ℕ, zero, suc, ◌+◌, ◌-◌, ◌*◌, ◌/◌, ◌%◌, ◌<◌, ◌≤◌, ◌^◌, Bool, true, false}
use Rattle.std.proofs.Common.{true≢false, ◌&&◌, ◌||◌, refl, sym, ap, ◌∙◌, arith, List, [], ◌∷◌, ◌++◌, length, take}
use Rattle.std.proofs.Common.{drop, replicate, length-append, length-drop, append_assoc, add-one, zero-add, inl, inr}
use Rattle.std.specs.Option.{option_map}
use Rattle.std.specs.Prelude.{if◌then◌else◌, Option, Some, None, IfSome, nat_lt, nat_le, ◌==◌, ℤ}
use Rattle.std.proofs.lemmas.Bool.Decides.{nat_tests}
use Rattle.std.proofs.lemmas.List.{take_at, drop_at, length-replicate, take-replicate}
use Rattle.std.proofs.lemmas.Bool.{cases_order}
use Rattle.rtp_wire.specs.declared.extension.Extension.{Extension}
use Rattle.rtp_wire.specs.declared.extension.Extension.TheVariants.{AbsoluteSendTime, AbsoluteCaptureTime}
use Rattle.rtp_wire.specs.declared.extension.Extension.TheVariants.{AudioLevel, VideoOrientation}
use Rattle.rtp_wire.specs.declared.extension.Extension.TheVariants.{TransportSequenceNumber, PlayoutDelay}
use Rattle.rtp_wire.specs.declared.extension.Extension.TheVariants.{VideoContentType, RtpStreamId}
use Rattle.rtp_wire.specs.declared.extension.Extension.TheVariants.{RepairedRtpStreamId, RtpMid}
use Rattle.rtp_wire.specs.declared.extension.Extension.TheVariants.{UnknownUri}
use Rattle.rtp_wire.specs.declared.values.ExtensionValues.{ExtensionValues}
use Rattle.rtp_wire.specs.declared.values.AbsCaptureTime.{AbsCaptureTime}
use Rattle.rtp_wire.specs.Name.{IsName}
use Rattle.rtp_wire.proofs.NameLaws.{length-IsName}
use Rattle.rtp_wire.specs.Carried.{send_bytes, offset_bytes, capture_bytes, level_number, level_byte}
use Rattle.rtp_wire.specs.Carried.{level_bytes, byte_bytes, transport_bytes, delay_text, delay_bytes}
use Rattle.rtp_wire.specs.Carried.{value_bytes, send_image, level_image, voice_image, least_image}
use Rattle.rtp_wire.specs.Carried.{most_image, values_for, AreValues}
use Rattle.rtp_wire.specs.Elements.{Element, Step, padding, slot, slot_is, holds, carried_by, carried_at}
use Rattle.rtp_wire.specs.Elements.{element_if, place_elements, elements_to, fits_one_byte, are_one_byte}
use Rattle.rtp_wire.specs.Elements.{element_text, elements_text, fill, filled_text, taken, taken_long}
use Rattle.rtp_wire.specs.Elements.{step, lookup, with_element, on_step, values_from}
use Rattle.rtp_wire.specs.Values.{Numbering, absent, form_of_profile, values_in_form, values_of}
use Rattle.rtp_wire.specs.Values.{written_elements, profile_of, block_in_form, block_of, two_byte_block}
use Rattle.rtp_wire.specs.Values.{is_mapped, image_values}
use Rattle.rtp_wire.proofs.CarriedLaws.{and_this, with_carried, carry}

pub if-then : {A : Type 0} (b : Bool) (x y : A) → b ≡ true → (if b then x else y) ≡ x
if-then true x y h = refl
if-then false x y h = absurd (true≢false (sym h))

pub if-else : {A : Type 0} (b : Bool) (x y : A) → b ≡ false → (if b then x else y) ≡ y
if-else true x y h = absurd (true≢false h)
if-else false x y h = refl

pub lt-no : (a b : ℕ) → b ≤ a → nat_lt a b ≡ false
lt-no a b h = grind (arith, nat_tests)

pub lt-of-no : (a b : ℕ) → nat_lt a b ≡ false → b ≤ a
lt-of-no a b h = grind (arith, nat_tests)

pub eq-no : (a b : ℕ) → a < b → (a == b) ≡ false
eq-no a b h = grind (arith, nat_tests)

pub eq-above : (a b : ℕ) → b < a → (a == b) ≡ false
eq-above a b h = grind (arith, nat_tests)

-- ---- steps

taken-shrinks : (id count : ℕ) (rest : List ℕ) (s : Step) → taken id count rest ≡ Some s → length s.rest ≤ length rest
taken-shrinks id count rest s e = go (nat_lt (length rest) count) e where
  go : (b : Bool) → (if b then None else Some
      (let t : Step = record { id = id; bytes = take count rest; rest = drop count rest } in t)) ≡ Some s
      → length s.rest ≤ length rest
  go true f = absurd cc
  go false f = let same : (let t : Step = record { id = id; bytes = take count rest; rest = drop count rest } in t)
      ≡ s = cc in omega (arith, ap (λ (t : Step). length t.rest) same, length-drop count rest)

pub step-shrinks : (one : Bool) (bytes : List ℕ) (s : Step) → step one bytes ≡ Some s → length s.rest < length bytes
step-shrinks true [] s e = absurd cc
step-shrinks true (b ∷ rest) s e = go (b / 16 == 0) (b / 16 == 15) e where
  go : (x y : Bool) → (if x then Some (padding rest) else if y then None else taken (b / 16) (b % 16 + 1) rest)
      ≡ Some s → length s.rest < suc (length rest)
  go true y f = let same : padding rest ≡ s = cc in omega (arith, ap (λ (t : Step). length t.rest) same)
  go false true f = absurd cc
  go false false f = omega (arith, taken-shrinks (b / 16) (b % 16 + 1) rest s f)
step-shrinks false [] s e = absurd cc
step-shrinks false (id ∷ rest) s e = go (id == 0) rest e where
  go : (x : Bool) (rest : List ℕ) → (if x then Some (padding rest) else taken_long id rest) ≡ Some s
      → length s.rest < suc (length rest)
  go true rest f = let same : padding rest ≡ s = cc in omega (arith, ap (λ (t : Step). length t.rest) same)
  go false [] f = absurd cc
  go false (count ∷ rest) f = omega (arith, taken-shrinks id count rest s f)

on_step-same : {A : Type 0} (o : Option Step) (x : A) (f g : Step → A) → ((s : Step) → o ≡ Some s → f s ≡ g s)
    → on_step o x f ≡ on_step o x g
on_step-same None x f g h = refl
on_step-same (Some s) x f g h = h s refl

values_from-none : (one : Bool) (map : Numbering) (n : ℕ) (v : ExtensionValues) → values_from one map n [] v ≡ v
values_from-none one map zero v = refl
values_from-none true map (suc n) v = refl
values_from-none false map (suc n) v = refl

-- more steps than bytes change nothing
pub values_from-fuel : (one : Bool) (map : Numbering) (n m : ℕ) (bytes : List ℕ) (v : ExtensionValues)
    → length bytes ≤ n → length bytes ≤ m →
    values_from one map n bytes v ≡ values_from one map m bytes v
values_from-fuel one map n m [] v a b = values_from-none one map n v ∙ sym (values_from-none one map m v)
values_from-fuel one map zero m (x ∷ bytes) v a b = absurd (omega arith)
values_from-fuel one map (suc n) zero (x ∷ bytes) v a b = absurd (omega arith)
values_from-fuel one map (suc n) (suc m) (x ∷ bytes) v a b =
    on_step-same (step one (x ∷ bytes)) v _ _ (λ s e.
    let shorter = step-shrinks one (x ∷ bytes) s e in
    values_from-fuel one map n m s.rest (with_element (lookup map s.id) s.bytes v) (omega (arith, shorter))
    (omega (arith, shorter)))

-- one step
pub values_from-step : (one : Bool) (map : Numbering) (bytes : List ℕ) (v : ExtensionValues) (s : Step)
    → step one bytes ≡ Some s →
    values_from one map (length bytes) bytes v
    ≡ values_from one map (length s.rest) s.rest (with_element (lookup map s.id) s.bytes v)
values_from-step one map [] v s e = absurd (none one e) where
  none : (one : Bool) → step one [] ≡ Some s → ⊥
  none true f = cc
  none false f = cc
values_from-step one map (x ∷ bytes) v s e =
    let shorter = step-shrinks one (x ∷ bytes) s e in
    ap (λ (o : Option Step). on_step o v (λ t. values_from one map (length bytes) t.rest
    (with_element (lookup map t.id) t.bytes v))) e
    ∙ values_from-fuel one map (length bytes) (length s.rest) s.rest (with_element (lookup map s.id) s.bytes v)
    (omega (arith, shorter)) (omega arith)

-- the rest is read on
pub values_from-on : (one : Bool) (map : Numbering) (bytes : List ℕ) (v w total : ExtensionValues) (s : Step)
    → step one bytes ≡ Some s → w ≡ with_element (lookup map s.id) s.bytes v →
    values_from one map (length bytes) bytes v ≡ total → values_from one map (length s.rest) s.rest w ≡ total
values_from-on one map bytes v w total s e f t =
    ap (values_from one map (length s.rest) s.rest) f ∙ sym (values_from-step one map bytes v s e) ∙ t

-- the reading ends
pub values_from-end : (one : Bool) (map : Numbering) (bytes : List ℕ) (v : ExtensionValues) → step one bytes ≡ None
    → values_from one map (length bytes) bytes v ≡ v
values_from-end one map [] v e = refl
values_from-end one map (x ∷ bytes) v e =
    ap (λ (o : Option Step). on_step o v (λ t. values_from one map (length bytes) t.rest
    (with_element (lookup map t.id) t.bytes v))) e

-- ---- what was written is read

-- an element that a form can write
abbrev pub IsElement : Bool → Element → Type 0
IsElement true e = (1 ≤ e.id) × (e.id ≤ 14) × (1 ≤ length e.bytes) × (length e.bytes ≤ 16)
IsElement false e = 1 ≤ e.id

abbrev pub AreElements : Bool → List Element → Type 0
AreElements one [] = Unit {0}
AreElements one (e ∷ es) = IsElement one e × AreElements one es

abbrev pub read_all : Numbering → List Element → ExtensionValues → ExtensionValues
read_all map [] v = v
read_all map (e ∷ es) v = read_all map es (with_element (lookup map e.id) e.bytes v)

read_all-append : (map : Numbering) (xs ys : List Element) (v : ExtensionValues) → read_all map (xs ++ ys) v
    ≡ read_all map ys (read_all map xs v)
read_all-append map [] ys v = refl
read_all-append map (x ∷ xs) ys v = read_all-append map xs ys (with_element (lookup map x.id) x.bytes v)

taken-element : (id : ℕ) (bytes rest : List ℕ) (n : ℕ) → n ≡ length bytes → taken id n (bytes ++ rest)
    ≡ Some (record { id = id; bytes = bytes; rest = rest })
taken-element id bytes rest n e =
    let enough : nat_lt (length (bytes ++ rest)) n ≡ false = lt-no _ _ (omega (arith, length-append bytes rest)) in
    let front : take n (bytes ++ rest) ≡ bytes = take_at bytes rest n (sym e) in
    let back : drop n (bytes ++ rest) ≡ rest = drop_at bytes rest n (sym e) in
    if-else _ _ _ enough ∙ (λ i. Some (record { id = id; bytes = front i; rest = back i }))

pub step-element : (one : Bool) (e : Element) (rest : List ℕ) → IsElement one e
    → step one (element_text one e ++ rest) ≡ Some (record { id = e.id; bytes = e.bytes; rest = rest })
step-element true e rest h =
    let b = 16 * e.id + (length e.bytes - 1) in
    let id : b / 16 ≡ e.id = omega (arith, h.0, h.1, h.2, h.3) in
    let count : b % 16 + 1 ≡ length e.bytes = omega (arith, h.0, h.1, h.2, h.3) in
    if-else _ _ _ (eq-above (b / 16) 0 (omega (arith, id, h.0)))
    ∙ if-else _ _ _ (eq-no (b / 16) 15 (omega (arith, id, h.1)))
    ∙ ap (λ (k : ℕ). taken k (b % 16 + 1) (e.bytes ++ rest)) id
    ∙ taken-element e.id e.bytes rest (b % 16 + 1) count
step-element false e rest h =
    if-else _ _ _ (eq-above e.id 0 (omega (arith, h)))
    ∙ taken-element e.id e.bytes rest (length e.bytes) refl

abbrev zeros : ℕ → List ℕ
zeros k = replicate k 0

step-zero : (one : Bool) (rest : List ℕ) → step one (0 ∷ rest) ≡ Some (padding rest)
step-zero true rest = refl
step-zero false rest = refl

values_from-zeros : (one : Bool) (map : Numbering) (k : ℕ) (v : ExtensionValues)
    → values_from one map (length (zeros k)) (zeros k) v ≡ v
values_from-zeros one map zero v = refl
values_from-zeros one map (suc k) v = values_from-step one map (0 ∷ zeros k) v (padding (zeros k))
    (step-zero one (zeros k)) ∙ values_from-zeros one map k v

values_from-elements : (one : Bool) (map : Numbering) (es : List Element) (k : ℕ) (v : ExtensionValues)
    → AreElements one es →
    values_from one map (length (elements_text one es ++ zeros k)) (elements_text one es ++ zeros k) v
    ≡ read_all map es v
values_from-elements one map [] k v h = values_from-zeros one map k v
values_from-elements one map (e ∷ es) k v h =
    let rest = elements_text one es ++ zeros k in
    let split : elements_text one (e ∷ es) ++ zeros k ≡ element_text one e ++ rest =
    append_assoc (element_text one e) (elements_text one es) (zeros k) in
    ap (λ (ys : List ℕ). values_from one map (length ys) ys v) split
    ∙ values_from-step one map (element_text one e ++ rest) v (record { id = e.id; bytes = e.bytes; rest = rest })
    (step-element one e rest h.0)
    ∙ values_from-elements one map es k (with_element (lookup map e.id) e.bytes v) h.1

form_of-profile_of : (one : Bool) → form_of_profile (profile_of one) ≡ Some one
form_of-profile_of true = refl
form_of-profile_of false = refl

values_of-block_in_form : (map : Numbering) (one : Bool) (es : List Element) → AreElements one es
    → values_of map (block_in_form one es) ≡ read_all map es absent
unfolding values_of
values_of-block_in_form map one es h =
    ap (λ (f : Option Bool). values_in_form f map (filled_text (elements_text one es))) (form_of-profile_of one)
    ∙ values_from-elements one map es (fill (length (elements_text one es))) absent h

-- ---- what is read is the wire image

-- an extension that is there already
picked-already : (ext : Extension) (p : Extension → Bool) (v : ExtensionValues) → p ext ≡ true → values_for p v
    ≡ values_for (and_this ext p) v
picked-already AbsoluteSendTime p v e = let w = values_for p v in
    λ i. record w { abs_send_time = if e i then send_image v.abs_send_time else None }
picked-already AbsoluteCaptureTime p v e = let w = values_for p v in
    λ i. record w { abs_capture_time = if e i then v.abs_capture_time else None }
picked-already AudioLevel p v e = let w = values_for p v in
    λ i. record w {
      audio_level = if e i then level_image v.audio_level v.voice_activity else None;
      voice_activity =
          if e i then voice_image v.audio_level v.voice_activity else None;
    }
picked-already VideoOrientation p v e = let w = values_for p v in
    λ i. record w { video_orientation = if e i then v.video_orientation else None }
picked-already TransportSequenceNumber p v e = let w = values_for p v in
    λ i. record w { transport_cc = if e i then v.transport_cc else None }
picked-already PlayoutDelay p v e = let w = values_for p v in
    λ i. record w {
      play_delay_min = if e i then least_image v.play_delay_min v.play_delay_max
          else None;
      play_delay_max = if e i then most_image v.play_delay_min v.play_delay_max else None;
    }
picked-already VideoContentType p v e = let w = values_for p v in
    λ i. record w { video_content_type = if e i then v.video_content_type else None }
picked-already RtpStreamId p v e = let w = values_for p v in λ i. record w { rid = if e i then v.rid else None }
picked-already RepairedRtpStreamId p v e = let w = values_for p v in
    λ i. record w { rid_repair = if e i then v.rid_repair else None }
picked-already RtpMid p v e = let w = values_for p v in λ i. record w { mid = if e i then v.mid else None }
picked-already (UnknownUri uri) p v e = refl

module _ (map : Numbering) (v : ExtensionValues) (fits : AreValues v) where
  read-carried : (n : ℕ) (ext : Extension) (o : Option (List ℕ)) (w : ExtensionValues) → slot map n ≡ Some ext
      → read_all map (element_if (suc n) o) w ≡ with_carried ext o w
  read-carried n ext None w e = refl
  read-carried n ext (Some bytes) w e = ap (λ (x : Option Extension). with_element x bytes w) e

  slot-step : (n : ℕ) (o : Option Extension) → slot map n ≡ o →
      read_all map (element_if (suc n) (carried_by o (holds map n) v)) (values_for (holds map n) v)
      ≡ values_for (λ k. slot_is o k || holds map n k) v
  slot-step n None e = refl
  slot-step n (Some ext) e = held (holds map n ext) refl where
    held : (b : Bool) → holds map n ext ≡ b → read_all map
        (element_if (suc n) (if b then None else value_bytes ext v)) (values_for (holds map n) v)
        ≡ values_for (and_this ext (holds map n)) v
    held true h = picked-already ext (holds map n) v h
    held false h = read-carried n ext (value_bytes ext v) (values_for (holds map n) v) e
        ∙ carry ext (holds map n) v fits

  read-elements : (n : ℕ) → read_all map (elements_to map v n) absent ≡ values_for (holds map n) v
  read-elements zero = refl
  read-elements (suc n) =
      read_all-append map (elements_to map v n) (element_if (suc n) (carried_at map n v)) absent
      ∙ ap (read_all map (element_if (suc n) (carried_at map n v))) (read-elements n)
      ∙ slot-step n (slot map n) refl

-- ---- the elements that are written

AreElements-append : (one : Bool) (xs ys : List Element) → AreElements one xs → AreElements one ys
    → AreElements one (xs ++ ys)
AreElements-append one [] ys h k = k
AreElements-append one (x ∷ xs) ys h k = (h.0, AreElements-append one xs ys h.1 k)

element_if-numbered : (n : ℕ) (o : Option (List ℕ)) → AreElements false (element_if (suc n) o)
element_if-numbered n None = tt
element_if-numbered n (Some bytes) = (omega arith, tt)

elements-numbered : (map : Numbering) (v : ExtensionValues) (n : ℕ) → AreElements false (elements_to map v n)
elements-numbered map v zero = tt
elements-numbered map v (suc n) = AreElements-append false (elements_to map v n) _ (elements-numbered map v n)
    (element_if-numbered n (carried_at map n v))

parts : (a b : Bool) → (a && b) ≡ true → (a ≡ true) × (b ≡ true)
parts true true h = (refl, refl)
parts true false h = absurd (true≢false (sym h))
parts false b h = absurd (true≢false (sym h))

le-of : (a b : ℕ) → nat_le a b ≡ true → a ≤ b
le-of a b h = grind (arith, nat_tests)

AreElements-one : (es : List Element) → AreElements false es → are_one_byte es ≡ true → AreElements true es
AreElements-one [] h k = tt
AreElements-one (e ∷ es) h k =
    let both = parts (fits_one_byte e) (are_one_byte es) k in
    let id = parts _ _ both.0 in
    let len = parts _ _ id.1 in
    ((h.0, le-of _ _ id.0, le-of _ _ len.0, le-of _ _ len.1), AreElements-one es h.1 both.1)

AreElements-form : (es : List Element) (b : Bool) → AreElements false es → are_one_byte es ≡ b → AreElements b es
AreElements-form es true h k = AreElements-one es h k
AreElements-form es false h k = h

-- Reading what was written.
pub values_of-block_of : (map : Numbering) (values : ExtensionValues) → AreValues values
    → values_of map (block_of map values) ≡ image_values map values
unfolding written_elements is_mapped values_of block_of image_values
values_of-block_of map values fits =
    let es = written_elements map values in
    values_of-block_in_form map (are_one_byte es) es
    (AreElements-form es (are_one_byte es) (elements-numbered map values 16) refl)
    ∙ read-elements map values fits 16

-- ---- lengths

byte-short : (o : Option ℕ) → IfSome (byte_bytes o) (λ bytes. length bytes ≤ 16)
byte-short None = tt
byte-short (Some n) = omega arith

name-short : (n : ℕ) → n ≤ 16 → (o : Option (List ℕ)) → IfSome o (λ text. IsName n text)
    → IfSome o (λ bytes. length bytes ≤ 16)
name-short n small None h = tt
name-short n small (Some text) h = omega (arith, length-IsName n text h)

value-short : (ext : Extension) (v : ExtensionValues) → AreValues v
    → IfSome (value_bytes ext v) (λ bytes. length bytes ≤ 16)
value-short AbsoluteSendTime v h = send v.abs_send_time where
  send : (o : Option ℕ) → IfSome (send_bytes o) (λ bytes. length bytes ≤ 16)
  send None = tt
  send (Some t) = omega arith
value-short AbsoluteCaptureTime v h = capture v.abs_capture_time where
  offset : (o : Option ℤ) → length (offset_bytes o) ≤ 8
  offset None = omega arith
  offset (Some z) = omega arith

  capture : (o : Option AbsCaptureTime) → IfSome (capture_bytes o) (λ bytes. length bytes ≤ 16)
  capture None = tt
  capture (Some t) = omega (arith, offset t.clock_offset)
value-short AudioLevel v h = level v.audio_level v.voice_activity where
  one : (o : Option ℕ) (a : Bool) → IfSome (level_byte o a) (λ bytes. length bytes ≤ 16)
  one None a = tt
  one (Some n) a = omega arith

  level : (l : Option ℤ) (a : Option Bool) → IfSome (level_bytes l a) (λ bytes. length bytes ≤ 16)
  level None a = tt
  level (Some z) None = tt
  level (Some z) (Some a) = one (level_number z) a
value-short VideoOrientation v h = byte-short v.video_orientation
value-short TransportSequenceNumber v h = transport v.transport_cc where
  transport : (o : Option ℕ) → IfSome (transport_bytes o) (λ bytes. length bytes ≤ 16)
  transport None = tt
  transport (Some n) = omega arith
value-short PlayoutDelay v h = delay v.play_delay_min v.play_delay_max where
  text : (t : Bool) (a b : ℕ) → IfSome (delay_text t a b) (λ bytes. length bytes ≤ 16)
  text true a b = omega arith
  text false a b = tt

  delay : (a b : Option ℕ) → IfSome (delay_bytes a b) (λ bytes. length bytes ≤ 16)
  delay None b = tt
  delay (Some a) None = tt
  delay (Some a) (Some b) = text (nat_lt a 4096 && nat_lt b 4096) a b
value-short VideoContentType v h = byte-short v.video_content_type
value-short RtpStreamId v h = name-short 8 (omega arith) v.rid h.rid
value-short RepairedRtpStreamId v h = name-short 8 (omega arith) v.rid_repair h.rid_repair
value-short RtpMid v h = name-short 16 (omega arith) v.mid h.mid
value-short (UnknownUri uri) v h = tt

pub carried-short : (o : Option Extension) (held : Extension → Bool) (v : ExtensionValues) → AreValues v
    → IfSome (carried_by o held v) (λ bytes. length bytes ≤ 16)
carried-short None held v h = tt
carried-short (Some ext) held v h = go (held ext) where
  go : (b : Bool) → IfSome (if b then None else value_bytes ext v) (λ bytes. length bytes ≤ 16)
  go true = tt
  go false = value-short ext v h

text-append : (one : Bool) (xs ys : List Element) → elements_text one (xs ++ ys) ≡ elements_text one xs
    ++ elements_text one ys
text-append one [] ys = refl
text-append one (x ∷ xs) ys = ap (λ (zs : List ℕ). element_text one x ++ zs) (text-append one xs ys)
    ∙ sym (append_assoc (element_text one x) (elements_text one xs) (elements_text one ys))

element-short : (one : Bool) (n : ℕ) (o : Option (List ℕ)) → IfSome o (λ bytes. length bytes ≤ 16)
    → length (elements_text one (element_if (suc n) o)) ≤ 18
element-short one n None h = omega arith
element-short true n (Some bytes) h = omega (arith, length-append bytes [])
element-short false n (Some bytes) h = omega (arith, length-append bytes [])

text-short : (one : Bool) (map : Numbering) (v : ExtensionValues) (n : ℕ) → AreValues v
    → length (elements_text one (elements_to map v n)) ≤ 18 * n
text-short one map v zero h = omega arith
text-short one map v (suc n) h =
    let this = element-short one n (carried_at map n v) (carried-short (slot map n) (holds map n) v h) in
    omega (
      arith,
      ap length (text-append one (elements_to map v n) (element_if (suc n) (carried_at map n v))),
      length-append (elements_text one (elements_to map v n))
          (elements_text one (element_if (suc n) (carried_at map n v))),
      this,
      text-short one map v n h,
    )

fill-words : (n : ℕ) → (n + fill n) % 4 ≡ 0
fill-words n = omega arith

length-filled : (text : List ℕ) → length (filled_text text) ≡ length text + fill (length text)
length-filled text = length-append text (replicate (fill (length text)) 0)
    ∙ ap (λ (k : ℕ). length text + k) (length-replicate (fill (length text)) 0)

-- A written block is whole words.
pub block_of-words : (map : Numbering) (values : ExtensionValues) → length (block_of map values).content
    ≡ 4 * (length (block_of map values).content / 4)
unfolding block_of
block_of-words map values =
    let text = elements_text (are_one_byte (written_elements map values)) (written_elements map values) in
    omega (arith, length-filled text, fill-words (length text))

pub block_of-length : (map : Numbering) (values : ExtensionValues) → AreValues values
    → length (block_of map values).content ≤ 292
unfolding written_elements block_of
block_of-length map values h =
    let one = are_one_byte (written_elements map values) in
    let text = elements_text one (written_elements map values) in
    omega (arith, length-filled text, text-short one map values 16 h)

profile-fits : (one : Bool) → profile_of one < 2 ^ 16
profile-fits true = omega arith
profile-fits false = omega arith

-- A written block has a profile of 16 bits and whole words, which fit its length.
pub block_of-fits : (map : Numbering) (values : ExtensionValues) → AreValues values →
    ((block_of map values).profile < 2 ^ 16)
    × (length (block_of map values).content ≡ 4 * (length (block_of map values).content / 4))
    × (length (block_of map values).content / 4 < 2 ^ 16)
unfolding block_of
block_of-fits map values h = (
  profile-fits (are_one_byte (written_elements map values)),
  block_of-words map values,
  omega (arith, block_of-length map values h),
)

-- ---- the loops that write

and-assoc : (a b c : Bool) → (a && (b && c)) ≡ ((a && b) && c)
and-assoc true b c = refl
and-assoc false b c = refl

pub are_one_byte-append : (xs ys : List Element) → are_one_byte (xs ++ ys) ≡ (are_one_byte xs && are_one_byte ys)
are_one_byte-append [] ys = refl
are_one_byte-append (x ∷ xs) ys = ap (λ (b : Bool). fits_one_byte x && b) (are_one_byte-append xs ys)
    ∙ and-assoc (fits_one_byte x) (are_one_byte xs) (are_one_byte ys)

-- one place more
pub fits-more : (map : Numbering) (v : ExtensionValues) (n : ℕ) (a b : Bool) → a ≡ are_one_byte (elements_to map v n)
    → b ≡ are_one_byte (place_elements map v n) → (a && b) ≡ are_one_byte (elements_to map v (n + 1))
fits-more map v n a b e f = rw (e, f, add-one n)
    (sym (are_one_byte-append (elements_to map v n) (place_elements map v n)))

pub text-more : (one : Bool) (map : Numbering) (v : ExtensionValues) (n : ℕ)
    → elements_text one (elements_to map v (n + 1)) ≡ elements_text one (elements_to map v n)
    ++ elements_text one (place_elements map v n)
text-more one map v n = rw (add-one n) (text-append one (elements_to map v n) (place_elements map v n))

pub length-text-more : (one : Bool) (map : Numbering) (v : ExtensionValues) (n : ℕ) →
    length (elements_text one (elements_to map v (n + 1)))
    ≡ length (elements_text one (elements_to map v n)) + length (elements_text one (place_elements map v n))
length-text-more one map v n = ap length (text-more one map v n)
    ∙ length-append (elements_text one (elements_to map v n)) (elements_text one (place_elements map v n))

pub text-grows : (one : Bool) (map : Numbering) (v : ExtensionValues) (k n : ℕ)
    → length (elements_text one (elements_to map v n)) ≤ length (elements_text one (elements_to map v (k + n)))
text-grows one map v zero n = omega (
  arith,
  ap (λ (m : ℕ). length (elements_text one (elements_to map v m))) (zero-add n),
)
text-grows one map v (suc k) n =
    let step : suc k + n ≡ (k + n) + 1 = omega arith in
    omega (
      arith,
      ap (λ (m : ℕ). length (elements_text one (elements_to map v m))) step,
      length-text-more one map v (k + n),
      text-grows one map v k n,
    )

-- room for one place more
pub room-more : (one : Bool) (map : Numbering) (v : ExtensionValues) (n : ℕ) → n < 16 →
    length (elements_text one (elements_to map v n)) + length (elements_text one (place_elements map v n)) ≤ length
    (elements_text one (written_elements map v))
unfolding written_elements
room-more one map v n h =
    let rest : (15 - n) + (n + 1) ≡ 16 = omega arith in
    omega (
      arith,
      length-text-more one map v n,
      text-grows one map v (15 - n) (n + 1),
      ap (λ (m : ℕ). length (elements_text one (elements_to map v m))) rest,
    )

place-fits_to : (map : Numbering) (v : ExtensionValues) (n k : ℕ) → are_one_byte (elements_to map v n) ≡ true → k < n
    → are_one_byte (place_elements map v k) ≡ true
place-fits_to map v zero k e h = absurd (omega arith)
place-fits_to map v (suc n) k e h =
    let both = parts _ _ (sym (are_one_byte-append (elements_to map v n) (place_elements map v n)) ∙ e) in
    elim (cases_order k n) [
      | inl same ↦ rw same both.1
      | inr other ↦ elim other [ inl below ↦ place-fits_to map v n k both.0 below | inr above ↦ absurd (omega arith) ]
    ]

pub place-fits : (map : Numbering) (v : ExtensionValues) (k : ℕ) → are_one_byte (written_elements map v) ≡ true
    → k < 16 → are_one_byte (place_elements map v k) ≡ true
unfolding written_elements
place-fits map v k e h = place-fits_to map v 16 k e h

-- what the one-byte form asks of the element of a place
pub fits-parts : (n : ℕ) (o : Option (List ℕ)) (bytes : List ℕ) → Some bytes ≡ o
    → are_one_byte (element_if (suc n) o) ≡ true → (n + 1 ≤ 14) × (1 ≤ length bytes)
fits-parts n None bytes e h = absurd cc
fits-parts n (Some xs) bytes e h =
    let same : bytes ≡ xs = cc in
    let here : Element = record { id = suc n; bytes = xs } in
    let both = parts (fits_one_byte here) true h in
    let id = parts (nat_le (suc n) 14) (nat_le 1 (length xs) && nat_le (length xs) 16) both.0 in
    let len = parts (nat_le 1 (length xs)) (nat_le (length xs) 16) id.1 in
    (omega (arith, le-of _ _ id.0), omega (arith, le-of _ _ len.0, ap length same))

pub one_element-fits : (n len : ℕ) (o : Option (List ℕ)) → Some len ≡ option_map length o
    → are_one_byte (element_if (suc n) o) ≡ (nat_lt n 14 && (nat_le 1 len && nat_le len 16))
one_element-fits n len None e = absurd cc
one_element-fits n len (Some bytes) e =
    let same : len ≡ length bytes = cc in
    rw same (grind (arith, nat_tests))

fill-zeros : (n : ℕ) → take (fill n) (zeros 3) ≡ zeros (fill n)
fill-zeros n = take-replicate (fill n) 3 0 (omega arith)

pub written-is : (map : Numbering) (v : ExtensionValues) (n : ℕ) → n ≡ 16 → elements_to map v n ≡ written_elements map v
unfolding written_elements
written-is map v n e = ap (elements_to map v) e

pub content-length : (map : Numbering) (v : ExtensionValues) (one : Bool) → one
    ≡ are_one_byte (written_elements map v) →
    length (block_of map v).content ≡ length (elements_text one (written_elements map v)) + fill
    (length (elements_text one (written_elements map v)))
unfolding block_of
content-length map v one e =
    ap (λ (b : Bool). length (filled_text (elements_text b (written_elements map v)))) (sym e)
    ∙ length-filled (elements_text one (written_elements map v))

pub block-profile : (map : Numbering) (v : ExtensionValues) (one : Bool) → one ≡ are_one_byte (written_elements map v)
    → profile_of one ≡ (block_of map v).profile
unfolding block_of
block-profile map v one e = ap profile_of e

-- the elements and the zeros are the block's bytes
pub content-is : (map : Numbering) (v : ExtensionValues) (one : Bool) (n d : ℕ) → one
    ≡ are_one_byte (written_elements map v) → n ≡ 16 → d ≡ length (elements_text one (elements_to map v n)) →
    elements_text one (elements_to map v n) ++ take (fill d) (zeros 3) ≡ (block_of map v).content
unfolding block_of
content-is map v one n d e is len =
    let whole = written-is map v n is in
    let text = elements_text one (written_elements map v) in
    let count : d ≡ length text = len ∙ ap (λ (es : List Element). length (elements_text one es)) whole in
    (λ i. elements_text one (whole i) ++ take (fill (count i)) (zeros 3))
    ∙ ap (λ (zs : List ℕ). text ++ zs) (fill-zeros (length text))
    ∙ ap (λ (b : Bool). filled_text (elements_text b (written_elements map v))) e

-- ---- the two-byte form is never the shorter one

shorter-text : (one : Bool) (es : List Element) → length (elements_text one es) ≤ length (elements_text false es)
shorter-text false es = omega arith
shorter-text true [] = omega arith
shorter-text true (e ∷ es) = omega (
  arith,
  shorter-text true es,
  length-append e.bytes (elements_text true es),
  length-append e.bytes (elements_text false es),
)

filled-grows : (n m : ℕ) → n ≤ m → n + fill n ≤ m + fill m
filled-grows n m h = omega (arith, h)

pub block_of-shorter : (map : Numbering) (values : ExtensionValues)
    → length (block_of map values).content ≤ length (two_byte_block map values).content
unfolding block_of two_byte_block
block_of-shorter map values =
    let es = written_elements map values in
    let one = are_one_byte es in
    omega (
      arith,
      length-filled (elements_text one es),
      length-filled (elements_text false es),
      filled-grows (length (elements_text one es)) (length (elements_text false es)) (shorter-text one es),
    )
