-- What makes every packet that is read be laid out by its fields, and every one that is refused for a fourth
-- reference list it.
use Rattle.std.proofs.Common.{◌≡◌, ℕ, zero, suc, ◌+◌, ◌*◌, ◌/◌, ◌%◌, ◌<◌, ◌≤◌, Bool, true, false, eqb, List, [], ◌∷◌}
use Rattle.std.proofs.Common.{◌++◌, drop, take, length, None, Some, Ok, Err, Option, Result, if◌then◌else◌, refl, sym}
use Rattle.std.proofs.Common.{ap, ◌∙◌, append_assoc, arith}
use Rattle.std.specs.Prelude.{◌&&◌, slice_index}
use Rattle.std.proofs.lemmas.List.{length-drop, length-take-le, take-append-drop}
use Rattle.payload_core_base.specs.Format.{Fragment, Reading}
use Rattle.payload_core_base.specs.declared.error.PacketError.{PacketError}
use Rattle.payload_core_base.specs.declared.error.PacketError.TheVariants.{ErrTooManyPDiff}
use Rattle.payload_core_base.specs.declared.extra.CodecExtra.{CodecExtra}
use Rattle.payload_core_base.specs.declared.extra.CodecExtra.TheVariants.{Vp9}
use Rattle.payload_core_base.specs.Bytes.{has_bit}
use Rattle.payload_core_vpx.specs.Vp9Descriptor.{behind_group, behind_pictures, has_f, has_i, has_l, has_n}
use Rattle.payload_core_vpx.specs.Vp9Descriptor.{has_p, has_v, layers_size, lists_too_many, payload_of, picture_id_of}
use Rattle.payload_core_vpx.specs.Vp9Descriptor.{picture_id_size, read_vp9, reading_of, references_of}
use Rattle.payload_core_vpx.specs.Vp9Descriptor.{references_size, sizes_size}
use Rattle.payload_core_vpx.proofs.Vp9LayoutLaw.{referring_is}
use Rattle.payload_core_vpx.specs.Vp9Layout.{AreLayers, ArePictures, AreReferences, IsGroup, IsPictureId, IsStructure}
use Rattle.payload_core_vpx.specs.Vp9Layout.{ListsFour, ReadLaw, TooManyLaw}

-- after this many bytes there are others, so these are there
long_enough : (n : ℕ) (text : List ℕ) → 0 < length (drop n text) → n < length text
long_enough n text some = omega (arith, some, length-drop n text)

id_taken : (i : Bool) (text : List ℕ) → (if i then (if has_bit 128 (slice_index text 0) then 2 else 1) else 0) <
    length text
    → IsPictureId i (take (if i then (if has_bit 128 (slice_index text 0) then 2 else 1) else 0) text)
    (if i then (if has_bit 128 (slice_index text 0)
    then Some (slice_index text 0 % 128 * 256 + slice_index text 1) else Some (slice_index text 0)) else None)
id_taken false text long = refl
id_taken true [] long = absurd (omega arith)
id_taken true (b ∷ bs) long = by_m (has_bit 128 b) refl bs long
  where
    by_m : (m : Bool) → has_bit 128 b ≡ m → (ls : List ℕ) → (if m then 2 else 1) < length (b ∷ ls)
        → IsPictureId true (take (if m then 2 else 1) (b ∷ ls))
        (if m then Some (b % 128 * 256 + slice_index (b ∷ ls) 1) else Some b)
    by_m false e ls lt = (e, refl)
    by_m true e [] lt = absurd (omega arith)
    by_m true e (l ∷ ls) lt = (e, refl)

layers_taken : (l f : Bool) (text : List ℕ) → (if l then (if f then 1 else 2) else 0) < length text
    → AreLayers l f (take (if l then (if f then 1 else 2) else 0) text)
layers_taken false f text long = tt
layers_taken true f [] long = absurd (omega arith)
layers_taken true true (a ∷ text) long = tt
layers_taken true false (a ∷ []) long = absurd (omega arith)
layers_taken true false (a ∷ b ∷ text) long = tt

two_at_least : (m : Bool) → 2 ≤ (if m then 3 else 2)
two_at_least true = omega arith
two_at_least false = omega arith

references_taken : (r : Bool) (text : List ℕ)
    → (if r then (if has_n text 0 then (if has_n text 1 then 3 else 2) else 1) else 0) < length text
    → (eqb (if r then (if has_n text 0 then (if has_n text 1 then 3 else 2) else 1) else 0) 3 && has_n text 2) ≡ false
    → AreReferences r (take (if r then (if has_n text 0 then (if has_n text 1 then 3 else 2) else 1) else 0) text)
references_taken false text long few = tt
references_taken true [] long few = absurd (omega arith)
references_taken true (a ∷ bs) long few = by_first (has_bit 1 a) refl bs long few
  where
    by_first : (m : Bool) → has_bit 1 a ≡ m → (bs : List ℕ)
        → (if m then (if has_n (a ∷ bs) 1 then 3 else 2) else 1) < length (a ∷ bs)
        → (eqb (if m then (if has_n (a ∷ bs) 1 then 3 else 2) else 1) 3 && has_n (a ∷ bs) 2) ≡ false
        → AreReferences true (take (if m then (if has_n (a ∷ bs) 1 then 3 else 2) else 1) (a ∷ bs))
    by_first false e bs lt q = e
    by_first true e [] lt q = absurd (omega (arith, two_at_least (has_n (a ∷ []) 1), lt))
    by_first true e (b ∷ cs) lt q = by_second (has_bit 1 b) refl cs lt q
      where
        by_second : (m : Bool) → has_bit 1 b ≡ m → (cs : List ℕ) → (if m then 3 else 2) < length (a ∷ b ∷ cs)
            → (eqb (if m then 3 else 2) 3 && has_n (a ∷ b ∷ cs) 2) ≡ false
            → AreReferences true (take (if m then 3 else 2) (a ∷ b ∷ cs))
        by_second false e' cs lt q = (e, e')
        by_second true e' [] lt q = absurd (omega arith)
        by_second true e' (c ∷ ds) lt q = (e, e', q)

-- what follows pictures is no longer than they are with it
pictures_short : (n : ℕ) (text : List ℕ) → length (behind_pictures n text) ≤ length text
pictures_short zero text = omega arith
pictures_short (suc n) text =
    let next : List ℕ = drop (1 + slice_index text 0 / 4 % 4) text in
    omega (arith, pictures_short n next, length-drop (1 + slice_index text 0 / 4 % 4) text)

drop_one_more : (x h : ℕ) (text : List ℕ) → drop (1 + x) (h ∷ text) ≡ drop x text
drop_one_more x h text = let next : 1 + x ≡ suc x = omega arith in ap (λ n. drop n (h ∷ text)) next

-- a text is its first part and what follows it
abbrev Parts : (List ℕ → Type 0) → List ℕ → List ℕ → Type 0
Parts P text rest = (bytes : List ℕ) × (text ≡ bytes ++ rest) × P bytes

pictures_taken : (n : ℕ) (text : List ℕ) → 0 < length (behind_pictures n text)
    → Parts (ArePictures n) text (behind_pictures n text)
pictures_taken zero text some = ([], refl, refl)
pictures_taken (suc n) [] some = let short = pictures_short (suc n) [] in absurd (omega (arith, some, short))
pictures_taken (suc n) (h ∷ text) some =
    let x : ℕ = h / 4 % 4 in
    let step : drop (1 + x) (h ∷ text) ≡ drop x text = drop_one_more x h text in
    let rest : List ℕ = behind_pictures n (drop (1 + x) (h ∷ text)) in
    let next = pictures_taken n (drop (1 + x) (h ∷ text)) some in
    let room : x ≤ length text = omega (
      arith,
      some,
      pictures_short n (drop (1 + x) (h ∷ text)),
      ap length step,
      length-drop x text,
    ) in
    let whole : text ≡ take x text ++ (next.0 ++ rest) =
    sym (take-append-drop x text) ∙ ap (λ t. take x text ++ t) (sym step ∙ next.1) in (
      h ∷ (take x text ++ next.0),
      ap (λ t. h ∷ t) (whole ∙ sym (append_assoc (take x text) next.0 rest)),
      (h, take x text, next.0, refl, length-take-le x text room, next.2),
    )

group_short : (g : Bool) (text : List ℕ) → length (behind_group g text) ≤ length text
group_short false text = omega arith
group_short true text = omega (arith, pictures_short (slice_index text 0) (drop 1 text), length-drop 1 text)

group_taken : (g : Bool) (text : List ℕ) → 0 < length (behind_group g text)
    → Parts (IsGroup g) text (behind_group g text)
group_taken false text some = ([], refl, refl)
group_taken true [] some = let short = group_short true [] in absurd (omega (arith, some, short))
group_taken true (n ∷ text) some =
    let pictures = pictures_taken n text some in
    (n ∷ pictures.0, ap (λ t. n ∷ t) pictures.1, (n, pictures.0, refl, pictures.2))

abbrev behind_flags : Bool → List ℕ → List ℕ
behind_flags v text = if v then behind_group (has_bit 8 (slice_index text 0))
    (drop (1 + sizes_size (slice_index text 0)) text) else text

structure_short : (v : Bool) (text : List ℕ) → length (behind_flags v text) ≤ length text
structure_short false text = omega arith
structure_short true text = omega (
  arith,
  group_short (has_bit 8 (slice_index text 0)) (drop (1 + sizes_size (slice_index text 0)) text),
  length-drop (1 + sizes_size (slice_index text 0)) text,
)

structure_taken : (v : Bool) (text : List ℕ) → 0 < length (behind_flags v text)
    → Parts (IsStructure v) text (behind_flags v text)
structure_taken false text some = ([], refl, refl)
structure_taken true [] some = let short = structure_short true [] in absurd (omega (arith, some, short))
structure_taken true (flags ∷ text) some =
    let x : ℕ = sizes_size flags in
    let step : drop (1 + x) (flags ∷ text) ≡ drop x text = drop_one_more x flags text in
    let rest : List ℕ = behind_group (has_bit 8 flags) (drop (1 + x) (flags ∷ text)) in
    let group = group_taken (has_bit 8 flags) (drop (1 + x) (flags ∷ text)) some in
    let room : x ≤ length text = omega (
      arith,
      some,
      group_short (has_bit 8 flags) (drop (1 + x) (flags ∷ text)),
      ap length step,
      length-drop x text,
    ) in
    let whole : text ≡ take x text ++ (group.0 ++ rest) =
    sym (take-append-drop x text) ∙ ap (λ t. take x text ++ t) (sym step ∙ group.1) in (
      flags ∷ (take x text ++ group.0),
      ap (λ t. flags ∷ t) (whole ∙ sym (append_assoc (take x text) group.0 rest)),
      (flags, take x text, group.0, refl, length-take-le x text room, group.2),
    )

-- a packet that is read has a payload, and lists few references
read_has : (fragment : Fragment) (many : Bool) (id : Option ℕ) (payload : List ℕ) (r : Reading)
    → (if many then Err ErrTooManyPDiff else reading_of fragment id payload) ≡ Ok r
    → (many ≡ false) × (0 < length payload) ×
    (r ≡ record { written = payload; extra = Vp9 (record { picture_id = id }); fragment = fragment })
read_has fragment true id payload r is = absurd (cc)
read_has fragment false id [] r is = absurd (cc)
read_has fragment false id (b ∷ bs) r is = (refl, omega arith, cc)

pub read_law : ReadLaw
read_law fragment extra [] r is = absurd (cc)
read_law fragment extra (first ∷ rest) r is =
    let referring : List ℕ = references_of first rest in
    let payload : List ℕ = payload_of first rest in
    let id : Option ℕ = picture_id_of first rest in
    let has = read_has fragment (lists_too_many first referring) id payload r is in
    let layered : List ℕ = drop (picture_id_size first rest) rest in
    let structured : List ℕ = drop (references_size first referring) referring in
    let some_structured : 0 < length structured = omega (arith, has.1, structure_short (has_v first) structured) in
    let some_referring = long_enough (references_size first referring) referring some_structured in
    let some_referring' : 0 < length referring = omega (arith, some_referring) in
    let some_layered = long_enough (layers_size first) layered some_referring' in
    let some_layered' : 0 < length layered = omega (arith, some_layered) in
    let some_rest = long_enough (picture_id_size first rest) rest some_layered' in
    let structure = structure_taken (has_v first) structured has.1 in
    let R : List ℕ = take (references_size first referring) referring in
    let L : List ℕ = take (layers_size first) layered in
    let I : List ℕ = take (picture_id_size first rest) rest in
    let whole_referring : referring ≡ R ++ (structure.0 ++ payload) =
    sym (take-append-drop (references_size first referring) referring) ∙ ap (λ t. R ++ t) structure.1 in
    let whole_layered : layered ≡ L ++ (R ++ (structure.0 ++ payload)) =
    sym (take-append-drop (layers_size first) layered) ∙ ap (λ t. L ++ t) whole_referring in
    let whole_rest : rest ≡ I ++ (L ++ (R ++ (structure.0 ++ payload))) =
    sym (take-append-drop (picture_id_size first rest) rest) ∙ ap (λ t. I ++ t) whole_layered in
    record {
      id = id;
      payload = payload;
      laid = record {
        first = first;
        picture_id = I;
        layers = L;
        references = R;
        structure = structure.0;
        laid_out = ap (λ t. first ∷ t) whole_rest;
        is_picture_id = id_taken (has_i first) rest some_rest;
        are_layers = layers_taken (has_l first) (has_f first) layered some_layered;
        are_references = references_taken (has_p first && has_f first) referring some_referring has.0;
        is_structure = structure.2;
        some_payload = has.1;
      };
      reading = has.2;
    }

-- a fourth reference
four_listed : (r : Bool) (text : List ℕ) → r ≡ true → (a b c : ℕ) (rest : List ℕ) → text ≡ a ∷ b ∷ c ∷ rest
    → has_bit 1 a ≡ true → has_bit 1 b ≡ true → has_bit 1 c ≡ true
    → (eqb (if r then (if has_n text 0 then (if has_n text 1 then 3 else 2) else 1) else 0) 3 && has_n text 2) ≡ true
four_listed r text is_r a b c rest is na nb nc =
    ap (λ r. eqb (if r then (if has_n text 0 then (if has_n text 1 then 3 else 2) else 1) else 0) 3 && has_n text 2)
    is_r
    ∙ ap (λ t. eqb (if has_n t 0 then (if has_n t 1 then 3 else 2) else 1) 3 && has_n t 2) is
    ∙ ap (λ n. eqb (if n then (if has_bit 1 b then 3 else 2) else 1) 3 && has_bit 1 c) na
    ∙ ap (λ n. eqb (if n then 3 else 2) 3 && has_bit 1 c) nb ∙ nc

record IsFour (r : Bool) (text : List ℕ) : Type 0 where
  pub lists : r ≡ true
  pub a : ℕ
  pub b : ℕ
  pub c : ℕ
  pub rest : List ℕ
  pub is : text ≡ a ∷ b ∷ c ∷ rest
  pub first_n : has_bit 1 a ≡ true
  pub second_n : has_bit 1 b ≡ true
  pub third_n : has_bit 1 c ≡ true

four_found : (r : Bool) (text : List ℕ) →
    (eqb (if r then (if has_n text 0 then (if has_n text 1 then 3 else 2) else 1) else 0) 3 && has_n text 2) ≡ true
    → IsFour r text
four_found false text q = absurd (cc)
four_found true [] q = absurd (cc)
four_found true (a ∷ bs) q = by_first (has_bit 1 a) refl bs q
  where
    by_first : (m : Bool) → has_bit 1 a ≡ m → (bs : List ℕ)
        → (eqb (if m then (if has_n (a ∷ bs) 1 then 3 else 2) else 1) 3 && has_n (a ∷ bs) 2) ≡ true
        → IsFour true (a ∷ bs)
    by_first false e bs q = absurd (cc)
    by_first true e [] q = absurd (cc)
    by_first true e (b ∷ cs) q = by_second (has_bit 1 b) refl cs q
      where
        by_second : (m : Bool) → has_bit 1 b ≡ m → (cs : List ℕ)
            → (eqb (if m then 3 else 2) 3 && has_n (a ∷ b ∷ cs) 2) ≡ true → IsFour true (a ∷ b ∷ cs)
        by_second false e' cs q = absurd (cc)
        by_second true e' [] q = absurd (cc)
        by_second true e' (c ∷ ds) q = record {
          lists = refl;
          a = a;
          b = b;
          c = c;
          rest = ds;
          is = refl;
          first_n =
              e;
          second_n = e';
          third_n = q;
        }

refused_many : (fragment : Fragment) (many : Bool) (id : Option ℕ) (payload : List ℕ)
    → (if many then Err ErrTooManyPDiff else reading_of fragment id payload) ≡ Err ErrTooManyPDiff → many ≡ true
refused_many fragment true id payload is = refl
refused_many fragment false id [] is = absurd (cc)
refused_many fragment false id (b ∷ bs) is = absurd (cc)

lists_four : (fragment : Fragment) (extra : CodecExtra) (packet : List ℕ) → read_vp9 fragment extra packet
    ≡ Err ErrTooManyPDiff → ListsFour packet
lists_four fragment extra [] is = absurd (cc)
lists_four fragment extra (first ∷ rest) is =
    let referring : List ℕ = references_of first rest in
    let layered : List ℕ = drop (picture_id_size first rest) rest in
    let four = four_found (has_p first && has_f first) referring
    (refused_many fragment (lists_too_many first referring) (picture_id_of first rest) (payload_of first rest)
    is) in
    let some_referring : 0 < length referring = omega (arith, ap length four.is) in
    let some_layered = long_enough (layers_size first) layered some_referring in
    let some_layered' : 0 < length layered = omega (arith, some_layered) in
    let some_rest = long_enough (picture_id_size first rest) rest some_layered' in
    let L : List ℕ = take (layers_size first) layered in
    let I : List ℕ = take (picture_id_size first rest) rest in
    let whole_layered : layered ≡ L ++ (four.a ∷ four.b ∷ four.c ∷ four.rest) =
    sym (take-append-drop (layers_size first) layered) ∙ ap (λ t. L ++ t) four.is in
    let whole_rest : rest ≡ I ++ (L ++ (four.a ∷ four.b ∷ four.c ∷ four.rest)) =
    sym (take-append-drop (picture_id_size first rest) rest) ∙ ap (λ t. I ++ t) whole_layered in
    record {
      first = first;
      id = picture_id_of first rest;
      picture_id = I;
      layers = L;
      a = four.a;
      b = four.b;
      c = four.c;
      rest = four.rest;
      laid_out = ap (λ t. first ∷ t) whole_rest;
      is_picture_id = id_taken (has_i first) rest some_rest;
      are_layers = layers_taken (has_l first) (has_f first) layered some_layered;
      lists = four.lists;
      first_n = four.first_n;
      second_n = four.second_n;
      third_n = four.third_n;
    }

four_refused : (fragment : Fragment) (extra : CodecExtra) (packet : List ℕ) → ListsFour packet
    → read_vp9 fragment extra packet ≡ Err ErrTooManyPDiff
four_refused fragment extra packet is =
    let first : ℕ = is.first in
    let referring : List ℕ = is.a ∷ is.b ∷ is.c ∷ is.rest in
    let rest : List ℕ = is.picture_id ++ (is.layers ++ referring) in
    let refused : Result Reading PacketError = Err ErrTooManyPDiff in
    let many : lists_too_many first (references_of first rest) ≡ true =
    ap (lists_too_many first) (referring_is first is.id is.picture_id is.layers referring is.is_picture_id
    is.are_layers)
    ∙ four_listed (has_p first && has_f first) referring is.lists is.a is.b is.c is.rest refl is.first_n is.second_n
    is.third_n in
    ap (read_vp9 fragment extra) is.laid_out
    ∙ ap (λ t. if t then refused else reading_of fragment (picture_id_of first rest) (payload_of first rest)) many

pub too_many_law : TooManyLaw
too_many_law fragment extra packet = (four_refused fragment extra packet, lists_four fragment extra packet)
