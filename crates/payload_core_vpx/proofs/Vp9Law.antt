-- What makes VP9 keep the codec law.
use Rattle.std.proofs.Common.{◌≡◌, ℕ, zero, suc, ◌+◌, ◌-◌, ◌*◌, ◌/◌, ◌%◌, ◌<◌, ◌≤◌, Bool, true, false, ltb, leb, eqb}
use Rattle.std.proofs.Common.{List, [], ◌∷◌, ◌++◌, take, drop, length, None, Some, Ok, Result, if◌then◌else◌, refl}
use Rattle.std.proofs.Common.{sym, ap, subst, ◌∙◌, arith, eq-eqb}
use Rattle.std.specs.Prelude.{◌&&◌, Option}
use Rattle.std.specs.List.{All}
use Rattle.std.proofs.lemmas.Bool.Decides.{nat_tests}
use Rattle.std.proofs.lemmas.List.{append-nil, drop_all, take_all}
use Rattle.std.proofs.lemmas.List.Elements.{All-cons, All-head, All-nil, All-tail}
use Rattle.payload_core_base.specs.Format.{Reading, read_all}
use Rattle.payload_core_base.specs.Law.{AreFramesOf, AreFull, AreWithin, ChangesWhereSent, CodecLaw, FillsPackets}
use Rattle.payload_core_base.specs.Law.{GivesFrom, IsFrameOf, IsSentAs, SendsFull, SendsUnits, SilenceKeepsState}
use Rattle.payload_core_base.specs.Law.{joined, packet_at, payloads_of}
use Rattle.payload_core_base.specs.Packing.{MarkedPacket, Sender, is_none_left, marked}
use Rattle.payload_core_base.specs.Pieces.{pieces}
use Rattle.payload_core_base.specs.declared.error.PacketError.{PacketError}
use Rattle.payload_core_base.specs.declared.extra.CodecExtra.{CodecExtra}
use Rattle.payload_core_base.proofs.FrameLemmas.{EachGives, GivesBytes, first-headed-frame, marker-tails}
use Rattle.payload_core_base.proofs.FrameLemmas.{read_all-each}
use Rattle.payload_core_base.proofs.PieceLemmas.{joined-pieces, pieces-empty, pieces-full, pieces-step, pieces-within}
use Rattle.payload_core_base.specs.Frames.{after_frame, next_id}
use Rattle.payload_core_vpx.specs.Vp9.{SameUnits, described, descriptor, descriptor_size}
use Rattle.payload_core_vpx.specs.Vp9.{tells_prediction}
use Rattle.payload_core_vpx.specs.Vp9.{units_of, vp9_coding, vp9_packing}
use Rattle.payload_core_base.specs.Bytes.{has_bit}
use Rattle.payload_core_vpx.specs.Vp9Descriptor.{has_f, has_i, has_l, has_p, has_v, vp9_format}
use Rattle.payload_core_vpx.specs.Vp9Layout.{AreLayers, AreReferences, IsPictureId, IsStructure, IsVp9Packet}
use Rattle.payload_core_vpx.proofs.Vp9LayoutLaw.{layout_law}

-- no piece is left if and only if no byte is
pub none_left-pieces : (size : ℕ) (text : List ℕ) → 0 < size → is_none_left (pieces size text) ≡ eqb (length text) 0
none_left-pieces size [] some_size = ap is_none_left (pieces-empty size)
none_left-pieces size (b ∷ bs) some_size =
    let some : 0 < length (b ∷ bs) = omega arith in
    let not_none : eqb (length (b ∷ bs)) 0 ≡ false = grind (arith, nat_tests) in
    ap is_none_left (pieces-step size (b ∷ bs) some_size some) ∙ sym not_none

-- the first byte of an id of 15 bits has the M bit
over : (id : ℕ) → id < 32768 → has_bit 128 (128 + id / 256) ≡ true
over id small = let e : (128 + id / 256) / 128 % 2 ≡ 1 = omega arith in eq-eqb _ _ e

-- the descriptor of a packet that was sent, field by field
laid_with : (flags id : ℕ) (references : List ℕ) (b : ℕ) (bs : List ℕ) → id < 32768 → has_i flags ≡ true
    → has_l flags ≡ false → has_v flags ≡ false → AreReferences (has_p flags && has_f flags) references
    → IsVp9Packet (flags ∷ (128 + id / 256) ∷ id % 256 ∷ (references ++ (b ∷ bs)))
    (Some ((128 + id / 256) % 128 * 256 + id % 256)) (b ∷ bs)
laid_with flags id references b bs small i l v are_references =
    let given : Option ℕ = Some ((128 + id / 256) % 128 * 256 + id % 256) in
    let I : Bool → Type 0 = λ x. IsPictureId x ((128 + id / 256) ∷ id % 256 ∷ []) given in
    let L : Bool → Type 0 = λ x. AreLayers x (has_f flags) [] in
    let V : Bool → Type 0 = λ x. IsStructure x [] in
    record {
      first = flags;
      picture_id = (128 + id / 256) ∷ id % 256 ∷ [];
      layers = [];
      references = references;
      structure = [];
      laid_out = refl;
      is_picture_id = subst I (sym i) (over id small, refl);
      are_layers = subst L (sym l) tt;
      are_references = are_references;
      is_structure = subst V (sym v) refl;
      some_payload = omega arith;
    }

laid_out : (told : Bool) (id : ℕ) (first last : Bool) (b : ℕ) (bs : List ℕ) → id < 32768
    → IsVp9Packet (descriptor told id first last ++ (b ∷ bs)) (Some ((128 + id / 256) % 128 * 256 + id % 256)) (b ∷ bs)
laid_out told id first last b bs small = by_flags told first last
  where
    by_flags : (told first last : Bool) → IsVp9Packet (descriptor told id first last ++ (b ∷ bs))
        (Some ((128 + id / 256) % 128 * 256 + id % 256)) (b ∷ bs)
    by_flags true true true = laid_with 220 id (2 ∷ []) b bs small refl refl refl refl
    by_flags true true false = laid_with 216 id (2 ∷ []) b bs small refl refl refl refl
    by_flags true false true = laid_with 212 id (2 ∷ []) b bs small refl refl refl refl
    by_flags true false false = laid_with 208 id (2 ∷ []) b bs small refl refl refl refl
    by_flags false true true = laid_with 156 id [] b bs small refl refl refl tt
    by_flags false true false = laid_with 152 id [] b bs small refl refl refl tt
    by_flags false false true = laid_with 148 id [] b bs small refl refl refl tt
    by_flags false false false = laid_with 144 id [] b bs small refl refl refl tt

-- a descriptor that was sent, with a byte after it, is read, and its payload written
gives_payload : (told : Bool) (id : ℕ) (first last : Bool) (b : ℕ) (bs : List ℕ) (extra : CodecExtra) → id < 32768
    → GivesBytes (vp9_format.read None extra (descriptor told id first last ++ (b ∷ bs))) (b ∷ bs)
gives_payload told id first last b bs extra small =
    let P : Result Reading PacketError → Type 0 = λ r. GivesBytes r (b ∷ bs) in
    let reads = layout_law None extra (descriptor told id first last ++ (b ∷ bs))
    (Some ((128 + id / 256) % 128 * 256 + id % 256)) (b ∷ bs) (laid_out told id first last b bs small) in
    subst P (sym reads) (refl, refl)

-- the first packet alone is a head
head_is : (told : Bool) (id : ℕ) (first last : Bool) (p : List ℕ)
    → vp9_format.head (descriptor told id first last ++ p) ≡ first
head_is true id true true p = refl
head_is true id true false p = refl
head_is true id false true p = refl
head_is true id false false p = refl
head_is false id true true p = refl
head_is false id true false p = refl
head_is false id false true p = refl
head_is false id false false p = refl

-- each packet gives its piece
each_gives : (told : Bool) (id : ℕ) (first : Bool) (ps : List (List ℕ)) (limit : ℕ) → id < 32768
    → All (λ p. (0 < length p) × (length p ≤ limit)) ps → EachGives vp9_format (described told id first ps) ps
each_gives told id first [] limit small fits = tt
each_gives told id first ([] ∷ ps) limit small fits =
    absurd (omega (arith, (All-head (λ (p : List ℕ). (0 < length p) × (length p ≤ limit)) [] ps fits).0))
each_gives told id first ((b ∷ bs) ∷ ps) limit small fits = (
  (λ extra. gives_payload told id first (is_none_left ps) b bs extra small),
  each_gives told id false ps limit small (All-tail (λ (p : List ℕ). (0 < length p) × (length p ≤ limit)) (b ∷ bs)
      ps fits),
)

-- no later packet is a head
no_heads : (prediction told : Bool) (id : ℕ) (ps : List (List ℕ)) (k : ℕ)
    → k < length (marked (vp9_packing prediction) (described told id false ps))
    → vp9_format.head (packet_at (marked (vp9_packing prediction) (described told id false ps)) k).payload ≡ false
no_heads prediction told id [] k lt = absurd (omega arith)
no_heads prediction told id (p ∷ ps) zero lt = head_is told id false (is_none_left ps) p
no_heads prediction told id (p ∷ ps) (suc k) lt = no_heads prediction told id ps k (omega arith)

payloads_marked : (prediction : Bool) (ps : List (List ℕ)) → payloads_of (marked (vp9_packing prediction) ps) ≡ ps
payloads_marked prediction [] = refl
payloads_marked prediction (p ∷ ps) = ap (λ qs. p ∷ qs) (payloads_marked prediction ps)

size_is : (told : Bool) (id : ℕ) (first last : Bool) (p : List ℕ)
    → length (descriptor told id first last ++ p) ≡ descriptor_size told + length p
size_is true id first last p = omega arith
size_is false id first last p = omega arith

-- after their descriptors the pieces fit the limit
described_within : (told : Bool) (id : ℕ) (first : Bool) (limit : ℕ) (ps : List (List ℕ)) → descriptor_size told < limit
    → All (λ p. (0 < length p) × (length p ≤ limit - descriptor_size told)) ps
    → AreWithin limit (described told id first ps)
described_within told id first limit [] room fits = All-nil _
described_within told id first limit (p ∷ ps) room fits =
    let P : List ℕ → Type 0 = λ p. (0 < length p) × (length p ≤ limit - descriptor_size told) in
    let here = All-head P p ps fits in
    All-cons (λ (p : List ℕ). (0 < length p) × (length p ≤ limit)) (descriptor told id first (is_none_left ps) ++ p)
    (described told id false ps)
    (omega arith, omega (arith, size_is told id first (is_none_left ps) p, here.1))
    (described_within told id false limit ps room (All-tail P p ps fits))

described_full : (told : Bool) (id : ℕ) (first : Bool) (limit : ℕ) (ps : List (List ℕ))
    → descriptor_size told < limit → AreFull (limit - descriptor_size told) ps
    → AreFull limit (described told id first ps)
described_full told id first limit [] room full k lt = absurd (omega arith)
described_full told id first limit (p ∷ []) room full k lt = absurd (omega arith)
described_full told id first limit (p ∷ q ∷ ps) room full zero lt = omega (
  arith,
  size_is told id first (is_none_left (q ∷ ps)) p,
  full 0 (omega arith),
)
described_full told id first limit (p ∷ q ∷ ps) room full (suc k) lt =
    described_full told id false limit (q ∷ ps) room (λ j less. full (suc j) (omega arith)) k (omega arith)

next_small : (id : ℕ) → next_id id < 32768
next_small id = by_test (ltb id 32767) refl
  where
    by_test : (less : Bool) → ltb id 32767 ≡ less → (if less then id + 1 else 0) < 32768
    by_test true e = grind (arith, nat_tests)
    by_test false e = omega arith

one_unit : (ps : List MarkedPacket) (parts : List (List ℕ)) → IsFrameOf vp9_format ps parts
    → AreFramesOf vp9_format ps (parts ∷ [])
one_unit ps parts frame =
    let F : List MarkedPacket → Type 0 = λ qs. IsFrameOf vp9_format qs parts in
    (length ps, subst F (sym (take_all (length ps) ps (omega arith))) frame, drop_all (length ps) ps (omega arith))

module _ (prediction told : Bool) (s : Sender) (limit : ℕ) (b : ℕ) (bs : List ℕ) (small : s.number < 32768)
    (room : descriptor_size told < limit) where
  abbrev size : ℕ
  size = limit - descriptor_size told

  abbrev cut : List (List ℕ)
  cut = pieces size (b ∷ bs)

  frame_of : (ps : List (List ℕ)) (p : List ℕ) → All (λ p. (0 < length p) × (length p ≤ size)) (p ∷ ps)
      → joined (p ∷ ps) ≡ b ∷ bs
      → IsFrameOf vp9_format (marked (vp9_packing prediction) (described told s.number true (p ∷ ps)))
      ((b ∷ bs) ∷ [])
  frame_of ps p fits whole =
      let packets : List (List ℕ) = described told s.number true (p ∷ ps) in
      let gives : (extra : CodecExtra) → GivesFrom
      (read_all vp9_format None extra (payloads_of (marked (vp9_packing prediction) packets))) ((b ∷ bs)
      ∷ []) 0 = λ extra.
      let all = read_all-each vp9_format packets (p ∷ ps) (each_gives told s.number true (p
      ∷ ps) size small fits) extra in
      let P : List (List ℕ) → Type 0 = λ qs. GivesFrom (read_all vp9_format None extra qs) ((b ∷ bs) ∷ []) 0 in
      subst P (sym (payloads_marked prediction packets)) (record {
        some_part = omega arith;
        no_fault = all.no_fault;
        written =
            all.written ∙ whole ∙ sym (append-nil (b ∷ bs));
        closed = all.closed;
      }) in
      first-headed-frame vp9_format (record {
        payload = descriptor told s.number true (is_none_left ps) ++ p;
        marker =
            is_none_left (described told s.number false ps);
      }) (marked (vp9_packing prediction) (described told s.number false ps))
      ((b ∷ bs) ∷ [])
      (head_is told s.number true (is_none_left ps) p) (no_heads prediction told s.number ps)
      (marker-tails (vp9_packing prediction) vp9_format (record { marks = λ q last. refl; tail = λ marker q. refl })
      packets)
      gives

  sent_frame : IsSentAs (vp9_coding prediction) limit
      (record { packets = described told s.number true cut; sender = after_frame s })
      (((b ∷ bs) ∷ []) ∷ []) (after_frame s)
  sent_frame =
      let some_size : 0 < size = omega arith in
      let step = pieces-step size (b ∷ bs) some_size (omega arith) in
      let p : List ℕ = take size (b ∷ bs) in
      let ps : List (List ℕ) = pieces size (drop size (b ∷ bs)) in
      let within = pieces-within size some_size (b ∷ bs) in
      let W : List (List ℕ) → Type 0 = All (λ p. (0 < length p) × (length p ≤ size)) in
      let frame = frame_of ps p (subst W step within) (ap joined (sym step) ∙ joined-pieces size some_size (b ∷ bs)) in
      let F : List (List ℕ)
      → Type 0 = λ qs. AreFramesOf vp9_format (marked (vp9_packing prediction) (described told s.number true qs))
      (((b ∷ bs) ∷ []) ∷ []) in
      record {
        reached = next_small s.number;
        within = described_within told s.number true limit cut room within;
        frames = subst F (sym step) (one_unit (marked (vp9_packing prediction)
            (described told s.number true (p ∷ ps))) ((b ∷ bs) ∷ [])
            frame);
        leaves = refl;
      }

by_room : (prediction told : Bool) (s : Sender) (limit b : ℕ) (bs : List ℕ) (full : Bool)
    → leb limit (descriptor_size told) ≡ full → s.number < 32768
    → SendsUnits (vp9_coding prediction) limit (Ok (if full then record { packets = []; sender = s }
    else record {
      packets = described told s.number true (pieces (limit - descriptor_size told) (b ∷ bs));
      sender = after_frame s;
    }))
    (if full then [] else ((b ∷ bs) ∷ []) ∷ [])
    (if full then s else after_frame s)
by_room prediction told s limit b bs true e small =
    record { reached = small; within = All-nil _; frames = refl; leaves = refl }
by_room prediction told s limit b bs false e small =
    sent_frame prediction told s limit b bs small (grind (arith, nat_tests))

pub vp9_codec_law : (prediction : Bool) → CodecLaw (vp9_coding prediction)
vp9_codec_law prediction s limit [] reached well_formed = absurd (omega arith)
vp9_codec_law prediction s limit (b ∷ bs) reached well_formed =
    let told = tells_prediction prediction (b ∷ bs) in
    by_room prediction told s limit b bs (leb limit (descriptor_size told)) refl reached

full_by : (told : Bool) (s : Sender) (limit b : ℕ) (bs : List ℕ) (full : Bool) → leb limit (descriptor_size told) ≡ full
    → SendsFull limit (Ok (if full then record { packets = []; sender = s }
    else record {
      packets = described told s.number true (pieces (limit - descriptor_size told) (b ∷ bs));
      sender = after_frame s;
    }))
full_by told s limit b bs true e = λ k lt. absurd (omega arith)
full_by told s limit b bs false e =
    let room : descriptor_size told < limit = grind (arith, nat_tests) in
    described_full told s.number true limit (pieces (limit - descriptor_size told) (b ∷ bs)) room
    (pieces-full (limit - descriptor_size told) (omega arith) (b ∷ bs))

pub vp9_full : (prediction : Bool) → FillsPackets (vp9_packing prediction)
vp9_full prediction s limit [] = λ k lt. absurd (omega arith)
vp9_full prediction s limit (b ∷ bs) =
    let told = tells_prediction prediction (b ∷ bs) in
    full_by told s limit b bs (leb limit (descriptor_size told)) refl

-- a frame that is sent has a packet
silent_by : (told : Bool) (s : Sender) (limit b : ℕ) (bs : List ℕ) (full : Bool)
    → leb limit (descriptor_size told) ≡ full
    → ChangesWhereSent s (Ok (if full then record { packets = []; sender = s }
    else record {
      packets = described told s.number true (pieces (limit - descriptor_size told) (b ∷ bs));
      sender = after_frame s;
    }))
silent_by told s limit b bs true e = λ none. refl
silent_by told s limit b bs false e = λ none.
    let room : descriptor_size told < limit = grind (arith, nat_tests) in
    let size : ℕ = limit - descriptor_size told in
    let step : pieces size (b ∷ bs) ≡ take size (b ∷ bs) ∷ pieces size (drop size (b ∷ bs)) =
    pieces-step size (b ∷ bs) (omega arith) (omega arith) in
    let some : length (described told s.number true (pieces size (b ∷ bs)))
    ≡ suc (length (described told s.number false (pieces size (drop size (b ∷ bs))))) =
    ap (λ ps. length (described told s.number true ps)) step in
    absurd (omega (arith, some, ap length none))

pub vp9_silent : (prediction : Bool) → SilenceKeepsState (vp9_packing prediction)
vp9_silent prediction s limit [] = λ none. refl
vp9_silent prediction s limit (b ∷ bs) =
    let told = tells_prediction prediction (b ∷ bs) in
    silent_by told s limit b bs (leb limit (descriptor_size told)) refl

one_unit_sent : (told : Bool) (limit : ℕ) (sample : List ℕ) → 4 < limit → units_of told limit sample
    ≡ (sample ∷ []) ∷ []
one_unit_sent told limit sample room =
    let no : leb limit (descriptor_size told) ≡ false = by_size told in
    ap (λ (full : Bool). if full then [] else (sample ∷ []) ∷ []) no
  where
    by_size : (told : Bool) → leb limit (descriptor_size told) ≡ false
    by_size true = grind (arith, nat_tests)
    by_size false = grind (arith, nat_tests)

pub vp9_same_units : SameUnits
vp9_same_units prediction s limit sample room = one_unit_sent (tells_prediction prediction sample) limit sample room
    ∙ sym (one_unit_sent (tells_prediction false sample) limit sample room)
