-- What makes VP8 keep the codec law.
use Rattle.std.proofs.Common.{◌≡◌, ℕ, zero, suc, ◌+◌, ◌-◌, ◌/◌, ◌%◌, ◌<◌, ◌≤◌, Bool, true, false, ltb, leb, eqb, List}
use Rattle.std.proofs.Common.{[], ◌∷◌, ◌++◌, take, drop, length, None, Ok, Result, if◌then◌else◌, refl, sym, ap}
use Rattle.std.proofs.Common.{subst, ◌∙◌, arith, eq-eqb}
use Rattle.std.specs.List.{All}
use Rattle.std.proofs.lemmas.Bool.Decides.{nat_tests}
use Rattle.std.proofs.lemmas.List.{append-nil, drop_all, length-append, take_all}
use Rattle.std.proofs.lemmas.List.Elements.{All-cons, All-head, All-nil, All-tail}
use Rattle.payload_core_base.specs.Format.{Reading, read_all}
use Rattle.payload_core_base.specs.Law.{AreFramesOf, AreFull, AreWithin, ChangesWhereSent, CodecLaw, FillsPackets}
use Rattle.payload_core_base.specs.Law.{GivesFrom, IsFrameOf, IsSentAs, SendsFull, SendsUnits, SilenceKeepsState}
use Rattle.payload_core_base.specs.Law.{joined, packet_at, payloads_of}
use Rattle.payload_core_base.specs.Packing.{MarkedPacket, Sender, is_none_left, marked}
use Rattle.payload_core_base.specs.Pieces.{pieces}
use Rattle.payload_core_base.specs.declared.error.PacketError.{PacketError}
use Rattle.payload_core_base.specs.declared.extra.CodecExtra.{CodecExtra}
use Rattle.payload_core_base.proofs.FrameLemmas.{EachGives, GivesBytes, first-headed-frame, marker-tails}
use Rattle.payload_core_base.proofs.FrameLemmas.{read_all-each}
use Rattle.payload_core_base.proofs.PieceLemmas.{joined-pieces, pieces-full, pieces-step, pieces-within}
use Rattle.payload_core_base.specs.Frames.{after_frame, next_id}
use Rattle.payload_core_vpx.specs.Vp8.{described, descriptor, descriptor_size, reading_of}
use Rattle.payload_core_vpx.specs.Vp8.{tells_id, units_of, vp8_coding, vp8_format, vp8_packing}
use Rattle.payload_core_vpx.specs.Vp8Forms.{SameUnits}
use Rattle.payload_core_base.specs.Bytes.{has_bit}
use Rattle.payload_core_vpx.specs.Vp8Descriptor.{parsed_in, shape_with}

-- what is read of a descriptor with an id alone, with the M bit or without
abbrev read_with : List ℕ → CodecExtra → Bool → Result Reading PacketError
read_with p extra m = reading_of None extra p (parsed_in (shape_with true 128 m) p)

given_id : (f id b : ℕ) (bs : List ℕ) (extra : CodecExtra) → has_bit 128 id ≡ false
    → GivesBytes (read_with (f ∷ 128 ∷ id ∷ b ∷ bs) extra (has_bit 128 id)) (b ∷ bs)
given_id f id b bs extra e =
    let P : Bool → Type 0 = λ m. GivesBytes (read_with (f ∷ 128 ∷ id ∷ b ∷ bs) extra m) (b ∷ bs) in
    let there : P false = (refl, refl) in
    subst P (sym e) there

given_long : (f high low b : ℕ) (bs : List ℕ) (extra : CodecExtra) → has_bit 128 high ≡ true
    → GivesBytes (read_with (f ∷ 128 ∷ high ∷ low ∷ b ∷ bs) extra (has_bit 128 high)) (b ∷ bs)
given_long f high low b bs extra e =
    let P : Bool → Type 0 = λ m. GivesBytes (read_with (f ∷ 128 ∷ high ∷ low ∷ b ∷ bs) extra m) (b ∷ bs) in
    let there : P true = (refl, refl) in
    subst P (sym e) there

-- the first byte of an id of 7 bits has no M bit
under : (id : ℕ) → ltb id 128 ≡ true → has_bit 128 id ≡ false
under id e =
    let small : id < 128 = grind (arith, nat_tests) in
    let clear : id / 128 % 2 ≡ 0 = omega arith in
    ap (λ n. eqb n 1) clear

-- and that of 15 bits has it
over : (id : ℕ) → id < 32768 → has_bit 128 (128 + id / 256) ≡ true
over id small = let e : (128 + id / 256) / 128 % 2 ≡ 1 = omega arith in eq-eqb _ _ e

-- a descriptor that was sent, with a byte after it, is read, and its payload written
gives_payload : (tells : Bool) (id : ℕ) (first : Bool) (b : ℕ) (bs : List ℕ) (extra : CodecExtra) → id < 32768
    → GivesBytes (vp8_format.read None extra (descriptor tells id first ++ (b ∷ bs))) (b ∷ bs)
gives_payload false id true b bs extra small = (refl, refl)
gives_payload false id false b bs extra small = (refl, refl)
gives_payload true id first b bs extra small = by_width (ltb id 128) first refl
  where
    by_width : (short : Bool) (first : Bool) → ltb id 128 ≡ short
        → GivesBytes (vp8_format.read None extra
        ((if short then (if first then 144 else 128) ∷ 128 ∷ id ∷ [] else (if first then 144 else 128)
        ∷ 128 ∷ (128 + id / 256) ∷ id % 256 ∷ []) ++ (b ∷ bs))) (b ∷ bs)
    by_width true true e = given_id 144 id b bs extra (under id e)
    by_width true false e = given_id 128 id b bs extra (under id e)
    by_width false true e = given_long 144 (128 + id / 256) (id % 256) b bs extra (over id small)
    by_width false false e = given_long 128 (128 + id / 256) (id % 256) b bs extra (over id small)

-- the first packet alone is a head
head_is : (tells : Bool) (id : ℕ) (first : Bool) (p : List ℕ) → vp8_format.head (descriptor tells id first ++ p)
    ≡ first
head_is false id true p = refl
head_is false id false p = refl
head_is true id first p = by_width (ltb id 128) first
  where
    by_width : (short first : Bool) → vp8_format.head
        ((if short then (if first then 144 else 128) ∷ 128 ∷ id ∷ [] else (if first then 144 else 128) ∷ 128
        ∷ (128 + id / 256) ∷ id % 256 ∷ []) ++ p) ≡ first
    by_width true true = refl
    by_width true false = refl
    by_width false true = refl
    by_width false false = refl

size_is : (tells : Bool) (id : ℕ) (first : Bool) → length (descriptor tells id first) ≡ descriptor_size tells id
size_is false id first = refl
size_is true id first = by_width (ltb id 128)
  where
    by_width : (short : Bool) → length
        (if short then (if first then 144 else 128) ∷ 128 ∷ id ∷ [] else (if first then 144 else 128) ∷ 128
        ∷ (128 + id / 256) ∷ id % 256 ∷ []) ≡ (if short then 3 else 4)
    by_width true = refl
    by_width false = refl

-- each packet gives its piece
each_gives : (tells : Bool) (id : ℕ) (first : Bool) (ps : List (List ℕ)) (limit : ℕ) → id < 32768
    → All (λ p. (0 < length p) × (length p ≤ limit)) ps → EachGives vp8_format (described tells id first ps) ps
each_gives tells id first [] limit small fits = tt
each_gives tells id first ([] ∷ ps) limit small fits =
    absurd (omega (arith, (All-head (λ (p : List ℕ). (0 < length p) × (length p ≤ limit)) [] ps fits).0))
each_gives tells id first ((b ∷ bs) ∷ ps) limit small fits = (
  (λ extra. gives_payload tells id first b bs extra small),
  each_gives tells id false ps limit small
      (All-tail (λ (p : List ℕ). (0 < length p) × (length p ≤ limit)) (b ∷ bs) ps fits),
)

-- no later packet is a head
no_heads : (has_id zero_id tells : Bool) (id : ℕ) (ps : List (List ℕ)) (k : ℕ)
    → k < length (marked (vp8_packing has_id zero_id) (described tells id false ps))
    → vp8_format.head (packet_at (marked (vp8_packing has_id zero_id) (described tells id false ps)) k).payload ≡ false
no_heads has_id zero_id tells id [] k lt = absurd (omega arith)
no_heads has_id zero_id tells id (p ∷ ps) zero lt = head_is tells id false p
no_heads has_id zero_id tells id (p ∷ ps) (suc k) lt = no_heads has_id zero_id tells id ps k (omega arith)

payloads_marked : (has_id zero_id : Bool) (ps : List (List ℕ))
    → payloads_of (marked (vp8_packing has_id zero_id) ps) ≡ ps
payloads_marked has_id zero_id [] = refl
payloads_marked has_id zero_id (p ∷ ps) = ap (λ qs. p ∷ qs) (payloads_marked has_id zero_id ps)

-- after their descriptors the pieces fit the limit
described_within : (tells : Bool) (id : ℕ) (first : Bool) (limit : ℕ) (ps : List (List ℕ))
    → descriptor_size tells id < limit → All (λ p. (0 < length p) × (length p ≤ limit - descriptor_size tells id))
    ps → AreWithin limit (described tells id first ps)
described_within tells id first limit [] room fits = All-nil _
described_within tells id first limit (p ∷ ps) room fits =
    let P : List ℕ → Type 0 = λ p. (0 < length p) × (length p ≤ limit - descriptor_size tells id) in
    let here = All-head P p ps fits in
    All-cons (λ (p : List ℕ). (0 < length p) × (length p ≤ limit)) (descriptor tells id first ++ p)
    (described tells id false ps) (
      omega (arith, length-append (descriptor tells id first) p, here.0),
      omega (arith, length-append (descriptor tells id first) p, size_is tells id first, here.1),
    )
    (described_within tells id false limit ps room (All-tail P p ps fits))

described_full : (tells : Bool) (id : ℕ) (first : Bool) (limit : ℕ) (ps : List (List ℕ))
    → descriptor_size tells id < limit → AreFull (limit - descriptor_size tells id) ps
    → AreFull limit (described tells id first ps)
described_full tells id first limit [] room full k lt = absurd (omega arith)
described_full tells id first limit (p ∷ []) room full k lt = absurd (omega arith)
described_full tells id first limit (p ∷ q ∷ ps) room full zero lt =
    omega (arith, length-append (descriptor tells id first) p, size_is tells id first, full 0 (omega arith))
described_full tells id first limit (p ∷ q ∷ ps) room full (suc k) lt =
    described_full tells id false limit (q ∷ ps) room (λ j less. full (suc j) (omega arith)) k (omega arith)

next_small : (id : ℕ) → next_id id < 32768
next_small id = by_test (ltb id 32767) refl
  where
    by_test : (less : Bool) → ltb id 32767 ≡ less → (if less then id + 1 else 0) < 32768
    by_test true e = grind (arith, nat_tests)
    by_test false e = omega arith

one_unit : (ps : List MarkedPacket) (parts : List (List ℕ)) → IsFrameOf vp8_format ps parts
    → AreFramesOf vp8_format ps (parts ∷ [])
one_unit ps parts frame =
    let F : List MarkedPacket → Type 0 = λ qs. IsFrameOf vp8_format qs parts in
    (length ps, subst F (sym (take_all (length ps) ps (omega arith))) frame, drop_all (length ps) ps (omega arith))

module _ (has_id zero_id tells : Bool) (s : Sender) (limit : ℕ) (b : ℕ) (bs : List ℕ) (small : s.number < 32768)
    (room : descriptor_size tells s.number < limit) where
  abbrev size : ℕ
  size = limit - descriptor_size tells s.number

  abbrev cut : List (List ℕ)
  cut = pieces size (b ∷ bs)

  frame_of : (ps : List (List ℕ)) (p : List ℕ) → cut ≡ p ∷ ps
      → All (λ p. (0 < length p) × (length p ≤ size)) (p ∷ ps) → joined (p ∷ ps) ≡ b ∷ bs
      → IsFrameOf vp8_format (marked (vp8_packing has_id zero_id) (described tells s.number true (p
      ∷ ps))) ((b ∷ bs) ∷ [])
  frame_of ps p is fits whole =
      let packets : List (List ℕ) = described tells s.number true (p ∷ ps) in
      let gives : (extra : CodecExtra) → GivesFrom
      (read_all vp8_format None extra (payloads_of (marked (vp8_packing has_id zero_id) packets))) ((b ∷ bs) ∷ []) 0 =
      λ extra.
      let all = read_all-each vp8_format packets (p ∷ ps) (each_gives tells s.number true (p ∷ ps) size small fits)
      extra in
      let P : List (List ℕ) → Type 0 = λ qs. GivesFrom (read_all vp8_format None extra qs) ((b ∷ bs) ∷ []) 0 in
      subst P (sym (payloads_marked has_id zero_id packets))
      (record {
        some_part = omega arith;
        no_fault = all.no_fault;
        written =
            all.written ∙ whole ∙ sym (append-nil (b ∷ bs));
        closed = all.closed;
      }) in
      first-headed-frame vp8_format (record {
        payload = descriptor tells s.number true ++ p;
        marker =
            is_none_left (described tells s.number false ps);
      })
      (marked (vp8_packing has_id zero_id) (described tells s.number false ps)) ((b ∷ bs) ∷ [])
      (head_is tells s.number true p) (no_heads has_id zero_id tells s.number ps)
      (marker-tails (vp8_packing has_id zero_id) vp8_format (record { marks = λ q last. refl; tail = λ marker q. refl })
      packets) gives

  sent_frame : IsSentAs (vp8_coding has_id zero_id) limit
      (record { packets = described tells s.number true cut; sender = after_frame s }) (((b ∷ bs) ∷ []) ∷ [])
      (after_frame s)
  sent_frame =
      let some_size : 0 < size = omega arith in
      let step = pieces-step size (b ∷ bs) some_size (omega arith) in
      let p : List ℕ = take size (b ∷ bs) in
      let ps : List (List ℕ) = pieces size (drop size (b ∷ bs)) in
      let within = pieces-within size some_size (b ∷ bs) in
      let W : List (List ℕ) → Type 0 = All (λ p. (0 < length p) × (length p ≤ size)) in
      let frame = frame_of ps p step (subst W step within)
      (ap joined (sym step) ∙ joined-pieces size some_size (b ∷ bs)) in
      let F : List (List ℕ) → Type 0 = λ qs. AreFramesOf vp8_format
      (marked (vp8_packing has_id zero_id) (described tells s.number true qs)) (((b ∷ bs) ∷ []) ∷ []) in
      record {
        reached = next_small s.number;
        within = described_within tells s.number true limit cut room within;
        frames = subst F (sym step) (one_unit (marked (vp8_packing has_id zero_id)
            (described tells s.number true (p ∷ ps)))
            ((b ∷ bs) ∷ []) frame);
        leaves = refl;
      }

by_room : (has_id zero_id tells : Bool) (s : Sender) (limit b : ℕ) (bs : List ℕ) (full : Bool)
    → leb limit (descriptor_size tells s.number) ≡ full → s.number < 32768
    → SendsUnits (vp8_coding has_id zero_id) limit (Ok (if full then record { packets = []; sender = s }
    else record {
      packets = described tells s.number true (pieces (limit - descriptor_size tells s.number) (b ∷ bs));
      sender = after_frame s;
    }))
    (if full then [] else ((b ∷ bs) ∷ []) ∷ [])
    (if full then s else after_frame s)
by_room has_id zero_id tells s limit b bs true e small =
    record { reached = small; within = All-nil _; frames = refl; leaves = refl }
by_room has_id zero_id tells s limit b bs false e small =
    sent_frame has_id zero_id tells s limit b bs small (grind (arith, nat_tests))

pub vp8_codec_law : (has_id zero_id : Bool) → CodecLaw (vp8_coding has_id zero_id)
vp8_codec_law has_id zero_id s limit [] reached well_formed = absurd (omega arith)
vp8_codec_law has_id zero_id s limit (b ∷ bs) reached well_formed =
    let tells = tells_id has_id zero_id s.number in
    by_room has_id zero_id tells s limit b bs (leb limit (descriptor_size tells s.number)) refl reached

full_by : (tells : Bool) (s : Sender) (limit b : ℕ) (bs : List ℕ) (full : Bool)
    → leb limit (descriptor_size tells s.number) ≡ full
    → SendsFull limit (Ok (if full then record { packets = []; sender = s }
    else record {
      packets = described tells s.number true (pieces (limit - descriptor_size tells s.number) (b ∷ bs));
      sender = after_frame s;
    }))
full_by tells s limit b bs true e = λ k lt. absurd (omega arith)
full_by tells s limit b bs false e =
    let room : descriptor_size tells s.number < limit = grind (arith, nat_tests) in
    described_full tells s.number true limit (pieces (limit - descriptor_size tells s.number) (b ∷ bs)) room
    (pieces-full (limit - descriptor_size tells s.number) (omega arith) (b ∷ bs))

pub vp8_full : (has_id zero_id : Bool) → FillsPackets (vp8_packing has_id zero_id)
vp8_full has_id zero_id s limit [] = λ k lt. absurd (omega arith)
vp8_full has_id zero_id s limit (b ∷ bs) =
    let tells = tells_id has_id zero_id s.number in
    full_by tells s limit b bs (leb limit (descriptor_size tells s.number)) refl

-- a frame that is sent has a packet
silent_by : (tells : Bool) (s : Sender) (limit b : ℕ) (bs : List ℕ) (full : Bool)
    → leb limit (descriptor_size tells s.number) ≡ full
    → ChangesWhereSent s (Ok (if full then record { packets = []; sender = s }
    else record {
      packets = described tells s.number true (pieces (limit - descriptor_size tells s.number) (b ∷ bs));
      sender = after_frame s;
    }))
silent_by tells s limit b bs true e = λ none. refl
silent_by tells s limit b bs false e = λ none.
    let room : descriptor_size tells s.number < limit = grind (arith, nat_tests) in
    let size : ℕ = limit - descriptor_size tells s.number in
    let step : pieces size (b ∷ bs) ≡ take size (b ∷ bs) ∷ pieces size (drop size (b ∷ bs)) =
    pieces-step size (b ∷ bs) (omega arith) (omega arith) in
    let some : length (described tells s.number true (pieces size (b ∷ bs)))
    ≡ suc (length (described tells s.number false (pieces size (drop size (b ∷ bs))))) =
    ap (λ ps. length (described tells s.number true ps)) step in
    absurd (omega (arith, some, ap length none))

pub vp8_silent : (has_id zero_id : Bool) → SilenceKeepsState (vp8_packing has_id zero_id)
vp8_silent has_id zero_id s limit [] = λ none. refl
vp8_silent has_id zero_id s limit (b ∷ bs) =
    let tells = tells_id has_id zero_id s.number in
    silent_by tells s limit b bs (leb limit (descriptor_size tells s.number)) refl

-- no descriptor has more than four bytes
size_few : (tells : Bool) (id : ℕ) → descriptor_size tells id ≤ 4
size_few false id = omega arith
size_few true id = by_width (ltb id 128)
  where
    by_width : (short : Bool) → (if short then 3 else 4) ≤ 4
    by_width true = omega arith
    by_width false = omega arith

one_unit_sent : (tells : Bool) (id limit : ℕ) (sample : List ℕ) → 4 < limit → units_of tells id limit sample
    ≡ (sample ∷ []) ∷ []
one_unit_sent tells id limit sample room =
    let few : descriptor_size tells id ≤ 4 = size_few tells id in
    let no : leb limit (descriptor_size tells id) ≡ false = grind (arith, nat_tests) in
    ap (λ (full : Bool). if full then [] else (sample ∷ []) ∷ []) no

pub vp8_same_units : SameUnits
vp8_same_units has_id zero_id s limit sample room =
    one_unit_sent (tells_id has_id zero_id s.number) s.number limit sample room
    ∙ sym (one_unit_sent (tells_id has_id false s.number) s.number limit sample room)
