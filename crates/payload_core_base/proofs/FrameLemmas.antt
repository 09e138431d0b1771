-- What makes packets the frames of units.
use Rattle.std.proofs.Common.{◌≡◌, ℕ, zero, suc, ◌+◌, ◌<◌, Bool, true, false, List, [], ◌∷◌, ◌++◌, map, length, None}
use Rattle.std.proofs.Common.{Result, Ok, Err, refl, sym, ap, ◌∙◌, arith}
use mathlib.Core.Bool.{false≢true}
use Rattle.std.specs.List.{All}
use Rattle.std.proofs.lemmas.List.Concat.{flat_map-cons}
use Rattle.std.proofs.lemmas.List.Elements.{All-head, All-tail}
use Rattle.payload_core_base.specs.Format.{Format, Fragment, Reading, Run, read_all, run_after}
use Rattle.payload_core_base.specs.Packing.{Packing, MarkedPacket, marked}
use Rattle.payload_core_base.specs.Law.{IsFrameOf, AreFramesOf, GivesFrom, LastAloneIsTail, HeadsGiveFinalRuns}
use Rattle.payload_core_base.specs.Law.{is_tail_at, packet_at, payloads_of, joined}
use Rattle.payload_core_base.specs.declared.error.PacketError.{PacketError}
use Rattle.payload_core_base.specs.declared.extra.CodecExtra.{CodecExtra}

-- a packet that is a unit by itself
pub record IsWhole (format : Format) (p : List ℕ) (parts : List (List ℕ)) : Type 0 where
  pub head : format.head p ≡ true
  pub tail : (marker : Bool) → format.tail marker p ≡ true
  pub gives : (extra : CodecExtra) → GivesFrom (read_all format None extra (p ∷ [])) parts 0

-- such a packet is a frame
pub whole-frame : (format : Format) (p : List ℕ) (marker : Bool) (parts : List (List ℕ)) → IsWhole format p parts
    → IsFrameOf format (record { payload = p; marker = marker } ∷ []) parts
whole-frame format p marker parts whole = record {
  not_empty = omega arith;
  first_is_head = whole.head;
  last_alone_is_tail = tails;
  heads_give_final_runs = heads;
  first_gives_all = whole.gives;
}
  where
    last : (k : ℕ) → k + 1 ≡ 1 → is_tail_at format (record { payload = p; marker = marker } ∷ []) k ≡ true
    last zero e = whole.tail marker
    last (suc k) e = absurd (omega arith)

    tails : LastAloneIsTail format (record { payload = p; marker = marker } ∷ [])
    tails = record { last = last; others = λ k lt. absurd (omega arith) }

    heads : HeadsGiveFinalRuns format (record { payload = p; marker = marker } ∷ []) parts
    heads zero extra lt head = (0, whole.gives extra)
    heads (suc k) extra lt head = absurd (omega arith)

-- packets that are each a unit are the frames of these units
pub whole-frames : (packing : Packing) (format : Format) (units_of : List ℕ → List (List ℕ)) (ps : List (List ℕ))
    → All (λ p. IsWhole format p (units_of p)) ps → AreFramesOf format (marked packing ps) (map units_of ps)
whole-frames packing format units_of [] each = refl
whole-frames packing format units_of (p ∷ ps) each = (
  1,
  whole-frame format p _ (units_of p) (All-head (λ p. IsWhole format p (units_of p)) p ps each),
  whole-frames packing format units_of ps (All-tail (λ p. IsWhole format p (units_of p)) p ps each),
)

-- if the marker is that of the last packet, and the tail that of the marker
pub record TailsAtMarker (packing : Packing) (format : Format) : Type 0 where
  pub marks : (p : List ℕ) (last : Bool) → packing.marks p last ≡ last
  pub tail : (marker : Bool) (p : List ℕ) → format.tail marker p ≡ marker

module _ (packing : Packing) (format : Format) (at_marker : TailsAtMarker packing format) where
  last_is : (ps : List (List ℕ)) (k : ℕ) → k + 1 ≡ length (marked packing ps)
      → is_tail_at format (marked packing ps) k ≡ true
  last_is [] k e = absurd (omega arith)
  last_is (p ∷ []) zero e = at_marker.tail _ p ∙ at_marker.marks p true
  last_is (p ∷ q ∷ ps) zero e = absurd (omega arith)
  last_is (p ∷ ps) (suc k) e = last_is ps k (omega arith)

  others_are : (ps : List (List ℕ)) (k : ℕ) → k + 1 < length (marked packing ps)
      → is_tail_at format (marked packing ps) k ≡ false
  others_are [] k lt = absurd (omega arith)
  others_are (p ∷ []) zero lt = absurd (omega arith)
  others_are (p ∷ q ∷ ps) zero lt = at_marker.tail _ p ∙ at_marker.marks p false
  others_are (p ∷ ps) (suc k) lt = others_are ps k (omega arith)

  -- the last packet alone is a tail
  pub marker-tails : (ps : List (List ℕ)) → LastAloneIsTail format (marked packing ps)
  marker-tails ps = record { last = last_is ps; others = others_are ps }

-- packets of which the first alone is a head, and the last alone a tail, and that together give all, are the frame of
-- a unit
pub first-headed-frame : (format : Format) (p : MarkedPacket) (ps : List MarkedPacket) (parts : List (List ℕ))
    → format.head p.payload ≡ true
    → ((k : ℕ) → k < length ps → format.head (packet_at ps k).payload ≡ false)
    → LastAloneIsTail format (p ∷ ps)
    → ((extra : CodecExtra) → GivesFrom (read_all format None extra (payloads_of (p ∷ ps))) parts 0)
    → IsFrameOf format (p ∷ ps) parts
first-headed-frame format p ps parts head others tails gives = record {
  not_empty = omega arith;
  first_is_head = head;
  last_alone_is_tail = tails;
  heads_give_final_runs = heads;
  first_gives_all = gives;
}
  where
    heads : HeadsGiveFinalRuns format (p ∷ ps) parts
    heads zero extra lt is = (0, gives extra)
    heads (suc k) extra lt is = absurd (false≢true (sym (others k (omega arith)) ∙ is))

-- the packet gives these bytes and leaves no fragment open
abbrev pub GivesBytes : Result Reading PacketError → List ℕ → Type 0
GivesBytes (Ok r) bytes = (r.written ≡ bytes) × (r.fragment ≡ None)
GivesBytes (Err e) bytes = ⊥

-- with no fragment open each packet gives its bytes, whatever the extra
abbrev pub EachGives : Format → List (List ℕ) → List (List ℕ) → Type 0
EachGives format [] [] = Unit {0}
EachGives format [] (b ∷ bs) = ⊥
EachGives format (p ∷ ps) [] = ⊥
EachGives format (p ∷ ps) (b ∷ bs) = ((extra : CodecExtra) → GivesBytes (format.read None extra p) b)
    × EachGives format ps bs

-- a run that gave these bytes, and left no fragment open
pub record GivesAll (run : Run) (bs : List (List ℕ)) : Type 0 where
  pub no_fault : run.fault ≡ None
  pub written : run.written ≡ joined bs
  pub closed : run.fragment ≡ None

after_packet : (r : Result Reading PacketError) (extra : CodecExtra) (rest : Fragment → CodecExtra → Run)
    (b : List ℕ) (bs : List (List ℕ)) → GivesBytes r b → ((x : CodecExtra) → GivesAll (rest None x) bs)
    → GivesAll (run_after None extra r rest) (b ∷ bs)
after_packet (Err e) extra rest b bs gives others = absurd gives
after_packet (Ok r) extra rest b bs gives others =
    let run = others r.extra in
    record {
      no_fault = rw gives.1 run.no_fault;
      written = rw (gives.0, gives.1) (ap (λ (t : List ℕ). b ++ t) run.written ∙ sym (flat_map-cons (λ p. p) b bs));
      closed = rw gives.1 run.closed;
    }

pub read_all-each : (format : Format) (ps bs : List (List ℕ)) → EachGives format ps bs → (extra : CodecExtra)
    → GivesAll (read_all format None extra ps) bs
read_all-each format [] [] each extra = record { no_fault = refl; written = refl; closed = refl }
read_all-each format [] (b ∷ bs) each extra = absurd each
read_all-each format (p ∷ ps) [] each extra = absurd each
read_all-each format (p ∷ ps) (b ∷ bs) each extra =
    after_packet (format.read None extra p) extra (λ f x. read_all format f x ps) b bs (each.0 extra)
    (read_all-each format ps bs each.1)
