-- Canonical units are a function of row, map, limit, first picture id, forms and samples alone.
use Rattle.std.proofs.Common.{◌≡◌, ℕ, ◌+◌, refl, ◌∙◌, ap, ap₂, List, [], ◌∷◌, ◌++◌, length, map}
use Rattle.std.proofs.lemmas.List.{map-append}
use Rattle.std.specs.Prelude.{Result, Ok, Err}
use Rattle.payload_core_base.specs.Law.{CodecLaw, Coding, SendsUnits, joined}
use Rattle.payload_core_base.specs.Packing as packing
use Rattle.payload_core_base.specs.declared.error.PacketError.{PacketError}
use Rattle.rtp_media_schedules.specs.SentSamples.{Timed, sent_or, timed}
use Rattle.rtp_media_schedules.specs.Samples.{AreWellFormed, SentSample, canonical_units, sent_by, units_in, whole_unit}
use Rattle.rtp_media_runs.specs.Units.{units_by}

whole-in : (n : ℕ) (s : SentSample) (units : List (List (List ℕ)))
    → map whole_unit (units_in n (record s { units = units })) ≡ map
    (λ parts. timed s.time s.values (joined parts)) units
whole-in n s [] = refl
whole-in n s (u ∷ us) = ap (λ (ts : List Timed). timed s.time s.values (joined u) ∷ ts) (whole-in n s us)

-- what the codec law says of the state after a sample
record IsAfter (coding : Coding) (left after : packing.Sender) : Type 0 where
  reached : coding.IsReached left
  same : left ≡ after

left-is : (coding : Coding) (limit : ℕ) (before : packing.Sender) (r : Result packing.Sent PacketError)
    (units : List (List (List ℕ))) (after : packing.Sender) → SendsUnits coding limit r units after
    → IsAfter coding (sent_or before r).sender after
left-is coding limit before (Ok sent) units after is = record { reached = is.reached; same = is.leaves }
left-is coding limit before (Err e) units after is = absurd is

pub units-alone : (coding : Coding) → CodecLaw coding → (limit : ℕ) (xs : List Timed) (sender : packing.Sender) (n : ℕ)
    → coding.IsReached sender → AreWellFormed coding limit xs →
    map whole_unit (canonical_units n (sent_by coding limit sender xs)) ≡ units_by coding limit sender xs
units-alone coding law limit [] sender n reached good = refl
units-alone coding law limit (x ∷ xs) sender n reached good =
    let left : packing.Sender = (sent_or sender (coding.packing.pack sender limit x.bytes)).sender in
    let is : IsAfter coding left (coding.after sender limit x.bytes) =
    left-is coding limit sender (coding.packing.pack sender limit x.bytes) (coding.units sender limit x.bytes)
    (coding.after sender limit x.bytes) (law sender limit x.bytes reached good.0) in
    let all : List SentSample = sent_by coding limit sender (x ∷ xs) in
    let s : SentSample = record {
      time = x.time;
      values = x.values;
      packets = packing.marked coding.packing (sent_or sender (coding.packing.pack sender limit x.bytes)).packets;
      units = coding.units sender limit x.bytes;
    } in
    map-append whole_unit (units_in n s) (canonical_units (n + length s.packets) (sent_by coding limit left xs))
    ∙ ap₂ (λ (as' bs : List Timed). as' ++ bs) (whole-in n s (coding.units sender limit x.bytes))
    (units-alone coding law limit xs left (n + length s.packets) is.reached good.1
    ∙ ap (λ (next : packing.Sender). units_by coding limit next xs) is.same)
