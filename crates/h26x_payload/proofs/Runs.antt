-- What packets give that are the frames of units.
use Rattle.std.proofs.Common.{◌≡◌, ℕ, List, [], ◌∷◌, ◌++◌, map, take, drop, None, Result, Ok, Err, refl, sym, ap}
use Rattle.std.proofs.Common.{subst, ◌∙◌, append_assoc}
use Rattle.std.proofs.lemmas.List.{map-append, take-append-drop}
use Rattle.std.proofs.lemmas.List.Concat.{flat_map-cons}
use Rattle.std.proofs.lemmas.Option.{none-some}
use Rattle.payload_core_base.specs.Format.{Format, Fragment, Reading, Run, read_all, run_after, run_behind}
use Rattle.payload_core_base.specs.Law.{AreFramesOf, CodecLaw, Coding, GivesFrom, SendsUnits, joined, payloads_of}
use Rattle.payload_core_base.specs.Packing.{MarkedPacket, Packing, Sender, Sent, marked}
use Rattle.payload_core_base.specs.declared.error.PacketError.{PacketError}
use Rattle.payload_core_base.specs.declared.extra.CodecExtra.{CodecExtra}
use Rattle.h26x_payload.specs.Dispatch.{ArePair, ComesThrough, GivesUnits, SendsAndGives, through}

-- if the first packets have no fault, the others are read after them
abbrev Continues : (Fragment → CodecExtra → Run) → Run → Run → Type 0
Continues others first all = first.fault ≡ None → all ≡ run_behind first.written (others first.fragment first.extra)

continue_after : (others : Fragment → CodecExtra → Run) (f : Fragment) (extra : CodecExtra)
    (reading : Result Reading PacketError) (rest all : Fragment → CodecExtra → Run)
    → ((g : Fragment) (x : CodecExtra) → Continues others (rest g x) (all g x))
    → Continues others (run_after f extra reading rest) (run_after f extra reading all)
continue_after others f extra (Err e) rest all step is = absurd (none-some e (sym is))
continue_after others f extra (Ok r) rest all step is =
    let run = rest r.fragment r.extra in
    rw (step r.fragment r.extra is) (ap (λ (t : List ℕ). record {
      written = t;
      extra = (others run.fragment run.extra).extra;
      fragment =
          (others run.fragment run.extra).fragment;
      fault = (others run.fragment run.extra).fault;
    })
    (sym (append_assoc r.written run.written (others run.fragment run.extra).written)))

continues : (format : Format) (f : Fragment) (extra : CodecExtra) (ps qs : List (List ℕ))
    → Continues (λ g x. read_all format g x qs) (read_all format f extra ps) (read_all format f extra (ps ++ qs))
continues format f extra [] qs is = refl
continues format f extra (p ∷ ps) qs is =
    continue_after (λ g x. read_all format g x qs) f extra (format.read f extra p) (λ g x. read_all format g x ps)
    (λ g x. read_all format g x (ps ++ qs)) (λ g x. continues format g x ps qs) is

payloads_marked : (packing : Packing) (ps : List (List ℕ)) → payloads_of (marked packing ps) ≡ ps
payloads_marked packing [] = refl
payloads_marked packing (p ∷ ps) = ap (λ (qs : List (List ℕ)). p ∷ qs) (payloads_marked packing ps)

-- a unit's frame in front of those of others
unit_first : (format : Format) (extra : CodecExtra) (ps qs : List (List ℕ)) (parts : List (List ℕ))
    (units : List (List (List ℕ))) → GivesFrom (read_all format None extra ps) parts 0
    → ((x : CodecExtra) → GivesUnits (read_all format None x qs) units)
    → GivesUnits (read_all format None extra (ps ++ qs)) (parts ∷ units)
unit_first format extra ps qs parts units first others =
    let run : Run = read_all format None extra ps in
    let behind = others run.extra in
    let all : read_all format None extra (ps ++ qs) ≡ run_behind run.written (read_all format None run.extra qs) =
    continues format None extra ps qs first.no_fault
    ∙ ap (λ (f : Fragment). run_behind run.written (read_all format f run.extra qs)) first.closed in
    record {
      no_fault = ap (λ (r : Run). r.fault) all ∙ behind.no_fault;
      written = ap (λ (r : Run). r.written) all
          ∙ (ap (λ (t : List ℕ). t ++ (read_all format None run.extra qs).written) first.written
          ∙ (ap (λ (t : List ℕ). joined parts ++ t) behind.written
          ∙ sym (flat_map-cons (λ p. p) (joined parts) (map joined units))));
      closed = ap (λ (r : Run). r.fragment) all ∙ behind.closed;
    }

frames_give : (format : Format) (units : List (List (List ℕ))) (ps : List MarkedPacket) → AreFramesOf format ps units
    → (extra : CodecExtra) → GivesUnits (read_all format None extra (payloads_of ps)) units
frames_give format [] ps none extra = rw none (record { no_fault = refl; written = refl; closed = refl })
frames_give format (parts ∷ units) ps frames extra =
    let n = frames.0 in
    let cut : payloads_of (take n ps) ++ payloads_of (drop n ps) ≡ payloads_of ps =
    sym (map-append (λ (p : MarkedPacket). p.payload) (take n ps) (drop n ps))
    ∙ ap payloads_of (take-append-drop n ps) in
    rw (sym cut) (unit_first format extra (payloads_of (take n ps)) (payloads_of (drop n ps)) parts units
    (frames.1.first_gives_all extra) (λ x. frames_give format units (drop n ps) frames.2 x))

sent_gives : (coding : Coding) (limit : ℕ) (result : Result Sent PacketError) (units : List (List (List ℕ)))
    (after : Sender)
    → SendsUnits coding limit result units after → SendsAndGives coding.format limit result units
sent_gives coding limit (Err e) units after sends = absurd sends
sent_gives coding limit (Ok sent) units after sends = (
  sends.within,
  λ extra. rw (sym (payloads_marked coding.packing sent.packets))
      (frames_give coding.format units (marked coding.packing sent.packets) sends.frames extra),
)

pub comes_through : (coding : Coding) → CodecLaw coding → ComesThrough coding
comes_through coding law sender limit sample reached well_formed =
    sent_gives coding limit (coding.packing.pack sender limit sample) (coding.units sender limit sample)
    (coding.after sender limit sample) (law sender limit sample reached well_formed)

pub pair_of : (coding : Coding) (packing : Packing) (format : Format) → packing ≡ coding.packing → format
    ≡ coding.format → CodecLaw coding → ArePair packing format coding
pair_of coding packing format packs reads law =
    let read : CodecLaw (through coding.packing format coding) =
    subst (λ (f : Format). CodecLaw (through coding.packing f coding)) (sym reads) law in
    let both : CodecLaw (through packing format coding) =
    subst (λ (p : Packing). CodecLaw (through p format coding)) (sym packs) read in
    record { law = both; comes_through = comes_through (through packing format coding) both }
