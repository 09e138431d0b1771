-- Samples as frames.
use Rattle.std.proofs.Common.{◌≡◌, ℕ, suc, ◌+◌, ◌%◌, ◌^◌, ◌<◌, ◌≤◌, refl, sym, ◌∙◌, ap, ap₂, subst, subst₂, arith}
use Rattle.std.proofs.Common.{false, List, [], ◌∷◌, ◌++◌, length, map, take, drop, length-append, take-append-drop}
use Rattle.std.specs.Prelude.{None, Some, Result, Ok, Err, if◌then◌else◌}
use Rattle.std.specs.List.{flat_map}
use Rattle.std.proofs.lemmas.List.{map-append}
use Rattle.std.proofs.lemmas.Grind.{flat_map-append}
use Rattle.payload_core_base.specs.Format.{Format}
use Rattle.payload_core_base.specs.Law.{AreFramesOf, CodecLaw, Coding, IsFrameOf, LastAloneIsTail, SendsUnits, joined}
use Rattle.payload_core_base.specs.Packing.{MarkedPacket, Sent, marked}
use Rattle.payload_core_base.specs.Packing as packing
use Rattle.payload_core_base.specs.declared.error.PacketError.{PacketError}
use Rattle.rtp_wire.specs.declared.values.ExtensionValues.{ExtensionValues}
use Rattle.payload_core_buffer.specs.Buffered.{Holding}
use Rattle.rtp_media_schedules.specs.Hearing.{Content, content_of}
use Rattle.payload_core_buffer.specs.Steps.{MediaUnit}
use Rattle.rtp_media_schedules.specs.SentSamples.{Timed, sent_or, timed, timed_unit}
use Rattle.rtp_media_schedules.specs.Turns.{Turn, Arrive, Ask, event_of}
use Rattle.payload_core_buffer.specs.Steps.{Answer}
use Rattle.rtp_media_schedules.specs.Hearing.{EndsSilent, Stream, after_events, fresh, handed_out, heard}
use Rattle.rtp_media_schedules.specs.Hearing.{number_at, poll_answer, polled, taken_by}
use Rattle.rtp_media_schedules.specs.Legal.{IsFinalRunOf, IsLegal, Ended, Silent, PassedOver, HandedOut}
use Rattle.rtp_media_schedules.specs.Orders.{IsSane, IsTame, first_size}
use Rattle.rtp_media_schedules.specs.Samples.{AreSentAs, AreWellFormed, SentSample, canonical_units, contents_by}
use Rattle.rtp_media_schedules.specs.Samples.{datagrams, frame_sizes, packets_of, sent_by, sizes_from, units_in}
use Rattle.rtp_media_schedules.specs.Samples.{whole_unit}
use Rattle.rtp_media_schedules.specs.Sending.{AreFrames, AreWhole, Canonical, SentFrame, canonical_from, contents}
use Rattle.rtp_media_schedules.specs.Sending.{contents_in, numbered, sizes, total, whole}
use Rattle.rtp_media_schedules.specs.Drains.{HeldTurn, heard_at, turn_of}
use Rattle.rtp_media_schedules.proofs.Drains.{legal-with-drains}
use Rattle.rtp_media_schedules.proofs.Sane.{legal}
use Rattle.rtp_media_schedules.proofs.Tame.{exact}

-- the second unit's numbers hold the first one's, and else they are alike
pub record IsWider (c d : Canonical) : Type 0 where
  pub first : d.first ≤ c.first
  pub end : c.end ≤ d.end
  pub time : c.time ≡ d.time
  pub values : c.values ≡ d.values
  pub parts : c.parts ≡ d.parts

abbrev pub AreWider : List Canonical → List Canonical → Type 0
AreWider [] [] = Unit {0}
AreWider [] (d ∷ ds) = ⊥
AreWider (c ∷ cs) [] = ⊥
AreWider (c ∷ cs) (d ∷ ds) = IsWider c d × AreWider cs ds

pub wider-run : (c d : Canonical) (u : MediaUnit) → IsWider c d → IsFinalRunOf c u → IsFinalRunOf d u
wider-run c d u w is = record {
  from = omega (arith, w.first, is.from);
  in_order = is.in_order;
  within = omega (arith, w.end, is.within);
  time = is.time ∙ w.time;
  values = is.values ∙ w.values;
  part = is.part;
  some_part = subst (λ (ps : List (List ℕ)). is.part < length ps) w.parts is.some_part;
  bytes = is.bytes ∙ ap (λ (ps : List (List ℕ)). joined (drop is.part ps)) w.parts;
}

legal-wider : {cs : List Canonical} {os : List Answer} → IsLegal cs os → (ds : List Canonical) → AreWider cs ds
    → IsLegal ds os
legal-wider Ended ds w = Ended
legal-wider (Silent rest) ds w = Silent (legal-wider rest ds w)
legal-wider (PassedOver rest) [] w = absurd w
legal-wider (PassedOver rest) (d ∷ ds) w = PassedOver (legal-wider rest ds w.1)
legal-wider (HandedOut is rest) [] w = absurd w
legal-wider (HandedOut {c = c} {u = u} is rest) (d ∷ ds) w =
    HandedOut (wider-run c d u w.0 is) (legal-wider rest ds w.1)

wider-append : (xs ys cs ds : List Canonical) → AreWider xs ys → AreWider cs ds → AreWider (xs ++ cs) (ys ++ ds)
wider-append [] [] cs ds w v = v
wider-append [] (y ∷ ys) cs ds w v = absurd w
wider-append (x ∷ xs) [] cs ds w v = absurd w
wider-append (x ∷ xs) (y ∷ ys) cs ds w v = (w.0, wider-append xs ys cs ds w.1 v)

pub timed-whole : (c d : Canonical) (u : MediaUnit) → IsWider c d → u ≡ whole c u.extra → timed u.time u.values u.bytes
    ≡ whole_unit d
timed-whole c d u w is =
    let time : u.time ≡ d.time = ap (λ (v : MediaUnit). v.time) is ∙ w.time in
    let values : u.values ≡ d.values = ap (λ (v : MediaUnit). v.values) is ∙ w.values in
    let bytes : u.bytes ≡ joined d.parts = ap (λ (v : MediaUnit). v.bytes) is ∙ ap joined w.parts in
    λ i. record { time = time i; values = values i; bytes = bytes i }

-- whole units without their numbers
whole-timed : (rs : List (Result MediaUnit PacketError)) (cs ds : List Canonical) → AreWhole rs cs → AreWider cs ds
    → map timed_unit rs ≡ map (λ c. Ok (whole_unit c)) ds
whole-timed [] [] [] are w = refl
whole-timed [] [] (d ∷ ds) are w = absurd w
whole-timed [] (c ∷ cs) ds are w = absurd are
whole-timed (r ∷ rs) [] ds are w = absurd are
whole-timed (Err e ∷ rs) (c ∷ cs) ds are w = absurd are
whole-timed (Ok u ∷ rs) (c ∷ cs) [] are w = absurd w
whole-timed (Ok u ∷ rs) (c ∷ cs) (d ∷ ds) are w =
    ap₂ (λ (t : Timed) (ts : List (Result Timed PacketError)). Ok t ∷ ts) (timed-whole c d u w.0 are.0)
    (whole-timed rs cs ds are.1 w.1)

canonical-append : (n : ℕ) (fs gs : List SentFrame) → canonical_from n (fs ++ gs) ≡ canonical_from n fs
    ++ canonical_from (n + total (sizes fs)) gs
canonical-append n [] gs = let e : n ≡ n + 0 = omega arith in ap (λ k. canonical_from k gs) e
canonical-append n (f ∷ fs) gs =
    let e : n + length f.packets + total (sizes fs) ≡ n + (length f.packets + total (sizes fs)) = omega arith in
    ap (λ (cs : List Canonical). record {
      first = n;
      end = n + length f.packets;
      time = f.time;
      values =
          f.values;
      parts = f.parts;
    } ∷ cs)
    (canonical-append (n + length f.packets) fs gs
    ∙ ap (λ k. canonical_from (n + length f.packets) fs ++ canonical_from k gs) e)

frames-append : (format : Format) (fs gs : List SentFrame) → AreFrames format fs → AreFrames format gs
    → AreFrames format (fs ++ gs)
frames-append format [] gs a b = b
frames-append format (f ∷ fs) gs a b = (a.0, frames-append format fs gs a.1 b)

abbrev all_packets : List SentFrame → List MarkedPacket
all_packets fs = flat_map (λ f. f.packets) fs

total-packets : (fs : List SentFrame) → total (sizes fs) ≡ length (all_packets fs)
total-packets [] = refl
total-packets (f ∷ fs) = omega (arith, total-packets fs, length-append f.packets (all_packets fs))

-- the frames of one sample
pub record HasFrames (format : Format) (time : ℕ) (values : ExtensionValues) (ps : List MarkedPacket)
    (units : List (List (List ℕ))) : Type 0 where
  pub frames : List SentFrame
  pub are : AreFrames format frames
  pub packets : all_packets frames ≡ ps
  pub brought : contents frames ≡ contents_by time values ps
  pub wider : (n lo hi : ℕ) → lo ≤ n → n + length ps ≤ hi
      → AreWider (canonical_from n frames) (map
      (λ parts. record { first = lo; end = hi; time = time; values = values; parts = parts }) units)

frames-in : (format : Format) (time : ℕ) (values : ExtensionValues) (units : List (List (List ℕ)))
    (ps : List MarkedPacket) → AreFramesOf format ps units → HasFrames format time values ps units
frames-in format time values [] ps none = record {
  frames = [];
  are = tt;
  packets = sym none;
  brought = ap (contents_by time values) (sym none);
  wider = λ n lo hi a b. tt;
}
frames-in format time values (parts ∷ units) ps is =
    let n : ℕ = is.0 in
    let rest : HasFrames format time values (drop n ps) units = frames-in format time values units (drop n ps) is.2 in
    let here : SentFrame = record { time = time; values = values; packets = take n ps; parts = parts } in
    record {
      frames = here ∷ rest.frames;
      are = (is.1, rest.are);
      packets = ap (λ (qs : List MarkedPacket). take n ps ++ qs) rest.packets ∙ take-append-drop n ps;
      brought = ap (λ (cs : List Content). contents_in here ++ cs) rest.brought
          ∙ sym (map-append (λ (p : MarkedPacket). content_of time p.marker values p.payload) (take n ps) (drop n ps))
          ∙ ap (contents_by time values) (take-append-drop n ps);
      wider = λ m lo hi a b.
          let sum : length (take n ps) + length (drop n ps) ≡ length ps =
          sym (length-append (take n ps) (drop n ps)) ∙ ap length (take-append-drop n ps) in (
            record { first = a; end = omega (arith, sum); time = refl; values = refl; parts = refl },
            rest.wider (m + length (take n ps)) lo hi (omega arith) (omega (arith, sum)),
          );
    }

-- the frames of samples
pub record HaveFrames (format : Format) (ss : List SentSample) : Type 0 where
  pub frames : List SentFrame
  pub are : AreFrames format frames
  pub packets : all_packets frames ≡ packets_of ss
  pub brought : contents frames ≡ datagrams ss
  pub wider : (n : ℕ) → AreWider (canonical_from n frames) (canonical_units n ss)

pub frames-of : (format : Format) (ss : List SentSample) → AreSentAs format ss → HaveFrames format ss
frames-of format [] is = record { frames = []; are = tt; packets = refl; brought = refl; wider = λ n. tt }
frames-of format (s ∷ ss) is =
    let here : HasFrames format s.time s.values s.packets s.units =
    frames-in format s.time s.values s.units s.packets is.0 in
    let rest : HaveFrames format ss = frames-of format ss is.1 in
    let count : total (sizes here.frames) ≡ length s.packets = total-packets here.frames ∙ ap length here.packets in
    record {
      frames = here.frames ++ rest.frames;
      are = frames-append format here.frames rest.frames here.are rest.are;
      packets = flat_map-append (λ (f : SentFrame). f.packets) here.frames rest.frames
          ∙ ap₂ (λ (a b : List MarkedPacket). a ++ b) here.packets rest.packets;
      brought = flat_map-append contents_in here.frames rest.frames
          ∙ ap₂ (λ (a b : List Content). a ++ b) here.brought rest.brought;
      wider = λ n. subst (λ (cs : List Canonical). AreWider cs (canonical_units n (s ∷ ss)))
          (sym (canonical-append n here.frames rest.frames))
          (wider-append (canonical_from n here.frames) (units_in n s)
          (canonical_from (n + total (sizes here.frames)) rest.frames) (canonical_units (n + length s.packets) ss)
          (here.wider n n (n + length s.packets) (omega arith) (omega arith))
          (subst (λ (k : ℕ). AreWider (canonical_from (n + k) rest.frames)
          (canonical_units (n + length s.packets) ss)) (sym count) (rest.wider (n + length s.packets))));
    }

-- the sizes of frames, by their tails
cut-frame : (format : Format) (open_ : ℕ) (qs rest : List MarkedPacket) → 0 < length qs → LastAloneIsTail format qs
    → sizes_from format open_ (qs ++ rest) ≡ (open_ + length qs) ∷ sizes_from format 0 rest
cut-frame format open_ [] rest some is = absurd (omega arith)
cut-frame format open_ (q ∷ []) rest some is = rw (is.last 0 refl) refl
cut-frame format open_ (q ∷ p ∷ qs) rest some is =
    let e : open_ + 1 + length (p ∷ qs) ≡ open_ + length (q ∷ p ∷ qs) = omega arith in
    let behind : LastAloneIsTail format (p ∷ qs) =
    record { last = λ k h. is.last (suc k) (omega arith); others = λ k h. is.others (suc k) (omega arith) } in
    let here : format.tail q.marker q.payload ≡ false = is.others 0 (omega arith) in
    ap (λ b. if b then (open_ + 1) ∷ sizes_from format 0 (p ∷ qs ++ rest)
    else sizes_from format (open_ + 1) (p ∷ qs ++ rest)) here
    ∙ cut-frame format (open_ + 1) (p ∷ qs) rest (omega arith) behind
    ∙ ap (λ n. n ∷ sizes_from format 0 rest) e

sizes-of : (format : Format) (fs : List SentFrame) → AreFrames format fs → sizes_from format 0 (all_packets fs)
    ≡ sizes fs
sizes-of format [] is = refl
sizes-of format (f ∷ fs) is =
    let frame : IsFrameOf format f.packets f.parts = is.0 in
    cut-frame format 0 f.packets (all_packets fs) frame.not_empty frame.last_alone_is_tail
    ∙ ap₂ (λ (n : ℕ) (ns : List ℕ). n ∷ ns) (omega arith) (sizes-of format fs is.1)

-- a poll more is an answer more
heard-more : (format : Format) (sender : ℕ → Content) (ts : List Turn) (s : Stream) →
    heard format s (map (event_of sender) (ts ++ Ask ∷ [])) ≡ heard format s (map (event_of sender) ts)
    ++ poll_answer format (after_events format s (map (event_of sender) ts)) ∷ []
heard-more format sender [] s = refl
heard-more format sender (Arrive x ∷ ts) s =
    heard-more format sender ts (taken_by s (number_at s (x % 65536)) (sender x))
heard-more format sender (Ask ∷ ts) s = ap (λ (os : List Answer). poll_answer format s ∷ os)
    (heard-more format sender ts (polled format s))

silent-last : (os : List Answer) (o : Answer) → EndsSilent (os ++ o ∷ []) → o ≡ Ok None
silent-last [] o e = e
silent-last (p ∷ []) o e = e
silent-last (p ∷ q ∷ os) o e = silent-last (q ∷ os) o e

handed-more : (os : List Answer) → handed_out (os ++ Ok None ∷ []) ≡ handed_out os
handed-more [] = refl
handed-more (Ok None ∷ os) = handed-more os
handed-more (Ok (Some u) ∷ os) = ap (λ (rs : List (Result MediaUnit PacketError)). Ok u ∷ rs) (handed-more os)
handed-more (Err e ∷ os) = ap (λ (rs : List (Result MediaUnit PacketError)). Err e ∷ rs) (handed-more os)

module _ (format : Format) (ss : List SentSample) (sent : AreSentAs format ss) where
  abbrev of : HaveFrames format ss
  of = frames-of format ss sent

  pub count-is : total (sizes of.frames) ≡ length (packets_of ss)
  count-is = total-packets of.frames ∙ ap length of.packets

  pub sizes-are : sizes of.frames ≡ frame_sizes format ss
  sizes-are = sym (sizes-of format of.frames of.are) ∙ ap (sizes_from format 0) of.packets

  pub legal-samples : (holding : Holding) (first : ℕ) (turns : List Turn) → first + length (packets_of ss) ≤ 2 ^ 62
      → IsSane first (length (packets_of ss)) [] turns →
      IsLegal (canonical_units first ss) (heard format (fresh holding)
      (map (event_of (numbered first (datagrams ss))) turns))
  legal-samples holding first turns fits sane =
      let sane' : IsSane first (total (sizes of.frames)) [] turns =
      subst (λ (n : ℕ). IsSane first n [] turns) (sym count-is) sane in
      let is : IsLegal (canonical_from first of.frames)
      (heard format (fresh holding) (map (event_of (numbered first (contents of.frames))) turns)) =
      legal format holding first of.frames turns of.are (omega (arith, count-is)) sane' in
      subst (λ (cs : List Content). IsLegal (canonical_units first ss)
      (heard format (fresh holding) (map (event_of (numbered first cs)) turns))) of.brought
      (legal-wider is (canonical_units first ss) (of.wider first))

  pub drained-samples : (holding : Holding) (first : ℕ) (turns : List HeldTurn) → first
      + length (packets_of ss) ≤ 2 ^ 62
      → IsSane first (length (packets_of ss)) [] (map turn_of turns) →
      IsLegal (canonical_units first ss) (heard_at format (numbered first (datagrams ss)) (fresh holding) turns)
  drained-samples holding first turns fits sane =
      let sane' : IsSane first (total (sizes of.frames)) [] (map turn_of turns) =
      subst (λ (n : ℕ). IsSane first n [] (map turn_of turns)) (sym count-is) sane in
      let is : IsLegal (canonical_from first of.frames)
      (heard_at format (numbered first (contents of.frames)) (fresh holding) turns) =
      legal-with-drains format holding first of.frames turns of.are (omega (arith, count-is)) sane' in
      subst (λ (cs : List Content). IsLegal (canonical_units first ss)
      (heard_at format (numbered first cs) (fresh holding) turns)) of.brought
      (legal-wider is (canonical_units first ss) (of.wider first))

  pub exact-samples : (holding : Holding) (first : ℕ) (turns : List Turn) → first + length (packets_of ss) ≤ 2 ^ 62 →
      IsTame first (length (packets_of ss)) holding (first_size (frame_sizes format ss)) [] first
      (frame_sizes format ss) (turns ++ Ask ∷ []) →
      EndsSilent (heard format (fresh holding) (map (event_of (numbered first (datagrams ss))) (turns ++ Ask ∷ []))) →
      map timed_unit (handed_out (heard format (fresh holding)
      (map (event_of (numbered first (datagrams ss))) (turns ++ Ask ∷ []))))
      ≡ map (λ c. Ok (whole_unit c)) (canonical_units first ss)
  exact-samples holding first turns fits tame silent =
      let sender : ℕ → Content = numbered first (datagrams ss) in
      let os : List Answer = heard format (fresh holding) (map (event_of sender) turns) in
      let o : Answer = poll_answer format (after_events format (fresh holding) (map (event_of sender) turns)) in
      let more : heard format (fresh holding) (map (event_of sender) (turns ++ Ask ∷ [])) ≡ os ++ o ∷ [] =
      heard-more format sender turns (fresh holding) in
      let last : o ≡ Ok None = silent-last os o (subst EndsSilent more silent) in
      let brought : numbered first (contents of.frames) ≡ sender = ap (numbered first) of.brought in
      let tame' : IsTame first (total (sizes of.frames)) holding (first_size (sizes of.frames)) [] first
      (sizes of.frames) (turns ++ Ask ∷ []) =
      subst₂ (λ (n : ℕ) (zs : List ℕ). IsTame first n holding (first_size zs) [] first zs (turns ++ Ask ∷ []))
      (sym count-is) (sym sizes-are) tame in
      let last' : poll_answer format (after_events format (fresh holding)
      (map (event_of (numbered first (contents of.frames))) turns)) ≡ Ok None =
      ap (λ (f : ℕ → Content). poll_answer format (after_events format (fresh holding) (map (event_of f) turns)))
      brought ∙ last in
      let is : AreWhole (handed_out (heard format (fresh holding)
      (map (event_of (numbered first (contents of.frames))) turns))) (canonical_from first of.frames) =
      exact format holding first of.frames turns of.are (omega (arith, count-is)) tame' last' in
      ap (λ (rs : List Answer). map timed_unit (handed_out rs)) (more ∙ ap (λ (a : Answer). os ++ a ∷ []) last)
      ∙ ap (map timed_unit) (handed-more os
      ∙ sym (ap (λ (f : ℕ → Content). handed_out (heard format (fresh holding) (map (event_of f) turns))) brought))
      ∙ whole-timed _ (canonical_from first of.frames) (canonical_units first ss) is (of.wider first)

-- What a codec under the codec law sends of well-formed samples, it sends as their units.
sent-frames : (coding : Coding) (limit : ℕ) (before : packing.Sender) (r : Result Sent PacketError)
    (units : List (List (List ℕ))) (after : packing.Sender) → SendsUnits coding limit r units after
    → AreFramesOf coding.format (marked coding.packing (sent_or before r).packets) units
sent-frames coding limit before (Ok sent) units after is = is.frames
sent-frames coding limit before (Err e) units after is = absurd is

sent-reached : (coding : Coding) (limit : ℕ) (before : packing.Sender) (r : Result Sent PacketError)
    (units : List (List (List ℕ))) (after : packing.Sender) → SendsUnits coding limit r units after
    → coding.IsReached (sent_or before r).sender
sent-reached coding limit before (Ok sent) units after is = is.reached
sent-reached coding limit before (Err e) units after is = absurd is

pub sent-as : (coding : Coding) → CodecLaw coding → (limit : ℕ) (xs : List Timed) (sender : packing.Sender)
    → coding.IsReached sender → AreWellFormed coding limit xs → AreSentAs coding.format (sent_by coding limit sender xs)
sent-as coding obeys limit [] sender reached good = tt
sent-as coding obeys limit (x ∷ xs) sender reached good =
    let sends : SendsUnits coding limit (coding.packing.pack sender limit x.bytes)
    (coding.units sender limit x.bytes) (coding.after sender limit x.bytes) =
    obeys sender limit x.bytes reached good.0 in (
      sent-frames coding limit sender (coding.packing.pack sender limit x.bytes) (coding.units sender limit x.bytes)
          (coding.after sender limit x.bytes) sends,
      sent-as coding obeys limit xs (sent_or sender (coding.packing.pack sender limit x.bytes)).sender
          (sent-reached coding limit sender (coding.packing.pack sender limit x.bytes)
          (coding.units sender limit x.bytes) (coding.after sender limit x.bytes) sends) good.1,
    )
