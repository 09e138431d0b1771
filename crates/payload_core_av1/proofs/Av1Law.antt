-- What makes AV1 keep the codec law.
use Rattle.std.proofs.Common.{◌≡◌, ℕ, zero, suc, ◌+◌, ◌<◌, ◌≤◌, Bool, true, false, ltb, List, [], ◌∷◌, length, drop}
use Rattle.std.proofs.Common.{map, None, Some, Ok, Option, Result, if◌then◌else◌, refl, sym, ap, subst, ◌∙◌, arith}
use Rattle.std.specs.Prelude.{not, option_map, filter}
use mathlib.Core.Bool.{false≢true}
use Rattle.std.proofs.lemmas.Bool.Decides.{nat_tests}
use Rattle.std.proofs.lemmas.List.{drop-drop, drop-map, drop_all, length-drop, length-map, take_all}
use Rattle.std.proofs.lemmas.List.Elements.{All-cons, All-nil}
use Rattle.payload_core_base.specs.Format.{Run, read_all}
use Rattle.payload_core_base.specs.Law.{AreFramesOf, AreWithin, CodecLaw, GivesFrom, HeadsGiveFinalRuns, IsFrameOf}
use Rattle.payload_core_base.specs.Law.{IsSentAs, SendsUnits, joined, packet_at, payloads_of}
use Rattle.payload_core_base.specs.Packing.{MarkedPacket, Sender, Sent, marked}
use Rattle.payload_core_base.specs.declared.error.PacketError.{PacketError}
use Rattle.payload_core_base.specs.declared.extra.CodecExtra.{CodecExtra}
use Rattle.payload_core_base.proofs.FrameLemmas.{marker-tails}
use Rattle.payload_core_av1.specs.Obus.{Obu, is_kept, with_its_size}
use Rattle.payload_core_av1.specs.Av1Coding.{ArePackets, av1_coding, unit_of}
use Rattle.payload_core_av1.specs.Av1Packing.{av1_packing, back, front, is_cut, longest, pack_kept, packet_of}
use Rattle.payload_core_av1.specs.Av1Packing.{packets_of, packets_within, texts_of}
use Rattle.payload_core_av1.specs.Av1Reading.{av1_format}
use Rattle.payload_core_av1.specs.Samples.{begins_sequence, kept_of, obus_of}
use Rattle.payload_core_av1.proofs.Av1RunLaw.{IsBetween, gives_units, step}
use Rattle.payload_core_av1.proofs.PacketsLaw.{header_law, packets-are}
use Rattle.payload_core_av1.proofs.PrefixLemmas.{longest-some, total-back}
use Rattle.payload_core_av1.proofs.SampleLemmas.{AreSendable, kept-sendable, sample_law, sendable-texts}
use Rattle.payload_core_av1.proofs.SplitLemmas.{glue, glue-nil}

-- a head is a packet without Z
head_is : (z y n : Bool) (es : List (List ℕ)) → av1_format.head (packet_of z y n es) ≡ not z
head_is z y n es = ap not (header_law z y n (length es)).0

payload_at : (packets : List (List ℕ)) (j : ℕ) → List ℕ
payload_at packets j = (packet_at (marked av1_packing packets) j).payload

payloads_left : (packets : List (List ℕ)) (j : ℕ) → payloads_of (drop j (marked av1_packing packets)) ≡ drop j packets
payloads_left [] zero = refl
payloads_left [] (suc j) = refl
payloads_left (p ∷ ps) zero = ap (λ qs. p ∷ qs) (payloads_left ps zero)
payloads_left (p ∷ ps) (suc j) = payloads_left ps j

some_units : (p : List ℕ) (t : List ℕ) (ts : List (List ℕ)) (os : List Obu) → texts_of os ≡ glue p (t ∷ ts)
    → 0 < length (map with_its_size os)
some_units p t ts [] units = absurd (omega (arith, ap length units))
some_units p t ts (o ∷ os) units = omega arith

-- from a head on, packets give a final run of the units
HeadGives : List (List ℕ) → List Obu → ℕ → Type 0
HeadGives packets os j = (extra : CodecExtra) → j < length (marked av1_packing packets)
    → av1_format.head (packet_at (marked av1_packing packets) j).payload ≡ true
    → (m : ℕ) × GivesFrom (read_all av1_format None extra (drop j packets)) (map with_its_size os) m

later_run : (run : Run) (os : List Obu) (count m : ℕ) → GivesFrom run (map with_its_size (drop count os)) m
    → GivesFrom run (map with_its_size os) (count + m)
later_run run os count m g =
    let parts : List (List ℕ) = map with_its_size os in
    let same : drop count parts ≡ map with_its_size (drop count os) = drop-map with_its_size count os in
    record {
      some_part = omega (
        arith,
        g.some_part,
        length-map (drop count os) with_its_size,
        length-map os with_its_size,
        length-drop count os,
      );
      no_fault = g.no_fault;
      written = g.written ∙ ap (λ ps. joined (drop m ps)) (sym same) ∙ ap joined (drop-drop m count parts);
      closed = g.closed;
    }

heads : (k limit : ℕ) (z n : Bool) (p : List ℕ) (ts : List (List ℕ)) (os : List Obu) → 2 ≤ limit
    → length (joined ts) ≤ k → IsBetween z p ts os
    → (j : ℕ) (extra : CodecExtra) → j < length (marked av1_packing (packets_within k limit z n ts))
    → av1_format.head (packet_at (marked av1_packing (packets_within k limit z n ts)) j).payload ≡ true
    → (m : ℕ) × GivesFrom (read_all av1_format None extra (drop j (packets_within k limit z n ts)))
    (map with_its_size os) m
heads zero limit z n p ts os room le is j extra lt head = absurd (omega arith)
heads (suc k) limit z n p [] os room le is j extra lt head = absurd (omega arith)
heads (suc k) limit true n p (t ∷ rest) os room le is zero extra lt head =
    absurd (false≢true (sym (head_is true (is_cut (longest limit (t ∷ rest)) (t ∷ rest)) n
    (front (longest limit (t ∷ rest)) (t ∷ rest))) ∙ head))
heads (suc k) limit false n p (t ∷ rest) os room le is zero extra lt head =
    let g = gives_units (suc k) limit false n p (t ∷ rest) os extra room le is in (
      0,
      record {
        some_part = some_units p t rest os is.units;
        no_fault = g.no_fault;
        written = g.written;
        closed =
            g.closed;
      },
    )
heads (suc k) limit z n p (t ∷ rest) os room le is (suc j) extra lt head =
    let ts : List (List ℕ) = t ∷ rest in
    let size : ℕ = longest limit ts in
    let s = step limit z n p ts os room (omega arith) is in
    let later = heads k limit (is_cut size ts) false s.part (back size ts) (drop s.count os) room
    (omega (arith, total-back size ts, longest-some limit t rest room is.texts)) s.next j extra (omega arith)
    head in (
      s.count + later.0,
      later_run (read_all av1_format None extra
          (drop j (packets_within k limit (is_cut size ts) false (back size ts)))) os s.count later.0 later.1,
    )

some_packets : (limit : ℕ) (n : Bool) (o : Obu) (os : List Obu) → 2 ≤ limit → AreSendable (o ∷ os)
    → 0 < length (marked av1_packing (packets_of limit n (texts_of (o ∷ os))))
some_packets limit n o os room are = first_packet (packets_of limit n (texts_of (o ∷ os)))
    (packets-are (length (joined (texts_of (o ∷ os)))) limit false n (texts_of (o ∷ os)) room
    (sendable-texts (o ∷ os) are) (omega arith))
  where
    first_packet : (ps : List (List ℕ)) → ArePackets limit false n (texts_of (o ∷ os)) ps
        → 0 < length (marked av1_packing ps)
    first_packet [] is = absurd (omega (arith, ap length is))
    first_packet (p ∷ ps) is = omega arith

first_head : (ps : List (List ℕ)) (limit : ℕ) (n : Bool) (ts : List (List ℕ)) → 0 < length (marked av1_packing ps)
    → ArePackets limit false n ts ps → av1_format.head (packet_at (marked av1_packing ps) 0).payload ≡ true
first_head [] limit n ts some are = absurd (omega arith)
first_head (p ∷ ps) limit n ts some (size, longest_is, p_is, long, more) =
    ap av1_format.head p_is ∙ head_is false (is_cut size ts) n (front size ts)

one_unit : (ps : List MarkedPacket) (parts : List (List ℕ)) → IsFrameOf av1_format ps parts
    → AreFramesOf av1_format ps (parts ∷ [])
one_unit ps parts frame =
    let F : List MarkedPacket → Type 0 = λ qs. IsFrameOf av1_format qs parts in
    (length ps, subst F (sym (take_all (length ps) ps (omega arith))) frame, drop_all (length ps) ps (omega arith))

module _ (limit : ℕ) (n : Bool) (o : Obu) (os : List Obu) (room : 2 ≤ limit) (are : AreSendable (o ∷ os)) where
  abbrev all : List Obu
  all = o ∷ os

  abbrev sent : List (List ℕ)
  sent = packets_of limit n (texts_of all)

  between : IsBetween false [] (texts_of all) all
  between = record {
    texts = sendable-texts all are;
    sendable = are;
    units = sym (glue-nil (texts_of all));
    plain =
        λ e. refl;
    more = λ e. absurd (false≢true e);
  }

  gives_all : (extra : CodecExtra) → GivesFrom
      (read_all av1_format None extra (payloads_of (marked av1_packing sent))) (map with_its_size all) 0
  gives_all extra =
      let g = gives_units (length (joined (texts_of all))) limit false n [] (texts_of all) all extra room
      (omega arith) between in
      let P : List (List ℕ) → Type 0 = λ qs. GivesFrom (read_all av1_format None extra qs) (map with_its_size all) 0 in
      subst P (sym (payloads_left sent 0)) (record
      { some_part = omega arith; no_fault = g.no_fault; written = g.written; closed = g.closed })

  heads_give : HeadsGiveFinalRuns av1_format (marked av1_packing sent) (map with_its_size all)
  heads_give j extra lt head =
      let h = heads (length (joined (texts_of all))) limit false n [] (texts_of all) all room (omega arith) between j
      extra lt head in
      let P : List (List ℕ) → Type 0 = λ qs. GivesFrom (read_all av1_format None extra qs) (map with_its_size all)
      h.0 in
      (h.0, subst P (sym (payloads_left sent j)) h.1)

  pub sent-frame : IsFrameOf av1_format (marked av1_packing sent) (map with_its_size all)
  sent-frame =
      let some = some_packets limit n o os room are in
      record {
        not_empty = some;
        first_is_head = first_head sent limit n (texts_of all) some
            (packets-are (length (joined (texts_of all))) limit false n (texts_of all) room (sendable-texts all are)
            (omega arith));
        last_alone_is_tail = marker-tails av1_packing av1_format
            (record { marks = λ q last. refl; tail = λ marker q. refl }) sent;
        heads_give_final_runs = heads_give;
        first_gives_all = gives_all;
      }

within : (limit : ℕ) (z n : Bool) (ts ps : List (List ℕ)) → ArePackets limit z n ts ps → AreWithin limit ps
within limit z n ts [] are = All-nil _
within limit z n ts (p ∷ ps) (size, longest_is, p_is, long, more) =
    All-cons (λ (p : List ℕ). (0 < length p) × (length p ≤ limit)) p ps
    (omega (arith, long), omega (arith, longest_is.fits, ap length p_is))
    (within limit (is_cut size ts) false (back size ts) ps more)

sent_as : (s : Sender) (limit : ℕ) (os : List Obu) → 2 ≤ limit → AreSendable os
    → IsSentAs av1_coding limit (record {
      packets = packets_of limit (begins_sequence os) (texts_of os);
      sender =
          s;
    }) (unit_of (Some os)) s
sent_as s limit [] room are = record { reached = tt; within = All-nil _; frames = refl; leaves = refl }
sent_as s limit (o ∷ os) room are =
    let n : Bool = begins_sequence (o ∷ os) in
    let packets : List (List ℕ) = packets_of limit n (texts_of (o ∷ os)) in
    record {
      reached = tt;
      within = within limit false n (texts_of (o ∷ os)) packets
          (packets-are (length (joined (texts_of (o ∷ os)))) limit false n (texts_of (o ∷ os)) room
          (sendable-texts (o ∷ os) are) (omega arith));
      frames = one_unit (marked av1_packing packets) (map with_its_size (o ∷ os)) (sent-frame limit n o os room are);
      leaves = refl;
    }

abbrev sent_by : Sender → ℕ → List Obu → Bool → Result Sent PacketError
sent_by s limit os t = Ok (record {
  packets =
      if t then [] else packets_of limit (begins_sequence os) (texts_of os);
  sender = s;
})

by_room : (s : Sender) (limit : ℕ) (os : List Obu) (t : Bool) → ltb limit 2 ≡ t → AreSendable os
    → SendsUnits av1_coding limit (sent_by s limit os t) (if t then [] else unit_of (Some os)) s
by_room s limit os true e are = record { reached = tt; within = All-nil _; frames = refl; leaves = refl }
by_room s limit os false e are = sent_as s limit os (grind (arith, nat_tests)) are

pub av1_codec_law : CodecLaw av1_coding
av1_codec_law s limit sample reached (some, (units_of, obus)) =
    let units : obus_of sample ≡ Some units_of = (sample_law sample units_of).0 obus in
    let os : List Obu = filter is_kept units_of in
    let kept : kept_of sample ≡ Some os = ap (λ q. option_map (λ os. filter is_kept os) q) units in
    let U : Option (List Obu) → Type 0 = λ q. SendsUnits av1_coding limit (pack_kept s limit q)
    (if ltb limit 2 then [] else unit_of q) s in
    subst U (sym kept) (by_room s limit os (ltb limit 2) refl (kept-sendable sample os kept))
