-- Samples of publishers that are sent on.
use Rattle.std.proofs.Common.{◌≡◌, ℕ, ◌+◌, ◌<◌, refl, sym, ◌∙◌, ap, ap₂, subst, arith, List, [], ◌∷◌}
use Rattle.std.proofs.Common.{◌++◌, length, map}
use Rattle.std.specs.List.{flat_map}
use Rattle.std.proofs.lemmas.Grind.{flat_map-append}
use Rattle.h26x_payload.specs.Dispatch.{KeepCodecLawInForms}
use Rattle.payload_core_base.specs.Format.{Format}
use Rattle.payload_core_base.specs.Law.{joined}
use Rattle.payload_core_base.specs.Outgoing.{Outgoing, all_outgoing}
use Rattle.rtp_wire.specs.Carried.{AreValues}
use Rattle.rtp_wire.specs.declared.values.ExtensionValues.{ExtensionValues}
use Rattle.rtp_media_schedules.specs.Hearing.{Content}
use Rattle.rtp_media_schedules.specs.SentSamples.{Timed, timed}
use Rattle.rtp_media_schedules.specs.Samples.{AreSentAs, SentSample, canonical_units, datagrams, units_in, whole_unit}
use Rattle.rtp_media_streams.specs.Sending.{Sending, packet_limit, payloads_of_samples}
use Rattle.rtp_media_ends.specs.FullArrival.{AreSound, IsSender, sent_samples}
use Rattle.rtp_media_ends.proofs.Datagrams.{AreSendable, AreTheirs, contents_of}
use Rattle.rtp_media_ends.proofs.Exact.{all-theirs, sent-as-read}
use Rattle.rtp_media_runs.proofs.Values.{arriving-are-values}
use Rattle.rtp_media_forward.specs.Forwarding.{shifted}
use Rattle.rtp_media_forward.specs.Relayed.{AreRead, relayed, relayed_content, relayed_sample, relayed_samples}
use Rattle.rtp_media_forward.proofs.Relayed.{brought}
use Rattle.rtp_media_forward_runs.specs.ForwardedRuns.{AreWritable}
use Rattle.rtp_media_forward_runs.specs.Published.{ArePublished, KeepsValues, Publication, part_of, parts_of, unit_on}
use Rattle.rtp_media_forward_runs.specs.Published.{units_on}
use Rattle.rtp_media_forward_runs.specs.Virtual.{payloads_of}
use Rattle.rtp_media_forward_runs.proofs.Virtual.{as_outgoing, payloads-are}

map-on : {A B : Type 0} (f : A → B) (xs ys : List A) → map f (xs ++ ys) ≡ map f xs ++ map f ys
map-on f [] ys = refl
map-on {B = B} f (x ∷ xs) ys = ap (λ (zs : List B). f x ∷ zs) (map-on f xs ys)

-- contents that can be sent on
record IsGood (c : Content) : Type 0 where
  some : 0 < length c.bytes
  values : AreValues c.values

abbrev AreGood : List Content → Type 0
AreGood [] = Unit {0}
AreGood (c ∷ cs) = IsGood c × AreGood cs

good-sent : (s : Sending) (limit : ℕ) (os : List Outgoing) → AreSendable limit os → AreGood (contents_of s os)
good-sent s limit [] all = tt
good-sent s limit (o ∷ os) all = (
  record { some = all.0.1.0; values = arriving-are-values s.map o.values all.0.2 },
  good-sent s limit os all.1,
)

writable-contents : (own : ExtensionValues → ExtensionValues) (shift : ℕ) (cs : List Content) → KeepsValues own
    → AreGood cs → AreWritable (map as_outgoing (map (relayed_content own shift) cs))
writable-contents own shift [] keeps good = tt
writable-contents own shift (c ∷ cs) keeps good = (
  omega arith,
  good.0.some,
  keeps c.values good.0.values,
  writable-contents own shift cs keeps good.1,
)

writable-append : (os ps : List Outgoing) → AreWritable os → AreWritable ps → AreWritable (os ++ ps)
writable-append [] ps a b = b
writable-append (o ∷ os) ps a b = (a.0, a.1, a.2, writable-append os ps a.3 b)

module _ (law : KeepCodecLawInForms) (format : Format) (own : ExtensionValues → ExtensionValues)
    (keeps : KeepsValues own) where
  part-writable : (p : Publication) → IsSender p.stream → AreSound p.stream p.samples
      → AreWritable (payloads_of (relayed_samples own (part_of p)))
  part-writable p sender sound =
      let sent : List SentSample = sent_samples p.stream p.samples in
      let are : AreTheirs p.stream p.samples = all-theirs law p.stream p.samples sender sound in
      let good : AreGood (datagrams sent) =
      subst AreGood are.contents
      (good-sent p.stream (packet_limit p.stream) (payloads_of_samples p.stream p.samples) are.sendable) in
      subst AreWritable
      (sym (payloads-are (relayed_samples own (part_of p)) ∙ ap (map as_outgoing) (brought own p.shift sent)))
      (writable-contents own p.shift (datagrams sent) keeps good)

  pub all-writable : (ps : List Publication) → ArePublished format ps
      → AreWritable (payloads_of (relayed own (parts_of ps)))
  all-writable [] are = tt
  all-writable (p ∷ ps) are =
      subst AreWritable
      (sym (flat_map-append (λ (x : SentSample). all_outgoing x.packets x.time x.values)
      (relayed_samples own (part_of p)) (relayed own (parts_of ps))))
      (writable-append (payloads_of (relayed_samples own (part_of p))) (payloads_of (relayed own (parts_of ps)))
      (part-writable p are.0 are.1) (all-writable ps are.3))

pub all-read : (law : KeepCodecLawInForms) (format : Format) (ps : List Publication) → ArePublished format ps
    → AreRead format (parts_of ps)
all-read law format [] are = tt
all-read law format (p ∷ ps) are = (
  subst (λ (f : Format). AreSentAs f (sent_samples p.stream p.samples)) are.2
      (sent-as-read law p.stream p.samples are.0 are.1),
  all-read law format ps are.3,
)

-- units without their numbers
abbrev sample_units : SentSample → List Timed
sample_units s = map (λ parts. timed s.time s.values (joined parts)) s.units

units-in-are : (n : ℕ) (s : SentSample) (us : List (List (List ℕ)))
    → map whole_unit (units_in n (record s { units = us })) ≡ map (λ parts. timed s.time s.values (joined parts)) us
units-in-are n s [] = refl
units-in-are n s (u ∷ us) = ap (λ (ts : List Timed). timed s.time s.values (joined u) ∷ ts) (units-in-are n s us)

pub whole-are : (ss : List SentSample) (n : ℕ) → map whole_unit (canonical_units n ss) ≡ flat_map sample_units ss
whole-are [] n = refl
whole-are (s ∷ ss) n =
    map-on whole_unit (units_in n s) (canonical_units (n + length s.packets) ss)
    ∙ ap₂ (λ (xs ys : List Timed). xs ++ ys) (units-in-are n s s.units) (whole-are ss (n + length s.packets))

module _ (values : ExtensionValues → ExtensionValues) where
  sample-on : (shift : ℕ) (s : SentSample) (us : List (List (List ℕ)))
      → map (λ parts. timed (shifted shift s.time) (values s.values) (joined parts)) us
      ≡ map (unit_on values shift) (map (λ parts. timed s.time s.values (joined parts)) us)
  sample-on shift s [] = refl
  sample-on shift s (u ∷ us) =
      ap (λ (ts : List Timed). timed (shifted shift s.time) (values s.values) (joined u) ∷ ts) (sample-on shift s us)

  samples-on : (shift : ℕ) (ss : List SentSample) → flat_map sample_units (map (relayed_sample values shift) ss)
      ≡ map (unit_on values shift) (flat_map sample_units ss)
  samples-on shift [] = refl
  samples-on shift (s ∷ ss) =
      ap₂ (λ (xs ys : List Timed). xs ++ ys) (sample-on shift s s.units) (samples-on shift ss)
      ∙ sym (map-on (unit_on values shift) (sample_units s) (flat_map sample_units ss))

  all-on : (ps : List Publication) → flat_map sample_units (relayed values (parts_of ps)) ≡ units_on values ps
  all-on [] = refl
  all-on (p ∷ ps) =
      flat_map-append sample_units (relayed_samples values (part_of p)) (relayed values (parts_of ps))
      ∙ ap₂ (λ (xs ys : List Timed). xs ++ ys)
      (samples-on p.shift (sent_samples p.stream p.samples)
      ∙ ap (map (unit_on values p.shift)) (sym (whole-are (sent_samples p.stream p.samples) p.stream.next)))
      (all-on ps)

  -- the units of what is sent on are those of the publishers
  pub units-on-are : (ps : List Publication) (first : ℕ)
      → map whole_unit (canonical_units first (relayed values (parts_of ps))) ≡ units_on values ps
  units-on-are ps first = whole-are (relayed values (parts_of ps)) first ∙ all-on ps
