-- What a sample counts that a payloader sends.
use Rattle.std.proofs.Common.{◌≡◌, ◌≢◌, ◌⊎◌, ℕ, take, ◌∙◌, ap, inl, inr, refl, sym, List}
use Rattle.std.proofs.lemmas.List.{take-map}
use Rattle.std.specs.Prelude.{IfErr, OnOk, Result, Ok, Err}
use Rattle.benchmarks.specs.Tallies.{tally_with_all}
use Rattle.payload_core.specs.Outgoing.{Outgoing}
use Rattle.payload_core.specs.Packing.{Packing, Sender, Sent}
use Rattle.payload_core.specs.Sending.{HasSent, StopsSending, outgoing_from}
use Rattle.payload_core.specs.declared.PacketError.{PacketError}
use Rattle.payload_core.specs.declared.PacketError.TheVariants.{Memory}
use Rattle.rtp_wire.specs.declared.ExtensionValues.{ExtensionValues}
use Rattle.benchmarks.specs.Lines.{Refuses, Takes}
use Rattle.benchmarks.specs.Sent.{CountsAccepted}
use Rattle.benchmarks.specs.declared.line.Line.{Line}
use Rattle.benchmarks.proofs.LineLemmas.{payloads-outgoing_from, tally-TakesAll}

memory_or : (e : PacketError) → (e ≡ Memory) ⊎ (e ≢ Memory)
memory_or Memory = inl refl
memory_or e = inr (λ same. cc)

-- all packets
accepted : (packing : Packing) (r : Result Sent PacketError) (time : ℕ) (values : ExtensionValues) (old new : Line)
    (after : Sender) → HasSent Takes packing r time values old new after
    → CountsAccepted r after old.tally new.tally
accepted packing (Ok sent) time values old new after has = (
  has.0,
  inl
      (tally-TakesAll old (outgoing_from packing sent.packets time values) new has.1
      ∙ ap (tally_with_all old.tally) (payloads-outgoing_from packing sent.packets time values)),
)
accepted packing (Err e) time values old new after has = absurd has

-- the first of them
stopped : (packing : Packing) (r : Result Sent PacketError) (time : ℕ) (values : ExtensionValues) (old new : Line)
    (after : Sender) → StopsSending Takes Refuses packing r time values old new after
    → CountsAccepted r after old.tally new.tally
stopped packing (Ok sent) time values old new after stops =
    let os : List Outgoing = outgoing_from packing sent.packets time values in
    let n = stops.1.0 in
    let mid = stops.1.2 in
    let refused = stops.1.4 in (
      stops.0,
      inr (
        n,
        ap (λ (l : Line). l.tally) refused.same ∙ tally-TakesAll old (take n os) mid stops.1.3
            ∙ ap (tally_with_all old.tally)
            (sym (take-map (λ (o : Outgoing). o.payload) n os)
            ∙ ap (take n) (payloads-outgoing_from packing sent.packets time values)),
        ap (λ (l : Line). l.tally.packets) refused.same ∙ refused.full,
      ),
    )
stopped packing (Err e) time values old new after stops = absurd stops

-- the cases of a payloader's answer
pub counted : (packing : Packing) (r : Result Sent PacketError) (time : ℕ) (values : ExtensionValues) (old new : Line)
    (before after : Sender) (answer : Result (Unit {0}) PacketError)
    → OnOk answer (HasSent Takes packing r time values old new after)
    → IfErr answer (λ e. e ≢ Memory → (r ≡ Err e) × ((new ≡ old) × (after ≡ before)))
    → IfErr answer (λ e. e ≡ Memory → ((new ≡ old) × (after ≡ before))
    ⊎ StopsSending Takes Refuses packing r time values old new after)
    → ((after ≡ before) × (new.tally ≡ old.tally)) ⊎ CountsAccepted r after old.tally new.tally
counted packing r time values old new before after (Ok done) sent refused memory =
    inr (accepted packing r time values old new after sent)
counted packing r time values old new before after (Err e) sent refused memory =
    let unsent : (new ≡ old) × (after ≡ before) → (after ≡ before) × (new.tally ≡ old.tally) = λ u. (
      u.1,
      ap (λ (l : Line). l.tally) u.0,
    ) in
    elim (memory_or e) [
      | inl is ↦ elim (memory is) [
        | inl u ↦ inl (unsent u)
        | inr stops ↦ inr (stopped packing r time values old new after stops)
      ]
      | inr not ↦ inl (unsent (refused not).1)
    ]
