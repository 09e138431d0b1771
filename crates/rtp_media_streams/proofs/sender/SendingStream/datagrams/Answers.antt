use Rattle.std.proofs.Common.{◌≡◌, ◌-◌, sym, ◌∙◌, ap, ap₂}
use Rattle.std.proofs.lemmas.Result.{IfOk-weaker}
use Rattle.std.specs.Prelude.{IfOk, OnOk, Option, Some, None, Result, Ok, Err}
use Rattle.payload_core_base.specs.Packing.{Sender}
use Rattle.payload_core_audio.specs.RedHistory.{Redundancy}
use Rattle.rtp_media_streams.specs.Sending.{Sending, datagrams_from, payloads_at, sent, still_kept, wire_payloads}
use Rattle.rtp_media_streams.specs.Sending.{with_next}
use Rattle.rtp_media_streams.proofs.Cutting.{IsStampOf, made-as, made-is, made-redundant-as}
use Rattle.rtp_media_streams.proofs.sender.SendingStream.datagrams.Goals as goal

-- the same stream
moved : (x s : Sending) (p : Sender) (q : Option Redundancy) → x ≡ s → with_next x x.next p q ≡ with_next s s.next p q
moved x s p q e = ap (λ (y : Sending). with_next y y.next p q) e

-- the stream with or without this redundancy
abbrev with : Sending → Option Redundancy → Sending
with s q = record s { redundancy = q }

on-ok : {T E X : Type 0} (P : T → Type 0) (r : Result T E) → IfOk r P → ((v : T) → P v → X) → OnOk r X
on-ok P (Ok v) p f = f v p
on-ok P (Err e) p f = tt

pub returns-in_default-clause-sent : goal.returns-in_default-clause-sent
returns-in_default-clause-sent c =
    let s : Sending = c.args.self.now in
    let view = c.self.view_is in
    let is : IsStampOf s c.self.inside.stamp = record {
      ssrc = ap (λ (x : Sending). x.ssrc) view;
      pt = ap (λ (x : Sending). x.wire_type) view;
      exts = ap (λ (x : Sending). x.map) view;
    } in
    let none : None ≡ s.redundancy = sym c.in_default.is ∙ ap (λ (x : Sending). x.redundancy) view in
    IfOk-weaker c.plain.result _ _ (λ ds made.
    (made-as c.self.inside.stamp c.self.inside.next _ _ _ _ c.self.inside.mtu c.args.bytes.now c.args.time
    c.args.values.now _ c.self.invariant.1 made).made
    ∙ made-is s c.self.inside.stamp c.self.inside.next _ is
    ∙ ap (λ (x : Sending). datagrams_from s x.next
    (payloads_at (with x None) c.args.time c.args.values.now c.args.bytes.now)) view
    ∙ ap (λ (q : Option Redundancy). datagrams_from s s.next
    (wire_payloads (with s q) (payloads_at (with s q) c.args.time c.args.values.now c.args.bytes.now))) none)
    c.plain.ensures.made

pub returns-in_default-clause-kept : goal.returns-in_default-clause-kept
returns-in_default-clause-kept c =
    let s : Sending = c.args.self.now in
    let view = c.self.view_is in
    let none : None ≡ s.redundancy = sym c.in_default.is ∙ ap (λ (x : Sending). x.redundancy) view in
    on-ok _ c.plain.result c.plain.ensures.made (λ ds made.
    moved _ s _ _ view
    ∙ ap₂ (λ (p : Sender) (q : Option Redundancy). with_next s s.next p q)
    (made-as c.self.inside.stamp c.self.inside.next _ _ _ _ c.self.inside.mtu c.args.bytes.now c.args.time
    c.args.values.now _ c.self.invariant.1 made).sender c.in_default.is
    ∙ ap (λ (x : Sending). with_next s s.next (sent (with x None) c.args.bytes.now).sender None) view
    ∙ ap (λ (q : Option Redundancy). with_next s s.next (sent (with s q) c.args.bytes.now).sender
    (still_kept s.types.pt q (payloads_at (with s q) c.args.time c.args.values.now c.args.bytes.now))) none)

pub returns-clause-sent : goal.returns-clause-sent
returns-clause-sent c =
    let s : Sending = c.args.self.now in
    let view = c.self.view_is in
    let r : Redundancy = c.in-Some.sender in
    let is : IsStampOf s c.self.inside.stamp = record {
      ssrc = ap (λ (x : Sending). x.ssrc) view;
      pt = ap (λ (x : Sending). x.wire_type) view;
      exts = ap (λ (x : Sending). x.map) view;
    } in
    let kept : Some r ≡ s.redundancy = sym c.in-Some.is ∙ ap (λ (x : Sending). x.redundancy) view in
    IfOk-weaker c.redundant.result _ _ (λ ds made.
    (made-redundant-as c.self.inside.stamp c.self.inside.next _ _ _ _ (c.self.inside.mtu - 1) c.args.bytes.now
    c.args.time
    c.args.values.now c.get-pt.result c.self.inside.types.pt c.self.inside.mtu r c.redundant.new.sender _
    c.self.invariant.1 c.get-pt.ensures made).made
    ∙ made-is s c.self.inside.stamp c.self.inside.next _ is
    ∙ ap (λ (x : Sending). datagrams_from s x.next
    (wire_payloads (with x (Some r)) (payloads_at (with x (Some r)) c.args.time c.args.values.now c.args.bytes.now)))
    view
    ∙ ap (λ (q : Option Redundancy). datagrams_from s s.next
    (wire_payloads (with s q) (payloads_at (with s q) c.args.time c.args.values.now c.args.bytes.now))) kept)
    c.redundant.ensures.made

pub returns-clause-kept : goal.returns-clause-kept
returns-clause-kept c =
    let s : Sending = c.args.self.now in
    let view = c.self.view_is in
    let r : Redundancy = c.in-Some.sender in
    let kept : Some r ≡ s.redundancy = sym c.in-Some.is ∙ ap (λ (x : Sending). x.redundancy) view in
    on-ok _ c.redundant.result c.redundant.ensures.made (λ ds made.
    let was = made-redundant-as c.self.inside.stamp c.self.inside.next _ _ _ _ (c.self.inside.mtu - 1)
    c.args.bytes.now c.args.time
    c.args.values.now c.get-pt.result c.self.inside.types.pt c.self.inside.mtu r c.redundant.new.sender _
    c.self.invariant.1 c.get-pt.ensures made in
    moved _ s _ _ view
    ∙ ap₂ (λ (p : Sender) (q : Redundancy). with_next s s.next p (Some q)) was.sender was.kept
    ∙ ap (λ (x : Sending). with_next s s.next (sent (with x (Some r)) c.args.bytes.now).sender
    (still_kept x.types.pt (Some r)
    (payloads_at (with x (Some r)) c.args.time c.args.values.now c.args.bytes.now))) view
    ∙ ap (λ (q : Option Redundancy). with_next s s.next (sent (with s q) c.args.bytes.now).sender
    (still_kept s.types.pt q (payloads_at (with s q) c.args.time c.args.values.now c.args.bytes.now))) kept)
