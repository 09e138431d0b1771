use Rattle.std.proofs.Common.{◌≡◌, ◌+◌, ◌∙◌, ap, ap₂, length, List, ℕ, arith}
use Rattle.payload_core_base.specs.Outgoing.{Outgoing}
use Rattle.rtp_media_streams.specs.Sending.{Sending, datagrams_from, first_refusal, payloads_at, sent, sent_payloads}
use Rattle.rtp_media_streams.specs.Sending.{still_kept, wire_payloads, with_next}
use Rattle.rtp_media_streams.proofs.Cutting.{length-datagrams_from, length-on_wire}
use Rattle.rtp_media_streams.proofs.sender.SendingStream.sent_in.Goals as goal

pub returns-in-Ok : goal.returns-in-Ok
returns-in-Ok c =
    let s : Sending = c.args.self.now in
    let same = c.self.view_is ∙ c.in-Ok.ensures.kept in
    let all : List Outgoing = sent_payloads s c.args.time c.args.values.now c.args.bytes.now in
    let word : payloads_at s c.in_ok-time.time c.args.values.now c.args.bytes.now ≡ all =
    ap (λ (w : ℕ). payloads_at s w c.args.values.now c.args.bytes.now) c.in_ok-time.ensures.word in
    let count : length c.in-Ok.datagrams.items ≡ length all =
    ap length c.in-Ok.ensures.sent ∙ length-datagrams_from s s.next _
    ∙ length-on_wire s.types.pt s.mtu s.redundancy _ ∙ ap length word in
    let n : c.len.result ≡ length all = omega (arith, count) in
    let next : c.self.inside.next ≡ s.next = ap (λ (x : Sending). x.next) same in
    let sum : c.self.inside.next + c.len.result ≡ s.next + length all = omega arith in
    record {
      sends = (
        ap₂ first_refusal c.in_ok-time.ensures.accepted c.in-Ok.ensures.accepted,
        c.in-Ok.ensures.sent
            ∙ ap (λ (os : List Outgoing). datagrams_from s s.next (wire_payloads s os)) word,
        ap (λ (x : Sending). with_next x (c.self.inside.next + c.len.result) x.packetizer x.redundancy) same
            ∙ ap (λ (k : ℕ). with_next s k (sent s c.args.bytes.now).sender
            (still_kept s.types.pt s.redundancy (payloads_at s c.in_ok-time.time c.args.values.now c.args.bytes.now)))
            sum
            ∙ ap (λ (ps : List Outgoing). with_next s (s.next + length all) (sent s c.args.bytes.now).sender
            (still_kept s.types.pt s.redundancy ps)) word,
      );
    }
