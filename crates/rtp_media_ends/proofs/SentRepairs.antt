-- The datagrams of a stream's samples can be repaired, and the stream that is for it takes their repairs.
use Rattle.std.proofs.Common.{◌≡◌, ℕ, zero, suc, ◌+◌, ◌^◌, ◌<◌, refl, sym, ◌∙◌, ap, subst, arith, List, [], ◌∷◌}
use Rattle.std.proofs.Common.{length}
use Rattle.std.specs.Prelude.{Option, Some, None, slice_index_or}
use Rattle.h26x_payload.specs.Dispatch.{KeepCodecLawInForms}
use Rattle.rtp_wire.specs.Carried.{AreValues}
use Rattle.rtp_wire.specs.Header.{IsWritable, layout_of}
use Rattle.rtp_wire.specs.declared.header.RtpHeader.{RtpHeader}
use Rattle.rtp_wire.proofs.HeaderLaws.{IsLayout-of}
use Rattle.payload_core_base.specs.Outgoing.{Outgoing, outgoing}
use Rattle.payload_core_audio.specs.RedHistory.{Redundancy, keeping}
use Rattle.payload_core_buffer.specs.Buffered.{Holding}
use Rattle.rtp_media_streams.specs.Receiving.{opened_receiver}
use Rattle.rtp_media_streams.specs.Redundant.{wrapped}
use Rattle.rtp_media_streams.specs.Sending.{Sample, Sending, after_sample, after_samples, datagram_of, datagrams_from}
use Rattle.rtp_media_streams.specs.Sending.{datagrams_of, header_of, on_wire, packet_limit, payloads_of_samples}
use Rattle.rtp_media_streams.specs.Sending.{wire_payloads}
use Rattle.rtp_media_streams.specs.declared.types.PayloadTypes.{PayloadTypes}
use Rattle.rtp_media_streams.proofs.Cutting.{length-datagrams_from, length-on_wire}
use Rattle.rtp_media_streams.proofs.Sent.{datagrams_of-consecutive, writable}
use Rattle.rtp_media_ends.specs.FullArrival.{AreSound, IsSender}
use Rattle.rtp_media_ends.specs.Repairs.{IsHeaded, IsKeyBeside, TakesRepairs}
use Rattle.rtp_media_ends.proofs.Datagrams.{AreSendable, AreTheirs}
use Rattle.rtp_media_ends.proofs.Exact.{all-theirs}

datagram-headed : (s : Sending) (n : ℕ) (o : Outgoing) → s.wire_type < 128 → s.ssrc < 2 ^ 32 → o.time < 2 ^ 32
    → AreValues o.values → IsHeaded (datagram_of s n o)
datagram-headed s n o wire ssrc time values =
    let h : RtpHeader = header_of s n o.marker o.time o.values in
    let w : IsWritable h = writable s n o.marker o.time o.values wire ssrc time values in
    record { layout = layout_of s.map h; rest = o.payload; sound = IsLayout-of s.map h w; is = refl }

headed-from : (s : Sending) (o : Option Redundancy) (limit : ℕ) (ps : List Outgoing) (n i : ℕ) → s.wire_type < 128
    → s.ssrc < 2 ^ 32 → AreSendable limit ps → i < length ps
    → IsHeaded (slice_index_or (datagrams_from s n (on_wire s.types.pt s.mtu o ps)) i [])
headed-from s o limit [] n i wire ssrc all lt = absurd (omega arith)
headed-from s None limit (p ∷ ps) n zero wire ssrc all lt = datagram-headed s n p wire ssrc all.0.0 all.0.2
headed-from s (Some q) limit (p ∷ ps) n zero wire ssrc all lt =
    datagram-headed s n (outgoing (wrapped s.types.pt s.mtu q p) p.marker p.time p.values) wire ssrc all.0.0 all.0.2
headed-from s None limit (p ∷ ps) n (suc i) wire ssrc all lt =
    headed-from s None limit ps (n + 1) i wire ssrc all.1 (omega arith)
headed-from s (Some q) limit (p ∷ ps) n (suc i) wire ssrc all lt =
    headed-from s (Some (keeping q s.types.pt p.payload p.time)) limit ps (n + 1) i wire ssrc all.1 (omega arith)

-- Each datagram of samples follows a header.
pub headed : KeepCodecLawInForms → (s : Sending) (samples : List Sample) → IsSender s → AreSound s samples → (k : ℕ)
    → k < length (datagrams_of s samples) → IsHeaded (slice_index_or (datagrams_of s samples) k [])
headed law s samples is sound k lt =
    let are : AreTheirs s samples = all-theirs law s samples is sound in
    let same : datagrams_of s samples ≡ datagrams_from s s.next (wire_payloads s (payloads_of_samples s samples)) =
    datagrams_of-consecutive samples s in
    let many : length (datagrams_of s samples) ≡ length (payloads_of_samples s samples) =
    ap length same ∙ length-datagrams_from s s.next (wire_payloads s (payloads_of_samples s samples))
    ∙ length-on_wire s.types.pt s.mtu s.redundancy (payloads_of_samples s samples) in
    subst (λ (ds : List (List ℕ)). IsHeaded (slice_index_or ds k [])) (sym same)
    (headed-from s s.redundancy (packet_limit s) (payloads_of_samples s samples) s.next k is.wire_type is.ssrc
    are.sendable (omega (arith, lt, many)))

-- samples leave what repairs are made by
record KeepsKey (s after : Sending) : Type 0 where
  ssrc : after.ssrc ≡ s.ssrc
  types : after.types ≡ s.types
  repairs : after.repairs ≡ s.repairs

keeps-key : (xs : List Sample) (s : Sending) → KeepsKey s (after_samples s xs)
keeps-key [] s = record { ssrc = refl; types = refl; repairs = refl }
keeps-key (x ∷ xs) s =
    let rest : KeepsKey (after_sample s x.time x.values x.bytes)
    (after_samples (after_sample s x.time x.values x.bytes) xs) =
    keeps-key xs (after_sample s x.time x.values x.bytes) in
    record { ssrc = rest.ssrc; types = rest.types; repairs = rest.repairs }

-- The stream that is for it takes repairs, whatever samples were sent.
pub takes-repairs : (s : Sending) (samples : List Sample) (holding : Holding) → IsSender s
    → TakesRepairs (opened_receiver s.ssrc s.types s.map s.row holding) (after_samples s samples)
takes-repairs s samples holding is =
    let keeps : KeepsKey s (after_samples s samples) = keeps-key samples s in
    record {
      ssrc = sym keeps.ssrc;
      types = sym keeps.types;
      beside = subst (λ (n : ℕ). IsKeyBeside n (after_samples s samples).types.repair) (sym keeps.ssrc)
          (subst (λ (t : PayloadTypes). IsKeyBeside s.ssrc t.repair) (sym keeps.types) is.beside);
      number = subst (λ (n : ℕ). n < 65536) (sym keeps.repairs) is.repairs;
    }
