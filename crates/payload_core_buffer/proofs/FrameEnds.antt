-- A unit from the first and the last packet of its frame.
use Rattle.std.proofs.Common.{◌≡◌, ℕ, ◌+◌, ◌<◌, ◌≤◌, ◌∙◌, ap, ap₂, arith, List, length, drop, length-drop}
use Rattle.std.proofs.Common.{get_or-take, get_or-drop}
use Rattle.std.specs.Prelude.{◌-◌}
use Rattle.std.proofs.lemmas.List.{get_or-map, length-map, length-take-le}
use Rattle.payload_core_base.specs.Format.{Format}
use Rattle.payload_core_base.specs.declared.extra.CodecExtra.{CodecExtra}
use Rattle.payload_core_buffer.specs.Frames.{IsFrame, meta_at, no_packet, packet_at, packets_between}
use Rattle.payload_core_buffer.specs.Packets.{Packet, metas_of}
use Rattle.payload_core_buffer.specs.declared.frame.Frame.{Frame}
use Rattle.payload_core_buffer.specs.declared.held.RtpMeta.{RtpMeta}
use Rattle.payload_core_buffer.specs.Steps.{MediaUnit, unit_between, unit_from}

module _ (ps : List Packet) (f : Frame) (some : f.start < f.end) (within : f.end ≤ length ps) where
  long : length (packets_between ps f) ≡ f.end - f.start
  long = length-take-le (f.end - f.start) (drop f.start ps) (omega (arith, within, length-drop f.start ps))

  meta-between : (j : ℕ) → f.start + j < f.end → meta_at (metas_of (packets_between ps f)) j
      ≡ (packet_at ps (f.start + j)).meta
  meta-between j lt =
      get_or-map (λ p. p.meta) (packets_between ps f) j no_packet no_packet.meta (omega (arith, lt, long))
      ∙ ap (λ (p : Packet). p.meta) (get_or-take (f.end - f.start) (drop f.start ps) j no_packet (omega (arith, lt))
      ∙ get_or-drop f.start ps j no_packet)

  pub unit-is : (bytes : List ℕ) (extra : CodecExtra) → unit_from (metas_of (packets_between ps f)) bytes extra
      ≡ unit_between ps f bytes extra
  unit-is bytes extra =
      let front : f.start + 0 ≡ f.start = omega arith in
      let last : length (metas_of (packets_between ps f)) - 1 ≡ f.end - 1 - f.start =
      omega (arith, long, length-map (packets_between ps f) (λ (p : Packet). p.meta)) in
      let back : f.start + (f.end - 1 - f.start) ≡ f.end - 1 = omega (arith, some) in
      ap₂ (λ (p q : RtpMeta). let u : MediaUnit = record {
        first = p.seq_no;
        last = q.seq_no;
        time = p.time;
        values = q.ext_vals;
        bytes = bytes;
        extra = extra;
      } in u)
      (meta-between 0 (omega (arith, some)) ∙ ap (λ (k : ℕ). (packet_at ps k).meta) front)
      (ap (meta_at (metas_of (packets_between ps f))) last ∙ meta-between (f.end - 1 - f.start) (omega (arith, some))
      ∙ ap (λ (k : ℕ). (packet_at ps k).meta) back)

pub unit-of-frame : (format : Format) (ps : List Packet) (f : Frame) (bytes : List ℕ) (extra : CodecExtra)
    → IsFrame format ps f → unit_from (metas_of (packets_between ps f)) bytes extra ≡ unit_between ps f bytes extra
unit-of-frame format ps f bytes extra is = unit-is ps f is.not_empty is.in_range bytes extra
