use Rattle.std.proofs.Common.{ℕ, List, option_map}
use Rattle.h26x_payload_units.specs.Headers.{aggregate_high, aggregate_low, layer_of, tid_of}
use Rattle.h26x_payload_formats.specs.Packing.{least}
use Rattle.h26x_payload_formats.specs.Waiting.{joining}
use Rattle.h26x_payload_formats.proofs.SendingLemmas.{aggregate_laid}
use Rattle.h26x_payload_formats.proofs.packets.aggregate.Goals as goal

pub returns : goal.returns
returns c =
    let l = c.args.form.layout in
    let vps = option_map (λ s. s.now) c.args.vps in
    let sets : List (List ℕ) = joining vps c.args.sps.now c.args.pps.now in
    let layer : ℕ = least (layer_of l) sets in
    let tid : ℕ = least tid_of sets in
    rw (
      c.in_ok-push_sized-2.ensures,
      c.in_ok-push_dond.ensures,
      c.in_ok-push_sized.ensures,
      c.in_ok-push_before.ensures,
      c.in_ok-push_donl.ensures,
      c.in_ok-push-2.ensures.items,
      c.in_ok-push.ensures.items,
      c.in_ok-packet.ensures,
      c.aggregate_high.ensures,
      c.aggregate_low.ensures,
      c.least_layer-layer.ensures,
      c.least_tid.ensures,
    )
    (aggregate_laid l c.args.form.donl c.args.number vps c.args.sps.now c.args.pps.now c.args.prefix.now
    (aggregate_high l layer) (aggregate_low l layer tid))
