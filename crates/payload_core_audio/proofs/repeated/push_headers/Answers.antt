use Rattle.std.proofs.Common.{ℕ, ◌++◌, List, length, map, refl, ◌∙◌, arith}
use Rattle.payload_core_audio.specs.Red.{header}
use Rattle.payload_core_audio.specs.RedHistory.{Kept, kept_of}
use Rattle.payload_core_audio.specs.RedViews.{old_block}
use Rattle.payload_core_audio.proofs.RepeatLemmas.{written, written-begins, written-ends, written-none, written-some}
use Rattle.payload_core_audio.proofs.repeated.push_headers.Goals as goal

pub loop-place-init : goal.loop-place-init
loop-place-init c = refl

pub loop-place-preserved-in-Continue-1 : goal.loop-place-preserved-in-Continue-1
loop-place-preserved-in-Continue-1 c =
    let h : List Kept = map kept_of c.args.history.now in
    let ds : List ℕ = c.args.distances.now in
    written-some h ds c.args.time header c.loop-place.place (old_block c.in-Some.old) c.loop-place.packet.items
    c.push_header.new.packet.items
    (c.args.packet.now.items ++ written h ds c.args.time header (length ds)) (omega (arith, c.loop-place-test.true))
    c.loop-place.auto.place c.in-Some.ensures c.in_ok-push_header.ensures c.loop-place.invariant

pub loop-place-preserved : goal.loop-place-preserved
loop-place-preserved c =
    let h : List Kept = map kept_of c.args.history.now in
    let ds : List ℕ = c.args.distances.now in
    written-none h ds c.args.time header c.loop-place.place c.loop-place.packet.items
    (c.args.packet.now.items ++ written h ds c.args.time header (length ds)) (omega (arith, c.loop-place-test.true))
    c.loop-place.auto.place c.in_default.ensures c.loop-place.invariant

pub returns : goal.returns
returns c =
    let h : List Kept = map kept_of c.args.history.now in
    let ds : List ℕ = c.args.distances.now in
    written-ends h ds c.args.time header c.loop-place.place c.loop-place.packet.items _
    (omega (arith, c.loop-place-test.false)) c.loop-place.invariant
    ∙ written-begins h ds c.args.time header (length ds) c.args.packet.now.items (omega arith)
