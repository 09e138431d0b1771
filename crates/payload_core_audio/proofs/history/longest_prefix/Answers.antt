use Rattle.std.proofs.Common.{◌≡◌, ℕ, ◌<◌, [], List, get_or, map, length, sym, arith}
use Rattle.std.proofs.lemmas.List.{get_or-map, length-map}
use Rattle.payload_core_audio.specs.RedViews.{old_block}
use Rattle.payload_core_audio.specs.declared.spelling.OldPayload.{OldPayload}
use Rattle.payload_core_audio.proofs.PrefixLemmas.{bytes-more, stops}
use Rattle.payload_core_audio.proofs.history.longest_prefix.Goals as goal

abbrev no_payload : OldPayload
no_payload = record { pt = 0; timestamp_offset = 0; payload = record { ref_ptr = (0, 0); now = [] } }

-- the block at a place
block-is : (olds : List OldPayload) (i : ℕ) → i < length olds → old_block (get_or olds i no_payload)
    ≡ get_or (map old_block olds) i (old_block (get_or olds i no_payload))
block-is olds i lt = sym (get_or-map old_block olds i no_payload (old_block (get_or olds i no_payload)) lt)

pub returns-then-left-bytes : goal.returns-then-left-bytes
returns-then-left-bytes c =
    let olds : List OldPayload = c.args.olds.now in
    stops c.args.budget c.args.size c.loop-i.left (map old_block olds) c.loop-i.i
    (old_block (get_or olds c.loop-i.i no_payload))
    (omega (arith, length-map olds old_block, c.loop-i-test.true)) (block-is olds c.loop-i.i c.loop-i-test.true)
    c.loop-i.invariant c.if-left-bytes.true

pub loop-i-preserved : goal.loop-i-preserved
loop-i-preserved c =
    let olds : List OldPayload = c.args.olds.now in
    let more = bytes-more (map old_block olds) c.loop-i.i (old_block (get_or olds c.loop-i.i no_payload))
    (omega (arith, length-map olds old_block, c.loop-i-test.true)) (block-is olds c.loop-i.i c.loop-i-test.true) in
    omega (arith, more, c.loop-i.invariant, c.if-left-bytes.false)
