use Rattle.std.proofs.Common.{◌%◌, List, map, length, ap, sym, subst, ◌∙◌, arith}
use Rattle.std.specs.Prelude.{All, IfOk, filter}
use Rattle.std.proofs.lemmas.List.{length-map, length-take}
use Rattle.payload_core_audio.specs.Red.{Block, HasRoom, IsRed}
use Rattle.payload_core_audio.specs.RedSending.{fits, masked}
use Rattle.payload_core_audio.specs.RedViews.{block_of, old_block}
use Rattle.payload_core_audio.proofs.FitLemmas.{All-unmap, kept-room}
use Rattle.payload_core_audio.proofs.encoder.RedEncoder.encode.Goals as goal

pub spell-requires-clause-room : goal.spell-requires-clause-room
spell-requires-clause-room c =
    let R : Block → Type 0 = λ b. HasRoom (masked b) in
    let room : All R (map old_block c.in_ok-blocks.blocks.items) =
    subst (All R) (sym c.in_ok-blocks.ensures) (kept-room (map block_of c.args.redundant.now)) in
    subst (All (λ b. R (old_block b))) (sym c.deref.ensures.value)
    (All-unmap R old_block c.in_ok-blocks.blocks.items room)

pub spell-requires-clause-few : goal.spell-requires-clause-few
spell-requires-clause-few c =
    let fitting : List Block = filter fits (map block_of c.args.redundant.now) in
    omega (
      arith,
      ap length c.deref.ensures.value,
      length-map c.in_ok-blocks.blocks.items old_block,
      ap length c.in_ok-blocks.ensures,
      length-take 32 fitting,
    )

pub returns : goal.returns
returns c =
    let P : List Block → Type 0 = λ bs. IfOk c.spell.result
    (λ packet. IsRed packet.items (map masked bs) (c.args.primary_pt % 128) c.args.primary.now) in
    subst P (ap (map old_block) c.deref.ensures.value ∙ c.in_ok-blocks.ensures) c.spell.ensures
