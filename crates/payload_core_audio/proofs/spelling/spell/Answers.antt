use Rattle.std.proofs.Common.{◌≡◌, ℕ, ◌%◌, List, ◌∷◌, ◌++◌, map, take, ap, ◌∙◌, append_assoc, arith}
use Rattle.std.specs.Prelude.{flat_map}
use Rattle.std.proofs.lemmas.List.{length-map, take_all}
use Rattle.std.proofs.lemmas.List.Elements.{All-map}
use Rattle.payload_core_audio.specs.Red.{Block, HasRoom, header}
use Rattle.payload_core_audio.specs.RedSending.{masked}
use Rattle.payload_core_audio.specs.RedViews.{old_block}
use Rattle.payload_core_audio.specs.declared.spelling.OldPayload.{OldPayload}
use Rattle.payload_core_audio.proofs.LayoutLemmas.{payloads_of}
use Rattle.payload_core_audio.proofs.spelling.spell.Goals as goal

pub returns : goal.returns
returns c =
    let olds : List OldPayload = c.args.blocks.now in
    let blocks : List Block = map old_block olds in
    let headers : List ℕ = flat_map header (map masked blocks) in
    let pt : ℕ = c.args.pt % 128 in
    let primary : List ℕ = c.args.primary.now in
    let all : take c.loop-old.old-index olds ≡ olds = take_all c.loop-old.old-index olds c.loop-old-test.false in
    record {
      is_spelled =
          c.in_ok-extend_from_slice-2.ensures.items
          ∙ ap (λ t. t ++ primary) (c.loop-old.invariant
          ∙ ap (λ os. headers ++ (pt ∷ payloads_of (map masked (map old_block os)))) all)
          ∙ append_assoc headers (pt ∷ payloads_of (map masked blocks)) primary;
      few = omega (arith, c.requires.few, length-map olds old_block, length-map blocks masked);
      room = All-map HasRoom masked blocks (All-map (λ b. HasRoom (masked b)) old_block olds c.requires.room);
      primary_pt = omega arith;
    }
