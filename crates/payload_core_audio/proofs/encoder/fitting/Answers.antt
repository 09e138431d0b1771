use Rattle.std.proofs.Common.{◌≡◌, ℕ, ◌+◌, ◌∷◌, ◌++◌, [], List, map, take, ap, sym, ◌∙◌, length, vec_len, arith}
use Rattle.std.specs.Prelude.{filter}
use Rattle.std.proofs.lemmas.List.{length-map, map_more, map_push}
use Rattle.payload_core_audio.specs.Red.{Block}
use Rattle.payload_core_audio.specs.RedSending.{fits}
use Rattle.payload_core_audio.specs.RedViews.{block_of, old_block}
use Rattle.payload_core_audio.specs.declared.block.RedundantBlock.{RedundantBlock}
use Rattle.payload_core_audio.specs.declared.spelling.OldPayload.{OldPayload}
use Rattle.payload_core_audio.proofs.FitLemmas.{kept-full, kept-more, kept-not}
use Rattle.payload_core_audio.proofs.encoder.fitting.Goals as goal
use Rattle.payload_core_audio.proofs.encoder.fitting.Goals.{then-len-lt-MAX_BLOCKS+then-fits+in_ok-push}
use Rattle.payload_core_audio.proofs.encoder.fitting.Goals.{else-len-lt-MAX_BLOCKS}
use Rattle.payload_core_audio.proofs.encoder.fitting.Goals.{else-len-lt-MAX_BLOCKS-via-then-len-lt-MAX_BLOCKS+else-fits}
use Rattle.payload_core_audio.proofs.encoder.fitting.Goals.{else-len-lt-MAX_BLOCKS-via-else-len-lt-MAX_BLOCKS}

pub loop-block-preserved : goal.loop-block-preserved
loop-block-preserved c =
    let blocks : List RedundantBlock = c.args.blocks.now in
    let i : ℕ = c.loop-block.block-index in
    let b : RedundantBlock = c.block-item.result in
    let before : List Block = map block_of (take i blocks) in
    let more : map block_of (take (i + 1) blocks) ≡ before ++ block_of b ∷ [] =
    map_more block_of blocks i b c.loop-block-test.true
    ∙ ap (λ x. before ++ block_of x ∷ []) (sym c.block-item.is) in
    let held : length c.loop-block.olds.items ≡ vec_len c.loop-block.olds = omega (arith, c.loop-block.olds.ok.0) in
    let len : length (take 32 (filter fits before)) ≡ c.len.result =
    sym (ap length c.loop-block.invariant) ∙ length-map c.loop-block.olds.items old_block ∙ held
    ∙ sym c.len.ensures in
    elim c.if-len-lt-MAX_BLOCKS.branch [
      | then-len-lt-MAX_BLOCKS+then-fits+in_ok-push w ↦
          let kept : OldPayload = record {
            pt = b.pt;
            timestamp_offset = b.timestamp_offset;
            payload =
                w.deref.result;
          } in
          let same : old_block kept ≡ block_of b =
          λ j. record { pt = b.pt; timestamp_offset = b.timestamp_offset; payload = w.deref.ensures.value j } in
          ap (λ v. map old_block v.items) w.olds-is ∙ ap (map old_block) w.in_ok-push.ensures.items
          ∙ map_push old_block c.loop-block.olds.items kept
          ∙ ap (λ xs. xs ++ old_block kept ∷ []) c.loop-block.invariant
          ∙ ap (λ x. take 32 (filter fits before) ++ x ∷ []) same
          ∙ sym (kept-more before (block_of b) (omega (arith, len, w.if-len-lt-MAX_BLOCKS.true))
          (sym w.fits.ensures ∙ w.if-fits.true))
          ∙ ap (λ xs. take 32 (filter fits xs)) (sym more)
      | else-len-lt-MAX_BLOCKS w ↦
          let after : take 32 (filter fits (before ++ block_of b ∷ [])) ≡ take 32 (filter fits before) =
          elim w.else-len-lt-MAX_BLOCKS.branch [
            | else-len-lt-MAX_BLOCKS-via-then-len-lt-MAX_BLOCKS+else-fits w' ↦ kept-not before (block_of b)
                (sym w'.fits.ensures ∙ w'.if-fits.false)
            | else-len-lt-MAX_BLOCKS-via-else-len-lt-MAX_BLOCKS w' ↦ kept-full before (block_of b)
                (omega (arith, len, w'.if-len-lt-MAX_BLOCKS.false))
          ] in
          ap (λ v. map old_block v.items) w.olds-is ∙ c.loop-block.invariant ∙ sym after
          ∙ ap (λ xs. take 32 (filter fits xs)) (sym more)
    ]
