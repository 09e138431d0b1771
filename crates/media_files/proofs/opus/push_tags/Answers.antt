use Rattle.std.proofs.Common.{append_assoc}
use Rattle.std.proofs.lemmas.Result.{IfOk-equal}
use Rattle.media_files.specs.Opus.{opus_tags}
use Rattle.media_files.proofs.opus.push_tags.Goals as goal

pub returns : goal.returns
unfolding opus_tags
returns c = IfOk-equal c.push_u32-2.result _ _ _ c.push_u32-2.ensures
    (rw (c.in_ok-extend_from_slice-2.ensures.items, c.in_ok-push_u32.ensures, c.in_ok-extend_from_slice.ensures.items)
    (simp append_assoc))
