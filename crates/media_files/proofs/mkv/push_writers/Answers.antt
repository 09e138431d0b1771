use Rattle.std.proofs.Common.{append_assoc}
use Rattle.std.proofs.lemmas.Result.{IfOk-equal}
use Rattle.media_files.specs.Mkv.{writers}
use Rattle.media_files.proofs.mkv.push_writers.Goals as goal

pub returns : goal.returns
unfolding writers
returns c = IfOk-equal c.push_element-2.result _ _ _ c.push_element-2.ensures
    (rw c.in_ok-push_element.ensures (simp append_assoc))
