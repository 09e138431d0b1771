use Rattle.std.proofs.Common.{inr, ◌∙◌, ap, subst}
use Rattle.std.specs.List.{flat_map}
use Rattle.rtp_media_program.specs.ReplyLines.{reply_text}
use Rattle.rtp_media_program.specs.Writes.{AppendsFront}
use Rattle.rtp_media_program.proofs.Stopping.{on_err}
use Rattle.rtp_media_program.proofs.line_runs.answer_line.Goals as goal

pub returns-in_err-write_whole-clause-stopped : goal.returns-in_err-write_whole-clause-stopped
returns-in_err-write_whole-clause-stopped g c =
    let text = c.as_slice-2.ensures.value ∙ c.in_ok-text.ensures
    ∙ ap (λ replies. flat_map reply_text replies) c.as_slice.ensures.value in
    on_err _ (inr (
      c.replies_to.new.responder,
      c.in_ok-replies.replies.items,
      c.in_ok-replies.ensures,
      subst (AppendsFront _ _) text c.in_err-write_whole.ensures.err,
    ))
