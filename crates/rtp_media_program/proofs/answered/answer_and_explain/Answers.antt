use Rattle.std.proofs.Common.{◌∙◌, ap, inl, inr, rules, sym, true≢false}
use Rattle.rtp_media_program.specs.Answered.{PartlyExplained}
use Rattle.rtp_media_program.specs.ExplainedLines.{text_of}
use Rattle.rtp_media_program.proofs.Stopping.{on_err}
use Rattle.rtp_media_program.proofs.Noting.{noted_none}
use Rattle.rtp_media_program.proofs.answered.answer_and_explain.Goals.{then-is_comment}
use Rattle.rtp_media_program.proofs.answered.answer_and_explain.Goals.{else-is_comment+in_ok-replies}
use Rattle.rtp_media_program.proofs.answered.answer_and_explain.Goals as goal

pub returns-in_err-explain-clause-stopped : goal.returns-in_err-explain-clause-stopped
returns-in_err-explain-clause-stopped g c =
    let told : PartlyExplained g.A.Respond.gives c.args.responder.now c.if-is_comment.responder c.args.known.now
    c.explain.new.known c.args.line.now = elim c.if-is_comment.branch [
      | then-is_comment w ↦
          let none = noted_none c.args.known.now c.explain.new.known (text_of c.args.line.now) c.deref.result.now
          (c.deref.ensures.value ∙ ap (λ r. r.0.items) w.replies-is ∙ w.new.ensures.items)
          c.in_err-explain.ensures.stopped in
          record { comment = λ _. (w.responder-is, none); noted = inl none }
      | else-is_comment+in_ok-replies w ↦ record {
        comment = λ yes. absurd (true≢false (sym yes ∙ sym w.if-is_comment.ensures));
        noted = inr (c.deref.result.now, c.if-is_comment.replies.1, search rules, c.in_err-explain.ensures.stopped);
      }
    ] in
    on_err _ told
