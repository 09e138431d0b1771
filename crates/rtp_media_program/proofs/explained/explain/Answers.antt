use Rattle.std.proofs.Common.{◌≡◌, ◌∙◌, ap, arith, length, refl}
use Rattle.std.proofs.lemmas.Grind.{common_steps}
use Rattle.std.proofs.lemmas.Iterator.Consumers.{YieldsList-end, YieldsList-so_far}
use Rattle.std.proofs.lemmas.Iterator.Splits.{YieldsList-from_lines}
use Rattle.std.specs.Prelude.{None}
use Rattle.std.specs.Str.Iter.{lines_rest}
use Rattle.std.specs.Str.Lines.{lines}
use Rattle.rtp_media_program.specs.Answered.{NotesFirst}
use Rattle.rtp_media_program.proofs.Stopping.{on_err}
use Rattle.rtp_media_program.proofs.Noting.{on_ok}
use Rattle.rtp_media_program.specs.Noted.{noted_all}
use Rattle.rtp_media_program.specs.ExplainedLines.{text_of}
use Rattle.rtp_media_program.proofs.explained.explain.Goals as goal

pub returns-clause-noted : goal.returns-clause-noted
returns-clause-noted c =
    let at : lines_rest c.into_iter-reply-iterator.result ≡ text_of c.args.replies.now = grind (arith, common_steps) in
    let all = (YieldsList-end (YieldsList-from_lines (text_of c.args.replies.now) at) c.loop-reply.yielded
    c.loop-reply.reply-iterator c.loop-reply.yielded_by None c.next.new.self refl c.in-None.ensures.steps).0 in
    on_ok c.finish.result
    (c.loop-reply.invariant ∙ ap (noted_all c.args.known.now (text_of c.args.line.now)) all)

pub returns-clause-stopped : goal.returns-clause-stopped
returns-clause-stopped c =
    let at : lines_rest c.into_iter-reply-iterator.result ≡ text_of c.args.replies.now = grind (arith, common_steps) in
    let so_far = YieldsList-so_far (YieldsList-from_lines (text_of c.args.replies.now) at) c.loop-reply.yielded
    c.loop-reply.reply-iterator c.loop-reply.yielded_by in
    on_err c.finish.result (
      length c.loop-reply.yielded,
      c.loop-reply.invariant ∙ ap (noted_all c.args.known.now (text_of c.args.line.now)) so_far,
    )

pub returns-in_err-note-clause-stopped : goal.returns-in_err-note-clause-stopped
returns-in_err-note-clause-stopped c =
    let at : lines_rest c.into_iter-reply-iterator.result ≡ text_of c.args.replies.now = grind (arith, common_steps) in
    let so_far = YieldsList-so_far (YieldsList-from_lines (text_of c.args.replies.now) at) c.loop-reply.yielded
    c.loop-reply.reply-iterator c.loop-reply.yielded_by in
    let first : NotesFirst c.args.known.now c.note.new.self (text_of c.args.line.now)
    (lines (text_of c.args.replies.now)) = (
      length c.loop-reply.yielded,
      c.in_err-note.ensures.unchanged ∙ c.loop-reply.invariant
          ∙ ap (noted_all c.args.known.now (text_of c.args.line.now)) so_far,
    ) in
    on_err _ first
