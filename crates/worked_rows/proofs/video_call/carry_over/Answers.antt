use Rattle.std.proofs.Common.{◌≡◌, ◌∙◌, sym, true, ◌&&◌, List, subst, length, [], ◌∷◌}
use Rattle.std.specs.Prelude.{◌==◌, slice_get}
use Rattle.rtp_media_runs.specs.declared.schedule.Played.{Played}
use Rattle.rtp_media_schedules.specs.Hearing.{EndsSilent, handed_out}
use Rattle.rtp_media_streams.specs.Sending.{Sending}
use Rattle.rtp_media_ends.specs.Ends.{sender_at}
use Rattle.rtp_media_runs.specs.Schedules.{Source, is_repaired, poll_answers, source_of}
use Rattle.worked_rows.specs.Call.{opened_to_hold}
use Rattle.worked_rows.specs.VideoCall.{is_received}
use Rattle.worked_rows.proofs.Three.{ends-silent}
use Rattle.worked_rows.proofs.VideoFrame.{answered-made, frame-out, frame-tame}
use Rattle.worked_rows.proofs.video_call.carry_over.Goals as goal

pub returns : goal.returns
returns c =
    let s : Sending = sender_at c.args.a.now c.args.tx in
    let sent : Source = source_of s (c.args.frame ∷ []) in
    let silent : EndsSilent (poll_answers c.in-Ok.all.items) =
    subst (λ (ps : List Played). EndsSilent (poll_answers ps)) c.deref-2.ensures.value
    (ends-silent c.deref-2.result.now (c.ends_silent.ensures.0 c.if-not-ends_silent.false)) in
    let made : is_repaired sent 1 ≡ true =
    answered-made sent c.args.rx c.args.b.now c.in-Ok.all.items c.in-Ok.ensures.answers
    (subst (λ (ps : List Played). (length ps == 4) && is_received (slice_get ps 0) ≡ true) c.deref.ensures.value
    (sym c.is_repaired.ensures ∙ c.if-not-is_repaired.false)) in
    frame-out s c.args.frame c.requires.sends c.requires.frame (handed_out (poll_answers c.in-Ok.all.items))
    (c.in-Ok.ensures.exact opened_to_hold c.requires.hears
    (frame-tame s c.args.frame c.requires.sends c.requires.frame made (poll_answers c.in-Ok.all.items) silent))
