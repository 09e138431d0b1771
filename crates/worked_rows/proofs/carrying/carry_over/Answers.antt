use Rattle.std.proofs.Common.{List, subst}
use Rattle.rtp_media_runs.specs.declared.schedule.Played.{Played}
use Rattle.rtp_media_schedules.specs.Hearing.{EndsSilent, handed_out}
use Rattle.rtp_media_ends.specs.Ends.{sender_at}
use Rattle.rtp_media_runs.specs.Schedules.{poll_answers}
use Rattle.worked_rows.specs.Call.{opened_to_hold}
use Rattle.worked_rows.proofs.Three.{bytes-out, ends-silent, tame-three}
use Rattle.worked_rows.proofs.carrying.carry_over.Goals as goal

pub returns : goal.returns
returns c =
    let silent : EndsSilent (poll_answers c.in-Ok.all.items) =
    subst (λ (ps : List Played). EndsSilent (poll_answers ps)) c.deref.ensures.value
    (ends-silent c.deref.result.now (c.ends_silent.ensures.0 c.if-not-ends_silent.false)) in
    bytes-out (sender_at c.args.a.now c.args.tx) c.args.samples.now (handed_out (poll_answers c.in-Ok.all.items))
    c.requires.pieces c.requires.limit c.requires.short
    (c.in-Ok.ensures.exact opened_to_hold c.requires.hears
    (tame-three (sender_at c.args.a.now c.args.tx) c.args.samples.now c.requires.three c.requires.pieces
    c.requires.first
    c.requires.limit c.requires.short (poll_answers c.in-Ok.all.items) silent))
