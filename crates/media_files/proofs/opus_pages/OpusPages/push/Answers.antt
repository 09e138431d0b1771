use Rattle.std.proofs.Common.{inr, subst}
use Rattle.std.proofs.lemmas.Result.{err_from_is_err_and}
use Rattle.media_files.specs.Opus.{IsLong, item}
use Rattle.media_files.proofs.OpusLemmas.{long-sound}
use Rattle.media_files.proofs.opus_pages.OpusPages.push.Goals as goal

pub returns-in_err-push_heard-clause-refused : goal.returns-in_err-push_heard-clause-refused
returns-in_err-push_heard-clause-refused c =
    let p = err_from_is_err_and c.from_residual.result c.from_residual.ensures.1 in
    rw (p.1, p.2)
    (λ other. let h = c.in_err-push_heard.ensures.refused other in
    (h.0, inr (long-sound (item c.args.packet) (subst IsLong c.sound-found.ensures h.1))))
