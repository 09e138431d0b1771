use Rattle.std.proofs.Common.{sym, ap, ◌∙◌}
use Rattle.std.proofs.lemmas.Result.{err_from_is_err_and}
use Rattle.std.specs.List.{list_all}
use Rattle.sdp_formats_data.specs.Consistency.{is_consistent}
use Rattle.sdp_formats_reader.proofs.One.{no-session, no-sections, faulty, reads, whole}
use Rattle.sdp_formats_reader.proofs.whole.read_sdp.Goals as goal

pub returns-in_err-session : goal.returns-in_err-session
returns-in_err-session c =
    let p = err_from_is_err_and c.from_residual.result c.from_residual.ensures.1 in
    rw (p.1, p.2) (no-session c.args.text.now _ c.in_err-session.ensures)

pub returns-in_err-media_lines : goal.returns-in_err-media_lines
returns-in_err-media_lines c =
    let p = err_from_is_err_and c.from_residual-in_err-media_lines.result
    c.from_residual-in_err-media_lines.ensures.1 in
    rw (p.1, p.2) (no-sections c.args.text.now c.in_ok-session.rest.now _ c.in_err-media_lines.ensures)

pub returns-then-not-are_consistent : goal.returns-then-not-are_consistent
returns-then-not-are_consistent c = faulty c.exact_law.ensures c.exact_law-2.ensures c.args.text.now
    c.in_ok-session.rest.now c.in_ok-media_lines.rest.now c.in_ok-session.session c.in_ok-media_lines.media_lines
    c.in_ok-session.ensures c.in_ok-media_lines.ensures
    (sym (ap (list_all is_consistent) c.as_slice.ensures) ∙ sym c.are_consistent.ensures ∙ c.if-not-are_consistent.true)

pub returns : goal.returns
returns c = reads c.exact_law.ensures c.exact_law-2.ensures c.args.text.now _
    (whole c.args.text.now c.in_ok-session.rest.now c.in_ok-media_lines.rest.now _ c.in_ok-session.ensures
    c.in_ok-media_lines.ensures
    (sym (ap (list_all is_consistent) c.as_slice.ensures) ∙ sym c.are_consistent.ensures
    ∙ c.if-not-are_consistent.false))
