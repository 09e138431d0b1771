use Rattle.std.proofs.Common.{sym, ap, ◌∙◌, arith, List, ℕ, length, Some, append-nil}
use Rattle.std.proofs.lemmas.Result.{err_from_is_err_and}
use Rattle.sdp_formats_grammar.specs.Form.{each}
use Rattle.sdp_formats_grammar.specs.Pieces.{with_front}
use Rattle.sdp_formats_grammar.proofs.Rounds.{front_none, round-reads, round-err}
use Rattle.sdp_formats_grammar.proofs.reads.list_of.Goals as goal

pub loop-rest-init : goal.loop-rest-init
loop-rest-init g c = rw c.new-items.ensures.items (front_none _)

pub returns-in_err-read : goal.returns-in_err-read
returns-in_err-read g c =
    let f = g.R.Reads.reads in
    let items = c.loop-rest.items.items in
    let inv = rw c.in-Some.is at c.loop-rest.invariant in
    let p = err_from_is_err_and c.from_residual.result c.from_residual.ensures.1 in
    rw (p.1, p.2) (round-err f items c.first_part.result.0.now _ _ _ c.in_err-read.ensures
    (ap (λ (ps : List (List ℕ)). with_front items (each f ps)) (sym c.first_part.ensures) ∙ inv))

pub loop-rest-smaller : goal.loop-rest-smaller
loop-rest-smaller g c = rw c.in-Some.is (omega (arith, ap length c.first_part.ensures))

pub loop-rest-preserved : goal.loop-rest-preserved
loop-rest-preserved g c =
    let f = g.R.Reads.reads in
    let items = c.loop-rest.items.items in
    let inv = rw c.in-Some.is at c.loop-rest.invariant in
    rw c.in_ok-push.ensures.items (round-reads f items c.first_part.result.0.now _ _ _ c.in_ok-read.ensures
    (ap (λ (ps : List (List ℕ)). with_front items (each f ps)) (sym c.first_part.ensures) ∙ inv))

pub returns : goal.returns
returns g c =
    let items = c.loop-rest.items.items in
    let inv = rw c.in_default.is at c.loop-rest.invariant in
    sym inv ∙ ap Some (append-nil items) ∙ ap Some (sym c.of.ensures)
