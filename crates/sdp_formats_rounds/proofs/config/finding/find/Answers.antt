use Rattle.std.proofs.Common.{◌≡◌, ◌∷◌, ℕ, ◌+◌, List, arith, drop, subst, drop-cons, sym, ap, suc, ◌∙◌, Some, refl}
use denote.Param.Always.{mut_next}
use Rattle.std.specs.Fn.{CalledAt}
use Rattle.sdp_formats_rounds.proofs.Found.{found-here, found-later}
use Rattle.sdp_formats_rounds.specs.Finding.{Finds}
use Rattle.sdp_formats_rows.specs.Rows.{Row}
use Rattle.sdp_formats_rounds.proofs.config.finding.find.Goals as goal

pub returns-then-f : goal.returns-then-f
returns-then-f g c =
    let rows = c.args.rows.now in
    let i = c.loop-row.row-index in
    let here = c.row-item.result in
    let rest : List Row = drop (suc i) rows in
    let cut = drop-cons rows i here c.loop-row-test.true ∙ ap (λ (r : Row). r ∷ rest) (sym c.row-item.is) in
    c.loop-row.invariant.1 (Some here)
    (found-here (CalledAt g.F.FnMut) c.loop-row.f c.f.new.self (drop i rows) rest here cut
    (record { shown = _; shows = refl; called = c.if-f.ensures }))

pub loop-row-preserved : goal.loop-row-preserved
loop-row-preserved g c = (
  mut_next g.F.FnMut _ _ _ _ _ c.if-f.ensures refl c.loop-row.invariant.0,
  λ found h.
      let rows = c.args.rows.now in
      let i = c.loop-row.row-index in
      let here = c.row-item.result in
      let rest : List Row = drop (suc i) rows in
      let cut = drop-cons rows i here c.loop-row-test.true ∙ ap (λ (r : Row). r ∷ rest) (sym c.row-item.is) in
      let one : i + 1 ≡ suc i = omega arith in
      let later = subst (λ (k : ℕ). Finds (CalledAt g.F.FnMut) c.f.new.self (drop k rows) found) one h in
      c.loop-row.invariant.1 found
      (found-later (CalledAt g.F.FnMut) c.loop-row.f c.f.new.self (drop i rows) rest here found cut
      (record { shown = _; shows = refl; called = c.if-f.ensures }) later),
)
