use Rattle.std.proofs.Common.{◌≡◌, ◌∷◌, ℕ, ◌+◌, Bor, List, arith, drop, drop-cons, sym, ap, subst, suc, ◌∙◌}
use Rattle.std.specs.List.{FoldsTo}
use Rattle.sdp_formats_values.specs.declared.candidate.Candidate.{Candidate}
use Rattle.sdp_formats_data.proofs.OneMore.{one_more}
use Rattle.sdp_formats_data.specs.Candidates.{Adds}
use Rattle.sdp_formats_data.specs.ListedCandidates.{borrowed}
use Rattle.sdp_formats_data.proofs.session.Sdp.ice_candidates.Goals as goal

pub loop-candidate-preserved : goal.loop-candidate-preserved
loop-candidate-preserved c = (
  (λ last h.
      let items = c.as_slice-candidate-items.result.now in
      let i = c.loop-candidate.candidate-index in
      let here = c.candidate-item.result in
      let rest : List (Bor Candidate) = drop (suc i) items in
      let cut = drop-cons items i here c.loop-candidate-test.true
      ∙ ap (λ (b : Bor Candidate). b ∷ rest) (sym c.candidate-item.is) in
      let one : i + 1 ≡ suc i = omega arith in
      let now = borrowed c.push_new.new.once.items in
      let later = subst (λ (k : ℕ). FoldsTo Adds now (borrowed (drop k items)) last) one h in
      let seen = borrowed c.loop-candidate.once.items in
      c.loop-candidate.invariant.0 last
      (one_more seen now last (drop i items) rest here cut c.in_ok-push_new.ensures.added later)),
  c.in_ok-push_new.ensures.kept,
)
