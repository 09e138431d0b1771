use Rattle.std.proofs.Common.{◌≡◌, ◌∙◌, ◌++◌, ◌∷◌, [], Bor, List, ap, inl, inr, refl, subst, sym}
use Rattle.std.proofs.lemmas.List.{map-append}
use Rattle.sdp_formats_values.specs.declared.candidate.Candidate.{Candidate}
use Rattle.sdp_formats_data.proofs.KeySets.{absent, more_keys, present}
use Rattle.sdp_formats_data.specs.ListedCandidates.{borrowed}
use Rattle.sdp_formats_data.specs.Keys.{HasKeysOf}
use Rattle.sdp_formats_data.proofs.candidates.push_new.Goals as goal

pushed : (c : goal.In_ok-push)
    → borrowed c.push.new.self.items ≡ borrowed c.args.once.now.items ++ c.args.candidate.now ∷ []
pushed c = ap borrowed c.in_ok-push.ensures.items
    ∙ map-append (λ (b : Bor Candidate). b.now) c.args.once.now.items (c.args.candidate ∷ [])

pub returns-then-not-branch-clause-added : goal.returns-then-not-branch-clause-added
returns-then-not-branch-clause-added c = inl (
  present c.args.keys.now (borrowed c.args.once.now.items) c.candidate_key.result c.args.candidate.now
      c.candidate_key.ensures c.requires c.in_ok-insert.field-0 c.in_ok-insert.ensures.added
      c.if-not-branch.true,
  refl,
)

pub returns-clause-added : goal.returns-clause-added
returns-clause-added c = inr (
  absent c.args.keys.now (borrowed c.args.once.now.items) c.candidate_key.result c.args.candidate.now
      c.candidate_key.ensures c.requires c.in_ok-insert.field-0 c.in_ok-insert.ensures.added
      c.if-not-branch.false,
  pushed c,
)

pub returns-clause-kept : goal.returns-clause-kept
returns-clause-kept c =
    subst (λ (cs : List Candidate). HasKeysOf c.insert.new.self cs) (sym (pushed c))
    (more_keys c.args.keys.now c.insert.new.self (borrowed c.args.once.now.items) c.candidate_key.result
    c.args.candidate.now c.candidate_key.ensures c.requires c.in_ok-insert.ensures.updates.0)
