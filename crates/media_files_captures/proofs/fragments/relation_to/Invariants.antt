use Rattle.std.proofs.Common.{◌≡◌, drop}
use Rattle.media_files_captures.specs.Fragments.{relation_to}
use Rattle.media_files_captures.proofs.fragments.relation_to.Given as goal

-- it was apart from all so far
abbrev pub invariant-loop-one : goal.invariant-loop-one
invariant-loop-one l = relation_to l.fragment (drop l.one-index l.held) ≡ relation_to l.fragment l.held
