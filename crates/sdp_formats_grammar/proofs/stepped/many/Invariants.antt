use Rattle.std.proofs.Common.{length}
use denote.Text.{Utf8}
use denote.Shadow.{shadow}
use Rattle.sdp_formats_grammar.specs.Step.{Begins}
use Rattle.sdp_formats_grammar.proofs.stepped.many.Given as goal

-- the values so far lead to what is left
abbrev pub invariant-loop-items : goal.invariant-loop-items
invariant-loop-items g l = shadow (Utf8 l.left) × Begins g.S.Stepped.says l.fn.text l.items.items l.left

abbrev pub decreases-loop-items : goal.decreases-loop-items
decreases-loop-items g l = length l.left
