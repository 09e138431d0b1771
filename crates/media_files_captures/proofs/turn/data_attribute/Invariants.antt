use Rattle.std.proofs.Common.{◌≡◌, ◌-◌}
use Rattle.media_files_captures.specs.Turn.{data_attribute}
use Rattle.media_files_captures.proofs.turn.data_attribute.Given as goal

-- the attributes left have the value that all have
abbrev pub invariant-loop-passed : goal.invariant-loop-passed
invariant-loop-passed l = data_attribute (l.most - l._passed) l.rest ≡ data_attribute l.most l.bytes
