use Rattle.std.proofs.Common.{◌≡◌, ◌+◌, map, take}
use Rattle.payload_core_audio.specs.RedViews.{old_block}
use Rattle.payload_core_audio.specs.RedWrapping.{bytes_of}
use Rattle.payload_core_audio.proofs.history.longest_prefix.Given as goal

-- the levels so far and what is left make up the budget
abbrev pub invariant-loop-i : goal.invariant-loop-i
invariant-loop-i l = 1 + bytes_of (take l.i (map old_block l.olds)) + l.size + l.left ≡ l.budget
