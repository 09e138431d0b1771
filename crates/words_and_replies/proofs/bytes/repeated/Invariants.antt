use Rattle.std.proofs.Common.{◌≡◌, ◌++◌, ◌-◌}
use Rattle.std.specs.List.{repeat}
use Rattle.words_and_replies.proofs.bytes.repeated.Given as goal

-- what is there, and the repeats that are left, are all of them
abbrev pub invariant-loop : goal.invariant-loop
invariant-loop l = l.bytes.items ++ repeat (l.fn.count - l.counter) l.fn.once ≡ repeat l.fn.count l.fn.once
