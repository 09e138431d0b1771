use Rattle.std.proofs.Common.{◌≡◌, take}
use Rattle.jilqamur.proofs.numbers.wide.Given as goal

-- the numbers up to this one
abbrev pub invariant-loop-number : goal.invariant-loop-number
invariant-loop-number l = l.all.items ≡ take l.number-index l.numbers
