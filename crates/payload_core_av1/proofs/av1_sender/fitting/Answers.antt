use Rattle.std.proofs.Common.{arith, rules}
use Rattle.payload_core_av1.proofs.Leb128Lemmas.{spelling-some}
use Rattle.payload_core_av1.proofs.PrefixLemmas.{fitting-first, fitting-later}
use Rattle.payload_core_av1.proofs.av1_sender.fitting.Goals as goal

pub returns-then-place-lt-COUNTED : goal.returns-then-place-lt-COUNTED
returns-then-place-lt-COUNTED c = fitting-first c.args.place c.args.room c.args.len c.min.result (omega arith)
    (search rules)

pub loop-part-init : goal.loop-part-init
loop-part-init c = record { within = omega arith; above = λ k lt le. omega (arith, spelling-some k) }

pub returns-else-size_len-part : goal.returns-else-size_len-part
returns-else-size_len-part c =
    let inv = c.loop-part.invariant in
    fitting-later c.args.place c.args.room c.args.len c.loop-part.part (omega arith) inv.within
    (λ some. omega (arith, c.size_len.ensures.value)) inv.above

pub returns-after-loop-part : goal.returns-after-loop-part
returns-after-loop-part c =
    let inv = c.loop-part.invariant in
    fitting-later c.args.place c.args.room c.args.len c.loop-part.part (omega arith) inv.within
    (λ some. absurd (omega arith)) inv.above
