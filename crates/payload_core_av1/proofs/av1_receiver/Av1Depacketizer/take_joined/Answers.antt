use Rattle.std.proofs.Common.{◌<◌, ℕ, List, length, map, Bor, arith}
use Rattle.std.proofs.lemmas.List.{length-map}
use Rattle.payload_core_av1.proofs.ReaderLemmas.{joined-both, joined-none}
use Rattle.std.proofs.lemmas.Grind.{common_steps}
use Rattle.payload_core_av1.proofs.av1_receiver.Av1Depacketizer.take_joined.Goals as goal

some_others : (others : List (Bor (List ℕ))) → 0 < length others → 0 < length (map (λ (e : Bor (List ℕ)). e.now) others)
some_others others some = omega (arith, length-map others (λ (e : Bor (List ℕ)). e.now))

pub returns-in-Err-clause-refused : goal.returns-in-Err-clause-refused
returns-in-Err-clause-refused c = λ other. (
  (c.in-Err.ensures.refused other).0,
  joined-none c.args.opens_last c.in-Some.fragment.items c.args.element.now _
      (map (λ (e : Bor (List ℕ)). e.now) c.args.others.now) (rw c.in-Some.is) c.requires.some_byte
      (some_others c.args.others.now c.requires.some_other) (c.in-Err.ensures.refused other).1,
)

pub returns-clause-given : goal.returns-clause-given
returns-clause-given c = joined-both c.args.opens_last c.in-Some.fragment.items c.args.element.now _
    (map (λ (e : Bor (List ℕ)). e.now) c.args.others.now) _ c.give_joined.new.out.items _ (rw c.in-Some.is)
    c.requires.some_byte (some_others c.args.others.now c.requires.some_other) c.in-Ok.ensures.given
    c.in_ok-take_fresh.ensures.given

pub returns-in_default-clause-given : goal.returns-in_default-clause-given
returns-in_default-clause-given c = grind (arith, common_steps)

pub returns-in_default-clause-fragment : goal.returns-in_default-clause-fragment
returns-in_default-clause-fragment c = grind (arith, common_steps)

pub returns-in_default-clause-kept : goal.returns-in_default-clause-kept
returns-in_default-clause-kept c = grind (arith, common_steps)

pub returns-in_default-clause-unchanged : goal.returns-in_default-clause-unchanged
returns-in_default-clause-unchanged c = grind (arith, common_steps)

pub returns-in_default-clause-refused : goal.returns-in_default-clause-refused
returns-in_default-clause-refused c = grind (arith, common_steps)

pub returns-then-not-are_units-clause-given : goal.returns-then-not-are_units-clause-given
returns-then-not-are_units-clause-given c = grind (arith, common_steps)

pub returns-then-not-are_units-clause-fragment : goal.returns-then-not-are_units-clause-fragment
returns-then-not-are_units-clause-fragment c = grind (arith, common_steps)

pub returns-then-not-are_units-clause-kept : goal.returns-then-not-are_units-clause-kept
returns-then-not-are_units-clause-kept c = grind (arith, common_steps)

pub returns-then-not-are_units-clause-unchanged : goal.returns-then-not-are_units-clause-unchanged
returns-then-not-are_units-clause-unchanged c = grind (arith, common_steps)

pub returns-then-not-are_units-clause-refused : goal.returns-then-not-are_units-clause-refused
returns-then-not-are_units-clause-refused c = grind (arith, common_steps)

pub returns-in-Err-clause-given : goal.returns-in-Err-clause-given
returns-in-Err-clause-given c = grind (arith, common_steps)

pub returns-in-Err-clause-fragment : goal.returns-in-Err-clause-fragment
returns-in-Err-clause-fragment c = grind (arith, common_steps)

pub returns-in-Err-clause-kept : goal.returns-in-Err-clause-kept
returns-in-Err-clause-kept c = grind (arith, common_steps)

pub returns-in-Err-clause-unchanged : goal.returns-in-Err-clause-unchanged
returns-in-Err-clause-unchanged c = grind (arith, common_steps)

pub returns-in_err-take_fresh-clause-given : goal.returns-in_err-take_fresh-clause-given
returns-in_err-take_fresh-clause-given c = grind (arith, common_steps)

pub returns-in_err-take_fresh-clause-fragment : goal.returns-in_err-take_fresh-clause-fragment
returns-in_err-take_fresh-clause-fragment c = grind (arith, common_steps)

pub returns-in_err-take_fresh-clause-kept : goal.returns-in_err-take_fresh-clause-kept
returns-in_err-take_fresh-clause-kept c = grind (arith, common_steps)

pub returns-in_err-take_fresh-clause-unchanged : goal.returns-in_err-take_fresh-clause-unchanged
returns-in_err-take_fresh-clause-unchanged c = grind (arith, common_steps)

pub returns-in_err-take_fresh-clause-refused : goal.returns-in_err-take_fresh-clause-refused
returns-in_err-take_fresh-clause-refused c = grind (arith, common_steps)

pub returns-clause-fragment : goal.returns-clause-fragment
returns-clause-fragment c = grind (arith, common_steps)

pub returns-clause-kept : goal.returns-clause-kept
returns-clause-kept c = grind (arith, common_steps)

pub returns-clause-unchanged : goal.returns-clause-unchanged
returns-clause-unchanged c = grind (arith, common_steps)

pub returns-clause-refused : goal.returns-clause-refused
returns-clause-refused c = grind (arith, common_steps)
