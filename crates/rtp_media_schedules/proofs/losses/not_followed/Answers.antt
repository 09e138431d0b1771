use Rattle.std.proofs.Common.{sym, ◌∙◌, arith, true≢false, inl, inr}
use Rattle.rtp_media_schedules.proofs.losses.not_followed.Goals as goal

pub returns-clause-silent : goal.returns-clause-silent
returns-clause-silent c first count holding past next size sizes cs turns os came is =
    true≢false (sym came ∙ is.0.0)

pub returns-clause-withheld : goal.returns-clause-withheld
returns-clause-withheld c first count holding past next size sizes cs turns os more is =
    absurd (omega (arith, more, is.0.1))

pub returns-clause-skipped : goal.returns-clause-skipped
returns-clause-skipped c first count holding past next size sizes unit cs u turns os came far is = elim is.1 [
  | inl here ↦ absurd (omega (arith, far, here.0.in_order, here.0.within))
  | inr later ↦ absurd (true≢false (sym came ∙ later.0))
]

pub returns-clause-skipped_early : goal.returns-clause-skipped_early
returns-clause-skipped_early c first count holding past next size sizes unit cs u turns os few far is = elim is.1 [
  | inl here ↦ absurd (omega (arith, far, here.0.in_order, here.0.within))
  | inr later ↦ absurd (omega (arith, few, later.1))
]

pub returns-clause-too_early : goal.returns-clause-too_early
returns-clause-too_early c first count holding past next size sizes cs u turns os lacks few is = elim is.0 [
  | inl came ↦ absurd (true≢false (sym came ∙ lacks))
  | inr more ↦ absurd (omega (arith, few, more))
]

pub returns-clause-fault : goal.returns-clause-fault
returns-clause-fault c first count holding past next sizes cs e turns os is = is
