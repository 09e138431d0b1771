use Rattle.std.proofs.Common.{◌≡◌, ◌-◌, refl, true, arith, sym, ◌∙◌}
use Rattle.std.proofs.lemmas.Grind.{common_steps}
use Rattle.media_files_captures.specs.Network.{extended}
use Rattle.media_files_captures.specs.Ip.{is_passed}
use Rattle.media_files_captures.proofs.FrameLemmas.{behind_extensions-more, behind_extensions-end}
use Rattle.media_files_captures.proofs.FrameLemmas.{behind_extensions-refused, behind_extensions-none}
use Rattle.media_files_captures.proofs.ip.behind_extensions.Goals as goal
use Rattle.media_files_captures.proofs.ip.behind_extensions.Goals.{else-loop-passed-test}
use Rattle.media_files_captures.proofs.ip.behind_extensions.Goals.{then-loop-passed-test+then-not-is_passed}

pub loop-passed-init : goal.loop-passed-init
loop-passed-init c =
    let all : c.args.most - 0 ≡ c.args.most = omega arith in
    rw all refl

pub loop-passed-preserved : goal.loop-passed-preserved
loop-passed-preserved c =
    let one : is_passed c.loop-passed.next c.loop-passed.rest.now ≡ true = cc in
    sym (behind_extensions-more c.args.most c.loop-passed._passed c.loop-passed.next c.loop-passed.rest.now
    (extended c.in_ok-next.field-0-0 c.in_ok-next.field-0-1.now) (omega arith) one (sym c.in_ok-next.ensures))
    ∙ c.loop-passed.invariant

pub returns-in_err-next : goal.returns-in_err-next
returns-in_err-next c =
    let one : is_passed c.loop-passed.next c.loop-passed.rest.now ≡ true = cc in
    let refused = behind_extensions-refused c.args.most c.loop-passed._passed c.loop-passed.next c.loop-passed.rest.now
    c.in_err-next.field-0.0 (omega arith) one (sym c.in_err-next.ensures) in
    grind (arith, common_steps, refused)

pub returns : goal.returns
returns c = elim c.loop-passed-test.branch [
  | else-loop-passed-test w ↦
      sym (behind_extensions-none c.args.most c.loop-passed._passed c.loop-passed.next c.loop-passed.rest.now
      (omega arith))
      ∙ c.loop-passed.invariant
  | then-loop-passed-test+then-not-is_passed w ↦
      sym (behind_extensions-end _ c.loop-passed.next c.loop-passed.rest.now (cc)) ∙ c.loop-passed.invariant
]
