use Rattle.std.proofs.Common.{◌-◌, ℕ, List, Bor, Option, Ok, arith, ap, sym, ◌∙◌}
use Rattle.std.proofs.lemmas.Grind.{common_steps}
use Rattle.media_files_captures.specs.Network.{extended}
use Rattle.media_files_captures.specs.Tunnels.{read_inside}
use Rattle.media_files_captures.proofs.FrameLemmas.{datagram_behind-more, datagram_behind-end}
use Rattle.media_files_captures.proofs.FrameLemmas.{datagram_behind-refused, datagram_behind-none}
use Rattle.media_files_captures.proofs.frames.datagram_behind.Goals as goal

pub loop-passed-preserved : goal.loop-passed-preserved
loop-passed-preserved c =
    sym (datagram_behind-more c.args.most c.loop-passed._passed
    (extended c.loop-passed.protocol c.loop-passed.rest.now)
    (extended c.in-Some.deeper.0 c.in-Some.deeper.1.now) (omega arith)
    (sym c.in_ok-deeper.ensures ∙ ap (λ (o : Option (ℕ × Bor (List ℕ))). read_inside (Ok o)) c.in-Some.is))
    ∙ c.loop-passed.invariant

pub returns-in_err-deeper : goal.returns-in_err-deeper
returns-in_err-deeper c =
    let refused = datagram_behind-refused c.args.most c.loop-passed._passed
    (extended c.loop-passed.protocol c.loop-passed.rest.now) c.in_err-deeper.field-0.0 (omega arith)
    (sym c.in_err-deeper.ensures) in
    grind (arith, common_steps, refused)

pub returns-in_default : goal.returns-in_default
returns-in_default c =
    c.datagram_of.ensures
    ∙ sym (datagram_behind-end (c.args.most - c.loop-passed._passed)
    (extended c.loop-passed.protocol c.loop-passed.rest.now)
    (sym c.in_ok-deeper.ensures ∙ ap (λ (o : Option (ℕ × Bor (List ℕ))). read_inside (Ok o)) c.in_default.is))
    ∙ c.loop-passed.invariant

pub returns : goal.returns
returns c =
    c.datagram_of-2.ensures
    ∙ sym (datagram_behind-none c.args.most c.loop-passed._passed
    (extended c.loop-passed.protocol c.loop-passed.rest.now) (omega arith))
    ∙ c.loop-passed.invariant
