use Rattle.std.proofs.Common.{◌-◌, ℕ, List, Bor, Option, arith, ap, sym, ◌∙◌}
use Rattle.media_files_captures.specs.Network.{extended}
use Rattle.media_files_captures.specs.Tunnels.{read_packet}
use Rattle.media_files_captures.proofs.FrameLemmas.{fragment_behind-end, fragment_behind-more, fragment_behind-none}
use Rattle.media_files_captures.proofs.fragments.fragment_behind.Goals as goal

pub loop-passed-preserved : goal.loop-passed-preserved
loop-passed-preserved c =
    sym (fragment_behind-more c.args.most c.loop-passed._passed (extended c.loop-passed.kind c.loop-passed.rest.now)
    (extended c.in-Some.deeper.0 c.in-Some.deeper.1.now) (omega arith)
    (sym c.packet_inside.ensures ∙ ap (λ (o : Option (ℕ × Bor (List ℕ))). read_packet o) c.in-Some.is))
    ∙ c.loop-passed.invariant

pub returns-in_default : goal.returns-in_default
returns-in_default c =
    c.fragment_of.ensures
    ∙ sym (fragment_behind-end (c.args.most - c.loop-passed._passed)
    (extended c.loop-passed.kind c.loop-passed.rest.now)
    (sym c.packet_inside.ensures ∙ ap (λ (o : Option (ℕ × Bor (List ℕ))). read_packet o) c.in_default.is))
    ∙ c.loop-passed.invariant

pub returns : goal.returns
returns c =
    c.fragment_of-2.ensures
    ∙ sym (fragment_behind-none c.args.most c.loop-passed._passed
    (extended c.loop-passed.kind c.loop-passed.rest.now) (omega arith))
    ∙ c.loop-passed.invariant
