use Rattle.std.proofs.Common.{rules, ◌++◌, refl}
use Rattle.sdp_formats_grammar.proofs.Joining.{each_next, written_more, one_more, joined_whole}
use Rattle.sdp_formats_grammar.proofs.joined.JoinedDisplay.fmt.Goals as goal

pub loop-item-preserved : goal.loop-item-preserved
loop-item-preserved g c = (
  refl,
  λ whole plain e.
      let i = c.loop-item.invariant.1 whole plain e in
      let front = each_next g.T.Display.output c.args.self.now.1.now c.loop-item.left.now c.in-Some-split_first.item.now
      c.in-Some-split_first.after.now i.1 (search rules) i.3 in (
        i.0 ++ (c.args.self.now.1.now ++ front.0),
        front.1,
        written_more _ _ _ _ _ _ _ _ _ i.2 front.2 c.in_ok-write-2.ensures.writes,
        front.3,
        one_more i.0 c.args.self.now.1.now front.0 front.1 i.1 whole i.4 front.4,
      ),
)

pub returns-clause-writes : goal.returns-clause-writes
returns-clause-writes g c = joined_whole _ g.T.Display.output c.args.self.now.1.now c.args.self.now.0.now
    c.in-Some.first.now c.in-Some.rest.now c.loop-item.left.now _ _ _ _ _ (search rules) (search rules)
    c.in_ok-write.ensures.writes c.loop-item.invariant.1
