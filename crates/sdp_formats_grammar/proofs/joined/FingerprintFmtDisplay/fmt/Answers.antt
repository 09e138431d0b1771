use Rattle.std.proofs.Common.{rules, ◌++◌, codes, refl}
use Rattle.std.proofs.Output.{has_written_append, has_written_of_eq}
use Rattle.sdp_formats_grammar.specs.Joined.{octet_text}
use Rattle.sdp_formats_grammar.proofs.Joining.{text_more, texts_done}
use Rattle.sdp_formats_grammar.proofs.joined.FingerprintFmtDisplay.fmt.Goals as goal

pub loop-byte-preserved : goal.loop-byte-preserved
loop-byte-preserved g c = λ plain.
    let i = c.loop-byte.invariant plain in (
      i.0 ++ (codes ":" ++ octet_text c.in-Some-split_first.byte.now),
      has_written_append _ _ _ _ _ _ i.1 (c.in_ok-write-2.ensures.writes i.1.plain refl),
      text_more (codes ":") octet_text c.loop-byte.left.now c.in-Some-split_first.byte.now
          c.in-Some-split_first.after.now i.0 _ (search rules) i.2,
    )

pub returns-clause-writes : goal.returns-clause-writes
returns-clause-writes g c = λ plain ok.
    let one = c.in_ok-write.ensures.writes plain refl in
    let i = c.loop-byte.invariant one.plain in
    has_written_of_eq _ _ _ _ _
    (texts_done (codes ":") octet_text c.args.self.now.0.now c.in-Some.first.now c.in-Some.rest.now
    c.loop-byte.left.now i.0 (search rules) c.in_default-split_first.ensures.cases i.2)
    (has_written_append _ _ _ _ _ _ one i.1)
