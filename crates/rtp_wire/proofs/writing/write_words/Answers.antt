use Rattle.std.proofs.Common.{◌≡◌, ℕ, List, ◌+◌, ◌<◌, length, arith, append_assoc, ap, sym, subst, ◌∙◌, ◌++◌, take}
use Rattle.std.proofs.Common.{length-append, length-take}
use Rattle.rtp_wire.specs.Layout.{words}
use Rattle.rtp_wire.specs.Written.{IsWritten}
use Rattle.rtp_wire.proofs.LengthsLemmas.{words-more, length-words}
use Rattle.rtp_wire.proofs.writing.write_words.Goals as goal

pub loop-word-preserved : goal.loop-word-preserved
loop-word-preserved c = record {
  end = omega (arith, c.loop-word.invariant.end, c.put-end.ensures.end);
  room = omega arith;
  written = λ text before was at.
      let csrc = c.args.words.now in
      let i = c.loop-word.word-index in
      let here : i < length csrc = omega arith in
      let place : c.loop-word.end ≡ length (text ++ words (take i csrc)) =
      omega (
        arith,
        length-append text (words (take i csrc)),
        length-words (take i csrc),
        length-take i csrc,
        c.loop-word.invariant.end,
      ) in
      let more = c.put-end.ensures.written (text ++ words (take i csrc)) before
      (c.loop-word.invariant.written text before was at) place in
      let joined : (text ++ words (take i csrc)) ++ c.to_be_bytes.result ≡ text ++ words (take (i + 1) csrc) =
      append_assoc text (words (take i csrc)) c.to_be_bytes.result
      ∙ ap (λ (ys : List ℕ). text ++ ys) (ap (λ (ys : List ℕ). words (take i csrc) ++ ys) c.to_be_bytes.ensures
      ∙ sym (words-more csrc i here)) in
      subst (λ (ys : List ℕ). IsWritten ys before c.put-end.new.buf) joined more;
}
