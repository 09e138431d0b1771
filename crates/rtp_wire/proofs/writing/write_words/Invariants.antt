use Rattle.std.proofs.Common.{◌≡◌, ℕ, ◌+◌, ◌*◌, ◌++◌, List, length, take}
use Rattle.rtp_wire.specs.Layout.{words}
use Rattle.rtp_wire.specs.Written.{IsWritten}
use Rattle.rtp_wire.proofs.writing.write_words.Given as goal

-- the first words are written
abbrev pub invariant-loop-word : goal.invariant-loop-word
invariant-loop-word l = record {
  end : l.end ≡ l.fn.at + 4 * l.word-index;
  room : length l.buf ≡ length l.fn.buf;
  written : (text before : List ℕ) → IsWritten text before l.fn.buf → l.fn.at ≡ length text
      → IsWritten (text ++ words (take l.word-index l.words)) before l.buf;
}
