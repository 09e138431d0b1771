use Rattle.std.proofs.Common.{◌≡◌, drop}
use Rattle.rtp_wire.specs.Header.{csrc_count_in, slots, words_in}
use Rattle.rtp_wire.proofs.reading.csrc_of.Given as goal

-- the first words are in their places
abbrev pub invariant-loop-i : goal.invariant-loop-i
invariant-loop-i l = record {
  count : l.count ≡ csrc_count_in l.bytes;
  placed : l.csrc ≡ slots (words_in l.i (drop 12 l.bytes));
}
