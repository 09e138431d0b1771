use Rattle.std.proofs.Common.{◌≡◌, ◌++◌, drop}
use Rattle.rtp_media_program.specs.Exchanging.{wanted_in}
use Rattle.rtp_media_program.proofs.exchanging.wanted_in.Given as goal

-- the sections so far, and those of the words that are left, are those of all words
abbrev pub invariant-loop-section : goal.invariant-loop-section
invariant-loop-section l = l.wanted.items ++ wanted_in (drop l.section-index l.sections) ≡ wanted_in l.fn.sections
