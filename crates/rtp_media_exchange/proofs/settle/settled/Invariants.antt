use Rattle.std.proofs.Common.{◌≡◌, drop, map}
use Rattle.sdp_formats_rounds.specs.Laws.{rounds}
use Rattle.rtp_media_sections.specs.Lines.{remote_of}
use Rattle.rtp_media_exchange.proofs.settle.settled.Given as goal

-- the rounds with the rest, on the rows so far, are those with all
abbrev pub invariant-loop-section : goal.invariant-loop-section
invariant-loop-section l = record {
  rounds : rounds (map remote_of (drop l.section-index l.sections)) l.after.rows
      ≡ rounds (map remote_of l.sections) l.config.rows;
  distances : l.after.distances ≡ l.config.distances;
}
