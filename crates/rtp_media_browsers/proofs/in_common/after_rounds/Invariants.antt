use Rattle.std.proofs.Common.{◌≡◌, drop, map}
use Rattle.sdp_formats_rounds.specs.Laws.{rounds}
use Rattle.rtp_media_sections.specs.Lines.{remote_of}
use Rattle.rtp_media_browsers.proofs.in_common.after_rounds.Given as goal

-- the rounds with the rest, on the rows so far, are those with all
abbrev pub invariant-loop-section : goal.invariant-loop-section
invariant-loop-section l =
    rounds (map remote_of (drop l.section-index l.sections)) l.after.rows
    ≡ rounds (map remote_of l.fn.sections) l.fn.config.rows
