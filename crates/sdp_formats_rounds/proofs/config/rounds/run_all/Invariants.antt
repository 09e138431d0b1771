use Rattle.std.proofs.Common.{◌≡◌, drop}
use Rattle.std.specs.Prelude.{map}
use Rattle.sdp_formats_rounds.specs.Laws.{rounds}
use Rattle.sdp_formats_rounds.specs.RemoteSections.{section_of}
use Rattle.sdp_formats_rounds.proofs.config.rounds.run_all.Given as goal

-- the rounds of what is left, on the rows so far, are those of all
abbrev pub invariant-loop-section : goal.invariant-loop-section
invariant-loop-section l =
    rounds (map section_of (drop l.section-index l.sections)) l.rows.items
    ≡ rounds (map section_of l.sections) l.fn.rows.items
