use Rattle.std.proofs.Common.{◌≡◌, ◌++◌, drop}
use Rattle.std.specs.List.{flat_map}
use Rattle.sdp_formats_data.specs.Candidates.{candidates_of}
use Rattle.sdp_formats_data.specs.ListedCandidates.{borrowed, section_candidates}
use Rattle.sdp_formats_data.proofs.candidates.all_candidates.Given as goal

-- the candidates so far and those of the sections that are left
abbrev pub invariant-loop-section : goal.invariant-loop-section
invariant-loop-section l =
    borrowed l.candidates.items ++ flat_map section_candidates (drop l.section-index l.sections)
    ≡ candidates_of l.fn.sdp
