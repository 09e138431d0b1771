use Rattle.std.proofs.Common.{◌≡◌, ◌++◌, drop, map}
use Rattle.sdp_formats_data.specs.declared.media.MediaAttribute.TheVariants as line
use Rattle.rtp_media_browsers.proofs.with_transport.push_candidates.Given as goal

-- the lines so far, and those of the candidates that are left
abbrev pub invariant-loop-candidate : goal.invariant-loop-candidate
invariant-loop-candidate l =
    l.attributes ++ map line.Candidate (drop l.candidate-index l.candidates)
    ≡ l.fn.attributes ++ map line.Candidate l.fn.candidates
