use Rattle.std.proofs.Common.{◌≡◌, map}
use Rattle.rtp_media_program.specs.ExplainedLines.{text_of}
use Rattle.rtp_media_program.specs.Noted.{noted_all}
use Rattle.rtp_media_program.proofs.explained.explain.Given as goal

-- the replies so far are noted
abbrev pub invariant-loop-reply : goal.invariant-loop-reply
invariant-loop-reply l = l.known ≡ noted_all l.initial.known (text_of l.line) (map (λ r. r.now) l.yielded)
