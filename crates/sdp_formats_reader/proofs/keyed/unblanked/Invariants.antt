use Rattle.std.proofs.Common.{◌≡◌, length}
use denote.Text.{Utf8}
use denote.Shadow.{shadow}
use Rattle.sdp_formats_reader.specs.Pairs.{unblanked}
use Rattle.sdp_formats_reader.proofs.keyed.unblanked.Given as goal

-- nothing but blanks was passed
abbrev pub invariant-loop-rest : goal.invariant-loop-rest
invariant-loop-rest l = shadow (Utf8 l.left) × (unblanked l.left ≡ unblanked l.fn.text)

abbrev pub decreases-loop-rest : goal.decreases-loop-rest
decreases-loop-rest l = length l.left
