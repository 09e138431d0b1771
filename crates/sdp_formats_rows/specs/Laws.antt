-- What holds of scores.
use Rattle.std.specs.Prelude.{◌≡◌, ◌≤◌, IfSome}
use Rattle.sdp_formats_rows.specs.declared.spec.CodecSpec.{CodecSpec}
use Rattle.sdp_formats_rows.specs.Scores.{score}

-- A score is symmetric.
abbrev pub ScoreSymmetric : Type 0
ScoreSymmetric = (a b : CodecSpec) → score a b ≡ score b a

-- A score is 1 to 100.
abbrev pub ScoresInRange : Type 0
ScoresInRange = (a b : CodecSpec) → IfSome (score a b) (λ points. (1 ≤ points) × (points ≤ 100))
