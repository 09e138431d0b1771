use Rattle.std.proofs.Common.{◌≡◌, drop}
use Rattle.std.specs.Prelude.{fold}
use Rattle.std.specs.List.{flat_map}
use Rattle.rtp_wire.specs.Direction.{receives}
use Rattle.rtp_media_sections.specs.Answered.{row_answering, rows_answering, with_once}
use Rattle.rtp_media_sections.proofs.answered.rows_answering.Given as goal

-- the rows so far with those for the rest
abbrev pub invariant-loop-row : goal.invariant-loop-row
invariant-loop-row l =
    fold with_once l.rows.items (flat_map (row_answering l.config.rows (receives l.dir)) (drop l.row-index l.offered))
    ≡ rows_answering l.config.rows (receives l.dir) l.offered
