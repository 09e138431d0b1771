use Rattle.std.proofs.Common.{◌≡◌, ◌++◌, drop}
use Rattle.std.specs.List.{flat_map}
use Rattle.rtp_media_browsers.specs.Listing.{row_listed, rows_among}
use Rattle.rtp_media_browsers.proofs.listing.rows_among.Given as goal

-- the rows so far, and those for the rows that are left
abbrev pub invariant-loop-row : goal.invariant-loop-row
invariant-loop-row l =
    l.listed.items ++ flat_map (row_listed l.offered l.own l.rows l.own_rows) (drop l.row-index l.rows)
    ≡ rows_among l.fn.offered l.fn.own l.fn.rows l.fn.own_rows
