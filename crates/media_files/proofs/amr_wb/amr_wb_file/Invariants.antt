use Rattle.std.proofs.Common.{◌≡◌, ◌++◌, map, drop}
use Rattle.std.specs.List.{flat_map}
use Rattle.media_files.specs.AmrWb.{amr_wb_file, stored}
use Rattle.media_files.specs.Opus.{item}
use Rattle.media_files.proofs.amr_wb.amr_wb_file.Given as goal

-- what is written, and what is left
abbrev pub invariant-loop-item : goal.invariant-loop-item
invariant-loop-item l = l.out.items ++ flat_map stored (map item (drop l.item-index l.frames))
    ≡ amr_wb_file (map item l.frames)
