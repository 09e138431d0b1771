use Rattle.std.proofs.Common.{◌≡◌, ◌++◌, drop}
use Rattle.sdp_formats_data.proofs.media.MediaLine.clone_all.Given as goal

-- the copies so far and the values that are left
abbrev pub invariant-loop-section : goal.invariant-loop-section
invariant-loop-section l = l.copies.items ++ drop l.section-index l.sections ≡ l.fn.sections
