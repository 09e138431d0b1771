use Rattle.std.proofs.Common.{◌≡◌, ◌++◌, drop}
use Rattle.sdp_formats_data.proofs.media.MediaAttribute.clone_all.Given as goal

-- the copies so far and the values that are left
abbrev pub invariant-loop-attribute : goal.invariant-loop-attribute
invariant-loop-attribute l = l.copies.items ++ drop l.attribute-index l.attributes ≡ l.fn.attributes
