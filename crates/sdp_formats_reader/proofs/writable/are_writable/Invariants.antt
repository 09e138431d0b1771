use Rattle.std.proofs.Common.{ℕ, ◌<◌, slice_index_or}
use Rattle.sdp_formats_data.specs.declared.session.SessionAttribute.{SessionAttribute}
use Rattle.sdp_formats_reader.specs.Writable.{IsWritableAttribute}
use Rattle.sdp_formats_reader.proofs.writable.are_writable.Given as goal

-- those before this one can be written
abbrev pub invariant-loop-attribute : goal.invariant-loop-attribute
invariant-loop-attribute l = (k : ℕ) (d : SessionAttribute) → k < l.attribute-index
    → IsWritableAttribute (slice_index_or l.attributes k d)
