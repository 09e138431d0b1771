use Rattle.std.proofs.Common.{◌≡◌, ◌++◌}
use Rattle.std.specs.Array.Iter.{array_into_iter_items}
use Rattle.std.specs.List.{flat_map}
use Rattle.sdp_formats_section_rows.specs.Attributes.{feedback_line, feedback_lines}
use Rattle.sdp_formats_section_rows.proofs.feedback.push_feedback.Given as goal

-- the lines so far and those that are left
abbrev pub invariant-loop-feedback : goal.invariant-loop-feedback
invariant-loop-feedback l =
    l.attributes.items ++ flat_map (feedback_line l.row) (array_into_iter_items l.feedback-iterator)
    ≡ l.fn.attributes.items ++ feedback_lines l.row
