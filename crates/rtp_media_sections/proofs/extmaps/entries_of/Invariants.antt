use Rattle.std.proofs.Common.{◌≡◌, ◌++◌}
use Rattle.rtp_wire.specs.Iteration.{entries_left}
use Rattle.rtp_media_sections.specs.Extensions.{entries_of}
use Rattle.rtp_media_sections.proofs.extmaps.entries_of.Given as goal

-- the entries so far, and the rest, are all
abbrev pub invariant-loop-id : goal.invariant-loop-id
invariant-loop-id l = record {
  next : (goal.iterator-loop-id).can_next l.id-iterator;
  finite : (goal.iterator-loop-id).is_finite l.id-iterator;
  all : l.entries.items ++ entries_left l.id-iterator ≡ entries_of l.exts;
}
