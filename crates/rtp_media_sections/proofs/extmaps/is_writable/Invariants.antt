use Rattle.std.proofs.Common.{◌≡◌, ◌&&◌}
use Rattle.std.specs.List.{list_all}
use Rattle.rtp_wire.specs.Iteration.{entries_left}
use Rattle.rtp_wire.specs.Kinds.{uri_of}
use Rattle.rtp_media_sections.specs.Extensions.{is_word, is_writable_map}
use Rattle.rtp_media_sections.proofs.extmaps.is_writable.Given as goal

-- those so far, and the rest
abbrev pub invariant-loop-ext : goal.invariant-loop-ext
invariant-loop-ext l = record {
  next : (goal.iterator-loop-ext).can_next l.ext-iterator;
  finite : (goal.iterator-loop-ext).is_finite l.ext-iterator;
  all : (l.writable && list_all (λ entry. is_word (uri_of entry.1)) (entries_left l.ext-iterator))
      ≡ is_writable_map l.exts;
}
