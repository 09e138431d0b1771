use Rattle.std.proofs.Common.{◌≡◌, [], drop, take}
use Rattle.rtp_media_sections.specs.Sections.{are_distinct}
use Rattle.rtp_media_sections.proofs.SectionNames.{IsSetOf}
use Rattle.rtp_media_sections.proofs.correspondence.are_distinct.Given as goal

-- the names so far are distinct, and in the set: the rest decides
abbrev pub invariant-loop-section : goal.invariant-loop-section
invariant-loop-section l = record {
  set : IsSetOf (take l.section-index l.wanted) l.names;
  rest : are_distinct (take l.section-index l.wanted) (drop l.section-index l.wanted) ≡ are_distinct [] l.wanted;
}
