use Rattle.std.proofs.Common.{◌≡◌, drop}
use Rattle.sdp_formats_section_rows.specs.Facts.{find_facts}
use Rattle.sdp_formats_section_rows.proofs.facts.find_facts.Given as goal

-- none so far is of the type
abbrev pub invariant-loop-facts : goal.invariant-loop-facts
invariant-loop-facts l = find_facts (drop l.facts-index l.all) l.pt ≡ find_facts l.all l.pt
