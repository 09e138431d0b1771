use Rattle.std.proofs.Common.{◌≡◌, drop}
use Rattle.std.specs.Prelude.{fold}
use Rattle.rtp_media_sections.specs.Extensions.{map_of_extmaps, with_entry}
use Rattle.rtp_media_sections.proofs.extmaps.map_of_extmaps.Given as goal

-- the map with the rest is the map of all
abbrev pub invariant-loop-entry : goal.invariant-loop-entry
invariant-loop-entry l = fold with_entry l.exts (drop l.entry-index l.extmaps) ≡ map_of_extmaps l.extmaps
