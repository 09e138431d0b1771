use Rattle.std.proofs.Common.{◌≡◌, ◌++◌, drop, map}
use Rattle.rtp_media_sections.specs.PrintedSections.{named}
use Rattle.rtp_media_exchange.proofs.read_back.all_named.Given as goal

-- the extensions so far, and those of the rest
abbrev pub invariant-loop-entry : goal.invariant-loop-entry
invariant-loop-entry l = l.names.items ++ map named (drop l.entry-index l.entries) ≡ map named l.entries
