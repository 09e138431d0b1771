use Rattle.std.proofs.Common.{◌≡◌, drop}
use Rattle.std.specs.Prelude.{zip}
use Rattle.std.specs.List.{list_all}
use Rattle.rtp_media_sections.specs.Agreement.{is_agreed}
use Rattle.rtp_media_sections.proofs.correspondence.are_agreed.Given as goal

-- the sections so far are the wanted ones: the rest decides
abbrev pub invariant-loop-place : goal.invariant-loop-place
invariant-loop-place l =
    list_all is_agreed (zip (drop l.place l.agreed) (drop l.place l.wanted))
    ≡ list_all is_agreed (zip l.agreed l.wanted)
