use Rattle.std.proofs.Common.{◌≡◌, ℕ, ◌||◌, drop}
use Rattle.std.specs.BTreeSet.{contains}
use Rattle.std.specs.Ordering.{nat_cmp}
use Rattle.rtp_media_sections.specs.Agreement.{is_named}
use Rattle.rtp_media_sections.proofs.ssrc_list.SsrcList.of.Given as goal

-- an SSRC is in the set so far, or among the rest
abbrev pub invariant-loop-ssrc : goal.invariant-loop-ssrc
invariant-loop-ssrc l =
    (n : ℕ) → (contains nat_cmp l.set n || is_named (drop l.ssrc-index l.ssrc-items) n) ≡ is_named l.ssrc-items n
