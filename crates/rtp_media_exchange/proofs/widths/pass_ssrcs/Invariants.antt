use Rattle.std.proofs.Common.{◌<◌, ◌^◌, drop}
use Rattle.sdp_formats_rounds.specs.Members.{IsEach}
use Rattle.rtp_media_exchange.proofs.widths.pass_ssrcs.Given as goal

-- if it holds of the rest, it holds of all
abbrev pub invariant-loop-ssrc : goal.invariant-loop-ssrc
invariant-loop-ssrc l =
    IsEach (λ ssrc. ssrc < 2 ^ 32) (drop l.ssrc-index l.ssrcs) → IsEach (λ ssrc. ssrc < 2 ^ 32) l.ssrcs
