use Rattle.std.proofs.Common.{◌≡◌, ◌-◌}
use Rattle.std.specs.List.{range_with_len}
use Rattle.rtp_media_streams.specs.Missing.{first_taken, lowest_taken}
use Rattle.rtp_media_streams.proofs.receiver.missing.lowest_taken.Given as goal

-- the numbers that are left say the same as all of them
abbrev pub invariant-loop-number : goal.invariant-loop-number
invariant-loop-number l = first_taken l.window (range_with_len l.number (l.greatest - l.number))
    ≡ lowest_taken l.window
