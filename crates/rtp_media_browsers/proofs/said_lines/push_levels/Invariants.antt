use Rattle.std.proofs.Common.{◌≡◌, ◌++◌, drop, filter, map}
use Rattle.sdp_formats_reader.specs.AsRead.{is_level, spelled_as}
use Rattle.rtp_media_browsers.proofs.said_lines.push_levels.Given as goal

-- the parameters so far, and those that are left
abbrev pub invariant-loop-param : goal.invariant-loop-param
invariant-loop-param l =
    l.all ++ filter is_level (map spelled_as (drop l.param-index l.params))
    ≡ l.fn.all ++ filter is_level (map spelled_as l.fn.params)
