use Rattle.std.proofs.Common.{◌≡◌, drop}
use Rattle.std.specs.List.{list_all}
use Rattle.rtp_media_browsers.specs.Fit.{is_ice_char}
use Rattle.rtp_media_browsers.proofs.fit.are_ice_chars.Given as goal

-- the signs so far fit: those that are left decide
abbrev pub invariant-loop-byte : goal.invariant-loop-byte
invariant-loop-byte l =
    list_all is_ice_char (drop l.byte-index l.bytes) ≡ list_all is_ice_char l.fn.text
