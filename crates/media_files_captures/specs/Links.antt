-- The numbers of link types (draft-ietf-opsawg-pcaplinktype).
use Rattle.std.specs.Prelude.{ℕ, ◌==◌, ◌||◌, if◌then◌else◌}
use Rattle.media_files_captures.specs.declared.frames.LinkType.{LinkType}
use Rattle.media_files_captures.specs.declared.frames.LinkType.TheVariants.{Ethernet, LinuxCooked, LinuxCooked2, Raw}
use Rattle.media_files_captures.specs.declared.frames.LinkType.TheVariants.{Loopback, Other}

-- 12 and 14 are what some systems write for raw packets.
abbrev pub link_of : ℕ → LinkType
link_of number =
    if number == 1 then Ethernet
    else if number == 113 then LinuxCooked
    else if number == 276 then LinuxCooked2
    else if (number == 12) || (number == 14) || (number == 101) || (number == 228) || (number == 229) then Raw
    else if (number == 0) || (number == 108) then Loopback
    else Other
