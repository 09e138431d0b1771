use Rattle.std.proofs.Common.{◌≡◌, drop}
use Rattle.std.specs.List.{filter_map, last_or}
use Rattle.std.specs.Option.{option_copied}
use Rattle.sdp_formats_data.specs.Sections.{simulcast_in}
use Rattle.sdp_formats_data.specs.Sources.{last_of}
use Rattle.sdp_formats_data.proofs.media.MediaLine.simulcast.Given as goal

-- what was said last so far, or else the last of what is left, is what is said last of all
abbrev pub invariant-loop-attribute : goal.invariant-loop-attribute
invariant-loop-attribute l =
    last_or (option_copied l.found) (filter_map simulcast_in (drop l.attribute-index l.attributes))
    ≡ last_of simulcast_in l.attributes
