-- Mids that reading changes (RFC 5888 4).
use Rattle.std.specs.Prelude.{ℕ, Bool, List, codes, map, nat_eq, Option, Some, None, if◌then◌else◌}
use Rattle.std.specs.Cmp.Lexicographic.{pointwise}
use Rattle.std.specs.List.{list_any}
use Rattle.rtp_media_sections.specs.Lines.{mid_of}
use Rattle.rtp_wire.specs.Name.{name_of}
use Rattle.sdp_formats_data.specs.Lookups.{first_of}
use Rattle.sdp_formats_data.specs.declared.media.MediaLine.{MediaLine}
use Rattle.sdp_formats_grammar.specs.Line.{without_return}
use Rattle.sdp_formats_grammar.specs.Split.{behind, parts}
use Rattle.sdp_formats_data.specs.WholeTexts.{is_name}

-- The mid as it is read, if it differs: it is longer than 16 bytes, or contains anything but ASCII letters, digits and
-- underscores.
abbrev pub changed : Option (List ℕ) → Option (List ℕ)
changed None = None
changed (Some name) = if pointwise nat_eq (name_of 16 name) name then None else Some (name_of 16 name)

-- The same of what follows `a=mid:`.
abbrev pub changed_in : List ℕ → Option (List ℕ)
changed_in line = changed (behind (codes "a=mid:") (without_return line))

-- The first mid in a text that reading changes.
abbrev pub changed_name : List ℕ → Option (List ℕ)
changed_name text = first_of changed_in (parts 10 text)

-- Whether it is one of these names.
abbrev pub is_among : List (List ℕ) → List ℕ → Bool
is_among names name = list_any (is_name name) names

abbrev pub mids_of : List MediaLine → List (List ℕ)
mids_of sections = map mid_of sections
