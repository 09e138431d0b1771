-- What a whole session text says of its bundle and of its data channels.
use Rattle.std.specs.Prelude.{ℕ, List, Option, Some, None, codes, find, nat_eq, if◌then◌else◌}
use Rattle.std.specs.Cmp.Lexicographic.{pointwise}
use Rattle.std.specs.Option.{option_flatten, option_map}
use Rattle.sdp_formats_data.specs.Sections.{sctp_init_in}
use Rattle.sdp_formats_data.specs.Lookups.{first_of}
use Rattle.sdp_formats_values.specs.MediaTypes.{is_channel}
use Rattle.sdp_formats_data.specs.declared.media.MediaLine.{MediaLine}
use Rattle.sdp_formats_data.specs.declared.session.Sdp.{Sdp}
use Rattle.sdp_formats_data.specs.declared.session.SessionAttribute.{SessionAttribute}
use Rattle.sdp_formats_data.specs.declared.session.SessionAttribute.TheVariants as a

-- The mids of a BUNDLE group.
unfoldable pub bundle_in : SessionAttribute → Option (List (List ℕ))
bundle_in (a.Group typ mids) = if pointwise nat_eq typ (codes "BUNDLE") then Some mids else None
bundle_in _ = None

-- The mids of the first BUNDLE group (RFC 9143 7).
abbrev pub bundle_of : Sdp → Option (List (List ℕ))
bundle_of sdp = first_of bundle_in sdp.session.attrs

abbrev pub init_in : MediaLine → Option (List ℕ)
init_in m = first_of sctp_init_in m.attrs

-- The `a=sctp-init` value of the first data channel section.
abbrev pub init_of : Sdp → Option (List ℕ)
init_of sdp = option_flatten (option_map init_in (find (λ m. is_channel m.typ) sdp.media_lines))
