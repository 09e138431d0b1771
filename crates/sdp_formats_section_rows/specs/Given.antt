-- The format that a section's parameters give a payload type (RFC 8866 6.15).
use Rattle.std.specs.Prelude.{ℕ, Bool, true, false, ◌&&◌, ◌==◌, List, [], ◌∷◌, fold, Option, Some, None}
use Rattle.std.specs.Prelude.{if◌then◌else◌}
use Rattle.std.specs.List.{list_any}
use Rattle.std.specs.Option.{option_map}
use Rattle.media_types.specs.Codecs.{is_tele_codec}
use Rattle.media_types.specs.declared.codec.Codec.{Codec}
use Rattle.media_types.specs.declared.codec.Codec.TheVariants.{AmrWb}
use Rattle.sdp_formats_values.specs.declared.param.FormatParam.{FormatParam}
use Rattle.sdp_formats_values.specs.declared.param.FormatParam.TheVariants.{TelephoneEvents, BareRange}
use Rattle.sdp_formats_values.specs.declared.param.FormatParam.TheVariants.{AmrWbUnsupported}
use Rattle.sdp_formats_rows.specs.Codecs.{is_codec}
use Rattle.sdp_formats_rows.specs.Formats.{no_format}
use Rattle.sdp_formats_rows.specs.OneParam.{with_codec_param}
use Rattle.sdp_formats_rows.specs.declared.format.FormatParams.{FormatParams}
use Rattle.sdp_formats_data.specs.declared.media.MediaAttribute.{MediaAttribute}
use Rattle.sdp_formats_data.specs.declared.media.MediaAttribute.TheVariants.{Fmtp}
use Rattle.sdp_formats_section_rows.specs.declared.given.Events.{Events}
use Rattle.sdp_formats_section_rows.specs.declared.given.Events.TheVariants as events

-- The parameters that an attribute gives a payload type.
abbrev pub values_for : ℕ → MediaAttribute → List FormatParam
values_for pt (Fmtp t values) = if t == pt then values else []
values_for pt _ = []

unfoldable pub with_attribute : ℕ → FormatParams → MediaAttribute → FormatParams
with_attribute pt f a = fold with_codec_param f (values_for pt a)

-- AMR-WB features that aren't supported (RFC 4867 8.2).
abbrev pub is_unsupported : FormatParam → Bool
is_unsupported AmrWbUnsupported = true
is_unsupported _ = false

unfoldable pub is_declined : ℕ → MediaAttribute → Bool
is_declined pt a = list_any is_unsupported (values_for pt a)

-- Telephone events: a single bare range `0-X`, or no line, which means up to 16 (RFC 4733 2.4.1 says 15).
abbrev pub events_in : List FormatParam → Option ℕ
events_in (BareRange most ∷ []) = Some most
events_in (TelephoneEvents most ∷ []) = Some most
events_in _ = None

abbrev pub with_line : Events → Option ℕ → Events
with_line events.Default (Some most) = events.UpTo most
with_line _ _ = events.Declined

unfoldable pub events_after : ℕ → Events → MediaAttribute → Events
events_after pt e (Fmtp t values) = if t == pt then with_line e (events_in values) else e
events_after pt e _ = e

abbrev pub most_of : Events → Option ℕ
most_of events.Default = Some 16
most_of (events.UpTo most) = Some most
most_of events.Declined = None

abbrev pub with_events : ℕ → FormatParams
with_events most = record no_format { telephone_event_max = Some most }

-- The format of a codec with a payload type; None if it is declined.
abbrev pub format_given : Codec → ℕ → List MediaAttribute → Option FormatParams
format_given codec pt attrs =
    if is_tele_codec codec then option_map with_events (most_of (fold (events_after pt) events.Default attrs))
    else if is_codec codec AmrWb && list_any (is_declined pt) attrs then None
    else Some (fold (with_attribute pt) no_format attrs)
