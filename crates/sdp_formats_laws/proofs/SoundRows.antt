-- The rows of lines with values of their widths.
use Rattle.std.proofs.Common.{◌==◌, ◌&&◌, ℕ, Bool, true, false, List, [], ◌∷◌, Option, Some, None}
use Rattle.std.proofs.Common.{if◌then◌else◌}
use Rattle.std.specs.List.{flat_map, fold, list_any}
use Rattle.std.specs.Option.{option_map}
use Rattle.media_types.specs.Codecs.{is_tele_codec}
use Rattle.media_types.specs.declared.codec.Codec.{Codec}
use Rattle.media_types.specs.declared.codec.Codec.TheVariants.{AmrWb, G722}
use Rattle.sdp_formats_data.specs.declared.media.MediaAttribute.{MediaAttribute}
use Rattle.sdp_formats_data.specs.declared.media.MediaAttribute.TheVariants.{Fmtp}
use Rattle.sdp_formats_data.specs.declared.media.RtpMap.{RtpMap}
use Rattle.sdp_formats_rows.specs.Formats.{no_format}
use Rattle.sdp_formats_rows.specs.declared.format.FormatParams.{FormatParams}
use Rattle.sdp_formats_rounds.specs.Members.{IsEach}
use Rattle.sdp_formats_rounds.specs.PlainLaws.{IsSoundFormat, IsSoundRow}
use Rattle.sdp_formats_rows.specs.Codecs.{is_codec}
use Rattle.sdp_formats_rows.specs.declared.spec.CodecSpec.{CodecSpec}
use Rattle.sdp_formats_rows.specs.OneParam.{with_codec_param}
use Rattle.sdp_formats_section_rows.specs.Given.{format_given, is_declined, values_for, with_attribute, with_events}
use Rattle.sdp_formats_section_rows.specs.Mapped.{mappings}
use Rattle.sdp_formats_section_rows.specs.Maps.{spec_of_map, unless_one}
use Rattle.sdp_formats_section_rows.specs.SectionRows.{has_row, listed, row_of, rows_given}
use Rattle.sdp_formats_values.specs.declared.param.FormatParam.{FormatParam}
use Rattle.sdp_formats_values.specs.declared.param.FormatParam.TheVariants.{ModeSet, ProfileId, SpropMaxDonDiff}
use Rattle.sdp_formats_laws.specs.ReadLines.{IsSoundLine, IsSoundParam, SoundLinesGiveSoundRows}
use Rattle.sdp_formats_laws.proofs.SoundParams.{each_append}

no_sound : IsSoundFormat no_format
no_sound = record { modes = tt; don_diff = tt; profile = tt }

param_sound : (f : FormatParams) (p : FormatParam) → IsSoundFormat f → IsSoundParam p
    → IsSoundFormat (with_codec_param f p)
param_sound f (ModeSet v) h k = record { modes = k; don_diff = h.don_diff; profile = h.profile }
param_sound f (SpropMaxDonDiff v) h k = record { modes = h.modes; don_diff = k; profile = h.profile }
param_sound f (ProfileId v) h k = record { modes = h.modes; don_diff = h.don_diff; profile = k }
param_sound f p h k = record { modes = h.modes; don_diff = h.don_diff; profile = h.profile }

params_sound : (ps : List FormatParam) (f : FormatParams) → IsSoundFormat f → IsEach IsSoundParam ps
    → IsSoundFormat (fold with_codec_param f ps)
params_sound [] f h k = h
params_sound (p ∷ ps) f h k = params_sound ps (with_codec_param f p) (param_sound f p h k.0) k.1

values_sound : (pt : ℕ) (a : MediaAttribute) → IsSoundLine a → IsEach IsSoundParam (values_for pt a)
values_sound pt (Fmtp t values) h = at (t == pt)
  where
    at : (b : Bool) → IsEach IsSoundParam (if b then values else [])
    at true = h
    at false = tt
values_sound pt a h = tt

attribute_sound : (pt : ℕ) (f : FormatParams) (a : MediaAttribute) → IsSoundFormat f → IsSoundLine a
    → IsSoundFormat (with_attribute pt f a)
unfolding with_attribute
attribute_sound pt f a h k = params_sound (values_for pt a) f h (values_sound pt a k)

attributes_sound : (pt : ℕ) (attrs : List MediaAttribute) (f : FormatParams) → IsSoundFormat f
    → IsEach IsSoundLine attrs → IsSoundFormat (fold (with_attribute pt) f attrs)
attributes_sound pt [] f h k = h
attributes_sound pt (a ∷ attrs) f h k =
    attributes_sound pt attrs (with_attribute pt f a) (attribute_sound pt f a h k.0) k.1

abbrev IsSoundIfAny : Option FormatParams → Type 0
IsSoundIfAny None = Unit {0}
IsSoundIfAny (Some f) = IsSoundFormat f

events_sound : (o : Option ℕ) → IsSoundIfAny (option_map with_events o)
events_sound None = tt
events_sound (Some most) = record { modes = tt; don_diff = tt; profile = tt }

given_sound : (codec : Codec) (pt : ℕ) (attrs : List MediaAttribute) → IsEach IsSoundLine attrs
    → IsSoundIfAny (format_given codec pt attrs)
given_sound codec pt attrs h =
    at (is_tele_codec codec) (is_codec codec AmrWb && list_any (is_declined pt) attrs) _ (events_sound _)
  where
    at : (tele declined : Bool) (o : Option FormatParams) → IsSoundIfAny o
        → IsSoundIfAny (if tele then o
        else if declined then None else Some (fold (with_attribute pt) no_format attrs))
    at true declined o sound = sound
    at false true o sound = tt
    at false false o sound = attributes_sound pt attrs no_format no_sound h

spec_sound : (m : RtpMap) (f : FormatParams) → IsSoundFormat f → IsSoundFormat (spec_of_map m f).format
spec_sound m f h = at (is_codec m.codec G722)
  where
    at : (b : Bool) → (let spec : CodecSpec = if b
        then record { codec = m.codec; clock_rate = 16000; channels = unless_one m.channels; format = f }
        else record { codec = m.codec; clock_rate = m.clock_rate; channels = m.channels; format = f }
        in IsSoundFormat spec.format)
    at true = h
    at false = h

row_sound : (attrs : List MediaAttribute) (maps m : _) (o : Option FormatParams)
    → IsSoundIfAny o → IsEach IsSoundRow (listed (option_map (row_of attrs maps m) o))
row_sound attrs maps m None h = tt
row_sound attrs maps m (Some f) h = (spec_sound m.map f h, tt)

mapping_sound : (pts : List ℕ) (attrs : List MediaAttribute) (maps m : _)
    → IsEach IsSoundLine attrs → IsEach IsSoundRow (rows_given pts attrs maps m)
unfolding rows_given
mapping_sound pts attrs maps m h = at (has_row pts m)
  where
    at : (b : Bool) → IsEach IsSoundRow (listed (if b
        then option_map (row_of attrs maps m) (format_given m.map.codec m.pt attrs) else None))
    at true = row_sound attrs maps m (format_given m.map.codec m.pt attrs) (given_sound m.map.codec m.pt attrs h)
    at false = tt

each_mapping : (pts : List ℕ) (attrs : List MediaAttribute) (maps ms : _) → IsEach IsSoundLine attrs
    → IsEach IsSoundRow (flat_map (rows_given pts attrs maps) ms)
each_mapping pts attrs maps [] h = tt
each_mapping pts attrs maps (m ∷ ms) h =
    each_append IsSoundRow (rows_given pts attrs maps m) _ (mapping_sound pts attrs maps m h)
    (each_mapping pts attrs maps ms h)

pub sound_rows : SoundLinesGiveSoundRows
sound_rows pts attrs h = each_mapping pts attrs (mappings pts attrs) (mappings pts attrs) h
