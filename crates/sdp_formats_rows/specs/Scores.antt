-- How well two rows match: not at all, or by 1 to 100 points.
use Rattle.std.specs.Prelude.{ℕ, Bool, ◌&&◌, ◌==◌, Option, Some, None, unwrap_or, if◌then◌else◌}
use Rattle.media_types.specs.declared.codec.Codec.{Codec}
use Rattle.media_types.specs.declared.codec.Codec.TheVariants.{AmrWb, Tele}
use Rattle.sdp_formats_rows.specs.FormatScores.{format_score, modes_score}
use Rattle.sdp_formats_rows.specs.Same.{same, same_format, alike}
use Rattle.sdp_formats_rows.specs.declared.spec.CodecSpec.{CodecSpec}
use Rattle.sdp_formats_rows.specs.Codecs.{is_codec}

-- AMR-WB: both mono with the same alignment; then by their mode sets (RFC 4867 8.3.1).
abbrev pub is_mono : CodecSpec → Bool
is_mono spec = unwrap_or spec.channels 1 == 1

abbrev pub amr_wb_score : CodecSpec → CodecSpec → Option ℕ
amr_wb_score a b =
    if is_mono a && is_mono b && alike a.format.octet_align b.format.octet_align
    then modes_score a.format.mode_set b.format.mode_set
    else None

-- The same codec and clock rate: telephone events match whatever their channels (RFC 4733), AMR-WB by its own rules;
-- others need the same channels, and the same format or a match by the codec's rules.
abbrev pub settings_score : CodecSpec → CodecSpec → Option ℕ
settings_score a b =
    if same a.channels b.channels
    then (if same_format a.format b.format then Some 100 else format_score a.codec a.format b.format)
    else None

abbrev pub codec_score : Codec → CodecSpec → CodecSpec → Option ℕ
codec_score Tele a b = Some 100
codec_score AmrWb a b = amr_wb_score a b
codec_score other a b = settings_score a b

-- Different codecs or clock rates don't match. Payload types, feedback and locks are ignored.
unfoldable pub score : CodecSpec → CodecSpec → Option ℕ
score a b = if is_codec a.codec b.codec && a.clock_rate == b.clock_rate then codec_score a.codec a b else None
