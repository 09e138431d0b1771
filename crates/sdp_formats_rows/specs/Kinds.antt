-- Which rows of a list belong to a media kind.
use Rattle.std.specs.Prelude.{Bool, not, ◌&&◌, ◌||◌, ◌==◌, List, filter}
use Rattle.std.specs.List.{list_any}
use Rattle.media_types.specs.Codecs.{is_audio_codec, is_tele_codec, is_video_codec}
use Rattle.media_types.specs.declared.codec.MediaKind.{MediaKind}
use Rattle.media_types.specs.declared.codec.MediaKind.TheVariants.{Audio, Video}
use Rattle.sdp_formats_rows.specs.Codecs.{rtp_clock_rate}
use Rattle.sdp_formats_rows.specs.Rows.{Row}

-- Whether an audio row has the clock rate of these telephone events.
abbrev pub matches_clock : List Row → Row → Bool
matches_clock rows events =
    list_any (λ row. is_audio_codec row.spec.codec && rtp_clock_rate row.spec == rtp_clock_rate events.spec) rows

-- Whether there are telephone events at the clock rate of an audio row.
abbrev pub has_events : List Row → Bool
has_events rows = list_any (λ row. is_tele_codec row.spec.codec && matches_clock rows row) rows

-- Whether a row belongs to a media kind. In a new offer, if some telephone events have the clock rate of an audio row,
-- only those do.
unfoldable pub is_of_kind : MediaKind → Bool → List Row → Row → Bool
is_of_kind Video for_new_offer rows row = is_video_codec row.spec.codec
is_of_kind Audio for_new_offer rows row =
    is_audio_codec row.spec.codec
    || (is_tele_codec row.spec.codec && (not for_new_offer || not (has_events rows) || matches_clock rows row))

abbrev pub rows_of_kind : MediaKind → Bool → List Row → List Row
rows_of_kind kind for_new_offer rows = filter (is_of_kind kind for_new_offer rows) rows
