-- The settings a match negotiates for a row.
use Rattle.std.specs.Prelude.{ℕ, min, Option, Some, unwrap_or}
use Rattle.std.specs.Option.{option_or}
use Rattle.media_types.specs.declared.codec.Codec.{Codec}
use Rattle.media_types.specs.declared.codec.Codec.TheVariants.{AmrWb, H265, H266, Tele}
use Rattle.sdp_formats_rows.specs.LevelScore.{GivenH265, GivenH266, h265_agreed, h266_agreed}
use Rattle.sdp_formats_rows.specs.declared.format.FormatParams.{FormatParams}
use Rattle.sdp_formats_rows.specs.declared.spec.CodecSpec.{CodecSpec}
use Rattle.sdp_formats_rows.specs.FormatScores.{given_265, given_266}

-- Telephone events: the lower of both ranges, by default up to 16 (RFC 4733 2.4.1 says 15).
abbrev pub events_of : FormatParams → ℕ
events_of f = unwrap_or f.telephone_event_max 16

-- H.265 and H.266: the other end's profile, tier and level at the lower of both levels, and its `sprop-max-don-diff` if
-- given (RFC 7798 7.2.2, RFC 9328 7.3.2).
abbrev pub with_h265 : FormatParams → FormatParams → GivenH265 → FormatParams
with_h265 ours theirs agreed = record ours {
  h265_profile_tier_level = agreed.level;
  profile_id = agreed.profile_id;
  sprop_max_don_diff = option_or theirs.sprop_max_don_diff ours.sprop_max_don_diff;
}

abbrev pub with_h266 : FormatParams → FormatParams → GivenH266 → FormatParams
with_h266 ours theirs agreed = record ours {
  h266_profile_tier_level = agreed.level;
  profile_id = agreed.profile_id;
  sprop_max_don_diff = option_or theirs.sprop_max_don_diff ours.sprop_max_don_diff;
}

-- The format of a codec after a match. AMR-WB takes over the other end's layout, and its modes if it has none of its
-- own (RFC 4867 8.3.1); codecs not listed keep their format.
abbrev pub negotiated_format : Codec → FormatParams → FormatParams → FormatParams
negotiated_format Tele f g = record f { telephone_event_max = Some (min (events_of f) (events_of g)) }
negotiated_format H265 f g = with_h265 f g (h265_agreed (given_265 f) (given_265 g))
negotiated_format H266 f g = with_h266 f g (h266_agreed (given_266 f) (given_266 g))
negotiated_format AmrWb f g = record f { octet_align = g.octet_align; mode_set = option_or f.mode_set g.mode_set }
negotiated_format codec f g = f

-- AMR-WB takes over how the other end states its channels.
abbrev pub negotiated_channels : Codec → Option ℕ → Option ℕ → Option ℕ
negotiated_channels AmrWb ours theirs = theirs
negotiated_channels codec ours theirs = ours

unfoldable pub negotiated : CodecSpec → CodecSpec → CodecSpec
negotiated ours theirs = record ours {
  channels = negotiated_channels ours.codec ours.channels theirs.channels;
  format = negotiated_format ours.codec ours.format theirs.format;
}
