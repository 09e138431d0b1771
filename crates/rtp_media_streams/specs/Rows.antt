-- A row's payload format, as streams use it.
use Rattle.std.specs.Prelude.{ℕ, Bool, false, Option, unwrap_or}
use Rattle.payload_core_base.specs.Format.{Format}
use Rattle.payload_core_base.specs.Law.{Coding}
use Rattle.payload_core_base.specs.Packing.{Packing, Sender}
use Rattle.media_types.specs.declared.codec.Codec.{Codec}
use Rattle.media_types.specs.declared.codec.Codec.TheVariants.{G722}
use Rattle.h26x_payload.specs.Codings as codings
use Rattle.h26x_payload.specs.Codings.{Settings, first_sender, forms_for, settings_of}
use Rattle.rtp_media_streams.specs.declared.row_format.RowFormat.{RowFormat}

abbrev pub settings_in : RowFormat → Settings
settings_in row = settings_of row.octet_align row.sprop_max_don_diff row.clock_rate

-- The payload format of a row's codec, with or without VP8 picture ids, with or without the options for browsers.
abbrev pub coding_in : RowFormat → Bool → Bool → Coding
coding_in row has_id for_browsers = codings.coding_in (forms_for for_browsers) (settings_in row) has_id row.codec

-- How the payloads of a row are read, which doesn't depend on picture ids or options.
unfoldable pub format_of : RowFormat → Format
format_of row = (coding_in row false false).format

-- How the samples of a row are cut.
unfoldable pub packing_of : RowFormat → Bool → Bool → Packing
packing_of row has_id for_browsers = (coding_in row has_id for_browsers).packing

-- The state of a row's packetizer before the first sample, with a first picture id or none.
unfoldable pub first_state : RowFormat → Option ℕ → Sender
first_state row picture_id = first_sender (unwrap_or picture_id 0) row.codec

-- The clock rate of RTP timestamps: G.722 is sampled at 16,000 Hz, but its RTP clock rate is 8,000 Hz (RFC 3551 4.5.2).
abbrev pub rtp_rate_of : Codec → ℕ → ℕ
rtp_rate_of G722 rate = 8000
rtp_rate_of _ rate = rate

abbrev pub rtp_rate : RowFormat → ℕ
rtp_rate row = rtp_rate_of row.codec row.clock_rate
