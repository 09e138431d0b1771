-- Rows built from the fields that C passes.
use Rattle.std.specs.Prelude.{ℕ, ◌==◌, ◌&&◌, if◌then◌else◌, List}
use Rattle.std.specs.Str.{is_utf8}
use Rattle.media_types.specs.Codecs.{codec_named}
use Rattle.media_types.specs.declared.codec.Codec.{Codec}
use Rattle.media_types.specs.declared.codec.Codec.TheVariants.{G722}
use Rattle.sdp_formats_rows.specs.Codecs.{is_codec}
use Rattle.sdp_formats_rows.specs.Formats.{format_of}
use Rattle.sdp_formats_rows.specs.Rows.{Row, new_row}
use Rattle.jilqamur.specs.Codes.{ok, not_text, out_of_range}
use Rattle.jilqamur.specs.Values.{if_given}
use Rattle.jilqamur.specs.declared.row.WireRow.{WireRow}

-- G.722 is sampled at 16,000 Hz; texts say 8,000 (RFC 3551 4.5.2).
abbrev pub sampled_at : Codec → ℕ → ℕ
sampled_at codec rate = if is_codec codec G722 && rate == 8000 then 16000 else rate

-- The row of these fields, codec name and format.
abbrev pub row_of : WireRow → List ℕ → List ℕ → Row
row_of r codec format = record (new_row r.payload_type (if_given r.has_resend r.resend)
    (record {
      codec = codec_named codec;
      clock_rate = sampled_at (codec_named codec) r.clock_rate;
      channels = if_given r.has_channels r.channels;
      format = format_of format;
    })) { red = if_given r.has_red r.red }

-- A clock rate is at least 1, and both texts are texts.
abbrev pub row_outcome : WireRow → List ℕ → List ℕ → ℕ
row_outcome r codec format =
    if r.clock_rate == 0 then out_of_range
    else if is_utf8 codec && is_utf8 format then ok
    else not_text
