-- A codec's payload format, as C passes it.
use Rattle.std.specs.Prelude.{ℕ, ◌==◌, List, if◌then◌else◌}
use Rattle.std.specs.Str.{is_utf8}
use Rattle.media_types.specs.Codecs.{codec_named}
use Rattle.h26x_payload.specs.Codings.{has_format}
use Rattle.payload_core_buffer.specs.Buffered.{is_valid_capacity}
use Rattle.rtp_media_streams.specs.declared.row_format.RowFormat.{RowFormat}
use Rattle.jilqamur.specs.Codes.{ok, not_text, out_of_range}
use Rattle.jilqamur.specs.Values.{if_given}
use Rattle.jilqamur.specs.declared.format.WireFormat.{WireFormat}

-- The format of the codec of this name.
abbrev pub format_named : WireFormat → List ℕ → RowFormat
format_named w codec = record {
  codec = codec_named codec;
  clock_rate = w.clock_rate;
  octet_align = if_given w.has_octet_align w.octet_align;
  sprop_max_don_diff = if_given w.has_max_don_diff w.max_don_diff;
}

-- The clock rate is at least 1, and the name is UTF-8 and names a codec that has a payload format.
abbrev pub format_outcome : WireFormat → List ℕ → ℕ
format_outcome w codec =
    if w.clock_rate == 0 then out_of_range
    else if is_utf8 codec then (if has_format (codec_named codec) then ok else out_of_range)
    else not_text

-- The result of opening one with this capacity; the capacity is checked first.
abbrev pub inbox_outcome : WireFormat → List ℕ → ℕ → ℕ
inbox_outcome w codec held = if is_valid_capacity held then format_outcome w codec else out_of_range
