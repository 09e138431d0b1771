use Rattle.std.specs.Prelude.{true, ℕ, ◌≡◌, ◌+◌, ◌*◌, ◌/◌, ◌%◌, ◌-◌, ◌<◌, ◌≤◌, ◌^◌, Bool, ◌==◌, ◌&&◌, nat_le}
use Rattle.std.specs.Prelude.{if◌then◌else◌, zero, suc, List, [], ◌∷◌, ◌++◌, length, take, drop, replicate}
use Rattle.std.specs.Prelude.{slice_index, All, Option, Some, None}
use Rattle.std.specs.Int.{w16, w32, from_be_bytes}
use Rattle.rtp_wire.specs.Carried.{AreValues}
use Rattle.rtp_wire.specs.Values.{Numbering, Block, absent, values_of, block_of, two_byte_block}
use Rattle.rtp_wire.specs.Values.{image_values}
use Rattle.rtp_wire.specs.declared.values.ExtensionValues.{ExtensionValues}
use Rattle.rtp_wire.specs.declared.header.RtpHeader.{RtpHeader}
use Rattle.rtp_wire.specs.Layout.{Layout, is_some_block, layout_bytes, IsLayout}

-- Two-byte and four-byte numbers at an offset.
abbrev pub u16_at : List ℕ → ℕ → ℕ
u16_at bytes at = from_be_bytes w16 (drop at bytes)

abbrev pub u32_at : List ℕ → ℕ → ℕ
u32_at bytes at = from_be_bytes w32 (drop at bytes)

-- n words in a row.
abbrev pub words_in : ℕ → List ℕ → List ℕ
words_in zero bytes = []
words_in (suc n) bytes = from_be_bytes w32 bytes ∷ words_in n (drop 4 bytes)

abbrev pub has_bit : ℕ → ℕ → Bool
has_bit byte worth = byte / worth % 2 == 1

abbrev pub csrc_count_in : List ℕ → ℕ
csrc_count_in bytes = slice_index bytes 0 % 16

abbrev pub has_extension_in : List ℕ → Bool
has_extension_in bytes = has_bit (slice_index bytes 0) 16

-- The offset of the extension block.
abbrev pub block_at : List ℕ → ℕ
block_at bytes = 12 + 4 * csrc_count_in bytes

-- How long the header is.
abbrev pub header_length_in : List ℕ → ℕ
header_length_in bytes =
    if has_extension_in bytes then block_at bytes + 4 + 4 * u16_at bytes (block_at bytes + 2) else block_at bytes

-- The version is 2, and the header doesn't exceed the bytes.
abbrev pub is_header : List ℕ → Bool
is_header bytes = (slice_index bytes 0 / 64 == 2) && nat_le (header_length_in bytes) (length bytes)

abbrev pub block_in : List ℕ → Option Block
block_in bytes =
    if has_extension_in bytes then Some (record {
      profile = u16_at bytes (block_at bytes);
      content = take (4 * u16_at bytes (block_at bytes + 2)) (drop (block_at bytes + 4) bytes);
    }) else None

abbrev pub values_in : Numbering → Option Block → ExtensionValues
values_in map None = absent
values_in map (Some block) = values_of map block

-- The CSRCs in their fifteen slots.
abbrev pub slots : List ℕ → List ℕ
slots csrc = csrc ++ replicate (15 - length csrc) 0

abbrev pub fields_in : Numbering → List ℕ → RtpHeader
fields_in map bytes = record {
  version = 2;
  has_padding = has_bit (slice_index bytes 0) 32;
  has_extension = has_extension_in bytes;
  csrc_count = csrc_count_in bytes;
  marker = has_bit (slice_index bytes 1) 128;
  payload_type = slice_index bytes 1 % 128;
  sequence_number = u16_at bytes 2;
  timestamp = u32_at bytes 4;
  ssrc = u32_at bytes 8;
  csrc = slots (words_in (csrc_count_in bytes) (drop 12 bytes));
  ext_vals = values_in map (block_in bytes);
  header_len = header_length_in bytes;
}

-- The header of a datagram, if it starts with one (RFC 3550 5.1).
abbrev pub header_in : Numbering → List ℕ → Option RtpHeader
header_in map bytes = if is_header bytes then Some (fields_in map bytes) else None

-- The header that a layout means.
abbrev pub header_of : Numbering → Layout → RtpHeader
header_of map l = record {
  version = 2;
  has_padding = l.padding;
  has_extension = is_some_block l.extension;
  csrc_count = length l.csrc;
  marker = l.marker;
  payload_type = l.payload_type;
  sequence_number = l.number;
  timestamp = l.time;
  ssrc = l.ssrc;
  csrc = slots l.csrc;
  ext_vals = values_in map l.extension;
  header_len = length (layout_bytes l);
}

-- What the header in front of the bytes says.
abbrev pub layout_in : List ℕ → Layout
layout_in bytes = record {
  padding = has_bit (slice_index bytes 0) 32;
  marker = has_bit (slice_index bytes 1) 128;
  payload_type = slice_index bytes 1 % 128;
  number = u16_at bytes 2;
  time = u32_at bytes 4;
  ssrc = u32_at bytes 8;
  csrc = words_in (csrc_count_in bytes) (drop 12 bytes);
  extension = block_in bytes;
}

-- The bytes start with a header that means this one: some layout spells it, with anything after it.
pub record IsSpelled (map : Numbering) (bytes : List ℕ) (header : RtpHeader) : Type 0 where
  pub layout : Layout
  pub rest : List ℕ
  pub sound : IsLayout layout
  pub spelling : bytes ≡ layout_bytes layout ++ rest
  pub meaning : header ≡ header_of map layout

-- The payload after the header.
abbrev pub payload_in : RtpHeader → List ℕ → List ℕ
payload_in header bytes = drop header.header_len bytes

-- What a header says on the wire.
abbrev pub layout_of : Numbering → RtpHeader → Layout
layout_of map header = record {
  padding = header.has_padding;
  marker = header.marker;
  payload_type = header.payload_type;
  number = header.sequence_number;
  time = header.timestamp;
  ssrc = header.ssrc;
  csrc = take header.csrc_count header.csrc;
  extension = if header.has_extension then Some (block_of map header.ext_vals) else None;
}

-- The bytes of a header.
abbrev pub spelled : Numbering → RtpHeader → List ℕ
spelled map header = layout_bytes (layout_of map header)

-- The length of a header with each element in the two-byte form (RFC 8285 4.3).
abbrev pub two_byte_length : Numbering → RtpHeader → ℕ
two_byte_length map header =
    12 + 4 * header.csrc_count + (if header.has_extension
    then 4 + length (two_byte_block map header.ext_vals).content else 0)

-- The header read back after one is written: its wire image.
abbrev pub image : Numbering → RtpHeader → RtpHeader
image map header = record {
  version = 2;
  has_padding = header.has_padding;
  has_extension = header.has_extension;
  csrc_count = header.csrc_count;
  marker = header.marker;
  payload_type = header.payload_type;
  sequence_number = header.sequence_number;
  timestamp = header.timestamp;
  ssrc = header.ssrc;
  csrc = slots (take header.csrc_count header.csrc);
  ext_vals = if header.has_extension then image_values map header.ext_vals else absent;
  header_len = length (spelled map header);
}

-- The fields are in range, and what is written of them fits.
pub record IsWritable (header : RtpHeader) : Type 0 where
  pub payload_type : header.payload_type < 128
  pub sequence_number : header.sequence_number < 2 ^ 16
  pub timestamp : header.timestamp < 2 ^ 32
  pub ssrc : header.ssrc < 2 ^ 32
  pub csrc_count : header.csrc_count ≤ 15
  pub csrc : All (λ c. c < 2 ^ 32) (take header.csrc_count header.csrc)
  pub csrc_slots : length header.csrc ≡ 15
  pub values : header.has_extension ≡ true → AreValues header.ext_vals
