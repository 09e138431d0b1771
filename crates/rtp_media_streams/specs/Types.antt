-- The payload types of a stream, and which datagrams are its own (RFC 3550 5.1).
use Rattle.std.specs.Prelude.{ℕ, Bool, false, ◌||◌, ◌&&◌, ◌==◌, Option, Some, None}
use Rattle.rtp_media_streams.specs.declared.types.PayloadTypes.{PayloadTypes}
use Rattle.rtp_media_streams.specs.declared.types.RepairKey.{RepairKey}

abbrev pub is_type : Option ℕ → ℕ → Bool
is_type None pt = false
is_type (Some type) pt = type == pt

-- Whether one of the types under the stream's own SSRC is this.
abbrev pub has_type : PayloadTypes → ℕ → Bool
has_type types pt = (types.pt == pt) || is_type types.red pt

-- Whether repairs come under this SSRC and this type.
abbrev pub is_repair_key : Option RepairKey → ℕ → ℕ → Bool
is_repair_key None ssrc pt = false
is_repair_key (Some key) ssrc pt = (key.ssrc == ssrc) && (key.pt == pt)

-- Whether an SSRC and a payload type are those of this stream's datagrams, retransmissions excluded.
abbrev pub is_plain_key : ℕ → PayloadTypes → ℕ → ℕ → Bool
is_plain_key own types ssrc pt = (own == ssrc) && has_type types pt

-- The same, retransmissions included.
abbrev pub is_key_of : ℕ → PayloadTypes → ℕ → ℕ → Bool
is_key_of own types ssrc pt = is_plain_key own types ssrc pt || is_repair_key types.repair ssrc pt

-- Whether one stream's RED type, or its RTX SSRC and type, is among another stream's own.
abbrev pub has_red_key : ℕ → PayloadTypes → ℕ → Option ℕ → Bool
has_red_key own types ssrc None = false
has_red_key own types ssrc (Some red) = is_key_of own types ssrc red

abbrev pub has_repair_key : ℕ → PayloadTypes → Option RepairKey → Bool
has_repair_key own types None = false
has_repair_key own types (Some key) = is_key_of own types key.ssrc key.pt

-- Whether they have an SSRC and a type in common.
abbrev pub share_key : ℕ → PayloadTypes → ℕ → PayloadTypes → Bool
share_key own types ssrc others = is_key_of own types ssrc others.pt
    || (has_red_key own types ssrc others.red || has_repair_key own types others.repair)
