-- Opus in a room: a packet is the sample (RFC 7587 4.2).
use Rattle.std.specs.Prelude.{false, []}
use Rattle.rtp_media_runs.specs.OpusHops.{CarriesOpus, FitsPacket}
use Rattle.rtp_media_forward_runs.specs.Rooms.{Form, IsRoomOf, Room}

abbrev pub opus_form : Form
opus_form = record { front = []; marker = false }

abbrev pub IsOpusRoom : Room → Type 0
IsOpusRoom = IsRoomOf opus_form CarriesOpus FitsPacket
