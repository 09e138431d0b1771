-- The canonical units of samples, without the numbers of their datagrams.
use Rattle.std.specs.Prelude.{ℕ, ◌-◌, ◌%◌, ◌^◌, Bool, false, List, [], ◌∷◌, ◌++◌, map, Option, Some, None, is_some}
use Rattle.payload_core_base.specs.Law.{Coding, joined}
use Rattle.payload_core_base.specs.Packing as packing
use Rattle.rtp_wire.specs.Header.{image}
use Rattle.rtp_wire.specs.Time.{rebased_ticks}
use Rattle.rtp_wire.specs.Values.{Numbering}
use Rattle.rtp_wire.specs.declared.values.ExtensionValues.{ExtensionValues}
use Rattle.rtp_media_schedules.specs.SentSamples.{Timed, timed}
use Rattle.rtp_media_streams.specs.Rows.{coding_in, first_state, rtp_rate}
use Rattle.rtp_media_streams.specs.Sending.{Sample, stamped}
use Rattle.rtp_media_streams.specs.declared.row_format.RowFormat.{RowFormat}
use Rattle.rtp_media_ends.specs.declared.StreamParams.{StreamParams}

-- The header extension values that arrive if these are sent under a map: those of the wire image.
abbrev pub arriving_values : Numbering → ExtensionValues → ExtensionValues
arriving_values map values = (image map (stamped 0 0 map 0 false 0 values)).ext_vals

-- Samples of a row as they arrive: with the low 32 bits of their RTP timestamps (RFC 3550 5.1), and the values that the
-- extension map carries.
abbrev pub arriving : RowFormat → Numbering → List Sample → List Timed
arriving row map [] = []
arriving row map (x ∷ xs) =
    timed (rebased_ticks x.time (rtp_rate row) % 2 ^ 32) (arriving_values map x.values) x.bytes ∷ arriving row map xs

-- The units a codec makes of samples at a limit, in order, starting from this packetizer state.
abbrev pub units_by : Coding → ℕ → packing.Sender → List Timed → List Timed
units_by coding limit sender [] = []
units_by coding limit sender (x ∷ xs) =
    map (λ parts. timed x.time x.values (joined parts)) (coding.units sender limit x.bytes)
    ++ units_by coding limit (coding.after sender limit x.bytes) xs

-- The canonical units of samples: a function only of the row, the extension map, the packet limit, the first picture id
-- (if any), whether the stream is for browsers, and the samples.
abbrev pub units_for : RowFormat → Numbering → ℕ → Option ℕ → Bool → List Sample → List Timed
units_for row map limit picture_id for_browsers samples =
    units_by (coding_in row (is_some picture_id) for_browsers) limit (first_state row picture_id)
    (arriving row map samples)

abbrev pub limit_by : Option (List ℕ) → ℕ → ℕ
limit_by None mtu = mtu
limit_by (Some distances) mtu = mtu - 1

-- The packet limit: the payload limit, less one byte with redundancy (RFC 2198).
abbrev pub packet_limit_of : StreamParams → ℕ
packet_limit_of params = limit_by params.red params.mtu
