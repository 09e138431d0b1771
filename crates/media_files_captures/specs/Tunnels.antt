-- Packets inside packets: GRE and VXLAN.
use Rattle.std.specs.Prelude.{ℕ, ◌+◌, ◌*◌, ◌/◌, ◌%◌, ◌==◌, ◌&&◌, Bool, nat_lt, nat_le, List, length, drop}
use Rattle.std.specs.Prelude.{slice_index, Option, None, Some, Result, Ok, Err, if◌then◌else◌}
use Rattle.std.specs.Borrow.{Bor}
use Rattle.media_files_captures.specs.Numbers.{u16_be}
use Rattle.media_files_captures.specs.Network.{Extended, extended, go_on, network, network_in}
use Rattle.media_files_captures.specs.Ip.{transport}
use Rattle.media_files_captures.specs.declared.frames.LinkType.TheVariants.{Ethernet}
use Rattle.media_files_captures.specs.declared.frames.PassedOver.{PassedOver}
use Rattle.media_files_captures.specs.declared.frames.PassedOver.TheVariants.{NotUdp, Cut}

-- GRE's first two bytes (RFC 2784 2.1 to 2.3, RFC 2890 2): checksum, reserved, key, sequence number, two bits that have
-- to be 0, seven that are ignored, version 0.
abbrev pub is_gre : ℕ → Bool
is_gre flags = (flags / 0x4000 % 2 == 0) && (flags / 0x400 % 4 == 0) && (flags % 8 == 0)

-- Four bytes, the EtherType at their end, and four more for each of checksum, key and sequence number.
abbrev pub gre_length : ℕ → ℕ
gre_length flags = 4 + 4 * (flags / 0x8000) + 4 * (flags / 0x2000 % 2) + 4 * (flags / 0x1000 % 2)

unfoldable pub gre : List ℕ → Result Extended PassedOver
gre bytes =
    if nat_lt (length bytes) 4 then Err Cut
    else if is_gre (u16_be bytes 0)
    then (if nat_lt (length bytes) (gre_length (u16_be bytes 0)) then Err Cut
    else Ok (extended (u16_be bytes 2) (drop (gre_length (u16_be bytes 0)) bytes)))
    else Err NotUdp

-- A UDP datagram of VXLAN: to port 4789, and after UDP's header the flag that says that the network's number is valid
-- (RFC 7348 5).
abbrev pub is_vxlan : List ℕ → Bool
is_vxlan bytes = nat_le 16 (length bytes) && (u16_be bytes 2 == 4789) && (slice_index bytes 8 == 8)

-- The network packet in a tunnel; EtherType 0x6558 is a whole frame of Ethernet (RFC 1701).
abbrev pub bridged : Extended → Result Extended PassedOver
bridged e = if e.next == 0x6558 then network_in Ethernet e.rest else network e.next e.rest

abbrev pub some_in : Result Extended PassedOver → Result (Option Extended) PassedOver
some_in (Ok e) = Ok (Some e)
some_in (Err why) = Err why

-- What the packet in a tunnel carries.
unfoldable pub through : Extended → Result Extended PassedOver
through e = go_on (bridged e) transport

-- What the packet inside this one carries, or None if this is no tunnel.
unfoldable pub inside : Extended → Result (Option Extended) PassedOver
inside t =
    if t.next == 47 then some_in (go_on (gre t.rest) through)
    else if (t.next == 17) && is_vxlan t.rest then some_in (through (extended 0x6558 (drop 16 t.rest)))
    else Ok None

-- The network packet in the tunnel that a packet's payload is; None if it is none, or can't be read.
abbrev pub packet_or_none : Result Extended PassedOver → Option Extended
packet_or_none (Ok e) = Some e
packet_or_none (Err why) = None

unfoldable pub tunnelled : Extended → Option Extended
tunnelled t =
    if t.next == 47 then packet_or_none (go_on (gre t.rest) bridged)
    else if (t.next == 17) && is_vxlan t.rest then packet_or_none (bridged (extended 0x6558 (drop 16 t.rest)))
    else None

abbrev pub tunnelled_in : Result Extended PassedOver → Option Extended
tunnelled_in (Ok t) = tunnelled t
tunnelled_in (Err why) = None

abbrev pub read_packet : Option (ℕ × Bor (List ℕ)) → Option Extended
read_packet (Some e) = Some (extended e.0 e.1.now)
read_packet None = None

abbrev pub read_inside : Result (Option (ℕ × Bor (List ℕ))) PassedOver → Result (Option Extended) PassedOver
read_inside (Ok (Some e)) = Ok (Some (extended e.0 e.1.now))
read_inside (Ok None) = Ok None
read_inside (Err why) = Err why
