-- The UDP datagram that a captured frame carries.
use Rattle.std.specs.Prelude.{ℕ, ◌-◌, ◌==◌, List, length, take, drop, nat_lt, Option, None, Some}
use Rattle.std.specs.Prelude.{Result, Ok, Err, zero, suc, if◌then◌else◌}
use Rattle.media_files_captures.specs.Numbers.{u16_be}
use Rattle.media_files_captures.specs.Network.{Extended, go_on, network_in}
use Rattle.media_files_captures.specs.Ip.{transport}
use Rattle.media_files_captures.specs.Tunnels.{inside}
use Rattle.media_files_captures.specs.declared.frames.UdpDatagram.{UdpDatagram}
use Rattle.media_files_captures.specs.declared.frames.PassedOver.{PassedOver}
use Rattle.media_files_captures.specs.declared.frames.PassedOver.TheVariants.{NotUdp, Cut, Malformed}
use Rattle.media_files_captures.specs.declared.frames.LinkType.{LinkType}

-- A UDP datagram: the ports that it comes from and goes to, and its payload (RFC 768).
pub record Udp : Type 0 where
  pub source_port : ℕ
  pub destination_port : ℕ
  pub payload : List ℕ

-- The model of a result that holds a datagram.
abbrev pub shown : Result UdpDatagram PassedOver → Result Udp PassedOver
shown (Ok d) =
    Ok (record { source_port = d.source_port; destination_port = d.destination_port; payload = d.payload.now })
shown (Err why) = Err why

-- The UDP payload has the length its header gives; the link layer may add padding after it (RFC 768).
abbrev pub udp_of_length : ℕ → List ℕ → Result Udp PassedOver
udp_of_length len bytes =
    if nat_lt len 8 then Err Malformed
    else if nat_lt (length bytes) len then Err Cut
    else Ok (record {
      source_port = u16_be bytes 0;
      destination_port = u16_be bytes 2;
      payload = take (len - 8) (drop 8 bytes);
    })

unfoldable pub udp : List ℕ → Result Udp PassedOver
udp bytes = if nat_lt (length bytes) 8 then Err Cut else udp_of_length (u16_be bytes 4) bytes

abbrev pub datagram_of : Extended → Result Udp PassedOver
datagram_of t = if t.next == 17 then udp t.rest else Err NotUdp

abbrev pub within : Result (Option Extended) PassedOver → Result Udp PassedOver → (Extended → Result Udp PassedOver)
    → Result Udp PassedOver
within (Ok None) here deeper = here
within (Ok (Some t)) here deeper = deeper t
within (Err why) here deeper = Err why

-- The datagram inside at most n tunnels.
unfoldable pub datagram_behind : ℕ → Extended → Result Udp PassedOver
datagram_behind zero t = datagram_of t
datagram_behind (suc n) t = within (inside t) (datagram_of t) (λ deeper. datagram_behind n deeper)

-- The datagram of a frame, inside at most four tunnels.
unfoldable pub datagram_in : LinkType → List ℕ → Result Udp PassedOver
datagram_in link frame =
    go_on (network_in link frame) (λ e. go_on (transport e) (λ t. datagram_behind 4 t))
