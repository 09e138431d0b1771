-- The network packet in a frame, after tags and sessions of PPP.
use Rattle.std.specs.Prelude.{ℕ, ◌/◌, ◌==◌, ◌&&◌, ◌||◌, Bool, List, ◌∷◌, length, drop, slice_index, nat_lt}
use Rattle.std.specs.Prelude.{Result, Ok, Err, if◌then◌else◌}
use Rattle.std.specs.Borrow.{Bor}
use Rattle.media_files_captures.specs.Numbers.{u16_be}
use Rattle.media_files_captures.specs.declared.frames.PassedOver.{PassedOver}
use Rattle.media_files_captures.specs.declared.frames.PassedOver.TheVariants.{NotUdp, Cut, Malformed}
use Rattle.media_files_captures.specs.declared.frames.LinkType.{LinkType}
use Rattle.media_files_captures.specs.declared.frames.LinkType.TheVariants.{Ethernet, LinuxCooked, LinuxCooked2, Raw}
use Rattle.media_files_captures.specs.declared.frames.LinkType.TheVariants.{Loopback, Other}

-- The number of what comes next, an EtherType or a protocol of IP, and its bytes.
pub record Extended : Type 0 where
  pub next : ℕ
  pub rest : List ℕ

abbrev pub extended : ℕ → List ℕ → Extended
extended next rest = record { next = next; rest = rest }

abbrev pub read_extension : Result (ℕ × Bor (List ℕ)) PassedOver → Result Extended PassedOver
read_extension (Ok e) = Ok (extended e.0 e.1.now)
read_extension (Err why) = Err why

abbrev pub go_on : {A B : Type 0} → Result A PassedOver → (A → Result B PassedOver) → Result B PassedOver
go_on (Ok a) f = f a
go_on (Err why) f = Err why

-- The EtherTypes of VLAN tags (IEEE 802.1Q): customer tag, service tag, and the older service tag.
abbrev pub is_tag : ℕ → Bool
is_tag kind = (kind == 0x8100) || (kind == 0x88a8) || (kind == 0x9100)

-- A VLAN tag has two bytes and then the EtherType of what follows. This is the EtherType after all tags, and the bytes
-- after it.
unfoldable pub untagged : ℕ → List ℕ → Extended
untagged kind (a ∷ b ∷ c ∷ d ∷ rest) =
    if is_tag kind then untagged (u16_be (a ∷ b ∷ c ∷ d ∷ rest) 2) rest else extended kind (a ∷ b ∷ c ∷ d ∷ rest)
untagged kind bytes = extended kind bytes

-- The EtherTypes of IP packets; 0 is none.
abbrev pub kind_of_ppp : ℕ → ℕ
kind_of_ppp protocol = if protocol == 0x21 then 0x800 else if protocol == 0x57 then 0x86dd else 0

abbrev pub kind_of_version : ℕ → ℕ
kind_of_version version = if version == 4 then 0x800 else if version == 6 then 0x86dd else 0

-- A packet of a PPPoE session (RFC 2516 4): version 1 and type 1, code 0, session, length; and then PPP's protocol in
-- two bytes, 0x21 for IPv4 (RFC 1332 2) and 0x57 for IPv6 (RFC 5072 2).
abbrev pub is_session : List ℕ → Bool
is_session bytes = (slice_index bytes 0 == 0x11) && (slice_index bytes 1 == 0)

unfoldable pub pppoe : List ℕ → Result Extended PassedOver
pppoe bytes =
    if nat_lt (length bytes) 8 then Err Cut
    else if is_session bytes then Ok (extended (kind_of_ppp (u16_be bytes 6)) (drop 8 bytes))
    else Err Malformed

abbrev pub after_tags : Extended → Result Extended PassedOver
after_tags e =
    if e.next == 0x8864 then pppoe e.rest
    else if is_tag e.next then Err Cut
    else Ok e

-- The EtherType after all tags and a session, and the packet.
unfoldable pub network : ℕ → List ℕ → Result Extended PassedOver
network kind bytes = after_tags (untagged kind bytes)

abbrev pub behind : ℕ → List ℕ → Result Extended PassedOver → Result Extended PassedOver
behind n frame found = if nat_lt (length frame) n then Err Cut else found

-- An IP packet, version 4 or 6 by its first four bits.
abbrev pub raw : List ℕ → Result Extended PassedOver
raw bytes =
    if length bytes == 0 then Err Cut else Ok (extended (kind_of_version (slice_index bytes 0 / 16)) bytes)

-- The packet of a frame. Ethernet has two addresses before the type; Linux cooked captures have a 16-byte header
-- ending in the type, or a 20-byte one starting with it; loopback has four bytes of its own.
abbrev pub network_in : LinkType → List ℕ → Result Extended PassedOver
network_in Ethernet frame = behind 14 frame (network (u16_be frame 12) (drop 14 frame))
network_in LinuxCooked frame = behind 16 frame (network (u16_be frame 14) (drop 16 frame))
network_in LinuxCooked2 frame = behind 20 frame (network (u16_be frame 0) (drop 20 frame))
network_in Raw frame = raw frame
network_in Loopback frame = behind 4 frame (raw (drop 4 frame))
network_in Other frame = Err NotUdp
