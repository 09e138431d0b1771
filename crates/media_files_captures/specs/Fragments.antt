-- Fragments of IP packets, and the packets that they make.
use Rattle.std.specs.Prelude.{◌≡◌, ℕ, zero, suc, ◌+◌, ◌-◌, ◌*◌, ◌/◌, ◌%◌, ◌==◌, ◌&&◌, Bool, true, not, nat_eq}
use Rattle.std.specs.Prelude.{nat_lt, nat_le, List, [], ◌∷◌, ◌++◌, length, take, drop, slice_index, filter}
use Rattle.std.specs.Prelude.{Option, None, Some, Result, Ok, Err, if◌then◌else◌}
use Rattle.std.specs.Prelude.{◌⊎◌, MatchBool}
use Rattle.std.specs.Cmp.Lexicographic.{pointwise}
use Rattle.std.specs.List.{flat_map}
use Rattle.media_files_captures.specs.Numbers.{u16_be, u32_at}
use Rattle.media_files_captures.specs.Network.{Extended, network_in}
use Rattle.media_files_captures.specs.Ip.{ipv4_header_length, ipv6_upper, is_carrier, is_ipv4, is_ipv4_fragment}
use Rattle.media_files_captures.specs.Ip.{is_ipv6_fragment, transport}
use Rattle.media_files_captures.specs.Tunnels.{tunnelled_in}
use Rattle.media_files_captures.specs.declared.numbers.ByteOrder.TheVariants.{Big}
use Rattle.media_files_captures.specs.declared.fragments.IpFragment.{IpFragment}
use Rattle.media_files_captures.specs.declared.fragments.Reassembly.{Reassembly}
use Rattle.media_files_captures.specs.declared.fragments.Reassembly.TheVariants.{Waiting, Repeated, Overlapping, Whole}
use Rattle.media_files_captures.specs.declared.fragments.Relation.{Relation}
use Rattle.media_files_captures.specs.declared.fragments.Relation.TheVariants.{Apart, Same, Across}
use Rattle.media_files_captures.specs.declared.frames.LinkType.{LinkType}
use Rattle.media_files_captures.specs.declared.frames.PassedOver.{PassedOver}

-- A fragment: what tells its packet from others, the bytes of the packet's payload that it has, and whether it has the
-- last ones.
pub record Fragment : Type 0 where
  pub addresses : List ℕ
  pub identification : ℕ
  pub protocol : ℕ
  pub start : ℕ
  pub end : ℕ
  pub is_last : Bool
  pub bytes : List ℕ

abbrev pub fragment_shown : IpFragment → Fragment
fragment_shown f = record {
  addresses = f.addresses.now;
  identification = f.identification;
  protocol = f.protocol;
  start = f.start;
  end = f.end;
  is_last = f.is_last;
  bytes = f.bytes.now;
}

-- A fragment has bytes, and ends if a packet can.
abbrev pub with_end : Fragment → Option Fragment
with_end f =
    if (length f.bytes == 0) then None
    else if nat_lt (65535 - f.start) (length f.bytes) then None
    else Some (record f { end = f.start + length f.bytes })

-- IPv4 (RFC 791 3.1 and 3.2): identification, More Fragments, and an offset in eights of bytes. The packet's length is
-- that of its header, as a frame may have padding after it.
abbrev pub is_whole_piece : ℕ → ℕ → List ℕ → Bool
is_whole_piece header_length total bytes = nat_le header_length total && nat_le total (length bytes)

abbrev pub ipv4_piece : List ℕ → Fragment
ipv4_piece bytes = record {
  addresses = take 8 (drop 12 bytes);
  identification = u16_be bytes 4;
  protocol = slice_index bytes 9;
  start = 8 * (u16_be bytes 6 % 8192);
  end = 0;
  is_last = (u16_be bytes 6 / 8192 % 2 == 0);
  bytes = take (u16_be bytes 2 - ipv4_header_length bytes) (drop (ipv4_header_length bytes) bytes);
}

unfoldable pub ipv4_fragment : List ℕ → Option Fragment
ipv4_fragment bytes =
    if nat_lt (length bytes) 20 then None
    else if is_ipv4 bytes && is_carrier (slice_index bytes 9) && is_ipv4_fragment bytes
    && is_whole_piece (ipv4_header_length bytes) (u16_be bytes 2) bytes
    then with_end (ipv4_piece bytes)
    else None

-- IPv6 (RFC 8200 4.5): after extension headers a fragment header with the next header, an offset in eights of bytes,
-- More Fragments, and an identification of four bytes.
abbrev pub ipv6_piece : List ℕ → List ℕ → Fragment
ipv6_piece bytes header = record {
  addresses = take 32 (drop 8 bytes);
  identification = u32_at Big header 4;
  protocol = slice_index header 0;
  start = 8 * (u16_be header 2 / 8);
  end = 0;
  is_last = (u16_be header 2 % 2 == 0);
  bytes = drop 8 header;
}

abbrev pub ipv6_piece_of : List ℕ → Result Extended PassedOver → Option Fragment
ipv6_piece_of bytes (Ok e) =
    if is_ipv6_fragment e.next e.rest && is_carrier (slice_index e.rest 0) then with_end (ipv6_piece bytes e.rest)
    else None
ipv6_piece_of bytes (Err why) = None

unfoldable pub ipv6_fragment : List ℕ → Option Fragment
ipv6_fragment bytes =
    if nat_lt (length bytes) 40 then None
    else if (slice_index bytes 0 / 16 == 6) && nat_le (40 + u16_be bytes 4) (length bytes)
    then ipv6_piece_of bytes (ipv6_upper (take (40 + u16_be bytes 4) bytes))
    else None

abbrev pub fragment_of : Extended → Option Fragment
fragment_of e =
    if e.next == 0x800 then ipv4_fragment e.rest
    else if e.next == 0x86dd then ipv6_fragment e.rest
    else None

-- The fragment that a packet is, or that is in at most n tunnels inside it.
abbrev pub behind_packet : Option Extended → Option Fragment → (Extended → Option Fragment) → Option Fragment
behind_packet None here deeper = here
behind_packet (Some e) here deeper = deeper e

unfoldable pub fragment_behind : ℕ → Extended → Option Fragment
fragment_behind zero e = fragment_of e
fragment_behind (suc n) e =
    behind_packet (tunnelled_in (transport e)) (fragment_of e) (λ deeper. fragment_behind n deeper)

abbrev pub fragment_of_packet : Result Extended PassedOver → Option Fragment
fragment_of_packet (Ok e) = fragment_behind 4 e
fragment_of_packet (Err why) = None

-- The fragment that a frame carries, inside at most four tunnels.
unfoldable pub fragment_in : LinkType → List ℕ → Option Fragment
fragment_in link frame = fragment_of_packet (network_in link frame)

-- Fragments of one packet have its addresses, identification and protocol (RFC 791 3.2, RFC 8200 4.5).
unfoldable pub is_of_packet : IpFragment → IpFragment → Bool
is_of_packet f g = (f.identification == g.identification) && (f.protocol == g.protocol)
    && pointwise nat_eq f.addresses.now g.addresses.now

abbrev pub is_other : IpFragment → IpFragment → Bool
is_other f g = not (is_of_packet f g)

-- How a fragment lies to another: apart; the same once more; or across it, which no whole packet comes of (RFC 8200
-- 4.5, RFC 5722 4).
abbrev pub is_same : IpFragment → IpFragment → Bool
is_same f g = (f.start == g.start) && pointwise nat_eq f.bytes.now g.bytes.now

abbrev pub is_across : IpFragment → IpFragment → Bool
is_across f g = nat_lt f.start g.end && nat_lt g.start f.end

unfoldable pub relation : IpFragment → IpFragment → Relation
relation f g =
    if is_other f g then Apart
    else if is_same f g then Same
    else if is_across f g then Across
    else Apart

-- The first relation to fragments that isn't Apart.
abbrev pub or_relation : Relation → Relation → Relation
or_relation Apart other = other
or_relation Same other = Same
or_relation Across other = Across

abbrev pub relation_to : IpFragment → List IpFragment → Relation
relation_to f [] = Apart
relation_to f (g ∷ held) = or_relation (relation f g) (relation_to f held)

-- The first fragment of a packet that begins here.
abbrev pub piece_at : IpFragment → ℕ → List IpFragment → Option IpFragment
piece_at f start [] = None
piece_at f start (g ∷ held) =
    if is_of_packet f g && (g.start == start) then Some g else piece_at f start held

abbrev pub with_piece : Option IpFragment → List ℕ → (List ℕ → Option (List ℕ)) → Option (List ℕ)
with_piece None out more = None
with_piece (Some g) out more = if g.is_last then Some (out ++ g.bytes.now) else more (out ++ g.bytes.now)

-- A packet's payload, after its first bytes: at most n fragments, each from where the one before ends, up to the last.
unfoldable pub whole_after : ℕ → IpFragment → List IpFragment → List ℕ → Option (List ℕ)
whole_after zero f held out = None
whole_after (suc n) f held out =
    with_piece (piece_at f (length out) held) out (λ more. whole_after n f held more)

abbrev pub whole : IpFragment → List IpFragment → Option (List ℕ)
whole f held = whole_after (length held) f held []

-- What a fragment makes of those that wait: it is taken with them; or it is there already; or it lies across one, and
-- all of its packet are dropped; or its packet is whole, and no longer waits.
abbrev pub Taken : List IpFragment → IpFragment → Reassembly → List IpFragment → Type 0
Taken held f Waiting after = (relation_to f held ≡ Apart) × (whole f (held ++ f ∷ []) ≡ None) × (after ≡ held ++ f ∷ [])
Taken held f Repeated after = (relation_to f held ≡ Same) × (after ≡ held)
Taken held f Overlapping after = (relation_to f held ≡ Across) × (after ≡ filter (is_other f) held)
Taken held f (Whole payload) after = (relation_to f held ≡ Apart)
    × (whole f (held ++ f ∷ []) ≡ Some payload.items) × (after ≡ filter (is_other f) (held ++ f ∷ []))

-- What waits once there is room: all, if fewer wait than may, else all but the packet of the first.
abbrev pub with_room : ℕ → List IpFragment → List IpFragment
with_room most [] = []
with_room most (f ∷ held) =
    if nat_lt (length (f ∷ held)) most then f ∷ held else filter (is_other f) (f ∷ held)

-- A packet's payload from a place on, in fragments that are held: each is of the packet, and begins where the one
-- before ends; the last has the last bytes, and no other does.
abbrev pub IsHeld : IpFragment → List IpFragment → Type 0
IsHeld g [] = ⊥
IsHeld g (h ∷ held) = (g ≡ h) ⊎ IsHeld g held

abbrev pub IsNext : IpFragment → ℕ → List IpFragment → IpFragment → Type 0
IsNext f start held g = IsHeld g held × (is_of_packet f g ≡ true) × (g.start ≡ start)

abbrev pub ArePieces : IpFragment → ℕ → List IpFragment → List IpFragment → Type 0
ArePieces f start held [] = ⊥
ArePieces f start held (g ∷ pieces) = IsNext f start held g
    × MatchBool g.is_last (pieces ≡ []) (ArePieces f (start + length g.bytes.now) held pieces)

abbrev pub bytes_of : List IpFragment → List ℕ
bytes_of pieces = flat_map (λ g. g.bytes.now) pieces
