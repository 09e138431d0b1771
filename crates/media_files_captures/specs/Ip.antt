-- What IP packets carry.
use Rattle.std.specs.Prelude.{ℕ, ◌+◌, ◌*◌, ◌/◌, ◌%◌, ◌==◌, ◌||◌, ◌&&◌, Bool, not, nat_lt, nat_le, List, length, drop}
use Rattle.std.specs.Prelude.{slice_index, Result, Ok, Err, zero, suc, if◌then◌else◌}
use Rattle.media_files_captures.specs.Numbers.{u16_be}
use Rattle.media_files_captures.specs.Network.{Extended, extended, go_on}
use Rattle.media_files_captures.specs.declared.frames.PassedOver.{PassedOver}
use Rattle.media_files_captures.specs.declared.frames.PassedOver.TheVariants.{NotUdp, Fragment, Cut, Malformed}

-- The protocols that carry datagrams: UDP, and GRE.
abbrev pub is_carrier : ℕ → Bool
is_carrier protocol = (protocol == 17) || (protocol == 47)

-- IPv4 (RFC 791 3.1): the header length in words, More Fragments and the fragment offset, and the protocol.
abbrev pub ipv4_header_length : List ℕ → ℕ
ipv4_header_length bytes = 4 * (slice_index bytes 0 % 16)

abbrev pub is_ipv4 : List ℕ → Bool
is_ipv4 bytes = (slice_index bytes 0 / 16 == 4) && not (nat_lt (ipv4_header_length bytes) 20)

abbrev pub is_ipv4_fragment : List ℕ → Bool
is_ipv4_fragment bytes = not (u16_be bytes 6 % 16384 == 0)

unfoldable pub ipv4_payload : List ℕ → Result Extended PassedOver
ipv4_payload bytes =
    if not (is_carrier (slice_index bytes 9)) then Err NotUdp
    else if is_ipv4_fragment bytes then Err Fragment
    else if nat_lt (length bytes) (ipv4_header_length bytes) then Err Cut
    else Ok (extended (slice_index bytes 9) (drop (ipv4_header_length bytes) bytes))

unfoldable pub ipv4 : List ℕ → Result Extended PassedOver
ipv4 bytes =
    if nat_lt (length bytes) 20 then Err Cut
    else if is_ipv4 bytes then ipv4_payload bytes else Err Malformed

-- The IPv6 extension headers that start with a next-header number and a length (RFC 8200 4, RFC 7045 2.1): hop-by-hop,
-- routing, fragment, authentication, destination, mobility, HIP, shim6.
abbrev pub is_extension : ℕ → Bool
is_extension next = (next == 0) || (next == 43) || (next == 44) || (next == 51) || (next == 60) || (next == 135)
    || (next == 139) || (next == 140)

-- The length of an extension header: a fragment's is fixed, an authentication header's in words less two (RFC 4302
-- 2.2), the others' in eight bytes less one.
abbrev pub extension_length : ℕ → List ℕ → ℕ
extension_length next bytes =
    if next == 44 then 8
    else if next == 51 then 4 * (slice_index bytes 1 + 2)
    else 8 * (slice_index bytes 1 + 1)

-- A fragment header with an offset or More Fragments set; with neither it belongs to a whole packet (RFC 6946).
abbrev pub is_ipv6_fragment : ℕ → List ℕ → Bool
is_ipv6_fragment next bytes =
    (next == 44) && nat_le 8 (length bytes) && not ((u16_be bytes 2 / 8 == 0) && (u16_be bytes 2 % 2 == 0))

unfoldable pub extension : ℕ → List ℕ → Result Extended PassedOver
extension next bytes =
    if nat_lt (length bytes) 8 then Err Cut
    else if nat_lt (length bytes) (extension_length next bytes) then Err Cut
    else Ok (extended (slice_index bytes 0) (drop (extension_length next bytes) bytes))

-- An extension header that is passed: any but a fragment's.
abbrev pub is_passed : ℕ → List ℕ → Bool
is_passed next bytes = is_extension next && not (is_ipv6_fragment next bytes)

-- What follows at most n extension headers.
unfoldable pub behind_extensions : ℕ → ℕ → List ℕ → Result Extended PassedOver
behind_extensions zero next bytes = Ok (extended next bytes)
behind_extensions (suc n) next bytes =
    if is_passed next bytes then go_on (extension next bytes) (λ e. behind_extensions n e.next e.rest)
    else Ok (extended next bytes)

-- What an IPv6 packet carries after its extension headers.
abbrev pub carried : Extended → Result Extended PassedOver
carried e =
    if is_carrier e.next then Ok e
    else if is_ipv6_fragment e.next e.rest then Err Fragment
    else if is_extension e.next then Err Cut
    else Err NotUdp

unfoldable pub ipv6_upper : List ℕ → Result Extended PassedOver
ipv6_upper bytes = behind_extensions (length bytes) (slice_index bytes 6) (drop 40 bytes)

-- An IPv6 packet (RFC 8200 3).
unfoldable pub ipv6 : List ℕ → Result Extended PassedOver
ipv6 bytes =
    if nat_lt (length bytes) 40 then Err Cut
    else if slice_index bytes 0 / 16 == 6 then go_on (ipv6_upper bytes) carried
    else Err Malformed

-- What the packet of an EtherType carries: a protocol, and its bytes.
unfoldable pub transport : Extended → Result Extended PassedOver
transport e =
    if e.next == 0x800 then ipv4 e.rest
    else if e.next == 0x86dd then ipv6 e.rest
    else Err NotUdp
