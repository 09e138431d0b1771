-- Capture files of pcapng (draft-ietf-opsawg-pcapng 3 and 4).
use Rattle.std.specs.Prelude.{◌≡◌, ℕ, zero, suc, ◌+◌, ◌-◌, ◌*◌, ◌/◌, ◌%◌, ◌==◌, ◌&&◌, Bool, not, nat_lt, nat_le}
use Rattle.std.specs.Prelude.{List, [], ◌∷◌, ◌++◌, length, take, drop, min, slice_get, slice_index, Option, None, Some}
use Rattle.std.specs.Prelude.{if◌then◌else◌}
use Rattle.media_files_captures.specs.Numbers.{u16_at, u32_at}
use Rattle.media_files_captures.specs.Captures.{Packet}
use Rattle.media_files_captures.specs.Runs.{HoldsAll}
use Rattle.media_files_captures.specs.Links.{link_of}
use Rattle.media_files_captures.specs.declared.numbers.ByteOrder.{ByteOrder}
use Rattle.media_files_captures.specs.declared.numbers.ByteOrder.TheVariants.{Big, Little}
use Rattle.media_files_captures.specs.declared.captures.Resolution.{Resolution}
use Rattle.media_files_captures.specs.declared.captures.Resolution.TheVariants.{Decimal, Binary}
use Rattle.media_files_captures.specs.declared.interfaces.Interface.{Interface}

-- A block: its section's byte order, its type, and its body, without the length fields on either side.
pub record Block : Type 0 where
  pub order : ByteOrder
  pub kind : ℕ
  pub body : List ℕ

abbrev pub block_of : ByteOrder → ℕ → List ℕ → Block
block_of order kind body = record { order = order; kind = kind; body = body }

-- The reader's position: the section's byte order, and the bytes left.
pub record Reader : Type 0 where
  pub order : ByteOrder
  pub rest : List ℕ

abbrev pub reader : ByteOrder → List ℕ → Reader
reader order rest = record { order = order; rest = rest }

-- The block type of a section header, which is a palindrome: the same in both byte orders.
abbrev pub section_kind : ℕ
section_kind = 0x0a0d0d0a

-- A section header gives its byte order by the byte-order magic after its length.
abbrev pub order_of : ByteOrder → List ℕ → ByteOrder
order_of before bytes =
    if not (u32_at Big bytes 0 == section_kind) then before
    else if u32_at Big bytes 8 == 0x1a2b3c4d then Big
    else Little

-- A block is its type, its length, its body, and its length again; the length covers the whole block and is a multiple
-- of four.
abbrev pub is_length : ℕ → List ℕ → Bool
is_length len bytes = nat_le 12 len && (len % 4 == 0) && nat_le len (length bytes)

unfoldable pub block_at : ByteOrder → List ℕ → Option (Block × Reader)
block_at order bytes =
    if is_length (u32_at order bytes 4) bytes
    then Some (
      block_of order (u32_at order bytes 0) (take (u32_at order bytes 4 - 12) (drop 8 bytes)),
      reader order (drop (u32_at order bytes 4) bytes),
    )
    else None

-- The first block of the bytes left.
unfoldable pub block : Reader → Option (Block × Reader)
block r = if nat_lt (length r.rest) 12 then None else block_at (order_of r.order r.rest) r.rest

-- The options of a block: a two-byte code, a two-byte length, and the value, padded to a multiple of four. This is the
-- value of the first option with this code and length one; code 0 ends the options.
abbrev pub padded : ℕ → ℕ
padded n = (n + 3) / 4 * 4

abbrev pub is_wanted : ByteOrder → ℕ → List ℕ → Bool
is_wanted order code bytes = (u16_at order bytes 0 == code) && (u16_at order bytes 2 == 1)

unfoldable pub option_byte : ℕ → ByteOrder → ℕ → List ℕ → Option ℕ
option_byte zero order code bytes = None
option_byte (suc n) order code bytes =
    if nat_lt (length bytes) 4 then None
    else if u16_at order bytes 0 == 0 then None
    else if nat_lt (length bytes) (4 + padded (u16_at order bytes 2)) then None
    else if is_wanted order code bytes then Some (slice_index bytes 4)
    else option_byte n order code (drop (4 + padded (u16_at order bytes 2)) bytes)

-- An interface's timestamp resolution: a power of ten, or of two if the high bit is set; microseconds by default (4.2).
abbrev pub resolution_of : Option ℕ → Resolution
resolution_of None = Decimal 6
resolution_of (Some n) = if nat_lt n 128 then Decimal n else Binary (n - 128)

-- An interface: link type, two unused bytes, snap length, options (4.2).
unfoldable pub interface_of : Block → Interface
interface_of b = record {
  link = link_of (u16_at b.order b.body 0);
  snap_len = u32_at b.order b.body 4;
  resolution = resolution_of (option_byte (length b.body) b.order 9 (drop 8 b.body));
}

abbrev pub ticks_of : ℕ → ℕ → ℕ
ticks_of high low = high * 4294967296 + low

-- A packet of an interface with this timestamp, original length and captured length, whose bytes start at this offset.
abbrev pub packet_at : Interface → ℕ → ℕ → ℕ → ℕ → List ℕ → Option Packet
packet_at i ticks original_len kept place body =
    if nat_lt (length body) (place + kept) then None
    else Some (record {
      ticks = ticks;
      resolution = i.resolution;
      link = i.link;
      original_len = original_len;
      bytes = take kept (drop place body);
    })

-- An enhanced packet block: interface, timestamp, captured length, original length (4.3).
abbrev pub enhanced : ByteOrder → List ℕ → Interface → Option Packet
enhanced order body i = packet_at i (ticks_of (u32_at order body 4) (u32_at order body 8)) (u32_at order body 16)
    (u32_at order body 12) 20 body

-- The obsolete packet block has a two-byte interface id, followed by a drop count (A).
abbrev pub old : ByteOrder → List ℕ → Interface → Option Packet
old order body i = enhanced order body i

-- A simple packet block belongs to the first interface, has no timestamp, and is captured up to that interface's snap
-- length (4.4).
abbrev pub kept_of : ℕ → ℕ → ℕ
kept_of snap_len len = if snap_len == 0 then len else min snap_len len

abbrev pub simple : ByteOrder → List ℕ → Interface → Option Packet
simple order body i = packet_at i 0 (u32_at order body 0) (kept_of i.snap_len (u32_at order body 0)) 4 body

abbrev pub with_interface : Option Interface → (Interface → Option Packet) → Option Packet
with_interface None f = None
with_interface (Some i) f = f i

-- The packet in a block, if the block is complete and its interface is known.
unfoldable pub packet_in : List Interface → Block → Option Packet
packet_in interfaces b =
    if (b.kind == 6) && nat_le 20 (length b.body)
    then with_interface (slice_get interfaces (u32_at b.order b.body 0)) (enhanced b.order b.body)
    else if (b.kind == 3) && nat_le 4 (length b.body)
    then with_interface (slice_get interfaces 0) (simple b.order b.body)
    else if (b.kind == 2) && nat_le 20 (length b.body)
    then with_interface (slice_get interfaces (u16_at b.order b.body 0)) (old b.order b.body)
    else None

-- The interfaces known after a block: a section header resets them.
unfoldable pub interfaces_after : List Interface → Block → List Interface
interfaces_after interfaces b =
    if b.kind == section_kind then []
    else if (b.kind == 1) && nat_le 8 (length b.body) then interfaces ++ interface_of b ∷ []
    else interfaces

abbrev pub and_packet : Option Packet → List Packet → List Packet
and_packet None packets = packets
and_packet (Some p) packets = p ∷ packets

-- The packets of blocks, in their order.
abbrev pub packets_of : List Interface → List Block → List Packet
packets_of interfaces [] = []
packets_of interfaces (b ∷ blocks) =
    and_packet (packet_in interfaces b) (packets_of (interfaces_after interfaces b) blocks)

-- The interfaces known after blocks.
abbrev pub interfaces_of : List Interface → List Block → List Interface
interfaces_of interfaces [] = interfaces
interfaces_of interfaces (b ∷ blocks) = interfaces_of (interfaces_after interfaces b) blocks

-- A file begins with a section's header.
abbrev pub is_pcapng : List ℕ → Bool
is_pcapng file = nat_le 12 (length file) && (u32_at Big file 0 == section_kind)

-- A pcapng file holds these packets; the bytes left after the last block are not a complete block.
abbrev pub IsPcapng : List ℕ → List Packet → List ℕ → Type 0
IsPcapng file packets unread = (blocks : List Block) × (last : ByteOrder)
    × HoldsAll block (reader Big file) blocks (reader last unread) × (packets ≡ packets_of [] blocks)
