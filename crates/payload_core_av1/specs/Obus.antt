-- Open bitstream units (AV1 bitstream specification 5.3.1 to 5.3.3), and those of a temporal unit that are sent.
use Rattle.std.specs.Prelude.{ℕ, ◌+◌, ◌-◌, ◌/◌, ◌%◌, ◌==◌, ◌||◌, Bool, true, false, not, List, [], ◌∷◌, ◌++◌, length}
use Rattle.std.specs.Prelude.{nat_lt, Option, Some, None, if◌then◌else◌}
use Rattle.payload_core_av1.specs.Leb128.{Cut, sized_part, spelling}

-- A header byte: a forbidden bit, the type in four bits, X, S and a reserved bit.
abbrev pub type_of : ℕ → ℕ
type_of header = header / 8 % 16

abbrev pub has_extension : ℕ → Bool
has_extension header = header / 4 % 2 == 1

abbrev pub has_size : ℕ → Bool
has_size header = header / 2 % 2 == 1

abbrev pub with_size : ℕ → ℕ
with_size header = if has_size header then header else header + 2

abbrev pub without_size : ℕ → ℕ
without_size header = if has_size header then header - 2 else header

-- A unit: its header, with X an extension byte, and its payload.
pub record Obu : Type 0 where
  pub header : ℕ
  pub extension : Option ℕ
  pub payload : List ℕ

abbrev pub extension_bytes : Option ℕ → List ℕ
extension_bytes None = []
extension_bytes (Some byte) = byte ∷ []

-- A unit with S and its size in the shortest form.
abbrev pub with_its_size : Obu → List ℕ
with_its_size o = with_size o.header ∷ (extension_bytes o.extension ++ (spelling (length o.payload) ++ o.payload))

-- A unit without S and size.
abbrev pub without_its_size : Obu → List ℕ
without_its_size o = without_size o.header ∷ (extension_bytes o.extension ++ o.payload)

abbrev pub obu : ℕ → Option ℕ → List ℕ → Obu
obu header extension payload = record { header = header; extension = extension; payload = payload }

-- The unit that is in front of a text, and what follows it.
pub record ObuCut : Type 0 where
  pub obu : Obu
  pub rest : List ℕ

-- A unit of these fields in front of this rest.
abbrev pub obu_cut : ℕ → Option ℕ → List ℕ → List ℕ → ObuCut
obu_cut header extension payload rest = record { obu = obu header extension payload; rest = rest }

abbrev pub obu_of : ℕ → Option ℕ → Option Cut → Option ObuCut
obu_of header extension None = None
obu_of header extension (Some cut) = Some (obu_cut header extension cut.part cut.rest)

-- The limit for payload sizes, so that the sizes of an OBU without S and of its payload both fit in eight bytes.
abbrev pub payload_limit : ℕ
payload_limit = 72057594037927934

abbrev pub if_small : Option Cut → Option Cut
if_small None = None
if_small (Some cut) = if nat_lt (length cut.part) payload_limit then Some cut else None

-- With S, the payload has a size field; without S, it extends to the end.
abbrev pub payload_in : Bool → List ℕ → Option Cut
payload_in true bytes = if_small (sized_part bytes)
payload_in false bytes = if_small (Some (record { part = bytes; rest = [] }))

abbrev pub behind_header : ℕ → Bool → List ℕ → Option ObuCut
behind_header header false bytes = obu_of header None (payload_in (has_size header) bytes)
behind_header header true [] = None
behind_header header true (byte ∷ bytes) = obu_of header (Some byte) (payload_in (has_size header) bytes)

abbrev pub first_obu : List ℕ → Option ObuCut
first_obu [] = None
first_obu (header ∷ bytes) = behind_header header (has_extension header) bytes

abbrev pub if_at_end : Obu → List ℕ → Option Obu
if_at_end o [] = Some o
if_at_end o (b ∷ bs) = None

abbrev pub if_whole : Option ObuCut → Option Obu
if_whole None = None
if_whole (Some cut) = if_at_end cut.obu cut.rest

-- The OBU that the text is; with S its size must be that of the whole rest.
abbrev pub whole_obu : List ℕ → Option Obu
whole_obu bytes = if_whole (first_obu bytes)

-- Temporal delimiters, tile lists and padding are dropped.
abbrev pub is_kept : Obu → Bool
is_kept o = not ((type_of o.header == 2) || (type_of o.header == 8) || (type_of o.header == 15))
