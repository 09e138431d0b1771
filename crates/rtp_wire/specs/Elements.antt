use Rattle.std.specs.Prelude.{ℕ, zero, suc, ◌+◌, ◌*◌, ◌/◌, ◌%◌, ◌-◌, Bool, true, false, ◌==◌, ◌&&◌, ◌||◌, nat_le}
use Rattle.std.specs.Prelude.{nat_lt, if◌then◌else◌, List, [], ◌∷◌, ◌++◌, length, take, drop, replicate}
use Rattle.std.specs.Prelude.{slice_index_or, Option, Some, None}
use Rattle.std.specs.List.{flat_map, list_all}
use Rattle.rtp_wire.specs.declared.extension.Extension.{Extension}
use Rattle.rtp_wire.specs.declared.values.ExtensionValues.{ExtensionValues}
use Rattle.rtp_wire.specs.Carried.{value_bytes, with_value}
use Rattle.rtp_wire.specs.Kinds.{same}

-- The extension of each id, starting with id 1.
abbrev pub Numbering : Type 0
Numbering = List (Option Extension)

-- An element of an extension block (RFC 8285 4.2 and 4.3).
pub record Element : Type 0 where
  pub id : ℕ
  pub bytes : List ℕ

-- ---- the elements that are written

abbrev pub slot : Numbering → ℕ → Option Extension
slot map n = slice_index_or map n None

abbrev pub slot_is : Option Extension → Extension → Bool
slot_is None ext = false
slot_is (Some e) ext = same e ext

-- One of the first numbers has the extension.
abbrev pub holds : Numbering → ℕ → Extension → Bool
holds map zero ext = false
holds map (suc n) ext = slot_is (slot map n) ext || holds map n ext

-- What an id carries; an extension is carried only under its lowest id.
abbrev pub carried_by : Option Extension → (Extension → Bool) → ExtensionValues → Option (List ℕ)
carried_by None held values = None
carried_by (Some ext) held values = if held ext then None else value_bytes ext values

abbrev pub carried_at : Numbering → ℕ → ExtensionValues → Option (List ℕ)
carried_at map n values = carried_by (slot map n) (holds map n) values

abbrev pub element_if : ℕ → Option (List ℕ) → List Element
element_if id None = []
element_if id (Some bytes) = record { id = id; bytes = bytes } ∷ []

-- The element of index n (id n + 1), if it carries a value.
abbrev pub place_elements : Numbering → ExtensionValues → ℕ → List Element
place_elements map values n = element_if (suc n) (carried_at map n values)

-- The elements of the first n ids, in increasing order.
abbrev pub elements_to : Numbering → ExtensionValues → ℕ → List Element
elements_to map values zero = []
elements_to map values (suc n) = elements_to map values n ++ place_elements map values n

-- The one-byte form allows ids up to 14 and values of 1 to 16 bytes (RFC 8285 4.2).
abbrev pub fits_one_byte : Element → Bool
fits_one_byte e = nat_le e.id 14 && (nat_le 1 (length e.bytes) && nat_le (length e.bytes) 16)

abbrev pub are_one_byte : List Element → Bool
are_one_byte es = list_all fits_one_byte es

-- An element in the one-byte form, or in the two-byte form.
abbrev pub element_text : Bool → Element → List ℕ
element_text true e = (16 * e.id + (length e.bytes - 1)) ∷ e.bytes
element_text false e = e.id ∷ length e.bytes ∷ e.bytes

abbrev pub elements_text : Bool → List Element → List ℕ
elements_text one es = flat_map (element_text one) es

-- The number of padding bytes up to a multiple of four.
abbrev pub fill : ℕ → ℕ
fill n = (4 - n % 4) % 4

abbrev pub filled_text : List ℕ → List ℕ
filled_text text = text ++ replicate (fill (length text)) 0

-- ---- the elements that are read

-- One element (a padding byte counts as an element with id 0), and the bytes after it.
pub record Step : Type 0 where
  pub id : ℕ
  pub bytes : List ℕ
  pub rest : List ℕ

abbrev pub padding : List ℕ → Step
padding rest = record { id = 0; bytes = []; rest = rest }

-- An element with a value of `count` bytes, unless it exceeds the block.
abbrev pub taken : ℕ → ℕ → List ℕ → Option Step
taken id count rest =
    if nat_lt (length rest) count then None else Some
    (record { id = id; bytes = take count rest; rest = drop count rest })

-- id(4), length less 1 (4); id 0 is one padding byte, id 15 ends the reading (RFC 8285 4.2).
abbrev pub step_one : List ℕ → Option Step
step_one [] = None
step_one (b ∷ rest) =
    if b / 16 == 0 then Some (padding rest)
    else if b / 16 == 15 then None
    else taken (b / 16) (b % 16 + 1) rest

abbrev pub taken_long : ℕ → List ℕ → Option Step
taken_long id [] = None
taken_long id (count ∷ rest) = taken id count rest

-- id(8), length(8); id 0 is one padding byte (RFC 8285 4.3).
abbrev pub step_two : List ℕ → Option Step
step_two [] = None
step_two (id ∷ rest) = if id == 0 then Some (padding rest) else taken_long id rest

abbrev pub step : Bool → List ℕ → Option Step
step true bytes = step_one bytes
step false bytes = step_two bytes

abbrev pub lookup : Numbering → ℕ → Option Extension
lookup map zero = None
lookup map (suc n) = slot map n

-- The values updated with an element; an element whose id has no extension is ignored.
abbrev pub with_element : Option Extension → List ℕ → ExtensionValues → ExtensionValues
with_element None bytes values = values
with_element (Some ext) bytes values = with_value ext bytes values

abbrev pub on_step : {A : Type 0} → Option Step → A → (Step → A) → A
on_step None x f = x
on_step (Some s) x f = f s

-- The elements in order; if an extension occurs more than once, the last counts.
abbrev pub values_from : Bool → Numbering → ℕ → List ℕ → ExtensionValues → ExtensionValues
values_from one map zero bytes values = values
values_from one map (suc fuel) bytes values =
    on_step (step one bytes) values (λ s. values_from one map fuel s.rest
    (with_element (lookup map s.id) s.bytes values))
