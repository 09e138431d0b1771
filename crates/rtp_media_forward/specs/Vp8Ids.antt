-- The ids of VP8 payloads that are sent on, part by part (RFC 7741 4.2).
use Rattle.std.specs.Prelude.{ℕ, nat_le, if◌then◌else◌, List, [], ◌∷◌, ◌++◌, length, drop, nat_lt, Option, Some, None}
use Rattle.std.specs.Prelude.{Result, Ok, Err}
use Rattle.payload_core_vpx.specs.Vp8Descriptor.{parsed}
use Rattle.payload_core_vpx.specs.Vp8Shifts.{continuing}
use Rattle.payload_core_vpx.specs.declared.vp8_descriptor.Vp8Descriptor.{Vp8Descriptor}
use Rattle.payload_core_vpx.specs.declared.vp8_descriptor.Vp8DescriptorError.{Vp8DescriptorError}
use Rattle.payload_core_vpx.specs.declared.vp8_shift.Vp8Shift.{Vp8Shift}
use Rattle.rtp_media_forward.specs.Forwarding.{most_pieces}
use Rattle.rtp_media_forward.specs.declared.vp8_ids.Vp8Part.{Vp8Part}
use Rattle.rtp_media_forward.specs.declared.vp8_ids.Vp8Sent.{Vp8Sent}

-- The parts that began, oldest first, and the payload with the greatest number that was sent.
pub record Idents : Type 0 where
  pub parts : List Vp8Part
  pub last : Option Vp8Sent

abbrev pub no_shift : Vp8Shift
no_shift = record { picture_id = 0; tl0_pic_idx = 0; key_idx = 0 }

-- Nothing was sent.
abbrev pub no_idents : Idents
no_idents = record { parts = []; last = None }

-- How far ids are moved under this number: as the last part says that begins there or before.
abbrev pub shift_in : Vp8Shift → List Vp8Part → (number : ℕ) → Vp8Shift
shift_in shift [] number = shift
shift_in shift (p ∷ ps) number = shift_in (if nat_le p.first number then p.shift else shift) ps number

abbrev pub shift_at : Idents → (number : ℕ) → Vp8Shift
shift_at ids number = shift_in no_shift ids.parts number

-- How far a part's ids are moved, by its first payload: they follow those of the last payload that was sent.
abbrev pub first_shift : Option Vp8Sent → Result Vp8Descriptor Vp8DescriptorError → Vp8Shift
first_shift None first = no_shift
first_shift (Some last) (Err e) = no_shift
first_shift (Some last) (Ok d) = continuing last.descriptor d

abbrev pub kept_parts : List Vp8Part → List Vp8Part
kept_parts ps = if nat_lt most_pieces (length ps) then drop 1 ps else ps

-- A part begins with this payload, which is sent under this number.
abbrev pub with_part : Idents → (first : ℕ) → (payload : List ℕ) → Idents
with_part ids first payload = record ids {
  parts = kept_parts (ids.parts ++ record { first = first; shift = first_shift ids.last (parsed payload) } ∷ []);
}

-- The later one of the last payload and this one.
abbrev pub later : Option Vp8Sent → (number : ℕ) → Result Vp8Descriptor Vp8DescriptorError → Option Vp8Sent
later last number (Err e) = last
later None number (Ok d) = Some (record { number = number; descriptor = d })
later (Some last) number (Ok d) =
    if nat_le last.number number then Some (record { number = number; descriptor = d }) else Some last

abbrev pub after_payload : Idents → (number : ℕ) → (payload : List ℕ) → Idents
after_payload ids number payload = record ids { last = later ids.last number (parsed payload) }
