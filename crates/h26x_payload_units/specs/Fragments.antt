-- Fragmented units (RFC 6184 5.8, RFC 7798 4.4.3, RFC 9328 4.3.3), and the start code written before each unit.
use Rattle.std.specs.Prelude.{ℕ, Bool, true, false, List, [], ◌∷◌, ◌++◌, Some, None}
use Rattle.payload_core_base.specs.Format.{Fragment}
use Rattle.payload_core_base.specs.Packing.{is_none_left}

-- A unit preceded by its start code (ITU-T H.264 annex B).
abbrev pub behind_code : List ℕ → List ℕ
behind_code unit = 0 ∷ 0 ∷ 0 ∷ 1 ∷ unit

-- The bytes are appended to the open unit; without one they are dropped.
abbrev pub continued : Fragment → List ℕ → Fragment
continued None body = None
continued (Some unit) body = Some (unit ++ body)

-- The open unit after a fragment: an S fragment starts a new one with this header, whatever was open.
abbrev pub put_behind : Bool → List ℕ → List ℕ → Fragment → Fragment
put_behind true header body fragment = Some (behind_code (header ++ body))
put_behind false header body fragment = continued fragment body

-- An E fragment outputs the open unit and closes it.
abbrev pub written_at : Bool → Fragment → List ℕ
written_at false fragment = []
written_at true None = []
written_at true (Some unit) = unit

abbrev pub open_after : Bool → Fragment → Fragment
open_after false fragment = fragment
open_after true fragment = None

-- The fragments of a unit, each built from three things: whether it is the first, whether it is the last, and its part
-- of the unit.
abbrev pub in_fragments : (Bool → Bool → List ℕ → List ℕ) → Bool → List (List ℕ) → List (List ℕ)
in_fragments fragment first [] = []
in_fragments fragment first (p ∷ ps) = fragment first (is_none_left ps) p ∷ in_fragments fragment false ps
