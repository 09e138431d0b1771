-- The types of the rows that are locked as a round begins.
use Rattle.std.specs.Prelude.{◌≡◌, ℕ, Bool, true, ◌&&◌, ◌||◌, nat_le, nat_lt, List, [], ◌∷◌, ◌++◌, Option, Some, None}
use Rattle.std.specs.Prelude.{filter, map, Ok, Err}
use Rattle.std.specs.List.{flat_map, list_all}
use Rattle.sdp_formats_rows.specs.Rows.{Row}
use Rattle.sdp_formats_rounds.specs.declared.error.RoundError.{RoundError}
use Rattle.sdp_formats_rounds.specs.declared.error.RoundError.TheVariants.{TypeTaken, ResendTaken}
use Rattle.sdp_formats_rounds.specs.Laws.{is_among, is_distinct}
use Rattle.sdp_formats_rounds.specs.Rounds.{round}

-- A type, and the refusal that names it.
pub record Held : Type 0 where
  pub pt : ℕ
  pub refusal : RoundError

abbrev pub held_if : (ℕ → RoundError) → Option ℕ → List Held
held_if taken None = []
held_if taken (Some t) = record { pt = t; refusal = taken t } ∷ []

-- The types of a row, in the order type, RTX type, RED type; those of all locked rows, row by row.
abbrev pub held_by : Row → List Held
held_by row = held_if TypeTaken (Some row.pt) ++ (held_if ResendTaken row.resend ++ held_if TypeTaken row.red)

unfoldable pub held : List Row → List Held
held rows = flat_map held_by (filter (λ row. row.locked) rows)

abbrev pub numbers : List Held → List ℕ
numbers types = map (λ h. h.pt) types

-- The type is above 127, or occurs before.
abbrev pub is_taken_behind : List Held → Held → Bool
is_taken_behind before h = nat_lt 127 h.pt || is_among (numbers before) h.pt

-- No type is above 127, and none occurs twice.
abbrev pub are_apart : List Held → Bool
are_apart types = list_all (λ h. nat_le h.pt 127) types && is_distinct (numbers types)

-- The first type in a list that is above 127 or occurs before.
pub record FirstTaken (types : List Held) (h : Held) : Type 0 where
  pub before : List Held
  pub behind : List Held
  pub placed : types ≡ before ++ h ∷ behind
  pub apart : are_apart before ≡ true
  pub taken : is_taken_behind before h ≡ true

-- A round is refused for the first such type of its locked rows, whatever the remote rows are.
abbrev pub LockedTypesRefuse : Type 0
LockedTypesRefuse = (dictated : Bool) (remote rows : List Row) (h : Held) → FirstTaken (held rows) h
    → round dictated remote rows ≡ Err h.refusal

-- Where a round is answered there is none.
abbrev pub LockedTypesApart : Type 0
LockedTypesApart = (dictated : Bool) (remote rows after : List Row) → round dictated remote rows ≡ Ok after
    → are_apart (held rows) ≡ true
