-- What holds of rounds.
use Rattle.std.specs.Prelude.{◌≡◌, ◌≢◌, ◌⊎◌, ◌==◌, ℕ, Bool, true, false, not, ◌&&◌, List, [], ◌∷◌, Some, None, Result}
use Rattle.std.specs.Prelude.{Ok, ⊤, is_none}
use Rattle.std.specs.List.{list_any}
use Rattle.media_types.specs.Codecs.{is_audio_codec}
use Rattle.media_types.specs.declared.codec.Codec.TheVariants.{AmrWb}
use Rattle.sdp_formats_rows.specs.Codecs.{is_codec}
use Rattle.sdp_formats_rows.specs.Rows.{Row}
use Rattle.sdp_formats_rounds.specs.Best.{best_row}
use Rattle.sdp_formats_rounds.specs.Members.{IsIn}
use Rattle.sdp_formats_rounds.specs.Negotiated.{negotiated}
use Rattle.sdp_formats_rows.specs.Scores.{score}
use Rattle.sdp_formats_rounds.specs.declared.error.RoundError.{RoundError}
use Rattle.sdp_formats_rounds.specs.Types.{locked_types}
use Rattle.sdp_formats_rounds.specs.Turns.{and_then}
use Rattle.sdp_formats_rounds.specs.Rounds.{renegotiated, round}

-- Whether no number occurs twice.
abbrev pub is_among : List ℕ → ℕ → Bool
is_among types t = list_any (λ u. u == t) types

abbrev pub is_distinct : List ℕ → Bool
is_distinct [] = true
is_distinct (t ∷ ts) = not (is_among ts t) && is_distinct ts

-- Two lists of one length, related row by row.
abbrev pub Along : (Row → Row → Type 0) → List Row → List Row → Type 0
Along R [] [] = ⊤
Along R (x ∷ xs) (y ∷ ys) = R x y × Along R xs ys
Along R [] (y ∷ ys) = ⊥
Along R (x ∷ xs) [] = ⊥

-- All feedback except transport-wide feedback is unchanged.
abbrev pub KeepsFeedback : Row → Row → Type 0
KeepsFeedback row new =
    (new.nack ≡ row.nack) × (new.pli ≡ row.pli) × (new.fir ≡ row.fir) × (new.remb ≡ row.remb)

-- The row has the settings negotiated with one of the remote rows and, if types are dictated, that row's payload type
-- and RTX type. It has an RTX type if and only if that row has one, and a RED type only if both rows are audio and have
-- one.
pub record IsTakenFrom (dictated : Bool) (remote : List Row) (row new : Row) : Type 0 where
  pub best : Row
  pub one_of : IsIn best remote
  pub matches : score row.spec best.spec ≢ None
  pub is_best : (dictated && is_codec row.spec.codec AmrWb) ≡ false → best_row row.spec remote ≡ Some best
  pub settings : new.spec ≡ negotiated row.spec best.spec
  pub feedback : new.transport_cc ≡ (row.transport_cc && best.transport_cc)
  pub types : dictated ≡ true → (new.pt ≡ best.pt) × (new.resend ≡ best.resend)
  pub resend : is_none new.resend ≡ is_none best.resend
  pub red : (t : ℕ) → new.red ≡ Some t → (is_audio_codec row.spec.codec ≡ true) × (row.red ≢ None) × (best.red ≢ None)

-- What a round makes of a row. A locked row changes only in its negotiated settings. A row locked by the round has the
-- settings negotiated with its remote match and, if types are dictated, that row's payload type and RTX type. A row not
-- locked by it keeps its settings and feedback. A row without a remote match keeps its settings and its lock state. A
-- row with a remote match is locked, except AMR-WB with dictated types, whose best match may have a claimed type. Only
-- transport-wide feedback can change.
pub record Becomes (dictated : Bool) (remote : List Row) (row new : Row) : Type 0 where
  pub stands : row.locked ≡ true → new ≡ renegotiated row (best_row row.spec remote)
  pub locks : row.locked ≡ false → new.locked ≡ true → IsTakenFrom dictated remote row new
  pub stays : new.locked ≡ false → (new.spec ≡ row.spec) × (new.transport_cc ≡ row.transport_cc) × (row.locked ≡ false)
  pub unmatched : best_row row.spec remote ≡ None → (new.spec ≡ row.spec) × (new.locked ≡ row.locked)
  pub meets : (best : Row) → best_row row.spec remote ≡ Some best
      → (dictated && is_codec row.spec.codec AmrWb) ≡ false → new.locked ≡ true
  pub feedback : KeepsFeedback row new

-- After an answered round the types of the locked rows are distinct.
abbrev pub LockedTypesDistinct : Type 0
LockedTypesDistinct = (dictated : Bool) (remote rows after : List Row) → round dictated remote rows ≡ Ok after
    → is_distinct (locked_types after) ≡ true

-- Row by row.
abbrev pub RowsBecome : Type 0
RowsBecome = (dictated : Bool) (remote rows after : List Row) → round dictated remote rows ≡ Ok after
    → Along (Becomes dictated remote) rows after

-- The row has none of these types.
pub record HasNone (types : List ℕ) (row : Row) : Type 0 where
  pub pt : is_among types row.pt ≡ false
  pub resend : (t : ℕ) → row.resend ≡ Some t → is_among types t ≡ false
  pub red : (t : ℕ) → row.red ≡ Some t → is_among types t ≡ false

-- A row that is left unlocked has none of them.
abbrev pub IsApart : List ℕ → Row → Row → Type 0
IsApart types row new = new.locked ≡ false → HasNone types new

-- After an answered round the rows that are left unlocked have no type of a locked row.
abbrev pub UnlockedRowsApart : Type 0
UnlockedRowsApart = (dictated : Bool) (remote rows after : List Row) → round dictated remote rows ≡ Ok after
    → Along (IsApart (locked_types after)) rows after

-- An unlocked row with a remote match takes over its payload type, unless that is one of these.
abbrev pub TakesOver : List Row → List ℕ → Row → Row → Type 0
TakesOver remote types row new = (best : Row) → row.locked ≡ false → best_row row.spec remote ≡ Some best
    → (new.pt ≡ best.pt) ⊎ (is_among types best.pt ≡ true)

-- If types aren't dictated, a suggested type is taken over unless a locked row has it after the round.
abbrev pub SuggestedTypesTaken : Type 0
SuggestedTypesTaken = (remote rows after : List Row) → round false remote rows ≡ Ok after
    → Along (TakesOver remote (locked_types after)) rows after

-- Rounds in sequence, one for each section of a text, each with its rows and whether it dictates types. The first
-- refusal ends them.
pub record Section : Type 0 where
  pub rows : List Row
  pub dictated : Bool

abbrev pub rounds : List Section → List Row → Result (List Row) RoundError
rounds [] rows = Ok rows
rounds (s ∷ sections) rows = and_then (round s.dictated s.rows rows) (rounds sections)

-- A locked row stays locked under its types.
pub record Keeps (row new : Row) : Type 0 where
  pub locked : row.locked ≡ true → new.locked ≡ true
  pub pt : row.locked ≡ true → new.pt ≡ row.pt
  pub resend : row.locked ≡ true → new.resend ≡ row.resend
  pub red : row.locked ≡ true → new.red ≡ row.red

-- A locked row keeps its types in all later rounds.
abbrev pub LockedRowsKeepTypes : Type 0
LockedRowsKeepTypes = (sections : List Section) (rows after : List Row) → rounds sections rows ≡ Ok after
    → Along Keeps rows after
