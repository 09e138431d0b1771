-- What rounds preserve of plain rows.
use Rattle.std.specs.Prelude.{◌≡◌, ◌<◌, ◌≤◌, ◌^◌, true, List, Ok, IfSome}
use Rattle.sdp_formats_rows.specs.declared.format.FormatParams.{FormatParams}
use Rattle.sdp_formats_rows.specs.Plain.{has_plain_others}
use Rattle.sdp_formats_rows.specs.Rows.{Row}
use Rattle.sdp_formats_rounds.specs.Laws.{Section, rounds}
use Rattle.sdp_formats_rounds.specs.Members.{IsEach}
use Rattle.sdp_formats_rounds.specs.Ranges.{IsInRange, IsModes, OneLevel}

-- The values an own format may take over from another end's fit their ranges, as they do in every format read of a
-- text: AMR-WB modes, `sprop-max-don-diff` and `profile-id`.
pub record IsSoundFormat (f : FormatParams) : Type 0 where
  pub modes : IfSome f.mode_set IsModes
  pub don_diff : IfSome f.sprop_max_don_diff (λ n. n ≤ 32767)
  pub profile : IfSome f.profile_id (λ n. n < 2 ^ 32)

abbrev pub IsSoundRow : Row → Type 0
IsSoundRow row = IsSoundFormat row.spec.format

abbrev pub AreSound : Section → Type 0
AreSound s = IsEach IsSoundRow s.rows

-- A row that is plain except perhaps for how its format prints; the format's numbers fit, and it has at most one
-- profile, tier and level.
pub record IsOfWidths (row : Row) : Type 0 where
  pub others : has_plain_others row ≡ true
  pub ranges : IsInRange row.spec.format
  pub levels : OneLevel row.spec.format

-- Rounds with sections of sound rows preserve this.
abbrev pub RoundsKeepWidths : Type 0
RoundsKeepWidths = (sections : List Section) (rows after : List Row) → IsEach AreSound sections
    → IsEach IsOfWidths rows → rounds sections rows ≡ Ok after → IsEach IsOfWidths after
