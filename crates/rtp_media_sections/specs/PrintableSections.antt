-- Which sections of ends are printable.
use Rattle.std.specs.Prelude.{◌≡◌, ◌≢◌, ◌<◌, ◌^◌, ℕ, true, List, [], length}
use Rattle.std.specs.List.{list_all}
use Rattle.rtp_media_sections.specs.Answered.{answered_rows, answered_section}
use Rattle.rtp_media_sections.specs.Extensions.{is_writable_map}
use Rattle.rtp_media_sections.specs.Lines.{types_listed}
use Rattle.rtp_media_sections.specs.Offered.{offered_section}
use Rattle.rtp_media_sections.specs.Sections.{Section, Wanted}
use Rattle.rtp_wire.specs.Name.{name_of}
use Rattle.rtp_wire.specs.Values.{Numbering}
use Rattle.sdp_formats_rows.specs.Kinds.{rows_of_kind}
use Rattle.sdp_formats_rounds.specs.Laws.{is_distinct}
use Rattle.sdp_formats_rounds.specs.Members.{IsEach}
use Rattle.sdp_formats_rounds.specs.Ranges.{IsSized}
use Rattle.sdp_formats_rows.specs.Plain.{is_plain}
use Rattle.sdp_formats_rows.specs.Rows.{Row}
use Rattle.rtp_media_sections.specs.PrintedSections.{IsPrintable}

-- Plain rows with distinct payload types whose numbers fit their widths.
pub record ArePrintable (rows : List Row) : Type 0 where
  pub plain : list_all is_plain rows ≡ true
  pub apart : is_distinct (types_listed rows) ≡ true
  pub sized : IsEach IsSized rows

-- SSRCs of 32 bits.
abbrev pub IsLowPair : ℕ × ℕ → Type 0
IsLowPair pair = (pair.0 < 2 ^ 32) × (pair.1 < 2 ^ 32)

-- A map of 16 numbers whose URIs can be written, and a wanted section with a mid, whose SSRCs, RTX ones included, have
-- 32 bits.
pub record CanBeListed (exts : Numbering) (w : Wanted) : Type 0 where
  pub numbers : length exts ≡ 16
  pub writable : is_writable_map exts ≡ true
  pub some_name : w.mid ≢ []
  pub name : name_of 16 w.mid ≡ w.mid
  pub ssrcs : IsEach (λ ssrc. ssrc < 2 ^ 32) w.ssrcs
  pub repairs : IsEach IsLowPair w.repairs

-- An offered section is printable if it lists at least one row.
abbrev pub OfferedSectionsArePrintable : Type 0
OfferedSectionsArePrintable = (exts : Numbering) (rows : List Row) (w : Wanted) → CanBeListed exts w → ArePrintable rows
    → rows_of_kind w.kind true rows ≢ [] → IsPrintable (offered_section exts rows w)

-- So is one that answers.
abbrev pub AnsweredSectionsArePrintable : Type 0
AnsweredSectionsArePrintable = (exts : Numbering) (rows : List Row) (w : Wanted) (offer : Section) → CanBeListed exts w
    → ArePrintable rows → answered_rows rows offer ≢ [] → IsPrintable (answered_section exts rows w offer)
