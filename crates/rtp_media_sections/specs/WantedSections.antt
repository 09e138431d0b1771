-- What is read of the sections that an end wants.
use Rattle.std.specs.Prelude.{◌≡◌, ℕ, List, IsTrue}
use Rattle.rtp_media_sections.specs.Agreement.{is_named}
use Rattle.rtp_media_sections.specs.Answered.{answered_section}
use Rattle.rtp_media_sections.specs.Lines.{repairs_of, ssrcs_of}
use Rattle.rtp_media_sections.specs.Offered.{offered_section}
use Rattle.rtp_media_sections.specs.Sections.{Section, Wanted, is_sound}
use Rattle.rtp_wire.specs.Values.{Numbering}
use Rattle.sdp_formats_rows.specs.Rows.{Row}
use Rattle.rtp_media_sections.specs.PrintedSections.{as_read}

-- The section has the wanted one's mid and kind, and names exactly its SSRCs and its RTX pairs.
pub record NamesWanted (s : Section) (w : Wanted) : Type 0 where
  pub mid : s.mid ≡ w.mid
  pub kind : s.kind ≡ w.kind
  pub ssrcs : (ssrc : ℕ) → is_named (ssrcs_of s) ssrc ≡ is_named w.ssrcs ssrc
  pub repairs : repairs_of s ≡ w.repairs

-- So does an offered section once read, if the wanted one's RTX pairs fit its SSRCs.
abbrev pub OfferedSectionsNameWanted : Type 0
OfferedSectionsNameWanted = (exts : Numbering) (rows : List Row) (w : Wanted) → IsTrue (is_sound w)
    → NamesWanted (as_read (offered_section exts rows w)) w

-- So does what is read of one that answers.
abbrev pub AnsweredSectionsNameWanted : Type 0
AnsweredSectionsNameWanted = (exts : Numbering) (rows : List Row) (w : Wanted) (offer : Section) → IsTrue (is_sound w)
    → NamesWanted (as_read (answered_section exts rows w offer)) w
