-- What a browser reads in each section of an answer to its offer (RFC 3264 6.1): of the types that it offered in this
-- section some, in its order, each with what it means there, whatever its other sections say.
use Rattle.std.specs.Prelude.{◌≡◌, ℕ, true, List, codes, filter, map, Option, None, Some, slice_get}
use Rattle.rtp_media_sections.specs.Lines.{row_lines, types_listed}
use Rattle.sdp_formats_data.specs.declared.media.MediaLine.{MediaLine}
use Rattle.sdp_formats_data.specs.declared.session.Sdp.{Sdp}
use Rattle.sdp_formats_rounds.specs.Members.{IsEach, IsIn}
use Rattle.sdp_formats_reader.specs.AsRead.{as_read}
use Rattle.sdp_formats_rows.specs.Rows.{Row}
use Rattle.sdp_formats_section_rows.specs.SectionRows.{rows_of}
use Rattle.rtp_media_browsers.specs.Following.{is_of_type, section_named}
use Rattle.rtp_media_browsers.specs.ForBrowsers.{for_browser}
use Rattle.rtp_media_browsers.specs.Listing.{fits, has_feedback, is_listed}
use Rattle.rtp_media_browsers.specs.Refusals.{browser_refusal}
use Rattle.rtp_media_browsers.specs.declared.state.Place.TheVariants.{Kept}
use Rattle.rtp_media_browsers.specs.declared.state.BrowserState.{BrowserState}
use Rattle.rtp_media_browsers.specs.declared.transport.Transport.{Transport}

-- The offered section lists this type, and it repairs, or adds redundancy to, the same one there (RFC 4588 8.1, RFC
-- 2198 5).
abbrev pub IsLinked : MediaLine → Option ℕ → Option ℕ → Type 0
IsLinked offered own there = (t : ℕ) → own ≡ Some t → (there ≡ Some t) × (is_listed offered.pts t ≡ true)

-- A row of the offered section: its type is listed there, with a codec and parameters that match, and so are its types
-- of retransmissions and of redundancy; and it has the feedback that is given there (RFC 4585 4.2, RFC 5104 7.1).
pub record IsOffered (offered : MediaLine) (row : Row) : Type 0 where
  pub there : Row
  pub one_of : IsIn there (rows_of offered.pts offered.attrs)
  pub pt : row.pt ≡ there.pt
  pub listed : is_listed offered.pts there.pt ≡ true
  pub means : fits there row ≡ true
  pub resend : IsLinked offered row.resend there.resend
  pub red : IsLinked offered row.red there.red
  pub transport_cc : row.transport_cc ≡ true → has_feedback offered there.pt (codes "transport-cc") ≡ true
  pub nack : row.nack ≡ true → has_feedback offered there.pt (codes "nack") ≡ true
  pub pli : row.pli ≡ true → has_feedback offered there.pt (codes "nack pli") ≡ true
  pub fir : row.fir ≡ true → has_feedback offered there.pt (codes "ccm fir") ≡ true
  pub remb : row.remb ≡ true → has_feedback offered there.pt (codes "goog-remb") ≡ true

-- A section that answers this one: the lines that say what its types are, are those of rows that were offered; and its
-- types are those of the rows, in the offer's order.
pub record ListsOffered (offered m : MediaLine) : Type 0 where
  pub rows : List Row
  pub lines : filter is_of_type m.attrs ≡ map as_read (row_lines rows)
  pub types : m.pts ≡ filter (is_listed (types_listed rows)) offered.pts
  pub offered_are : IsEach (IsOffered offered) rows

-- So is each section of an answer that is at a place of a section of the offer.
abbrev pub AnswersListOffered : Type 0
AnswersListOffered = (state : BrowserState) (t : Transport) (sdp : Sdp) (n : ℕ) (name : List ℕ) (offered m : MediaLine)
    → browser_refusal state t sdp ≡ None → state.is_answering ≡ true → slice_get state.places n ≡ Some (Kept name)
    → section_named state.sections name ≡ Some offered
    → slice_get (for_browser state t sdp).media_lines n ≡ Some m → ListsOffered offered m
