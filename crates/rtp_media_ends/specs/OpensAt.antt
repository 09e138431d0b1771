-- When an end may open a stream.
use Rattle.std.specs.Prelude.{◌≡◌, ℕ, true, false, List, Some}
use Rattle.std.specs.List.{list_any}
use Rattle.rtp_media_sections.specs.Agreement.{Agreed, is_named, row_in, section_of}
use Rattle.sdp_formats_rows.specs.Rows.{Row}
use Rattle.rtp_media_ends.specs.Ends.{EndState, agrees_in, is_carried, types_of}
use Rattle.rtp_media_stream_table.specs.Streams.{receives_as, sends_as}

-- When an end may send with this mid, SSRC and payload type: the section is agreed; a stream can carry its first row of
-- that type; one of the end's own rows agrees with it, or the section took
-- its rows from a text; media flows from the end, which names the SSRC in the section;
-- and no sending stream uses the SSRC with one of the row's types, or the SSRC and type of its RTX.
pub record SendsAt (e : EndState) (mid : List ℕ) (ssrc pt : ℕ) : Type 0 where
  pub section : Agreed
  pub agreed : section_of e.exchange.agreed mid ≡ Some section
  pub row : Row
  pub row_is : row_in section.rows pt ≡ Some row
  pub carried : is_carried row ≡ true
  pub own_row : agrees_in e.exchange.config.rows section row ≡ true
  pub flows : section.sends ≡ true
  pub named : is_named section.own_ssrcs ssrc ≡ true
  pub not_open : list_any (sends_as ssrc (types_of row ssrc section.own_repairs)) e.streams ≡ false

-- When it may receive: the same, except that media flows to the end, the other end names the SSRC, and no receiving
-- stream uses the SSRC with one of the row's types, or the SSRC and type of its RTX.
pub record ReceivesAt (e : EndState) (mid : List ℕ) (ssrc pt : ℕ) : Type 0 where
  pub section : Agreed
  pub agreed : section_of e.exchange.agreed mid ≡ Some section
  pub row : Row
  pub row_is : row_in section.rows pt ≡ Some row
  pub carried : is_carried row ≡ true
  pub own_row : agrees_in e.exchange.config.rows section row ≡ true
  pub flows : section.receives ≡ true
  pub named : is_named section.remote_ssrcs ssrc ≡ true
  pub not_open : list_any (receives_as ssrc (types_of row ssrc section.remote_repairs)) e.streams ≡ false
