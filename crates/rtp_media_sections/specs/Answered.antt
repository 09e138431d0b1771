-- What an answer says (RFC 3264 6.1).
use Rattle.std.specs.Prelude.{ℕ, Bool, true, false, ◌&&◌, ◌==◌, List, [], ◌∷◌, ◌++◌, find, fold, Option, Some, None}
use Rattle.std.specs.Prelude.{if◌then◌else◌}
use Rattle.std.specs.List.{list_any, flat_map}
use Rattle.rtp_wire.specs.declared.direction.Direction.{Direction}
use Rattle.rtp_wire.specs.declared.direction.Direction.TheVariants.{SendOnly, RecvOnly, SendRecv, Inactive}
use Rattle.rtp_wire.specs.Direction.{sends, receives}
use Rattle.rtp_wire.specs.Values.{Numbering}
use Rattle.sdp_formats_rounds.specs.Matching.{type_for}
use Rattle.sdp_formats_rounds.specs.Best.{best_row}
use Rattle.sdp_formats_rows.specs.Rows.{Row}
use Rattle.sdp_formats_section_rows.specs.SectionRows.{listed}
use Rattle.rtp_media_sections.specs.Extensions.{answered_extmaps}
use Rattle.rtp_media_sections.specs.Offered.{sources_wanted}
use Rattle.rtp_media_sections.specs.Sections.{Section, Wanted}

-- The direction that sends and receives so.
abbrev pub flow : Bool → Bool → Direction
flow true true = SendRecv
flow true false = SendOnly
flow false true = RecvOnly
flow false false = Inactive

-- The direction of an answer: it sends if its end wants to and the offer receives, and receives if its end wants
-- to and the offer sends.
abbrev pub answered_direction : Direction → Direction → Direction
answered_direction offered wanted = flow (sends wanted && receives offered) (receives wanted && sends offered)

-- The locked row with this payload type.
abbrev pub locked_row : List Row → Option ℕ → Option Row
locked_row rows None = None
locked_row rows (Some pt) = find (λ row. row.locked && (row.pt == pt)) rows

-- The locked row whose payload type is used for an offered row, if any.
unfoldable pub row_answering : List Row → Bool → Row → List Row
row_answering rows dictated offered =
    listed (locked_row rows (type_for dictated offered (best_row offered.spec rows)))

abbrev pub has_pt : List Row → ℕ → Bool
has_pt rows pt = list_any (λ row. row.pt == pt) rows

-- The rows plus one, unless its payload type is already there.
unfoldable pub with_once : List Row → Row → List Row
with_once rows row = if has_pt rows row.pt then rows else rows ++ row ∷ []

-- The rows of an answer: in the offered order, each once, the locked rows whose payload types are used for the offered
-- rows.
abbrev pub rows_answering : List Row → Bool → List Row → List Row
rows_answering rows dictated offered = fold with_once [] (flat_map (row_answering rows dictated) offered)

abbrev pub answered_rows : List Row → Section → List Row
answered_rows rows offer = rows_answering rows (receives offer.dir) offer.rows

-- The section that answers an offered one, given the rows after the rounds: with the offered extensions that the end
-- also wants, under the offer's numbers.
unfoldable pub answered_section : Numbering → List Row → Wanted → Section → Section
answered_section exts rows w offer = record {
  mid = w.mid;
  kind = w.kind;
  is_media = true;
  dir = answered_direction offer.dir w.dir;
  rows = answered_rows rows offer;
  extmaps = answered_extmaps exts offer.extmaps;
  sources = sources_wanted w;
}
