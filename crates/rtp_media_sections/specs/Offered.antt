-- What an offer says (RFC 8829 5.2.1).
use Rattle.std.specs.Prelude.{ℕ, true, List, ◌++◌, map, Some, None}
use Rattle.rtp_wire.specs.Values.{Numbering}
use Rattle.sdp_formats_rows.specs.Kinds.{rows_of_kind}
use Rattle.sdp_formats_rows.specs.Rows.{Row}
use Rattle.rtp_media_sections.specs.Extensions.{entries_of}
use Rattle.rtp_media_sections.specs.Sections.{Section, Wanted}
use Rattle.rtp_media_sections.specs.declared.sections.Source.{Source}

-- A source that isn't an RTX source.
abbrev pub plain_source : ℕ → Source
plain_source ssrc = record { ssrc = ssrc; repairs = None }

-- An RTX source.
abbrev pub repair_source : ℕ × ℕ → Source
repair_source pair = record { ssrc = pair.1; repairs = Some pair.0 }

-- The sources of a wanted section: its SSRCs, then their RTX SSRCs.
abbrev pub sources_wanted : Wanted → List Source
sources_wanted w = map plain_source w.ssrcs ++ map repair_source w.repairs

-- The section an end offers: with all extensions it wants, and all its rows of this kind.
unfoldable pub offered_section : Numbering → List Row → Wanted → Section
offered_section exts rows w = record {
  mid = w.mid;
  kind = w.kind;
  is_media = true;
  dir = w.dir;
  rows = rows_of_kind w.kind true rows;
  extmaps = entries_of exts;
  sources = sources_wanted w;
}
