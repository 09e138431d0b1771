-- The rows of ends that talk to browsers.
use Rattle.std.specs.Prelude.{ℕ, List, [], ◌∷◌, ◌++◌, None, Some}
use Rattle.media_types.specs.declared.codec.Codec.{Codec}
use Rattle.media_types.specs.declared.codec.Codec.TheVariants.{CN, G722, PCMA, PCMU, Tele}
use Rattle.sdp_formats_rows.specs.Codecs.{full_spec}
use Rattle.sdp_formats_rows.specs.DefaultRows.{default_rows}
use Rattle.sdp_formats_rows.specs.Formats.{no_format}
use Rattle.sdp_formats_rows.specs.Rows.{Row, new_row}

-- A row without retransmissions and format.
abbrev pub plain_row : ℕ → Codec → ℕ → Row
plain_row pt codec clock_rate = new_row pt None (full_spec codec clock_rate None no_format)

-- Telephone events 0 to 15 (RFC 4733 2.4).
abbrev pub events_row : ℕ → ℕ → Row
events_row pt clock_rate =
    new_row pt None (full_spec Tele clock_rate None (record no_format { telephone_event_max = Some 15 }))

-- Those by default, G.711, G.722 and comfort noise under their static types (RFC 3551 6), and telephone events.
abbrev pub browser_rows : List Row
browser_rows = default_rows ++ plain_row 0 PCMU 8000 ∷ plain_row 8 PCMA 8000 ∷ plain_row 9 G722 16000
    ∷ plain_row 13 CN 8000 ∷ events_row 126 8000 ∷ events_row 110 48000 ∷ []
