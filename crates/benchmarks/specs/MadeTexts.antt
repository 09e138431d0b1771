-- What reading the rows of a session text counts.
use Rattle.std.specs.Prelude.{◌≡◌, ◌⊎◌, ℕ, zero, suc, List, Result, Ok, Err, length, option_map, slice_get, unwrap_or}
use Rattle.std.specs.Borrow.{Bor}
use Rattle.benchmarks.specs.Tallies.{tally_with}
use Rattle.benchmarks.specs.declared.tally.Tally.{Tally}
use Rattle.sdp_formats.specs.ReaderErrors.{ParsesSdp}
use Rattle.sdp_formats.specs.declared.MediaLine.{MediaLine}
use Rattle.sdp_formats.specs.declared.Sdp.{Sdp}
use Rattle.sdp_formats.specs.declared.SdpError.{SdpError}
use Rattle.sdp_formats_section_rows.specs.SectionRows.{rows_of}
use Rattle.benchmarks.specs.declared.made_texts.Reading.{Reading}

-- The number of rows of the section with this index.
abbrev pub rows_at : List MediaLine → ℕ → ℕ
rows_at sections n = unwrap_or (option_map (λ s. length (rows_of s.pts s.attrs)) (slice_get sections n)) 0

-- The first n sections are visited: each counts its rows, and the bytes of the whole text; or nothing, if memory runs
-- out.
abbrev pub CountsFirst : List MediaLine → ℕ → ℕ → Tally → Tally → Type 0
CountsFirst sections size zero before after = after ≡ before
CountsFirst sections size (suc n) before after = (mid : Tally) × CountsFirst sections size n before mid
    × ((after ≡ tally_with mid (rows_at sections n) size) ⊎ (after ≡ mid))

-- Where the text is read, all sections are gone through.
abbrev pub CountsAnswer : Result (Sdp × Bor (List ℕ)) SdpError → List ℕ → Tally → Tally → Type 0
CountsAnswer (Ok r) text before after =
    CountsFirst r.0.media_lines (length text) (length r.0.media_lines) before after
CountsAnswer (Err e) text before after = after ≡ before

-- The text is read, and the result is counted.
abbrev pub CountsRows : Reading → ℕ → Tally → Reading → Tally → Type 0
CountsRows old number before new after = (new ≡ old) × ((answer : Result (Sdp × Bor (List ℕ)) SdpError)
    × ParsesSdp old.text.now answer × CountsAnswer answer old.text.now before after)
