-- What reading and printing session texts count.
use Rattle.std.specs.Prelude.{◌≡◌, ◌⊎◌, ℕ, List, Option, Some, Result, Ok, Err, length}
use Rattle.std.specs.Borrow.{Bor}
use Rattle.benchmarks.specs.Tallies.{tally_with}
use Rattle.benchmarks.specs.declared.tally.Tally.{Tally}
use Rattle.sdp_formats.specs.ReaderErrors.{ParsesSdp}
use Rattle.sdp_formats.specs.declared.Sdp.{Sdp}
use Rattle.sdp_formats.specs.declared.SdpError.{SdpError}
use Rattle.benchmarks.specs.declared.texts.Printing.{Printing}
use Rattle.benchmarks.specs.declared.texts.Reading.{Reading}

-- If a text is read, its sections and its bytes are counted.
abbrev pub CountsAnswer : Result (Sdp × Bor (List ℕ)) SdpError → List ℕ → Tally → Tally → Type 0
CountsAnswer (Ok r) text before after = after ≡ tally_with before (length r.0.media_lines) (length text)
CountsAnswer (Err e) text before after = after ≡ before

-- The text is read, and the result is counted.
abbrev pub CountsSections : Reading → ℕ → Tally → Reading → Tally → Type 0
CountsSections old number before new after = (new ≡ old) × ((answer : Result (Sdp × Bor (List ℕ)) SdpError)
    × ParsesSdp old.text.now answer × CountsAnswer answer old.text.now before after)

-- The text that is printed is counted, and its bytes; nothing is where memory runs out.
abbrev pub CountsPrinted : (Sdp → Option (List ℕ)) → Printing → ℕ → Tally → Printing → Tally → Type 0
CountsPrinted prints old number before new after = (new ≡ old) × (((text : List ℕ)
    × (prints old.sdp.now ≡ Some text) × (after ≡ tally_with before 1 (length text))) ⊎ (after ≡ before))
