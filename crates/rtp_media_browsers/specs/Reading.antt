-- A text that can be read completely.
use Rattle.std.specs.Prelude.{◌≡◌, ◌≢◌, ℕ, List, [], Result, Ok, Err}
use Rattle.sdp_formats_data.specs.declared.session.Sdp.{Sdp}
use Rattle.sdp_formats_reader.specs.Grammar.{SdpSays}
use Rattle.sdp_formats_reader.specs.ReaderErrors.{SaysNothing}
use Rattle.rtp_media_browsers.specs.declared.error.BrowserError.{BrowserError}
use Rattle.rtp_media_browsers.specs.declared.error.BrowserError.TheVariants.{Memory, NotWritable, RestUnread}
use Rattle.rtp_media_browsers.specs.declared.error.BrowserError.TheVariants.{Unreadable}

-- The text says exactly this value, with no rest.
abbrev pub SaysWhole : List ℕ → Sdp → Type 0
SaysWhole text sdp = SdpSays text sdp []
    × ((other : Sdp) (rest : List ℕ) → SdpSays text other rest → (other ≡ sdp) × (rest ≡ []))

-- The text says a value, but leaves a rest.
abbrev pub LeavesRest : List ℕ → Type 0
LeavesRest text = (sdp : Sdp) × ((rest : List ℕ) × SdpSays text sdp rest × (rest ≢ []))

-- Why a text can't be read completely.
abbrev pub IsUnread : List ℕ → BrowserError → Type 0
IsUnread text Unreadable = SaysNothing text
IsUnread text RestUnread = LeavesRest text
IsUnread text Memory = Unit {0}
IsUnread text _ = ⊥

abbrev pub ReadsWhole : List ℕ → Result Sdp BrowserError → Type 0
ReadsWhole text (Ok sdp) = SaysWhole text sdp
ReadsWhole text (Err e) = IsUnread text e

-- A value's text is handed out only if it reads back as that value.
abbrev pub IsWritten : List ℕ → Sdp → List ℕ → Type 0
IsWritten text sdp out = (out ≡ text) × SaysWhole out sdp

abbrev pub IsUnwritten : List ℕ → Sdp → BrowserError → Type 0
IsUnwritten text sdp Memory = Unit {0}
IsUnwritten text sdp NotWritable = SaysWhole text sdp → ⊥
IsUnwritten text sdp _ = ⊥
