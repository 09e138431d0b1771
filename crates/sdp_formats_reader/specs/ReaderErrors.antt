-- What a reader of session texts answers.
use Rattle.std.specs.Prelude.{◌≡◌, ℕ, List, Result, Ok, Err, codes}
use Rattle.std.specs.String.{string_bytes}
use Rattle.std.specs.Borrow.{Bor}
use Rattle.sdp_formats_reader.specs.Grammar.{SdpSays, SessionSays}
use Rattle.sdp_formats_data.specs.declared.session.Sdp.{Sdp}
use Rattle.sdp_formats_data.specs.declared.session.Session.{Session}
use Rattle.sdp_formats_data.specs.declared.SdpError.{SdpError}
use Rattle.sdp_formats_data.specs.declared.SdpError.TheVariants.{ParseError, Inconsistent, Memory}

-- The error text for a text that can't be read.
abbrev pub text_fault : List ℕ
text_fault = codes "no good header, or a section with a fault"

abbrev pub header_fault : List ℕ
header_fault = codes "no good header"

-- The text says nothing.
abbrev pub SaysNothing : List ℕ → Type 0
SaysNothing text = (sdp : Sdp) (rest : List ℕ) → SdpSays text sdp rest → ⊥

-- What is read is what the text says, and it says nothing else; if nothing is read, except for lack of memory, the text
-- says nothing, and the error says so in these words.
abbrev pub ParsesSdp : List ℕ → Result (Sdp × Bor (List ℕ)) SdpError → Type 0
ParsesSdp text (Ok r) = SdpSays text r.0 r.1.now
    × ((sdp : Sdp) (rest : List ℕ) → SdpSays text sdp rest → (sdp ≡ r.0) × (rest ≡ r.1.now))
ParsesSdp text (Err Memory) = Unit {0}
ParsesSdp text (Err (ParseError t)) = SaysNothing text × (string_bytes t ≡ text_fault)
ParsesSdp text (Err (Inconsistent t)) = ⊥

-- The same of what is before the first section.
abbrev pub ParsesSession : List ℕ → Result (Session × Bor (List ℕ)) SdpError → Type 0
ParsesSession text (Ok r) = SessionSays text r.0 r.1.now
    × ((session : Session) (rest : List ℕ) → SessionSays text session rest → (session ≡ r.0) × (rest ≡ r.1.now))
ParsesSession text (Err Memory) = Unit {0}
ParsesSession text (Err (ParseError t)) = ((session : Session) (rest : List ℕ) → SessionSays text session rest → ⊥)
    × (string_bytes t ≡ header_fault)
ParsesSession text (Err (Inconsistent t)) = ⊥

-- The same, ignoring the rest.
abbrev pub ReadsText : List ℕ → Result Sdp SdpError → Type 0
ReadsText text (Ok sdp) = (rest : List ℕ) × SdpSays text sdp rest
    × ((other : Sdp) (left : List ℕ) → SdpSays text other left → other ≡ sdp)
ReadsText text (Err Memory) = Unit {0}
ReadsText text (Err (ParseError t)) = SaysNothing text × (string_bytes t ≡ text_fault)
ReadsText text (Err (Inconsistent t)) = ⊥
