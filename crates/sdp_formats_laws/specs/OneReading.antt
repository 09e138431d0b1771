-- A text can be read in only one way.
use Rattle.std.specs.Prelude.{◌≡◌, ℕ, List}
use Rattle.sdp_formats_data.specs.declared.session.Sdp.{Sdp}
use Rattle.sdp_formats_data.specs.declared.session.Session.{Session}
use Rattle.sdp_formats_reader.specs.Grammar.{SdpSays, SessionSays}

-- A text says at most one session with sections, and leaves one rest.
abbrev pub TextsHaveOneReading : Type 0
TextsHaveOneReading = (text : List ℕ) (a b : Sdp) (rest left : List ℕ) → SdpSays text a rest → SdpSays text b left
    → (a ≡ b) × (rest ≡ left)

-- So does a text of a session alone.
abbrev pub SessionsHaveOneReading : Type 0
SessionsHaveOneReading = (text : List ℕ) (a b : Session) (rest left : List ℕ) → SessionSays text a rest
    → SessionSays text b left → (a ≡ b) × (rest ≡ left)
