-- Texts that are read the same.
use Rattle.std.specs.Prelude.{◌≡◌, ◌==◌, ◌&&◌, ◌++◌, not, ℕ, Bool, true, false, List, [], ◌∷◌, if◌then◌else◌}
use Rattle.sdp_formats_grammar.specs.Split.{Lacks}
use Rattle.sdp_formats_reader.specs.Grammar.{SdpSays, SessionSays}
use Rattle.sdp_formats_data.specs.declared.session.Sdp.{Sdp}
use Rattle.sdp_formats_data.specs.declared.session.Session.{Session}

-- The text with each LF replaced by CR LF.
abbrev pub with_returns : List ℕ → List ℕ
with_returns [] = []
with_returns (b ∷ t) = if b == 10 then 13 ∷ 10 ∷ with_returns t else b ∷ with_returns t

-- A text whose lines end in LF is read like the same text with CR LF: as the same value, and the rest with its line
-- ends replaced too.
abbrev pub ReadsByAnyEnd : Type 0
ReadsByAnyEnd = (text : List ℕ) (sdp : Sdp) → Lacks 13 text
    → ((rest : List ℕ) → SdpSays text sdp rest → SdpSays (with_returns text) sdp (with_returns rest))
    × ((rest : List ℕ) → SdpSays (with_returns text) sdp rest
    → (left : List ℕ) × (rest ≡ with_returns left) × SdpSays text sdp left)

-- The text with every line ending in CR LF, whether it ended in LF or CR LF; the flag says whether a CR precedes the
-- text.
abbrev pub all_returned : Bool → List ℕ → List ℕ
all_returned behind [] = []
all_returned behind (b ∷ t) = if b == 10 && not behind then 13 ∷ 10 ∷ all_returned false t
    else b ∷ all_returned (b == 13) t

-- Two texts have the same lines, each ended by LF or CR LF independently.
abbrev pub HaveSameLines : List ℕ → List ℕ → Type 0
HaveSameLines t u = all_returned false t ≡ all_returned false u

-- The end of a line.
abbrev pub either_end : Bool → List ℕ
either_end true = 13 ∷ 10 ∷ []
either_end false = 10 ∷ []

-- A line in front of two such texts may end either way in each.
abbrev pub LinesEndEitherWay : Type 0
LinesEndEitherWay = (line t u : List ℕ) (first second : Bool) → Lacks 10 line → Lacks 13 line → HaveSameLines t u
    → HaveSameLines (line ++ (either_end first ++ t)) (line ++ (either_end second ++ u))

-- Texts with the same lines are read as the same value, and their rests have the same lines.
abbrev pub ReadsBySameLines : Type 0
ReadsBySameLines = (text other : List ℕ) (sdp : Sdp) (rest : List ℕ) → HaveSameLines text other
    → SdpSays text sdp rest → (left : List ℕ) × HaveSameLines rest left × SdpSays other sdp left

-- The same of a session without sections.
abbrev pub ReadsSessionBySameLines : Type 0
ReadsSessionBySameLines = (text other : List ℕ) (session : Session) (rest : List ℕ) → HaveSameLines text other
    → SessionSays text session rest → (left : List ℕ) × HaveSameLines rest left × SessionSays other session left

-- The text is empty, or its last line ends in LF.
abbrev pub is_ended : List ℕ → Bool
is_ended [] = true
is_ended (b ∷ []) = b == 10
is_ended (b ∷ c ∷ t) = is_ended (c ∷ t)
