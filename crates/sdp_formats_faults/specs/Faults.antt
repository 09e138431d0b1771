-- Where a session text can't be read on, and why (RFC 8866 5).
use Rattle.std.specs.Prelude.{◌≡◌, ◌≢◌, ℕ, suc, ◌==◌, ◌++◌, IsTrue, List, [], Option, Some, count_by}
use Rattle.std.specs.List.{list_all}
use Rattle.sdp_formats_grammar.specs.Line.{LineOf, without_return}
use Rattle.sdp_formats_grammar.specs.Split.{halves}
use Rattle.sdp_formats_grammar.specs.Step.{Begins, Many, Perhaps, Stops}
use Rattle.sdp_formats_reader.specs.Grammar.{OpeningSays, SessionSays, SectionSays, SdpSays}
use Rattle.sdp_formats_reader.specs.Lines.{version_line, origin_line, name_line, other_line, bandwidth_line, times_line}
use Rattle.sdp_formats_reader.specs.declared.passed.Passed.{Passed}
use Rattle.sdp_formats_data.specs.Consistency.{fault_of, is_consistent}
use Rattle.sdp_formats_data.specs.declared.Inconsistency.{Inconsistency}
use Rattle.sdp_formats_data.specs.declared.media.MediaLine.{MediaLine}
use Rattle.sdp_formats_data.specs.declared.session.Sdp.{Sdp}
use Rattle.sdp_formats_data.specs.declared.session.Session.{Session}
use Rattle.sdp_formats_values.specs.declared.bandwidth.Bandwidth.{Bandwidth}
use Rattle.sdp_formats_faults.specs.declared.fault.FaultyLine.{FaultyLine}
use Rattle.sdp_formats_faults.specs.declared.fault.LineFault.{LineFault}
use Rattle.sdp_formats_faults.specs.declared.fault.LineFault.TheVariants.{Version, Origin, Name, Times, Section, Stray}

-- A session text to its end.
abbrev pub IsWhole : List ℕ → Type 0
IsWhole text = (sdp : Sdp) × SdpSays text sdp []

-- The lines `v=`, `o=` and `s=`, any that may follow, and a bandwidth or none: what precedes `t=`.
abbrev pub BeforeTimes : List ℕ → List ℕ → Type 0
BeforeTimes text rest = (id : ℕ) × (one : List ℕ) × OpeningSays text id one
    × (others : List Passed) × (two : List ℕ) × Many (LineOf other_line.Says) one others two
    × (bw : Option Bandwidth) × Perhaps (LineOf bandwidth_line.Says) two bw rest

-- The first section with a fault begins at this rest.
abbrev pub IsFaultySection : List ℕ → List ℕ → Inconsistency → Type 0
IsFaultySection text rest fault = (before : List MediaLine) × Begins SectionSays text before rest
    × IsTrue (list_all is_consistent before)
    × (section : MediaLine) × (after : List ℕ) × SectionSays rest section after × (fault_of section ≡ Some fault)

-- What precedes this rest is read, and the rest doesn't go on as the grammar says.
abbrev pub FailsAt : List ℕ → List ℕ → LineFault → Type 0
FailsAt text rest Version = (rest ≡ text) × Stops (LineOf version_line.Says) rest
FailsAt text rest Origin = (v : Passed) × LineOf version_line.Says text v rest × Stops (LineOf origin_line.Says) rest
FailsAt text rest Name = (v : Passed) × (one : List ℕ) × LineOf version_line.Says text v one
    × (id : ℕ) × LineOf origin_line.Says one id rest × Stops (LineOf name_line.Says) rest
FailsAt text rest Times = BeforeTimes text rest × Stops (LineOf times_line.Says) rest
FailsAt text rest (Section fault) = (session : Session) × (one : List ℕ) × SessionSays text session one
    × IsFaultySection one rest fault
FailsAt text rest Stray = (sdp : Sdp) × SdpSays text sdp rest × (rest ≢ [])

-- How many lines end in a text.
abbrev pub line_ends : List ℕ → ℕ
line_ends text = count_by (λ b. b == 10) text

-- The rest begins the line of this number, counted from 1.
abbrev pub IsNumber : List ℕ → List ℕ → ℕ → Type 0
IsNumber text rest number = (before : List ℕ) × (text ≡ before ++ rest) × (number ≡ suc (line_ends before))

-- The line that a text begins with, without its end.
abbrev pub first_line : List ℕ → List ℕ
first_line text = without_return (halves 10 text).0

-- The line of the text at which it can't be read on.
abbrev pub IsFaultyLine : List ℕ → FaultyLine → Type 0
IsFaultyLine text line = (rest : List ℕ) × FailsAt text rest line.fault
    × IsNumber text rest line.number × (line.text.now ≡ first_line rest)
