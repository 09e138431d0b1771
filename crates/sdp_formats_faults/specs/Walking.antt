-- Steps over a text that tell where they stop.
use Rattle.std.specs.Prelude.{◌≡◌, ◌++◌, ℕ, IsTrue, List, Option, Some, None}
use Rattle.std.specs.List.{list_all}
use Rattle.std.specs.Borrow.{Bor}
use Rattle.sdp_formats_grammar.specs.Line.{LineOf}
use Rattle.sdp_formats_grammar.specs.Step.{Many, Stops}
use Rattle.sdp_formats_reader.specs.Grammar.{OpeningSays, SessionSays, SectionSays, SdpSays}
use Rattle.sdp_formats_data.specs.Consistency.{fault_of, is_consistent}
use Rattle.sdp_formats_data.specs.declared.Inconsistency.{Inconsistency}
use Rattle.sdp_formats_data.specs.declared.media.MediaLine.{MediaLine}
use Rattle.sdp_formats_data.specs.declared.session.Sdp.{Sdp}
use Rattle.sdp_formats_data.specs.declared.session.Session.{Session}
use Rattle.sdp_formats_faults.specs.Faults.{FailsAt, IsFaultySection, IsFaultyLine}
use Rattle.sdp_formats_faults.specs.declared.fault.FaultyLine.{FaultyLine}
use Rattle.sdp_formats_faults.specs.declared.header.Walk.{Walk}
use Rattle.sdp_formats_faults.specs.declared.header.Walk.TheVariants.{On, At}

-- What follows a line of a kind, or that there is none.
abbrev pub TakesLine : {A : Type 0} → (List ℕ → A → Type 0) → List ℕ → Option (Bor (List ℕ)) → Type 0
TakesLine F text (Some rest) = (a : _) × LineOf F text a rest.now
TakesLine F text None = Stops (LineOf F) text

-- What follows the lines `v=`, `o=` and `s=`, or the first of them that fails.
abbrev pub OpensAs : List ℕ → Walk → Type 0
OpensAs text (On rest) = (id : ℕ) × OpeningSays text id rest.now
OpensAs text (At rest fault) = FailsAt text rest.now fault

-- What follows the header and the session's attributes, or the line that fails.
abbrev pub HeadsAs : List ℕ → Walk → Type 0
HeadsAs text (On rest) = (session : Session) × SessionSays text session rest.now
HeadsAs text (At rest fault) = FailsAt text rest.now fault

-- The fault of the section that a text begins with, and what follows the section.
abbrev pub SectionFails : List ℕ → Option Inconsistency → List ℕ → Type 0
SectionFails text fault rest = (section : MediaLine) × SectionSays text section rest × (fault ≡ fault_of section)

-- The first section with a fault, or consistent sections.
abbrev pub AreSections : List ℕ → Option (Bor (List ℕ) × Inconsistency) → Type 0
AreSections text (Some x) = IsFaultySection text x.0.now x.1
AreSections text None = (sections : List MediaLine) × (rest : List ℕ) × Many SectionSays text sections rest
    × IsTrue (list_all is_consistent sections)

-- The line that fails, or what the text says.
abbrev pub Fails : List ℕ → Option FaultyLine → Type 0
Fails text (Some line) = IsFaultyLine text line
Fails text None = (sdp : Sdp) × (rest : List ℕ) × SdpSays text sdp rest

-- A text ends with another.
abbrev pub EndsWith : List ℕ → List ℕ → Type 0
EndsWith text rest = (before : List ℕ) × (text ≡ before ++ rest)
