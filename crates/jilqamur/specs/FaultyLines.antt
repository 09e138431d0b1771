-- The line at which a session text can't be read on, as C is told.
use Rattle.std.specs.Prelude.{ℕ, ◌≡◌, ◌⊎◌, List}
use Rattle.sdp_formats_data.specs.declared.faults.Inconsistency.{Inconsistency}
use Rattle.sdp_formats_data.specs.declared.faults.Inconsistency.TheVariants as section
use Rattle.sdp_formats_faults.specs.Faults.{IsFaultyLine, IsWhole}
use Rattle.sdp_formats_faults.specs.declared.fault.FaultyLine.{FaultyLine}
use Rattle.sdp_formats_faults.specs.declared.fault.LineFault.{LineFault}
use Rattle.sdp_formats_faults.specs.declared.fault.LineFault.TheVariants as line
use Rattle.jilqamur.specs.Codes.{nothing}
use Rattle.jilqamur.specs.Copies.{IsCopied}

-- The number of what is wrong with a section.
abbrev pub section_fault : Inconsistency → ℕ
section_fault section.MissingMid = 5
section_fault section.SeveralMids = 6
section_fault section.SeveralSetups = 7
section_fault section.Directions = 8
section_fault section.NoPayloadType = 9
section_fault section.RtpMaps = 10
section_fault section.ConflictingApts = 11

-- The number of what is wrong with a line.
abbrev pub line_fault : LineFault → ℕ
line_fault line.Version = 0
line_fault line.Origin = 1
line_fault line.Name = 2
line_fault line.Times = 3
line_fault line.Stray = 4
line_fault (line.Section fault) = section_fault fault

-- The line is told, and copied if the buffer is large enough.
pub record IsTold (text before : List ℕ) (result needed number fault : ℕ) (buffer : List ℕ) : Type 0 where
  pub told : FaultyLine
  pub is_faulty : IsFaultyLine text told
  pub copied : IsCopied told.text.now before result needed buffer
  pub number_is : number ≡ told.number
  pub fault_is : fault ≡ line_fault told.fault

-- The line is told, or the text is read to its end.
abbrev pub TellsLine : List ℕ → List ℕ → ℕ → ℕ → ℕ → ℕ → List ℕ → Type 0
TellsLine text before result needed number fault buffer =
    ((result ≡ nothing) × IsWhole text) ⊎ IsTold text before result needed number fault buffer
