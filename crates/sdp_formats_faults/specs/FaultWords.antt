-- Faults as they are printed.
use Rattle.std.specs.Prelude.{ℕ, List, ◌++◌, codes}
use Rattle.std.specs.Fmt.{decimal}
use Rattle.sdp_formats_data.specs.declared.Inconsistency.{Inconsistency}
use Rattle.sdp_formats_data.specs.declared.Inconsistency.TheVariants as section
use Rattle.sdp_formats_faults.specs.declared.fault.LineFault.{LineFault}
use Rattle.sdp_formats_faults.specs.declared.fault.LineFault.TheVariants.{Version, Origin, Name, Times, Section, Stray}

abbrev pub section_words : Inconsistency → List ℕ
section_words section.MissingMid = codes "a section without a=mid"
section_words section.SeveralMids = codes "a section with several a=mid"
section_words section.SeveralSetups = codes "a section with several a=setup"
section_words section.Directions = codes "a section without exactly one direction"
section_words section.NoPayloadType = codes "a section without payload types"
section_words section.RtpMaps = codes "a section with a payload type that isn't mapped once"
section_words section.ConflictingApts = codes "a section with a payload type that repairs several"

abbrev pub fault_words : LineFault → List ℕ
fault_words Version = codes "not v=0"
fault_words Origin = codes "no valid o="
fault_words Name = codes "no s= with a name"
fault_words Times = codes "not t=0 0"
fault_words (Section fault) = section_words fault
fault_words Stray = codes "fits nowhere"

-- The number of a line, its fault, and the line.
abbrev pub line_words : ℕ → LineFault → List ℕ → List ℕ
line_words number fault text = codes "line " ++ decimal number ++ codes ": " ++ fault_words fault ++ codes ": " ++ text
