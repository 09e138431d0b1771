-- The result of testing whether the parts of an SDP are consistent.
use Rattle.std.specs.Prelude.{◌≡◌, ℕ, List, Result, Ok, Err, codes}
use Rattle.std.specs.String.{string_bytes}
use Rattle.sdp_formats_data.specs.declared.error.SdpError.{SdpError}
use Rattle.sdp_formats_data.specs.declared.error.SdpError.TheVariants.{ParseError, Inconsistent, Memory}
use Rattle.sdp_formats_data.specs.WholeTexts.{IsWhole}
use Rattle.sdp_formats_data.specs.declared.session.Sdp.{Sdp}

abbrev pub whole_fault : List ℕ
whole_fault = codes "a section with a fault, names that aren't apart, or another group"

-- The result of testing a text.
abbrev pub AssertsWhole : Sdp → Result (Unit {0}) SdpError → Type 0
AssertsWhole sdp (Ok x) = IsWhole sdp
AssertsWhole sdp (Err (Inconsistent text)) = (IsWhole sdp → ⊥) × (string_bytes text ≡ whole_fault)
AssertsWhole sdp (Err Memory) = Unit {0}
AssertsWhole sdp (Err (ParseError text)) = ⊥
