-- Errors as they are printed.
use Rattle.std.specs.Prelude.{ℕ, List, ◌++◌, codes}
use Rattle.std.specs.String.{string_bytes}
use Rattle.sdp_formats_data.specs.declared.error.SdpError.{SdpError}
use Rattle.sdp_formats_data.specs.declared.error.SdpError.TheVariants.{ParseError, Inconsistent, Memory}

-- The kind of the error, and its details.
abbrev pub error_text : SdpError → List ℕ
error_text (ParseError text) = codes "SDP parse: " ++ string_bytes text
error_text (Inconsistent text) = codes "SDP inconsistent: " ++ string_bytes text
error_text Memory = codes "SDP: out of memory"
