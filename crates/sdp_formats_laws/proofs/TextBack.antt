-- Parameters of some text that is read as themselves.
use Rattle.std.proofs.Common.{◌≡◌, List, ◌∷◌, Some}
use Rattle.sdp_formats_reader.specs.AsRead.{params_as_read}
use Rattle.sdp_formats_values.specs.declared.param.FormatParam.{FormatParam}
use Rattle.sdp_formats_reader.specs.Parameters.{parameters}
use Rattle.sdp_formats_data.specs.PrintedMedia.{params_text}
use Rattle.sdp_formats_laws.specs.PrintedParameters.{IsReadBack}
use Rattle.sdp_formats_laws.specs.Printable.{IsText}

pub text_back : (p : FormatParam) (ps : List FormatParam) → IsText (params_text (p ∷ ps))
    → parameters.reads (params_text (p ∷ ps)) ≡ Some (params_as_read (p ∷ ps)) → IsReadBack (p ∷ ps)
text_back p ps h reads = ((h.1, h.2), (λ other. h.0), reads)
