use Rattle.std.proofs.Common.{[], ◌∷◌, arith, inl, inr}
use Rattle.sdp_formats_values.specs.declared.param.FormatParam.TheVariants.{Apt, Red}
use Rattle.sdp_formats_laws.proofs.printed_parameters.links_law.Goals as goal

pub returns : goal.returns
returns c = λ pt h. (
  c.parameter_lists_law.ensures (Apt pt ∷ []) (inl (omega (h, arith), tt)),
  c.parameter_lists_law.ensures (Red pt ∷ []) (inr (inr (omega (h, arith)))),
)
