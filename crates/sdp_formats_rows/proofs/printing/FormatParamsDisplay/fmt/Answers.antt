use Rattle.std.proofs.Common.{◌≡◌, ◌∙◌, ◌++◌, ◌∷◌, ◌+◌, ◌<◌, ℕ, List, Option, ap, arith, drop, drop-cons, get_or}
use Rattle.std.proofs.Common.{length}
use Rattle.std.proofs.Common.{refl, subst, suc, sym}
use Rattle.std.proofs.Output.{has_written_append}
use Rattle.std.specs.Fmt.{HasWritten}
use Rattle.sdp_formats_values.specs.PrintedParameters.{param_text}
use Rattle.sdp_formats_values.specs.declared.param.FormatParam.{FormatParam}
use Rattle.sdp_formats_rows.specs.Texts.{format_text, part_text}
use Rattle.sdp_formats_rows.proofs.Parts.{part_missing, part_written, texts_left, texts_of}
use Rattle.sdp_formats_rows.proofs.printing.FormatParamsDisplay.fmt.Goals as goal
use Rattle.sdp_formats_rows.proofs.printing.FormatParamsDisplay.fmt.Goals.{in-Some+in_ok-write, in_default}

-- the parameters from this one on
from_here : (params : List (Option FormatParam)) (at : ℕ) (here : Option FormatParam) → at < length params
    → here ≡ get_or params at here → drop at params ≡ here ∷ drop (at + 1) params
from_here params at here below is =
    let next : suc at ≡ at + 1 = omega arith in
    drop-cons params at here below ∙ (λ i. sym is i ∷ drop (next i) params)

pub loop-param-preserved : goal.loop-param-preserved
loop-param-preserved g c = λ plain.
    let i = c.loop-param.invariant plain in
    let at = c.loop-param.param-index in
    let all : List (Option FormatParam) = c.each_param.result in
    let rest : List (Option FormatParam) = drop (at + 1) all in
    let below : at < length all = omega (c.loop-param-test.true, c.type_inv.param-items, arith) in
    let here = from_here all at c.param-item.result below c.param-item.is in
    elim c.match-param.branch [
      | in-Some+in_ok-write w ↦
          let now : List ℕ = i.0 ++ part_text c.loop-param.is_first (param_text w.in-Some.given) in (
            now,
            subst (λ f. HasWritten g.W.Write.write_str_gives c.args.f.now now f) (sym w.f-is)
                (has_written_append _ _ _ _ _ _ i.1 (w.in_ok-write.ensures.writes i.1.plain refl)),
            subst (λ first. format_text c.args.self.now ≡ now ++ texts_left first (texts_of rest)) (sym w.is_first-is)
                (part_written w.in-Some.given (drop at all) rest i.0 _ c.loop-param.is_first
                (here ∙ ap (λ (p : Option FormatParam). p ∷ rest) (c.param-item.is ∙ w.in-Some.is)) i.2),
          )
      | in_default w ↦ (
        i.0,
        subst (λ f. HasWritten g.W.Write.write_str_gives c.args.f.now i.0 f) (sym w.f-is) i.1,
        subst (λ first. format_text c.args.self.now ≡ i.0 ++ texts_left first (texts_of rest)) (sym w.is_first-is)
            (part_missing (drop at all) rest i.0 _ c.loop-param.is_first
            (here ∙ ap (λ (p : Option FormatParam). p ∷ rest) (c.param-item.is ∙ w.in_default.is)) i.2),
      )
    ]
