use Rattle.std.proofs.Common.{◌≡◌, ℕ, List, [], Option, Some, None, Bor, refl, ◌∙◌, ap, lit<}
use Rattle.std.specs.List.{slice_split}
use Rattle.std.specs.Option.{option_map, unwrap_or}
use Rattle.std.specs.Prelude.{slice_get, ◌==◌}
use Rattle.std.proofs.lemmas.Iterator.Consumers.{nth_from_yields_List}
use Rattle.std.proofs.lemmas.Iterator.Splits.{YieldsList-from_str_split}
use Rattle.std.proofs.lemmas.Option.{unwrap_or-slice_get}
use Rattle.rtp_media_program.proofs.lines.word_at.Goals as goal

now_or : (r : Option (Bor (List ℕ))) (d : Bor (List ℕ))
    → (unwrap_or r d).now ≡ unwrap_or (option_map (λ x. x.now) r) d.now
now_or None d = refl
now_or (Some x) d = refl

pub returns : goal.returns
returns c =
    let words = slice_split (λ b. b == 32) c.args.line.now in
    let found : option_map (λ x. x.now) c.nth.result ≡ slice_get words c.args.place =
    nth_from_yields_List _ _ c.args.place c.nth.ensures.ran
    (YieldsList-from_str_split 32 c.args.line.now (lit< tt) c.split.ensures.text c.split.ensures.has_more
    c.split.ensures.pattern) in
    ap (λ x. x.now) c.unwrap_or.ensures ∙ now_or c.nth.result _
    ∙ ap (λ o. unwrap_or o []) found ∙ unwrap_or-slice_get words c.args.place []
