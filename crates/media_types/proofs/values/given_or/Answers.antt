use Rattle.std.proofs.Common.{◌∙◌, sym, ap, option_map}
use Rattle.media_types.specs.Values.{given_or}
use Rattle.media_types.proofs.Digits.{byte_written-parse}
use Rattle.media_types.proofs.values.given_or.Goals as goal

pub returns-in-Some : goal.returns-in-Some
returns-in-Some c = c.ok.ensures.value ∙ byte_written-parse c.in-Some.text.now _ c.parse.ensures.value.0
    ∙ sym (ap (λ value. given_or c.args.absent (option_map (λ t. t.now) value)) c.in-Some.is)
