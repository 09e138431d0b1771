use Rattle.std.proofs.Common.{sym, ◌∙◌, ap}
use Rattle.std.specs.Option.{option_copied}
use Rattle.rtp_media_program.specs.Words.{ended, words_in}
use Rattle.rtp_media_program.proofs.Splits.{ended-words_of}
use Rattle.rtp_media_program.proofs.words.WordsLeft.end.Goals as goal

pub returns-in-Some-clause-value : goal.returns-in-Some-clause-value
returns-in-Some-clause-value c =
    ap (λ words. ended words tt) (sym c.self.view_is ∙ ap (λ rest. words_in (option_copied rest)) c.in-Some.is)
    ∙ ended-words_of c.in-Some.field-0.now tt
