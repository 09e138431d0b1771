-- Refusals of what a text says.
use Rattle.std.proofs.Common.{◌≡◌, ◌≢◌, ℕ, List, None, inl, inr, ◌∙◌, ap, map, sym}
use Rattle.sdp_formats_data.specs.declared.media.MediaLine.{MediaLine}
use Rattle.rtp_media_exchange.specs.Exchanges.{Exchanged}
use Rattle.rtp_media_sections.specs.Lines.{section_of}
use Rattle.rtp_media_exchange.specs.Refusals.{MayAccept, MayAnswer}
use Rattle.rtp_media_exchange.specs.Refusals.{Refuses, RefusesAccept, RefusesAnswer}
use Rattle.rtp_media_exchange.specs.Refusals.{refusal_of_accept, refusal_of_answer}
use Rattle.rtp_media_exchange.specs.Says.{SaysSections}
use Rattle.rtp_media_exchange.specs.declared.errors.ExchangeError.{ExchangeError}
use Rattle.rtp_media_exchange.specs.declared.errors.ExchangeError.TheVariants.{Unreadable, OutOfTurn, NotMedia}
use Rattle.rtp_media_exchange.specs.declared.errors.ExchangeError.TheVariants.{NotCorresponding, Round}
use Rattle.rtp_media_exchange.specs.declared.errors.ExchangeError.TheVariants.{NoCommonRow}
use Rattle.rtp_media_exchange.specs.declared.errors.ExchangeError.TheVariants.{NotWritable, Memory}
use Rattle.rtp_media_sections.specs.Sections.{Section, Wanted}

-- what holds of want of memory, and of each other error, holds of all
unless_memory : (P : ExchangeError → Type 0) → P Memory → (e : ExchangeError) → (e ≢ Memory → P e) → P e
unless_memory P m (Unreadable t) h = h (λ eq. cc eq)
unless_memory P m OutOfTurn h = h (λ eq. cc eq)
unless_memory P m (NotMedia mid) h = h (λ eq. cc eq)
unless_memory P m NotCorresponding h = h (λ eq. cc eq)
unless_memory P m (Round r) h = h (λ eq. cc eq)
unless_memory P m (NoCommonRow mid) h = h (λ eq. cc eq)
unless_memory P m NotWritable h = h (λ eq. cc eq)
unless_memory P m Memory h = m

-- an answer that isn't given for what the text says
pub refuses_answer : (x : Exchanged) (text : List ℕ) (wanted : List Wanted) (sections : List Section)
    (e : ExchangeError) → SaysSections text sections → Refuses e (refusal_of_answer x sections wanted)
    → RefusesAnswer x text wanted e
refuses_answer x text wanted sections e says h =
    unless_memory (RefusesAnswer x text wanted) (inl tt) e (λ other. inr (sections, says, h other))

-- an answer that isn't accepted for what its text says
pub refuses_accept : (x : Exchanged) (text : List ℕ) (sections : List Section) (e : ExchangeError)
    → SaysSections text sections → Refuses e (refusal_of_accept x sections) → RefusesAccept x text e
refuses_accept x text sections e says h =
    unless_memory (RefusesAccept x text) (inl tt) e (λ other. inr (sections, says, h other))

pub may_answer : (x : Exchanged) (text : List ℕ) (wanted : List Wanted) (sections : List Section)
    → SaysSections text sections → refusal_of_answer x sections wanted ≡ None → MayAnswer x text wanted
may_answer x text wanted sections says none lines s =
    ap (λ (ls : List MediaLine). refusal_of_answer x (map section_of ls) wanted) (says.says.only lines s)
    ∙ ap (λ (ss : List Section). refusal_of_answer x ss wanted) (sym says.sections_are) ∙ none

pub may_accept : (x : Exchanged) (text : List ℕ) (sections : List Section)
    → SaysSections text sections → refusal_of_accept x sections ≡ None → MayAccept x text
may_accept x text sections says none lines s =
    ap (λ (ls : List MediaLine). refusal_of_accept x (map section_of ls)) (says.says.only lines s)
    ∙ ap (refusal_of_accept x) (sym says.sections_are) ∙ none
