-- What the program answers to the commands that exchange texts.
use Rattle.std.specs.Prelude.{ℕ, ◌≡◌, ◌⊎◌, ◌&&◌, if◌then◌else◌, is_some, List}
use Rattle.std.specs.List.{filter_map}
use Rattle.std.specs.Option.{option_map}
use Rattle.std.specs.Prelude.{[], ◌∷◌, map, Option, Some, None}
use Rattle.std.specs.Str.{is_utf8}
use Rattle.rtp_wire.specs.Name.{name_of}
use Rattle.sdp_formats_data.specs.PrintedSession.{sdp_text}
use Rattle.rtp_media_exchange.specs.declared.errors.ExchangeError.{ExchangeError}
use Rattle.rtp_media_exchange.specs.Exchanges.{with_offer}
use Rattle.rtp_media_exchange.specs.Offers.{Accepts, Answers, offer_of}
use Rattle.rtp_media_exchange.specs.Refusals.{MayAccept, MayAnswer, Refuses, RefusesAccept, RefusesAnswer}
use Rattle.rtp_media_exchange.specs.Refusals.{refusal_of_offer}
use Rattle.rtp_media_sections.specs.Sections.{Wanted, are_sound}
use Rattle.rtp_media_ends.specs.Connections.{Connects, IsRefused, offering}
use Rattle.rtp_media_ends.specs.Ends.{EndState, with_exchange}
use Rattle.rtp_media_ends.specs.Stops.{Where}
use Rattle.rtp_media_program.specs.declared.exchange.ConnectCommand.{ConnectCommand}
use Rattle.rtp_media_program.specs.declared.sections.SectionWord.{SectionWord}
use Rattle.rtp_media_program.specs.declared.sections.SourceWord.{SourceWord}
use Rattle.rtp_media_program.specs.declared.reply.Reply.{Reply}
use Rattle.rtp_media_program.specs.declared.reply.Reply.TheVariants as reply
use Rattle.rtp_media_program.specs.Replies.{Prints}
use Rattle.rtp_media_program.specs.ExchangeErrorNames.{exchange_error_name}

-- The (SSRC, RTX SSRC) pair of a source that has an RTX stream.
abbrev pub pair_of : SourceWord → Option (ℕ × ℕ)
pair_of s = option_map (λ repair. (s.ssrc, repair)) s.repair

-- The section that a word names.
abbrev pub wanted_of : SectionWord → Wanted
wanted_of s = record {
  mid = name_of 16 s.mid;
  kind = s.kind;
  dir = s.direction;
  ssrcs = map (λ source. source.ssrc) s.sources;
  repairs = filter_map pair_of s.sources;
}

abbrev pub wanted_in : List SectionWord → List Wanted
wanted_in sections = map wanted_of sections

-- The RTX pairs of a line's sections must fit their SSRCs.
abbrev pub WithSound : List Wanted → EndState → EndState → List Reply → Type 0 → Type 0
WithSound sections e after replies answers =
    Where (are_sound sections) answers ((after ≡ e) × Prints replies reply.ErrorLine)

-- An offer's text is printed, if nothing refuses it.
pub record PrintsOffer (e : EndState) (sections : List Wanted) (after : EndState) (replies : List Reply) : Type 0 where
  pub text : List ℕ
  pub may_offer : refusal_of_offer e.exchange sections ≡ None
  pub text_is : text ≡ sdp_text (offer_of e.exchange sections)
  pub is_pending : after ≡ offering e sections
  pub printed : Prints replies (reply.Text text)

-- The call's refusal is printed by name, and the end doesn't change.
pub record PrintsRefusal (e after : EndState) (names : ExchangeError → Type 0) (replies : List Reply) : Type 0 where
  pub error : ExchangeError
  pub named : names error
  pub stays : after ≡ e
  pub printed : Prints replies (reply.Refused (exchange_error_name error))

-- offer E SECTION..
abbrev pub AnswersOffer : EndState → List Wanted → EndState → List Reply → Type 0
AnswersOffer e sections after replies = WithSound sections e after replies
    (PrintsOffer e sections after replies ⊎ PrintsRefusal e after
    (λ error. Refuses error (refusal_of_offer e.exchange sections)) replies)

-- An answer's text is printed, if nothing refuses it.
pub record PrintsAnswer (e : EndState) (text : List ℕ) (sections : List Wanted) (after : EndState)
    (replies : List Reply) : Type 0 where
  pub answer : List ℕ
  pub may_answer : MayAnswer e.exchange text sections
  pub answers : Answers e.exchange text sections answer after.exchange
  pub streams : after ≡ with_exchange e after.exchange
  pub printed : Prints replies (reply.Text answer)

-- answer E HEX SECTION..
abbrev pub AnswersAnswer : EndState → List ℕ → List Wanted → EndState → List Reply → Type 0
AnswersAnswer e text sections after replies = WithSound sections e after replies
    (PrintsAnswer e text sections after replies
    ⊎ PrintsRefusal e after (RefusesAnswer e.exchange text sections) replies)

-- An answer is accepted, if nothing refuses it.
pub record PrintsAccept (e : EndState) (text : List ℕ) (after : EndState) (replies : List Reply) : Type 0 where
  pub may_accept : MayAccept e.exchange text
  pub accepts : Accepts e.exchange text after.exchange
  pub streams : after ≡ with_exchange e after.exchange
  pub printed : Prints replies reply.Done

-- accept E HEX
abbrev pub AnswersAccept : EndState → List ℕ → EndState → List Reply → Type 0
AnswersAccept e text after replies =
    PrintsAccept e text after replies ⊎ PrintsRefusal e after
    (RefusesAccept e.exchange text) replies

-- withdraw E
abbrev pub AnswersWithdraw : EndState → EndState → List Reply → Type 0
AnswersWithdraw e after replies =
    (after ≡ with_exchange e (with_offer e.exchange None))
    × Prints replies (if is_some e.exchange.pending then reply.Done else reply.NoOffer)

-- Both texts are printed.
pub record PrintsBoth (a b : EndState) (sections_a sections_b : List Wanted) (after_a after_b : EndState)
    (replies : List Reply) : Type 0 where
  pub offer : List ℕ
  pub answer : List ℕ
  pub connects : Connects a b sections_a sections_b offer answer after_a after_b
  pub printed : replies ≡ reply.Text offer ∷ reply.Text answer ∷ []

pub record PrintsNeither (a b : EndState) (sections_a sections_b : List Wanted) (after_a after_b : EndState)
    (replies : List Reply) : Type 0 where
  pub error : ExchangeError
  pub refused : IsRefused a b sections_a sections_b error after_a after_b
  pub printed : Prints replies (reply.Refused (exchange_error_name error))

-- connect SECTION.. / SECTION..
abbrev pub AnswersConnect : EndState → EndState → List Wanted → List Wanted → EndState → EndState → List Reply → Type 0
AnswersConnect a b sections_a sections_b after_a after_b replies = Where (are_sound sections_a && are_sound sections_b)
    (PrintsBoth a b sections_a sections_b after_a after_b replies
    ⊎ PrintsNeither a b sections_a sections_b after_a after_b replies)
    ((after_a ≡ a) × (after_b ≡ b) × Prints replies reply.ErrorLine)

-- Both ends are connected, if both are there.
abbrev pub ConnectsEnds : Option EndState → Option EndState → ConnectCommand → Option EndState → Option EndState
    → List Reply → Type 0
ConnectsEnds (Some a) (Some b) c (Some after_a) (Some after_b) replies =
    AnswersConnect a b (wanted_in c.offered) (wanted_in c.answered) after_a after_b replies
ConnectsEnds a b c after_a after_b replies = (after_a ≡ a) × (after_b ≡ b) × Prints replies reply.ErrorLine

-- A line that needs an end that isn't there is an error line; otherwise the end answers.
abbrev pub AtEnd : Option EndState → Option EndState → List Reply → (EndState → EndState → Type 0) → Type 0
AtEnd None None replies answers = Prints replies reply.ErrorLine
AtEnd None (Some after) replies answers = ⊥
AtEnd (Some e) None replies answers = ⊥
AtEnd (Some e) (Some after) replies answers = answers e after

-- A line's text must be UTF-8.
abbrev pub WithText : List ℕ → EndState → EndState → List Reply → Type 0 → Type 0
WithText text e after replies answers = Where (is_utf8 text) answers ((after ≡ e) × Prints replies reply.ErrorLine)
