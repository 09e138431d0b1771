-- What is printed of exchanges that are made.
use Rattle.std.proofs.Common.{◌≡◌, ◌⊎◌, ◌&&◌, ℕ, Bool, true, List, [], ◌∷◌, Result, Ok, Err, IfOk, inl, sym, subst}
use Rattle.rtp_media_ends.specs.Connections.{Connects}
use Rattle.rtp_media_ends.specs.Ends.{EndState, with_exchange}
use Rattle.rtp_media_exchange.specs.Offers.{Answers}
use Rattle.rtp_media_exchange.specs.Refusals.{MayAnswer, RefusesAnswer}
use Rattle.rtp_media_sections.specs.Sections.{Wanted, are_sound}
use Rattle.rtp_media_ends.specs.Stops.{Where}
use Rattle.rtp_media_program.specs.declared.reply.Reply.{Reply}
use Rattle.rtp_media_program.specs.declared.reply.Reply.TheVariants as reply
use Rattle.rtp_media_program.specs.Exchanging.{AnswersAnswer, AnswersConnect, PrintsAnswer, PrintsBoth, PrintsNeither}
use Rattle.rtp_media_program.specs.Exchanging.{PrintsRefusal}
use Rattle.rtp_media_program.specs.Replies.{Prints}

pub if_ok : {A E : Type 0} {P Q : A → Type 0} (r : Result A E) → ((a : A) → P a → Q a) → IfOk r P → IfOk r Q
if_ok (Ok a) f h = f a h
if_ok (Err e) f h = tt

-- sections are those that words name, and their repairs fit
pub answer_printed : (e : EndState) (text : List ℕ) (sections wanted : List Wanted) (answer : List ℕ)
    (after : EndState) (replies : List Reply) → sections ≡ wanted → are_sound sections ≡ true
    → MayAnswer e.exchange text sections → Answers e.exchange text sections answer after.exchange
    → after ≡ with_exchange e after.exchange → Prints replies (reply.Text answer)
    → AnswersAnswer e text wanted after replies
answer_printed e text sections wanted answer after replies same sound may answers streams printed =
    let fit : are_sound wanted ≡ true = subst (λ (ws : List Wanted). are_sound ws ≡ true) same sound in
    subst (λ (b : Bool). Where b (PrintsAnswer e text wanted after replies
    ⊎ PrintsRefusal e after (RefusesAnswer e.exchange text wanted) replies)
    ((after ≡ e) × Prints replies reply.ErrorLine)) (sym fit) (inl (record {
      answer = answer;
      may_answer = subst (λ (ws : List Wanted). MayAnswer e.exchange text ws) same may;
      answers = subst (λ (ws : List Wanted). Answers e.exchange text ws answer after.exchange) same answers;
      streams = streams;
      printed = printed;
    }))

pub both_printed : (a b : EndState) (offered answered : List Wanted) (offer answer : List ℕ)
    (after_a after_b : EndState)
    (replies : List Reply) → are_sound offered ≡ true → are_sound answered ≡ true
    → Connects a b offered answered offer answer after_a after_b
    → replies ≡ reply.Text offer ∷ reply.Text answer ∷ []
    → AnswersConnect a b offered answered after_a after_b replies
both_printed a b offered answered offer answer after_a after_b replies sound_a sound_b connects printed =
    let fit : (are_sound offered && are_sound answered) ≡ true =
    subst (λ (s : Bool). (s && are_sound answered) ≡ true) (sym sound_a) sound_b in
    subst (λ (t : Bool). Where t (PrintsBoth a b offered answered after_a after_b replies
    ⊎ PrintsNeither a b offered answered after_a after_b replies)
    ((after_a ≡ a) × (after_b ≡ b) × Prints replies reply.ErrorLine)) (sym fit) (inl (record {
      offer = offer;
      answer = answer;
      connects = connects;
      printed = printed;
    }))
