-- A run that stops at a fault.
use Rattle.std.proofs.Common.{◌≡◌, inl, inr, ℕ, List, [], ◌∷◌, ◌++◌, Option, Some, take, drop, sym, ◌∙◌, ap, subst}
use Rattle.std.proofs.Common.{append_assoc, append-nil, None, Result, Ok, Err, ◌+◌, ◌<◌, length, get_or}
use Rattle.std.specs.Prelude.{IfSome, OnErr}
use Rattle.std.proofs.lemmas.List.{take-append-drop, take_more}
use Rattle.std.specs.List.{flat_map}
use Rattle.std.specs.Io.KnownBytes.{Consumes, Keeps}
use Rattle.std.proofs.KnownBytes.{Appends-kept, Appends-trans}
use Rattle.rtp_media_program.specs.declared.command.Command.{Command}
use Rattle.rtp_media_program.specs.declared.reply.Reply.{Reply}
use Rattle.rtp_media_program.specs.ReplyLines.{reply_text}
use Rattle.rtp_media_program.specs.Input.{kept, lines_of}
use Rattle.rtp_media_program.specs.Progress.{Progress}
use Rattle.rtp_media_program.specs.Runs.{Answers, Printed}
use Rattle.rtp_media_program.specs.Stops.{StoppedOne, WritesFront}
use Rattle.rtp_media_program.specs.Writes.{AppendsFront}
use Rattle.rtp_media_program.specs.declared.status.Status.{Status}
use Rattle.rtp_media_program.proofs.InputLines.{lines_of-feed, lines_of-some}
use Rattle.rtp_media_program.proofs.Steps.{AnswersAll-more, texts-append, whole}

-- what holds anyway holds of an error
pub on_err : {T E : Type 0} {P : Type 0} (r : Result T E) → P → OnErr r P
on_err (Ok x) p = tt
on_err (Err e) p = p

-- what holds of each input that begins with what was consumed holds of the known one
pub consumed-front : (a b : Option (List ℕ)) (front : List ℕ) (P : List ℕ → Type 0) → Consumes a b front
    → ((rest : List ℕ) → P (front ++ rest)) → IfSome a P
consumed-front None b front P p h = tt
consumed-front (Some x) None front P p h = absurd p
consumed-front (Some x) (Some y) front P p h = subst P (sym p) (h y)

-- a byte in its place
pub piece-parts : (seen piece rest : List ℕ) (i d : ℕ) → i < length piece
    → ((seen ++ take i piece) ++ get_or piece i d ∷ []) ++ (drop (i + 1) piece ++ rest) ≡ (seen ++ piece) ++ rest
piece-parts seen piece rest i d lt =
    ap (λ front. front ++ (drop (i + 1) piece ++ rest)) (append_assoc seen (take i piece) (get_or piece i d ∷ [])
    ∙ ap (λ text. seen ++ text) (sym (take_more piece i d lt)))
    ∙ append_assoc seen (take (i + 1) piece) (drop (i + 1) piece ++ rest)
    ∙ ap (λ text. seen ++ text) (sym (append_assoc (take (i + 1) piece) (drop (i + 1) piece) rest)
    ∙ ap (λ text. text ++ rest) (take-append-drop (i + 1) piece))
    ∙ sym (append_assoc seen piece rest)

module _ {S : Type 0} (gives : S → Command → S → List Reply → Type 0) where
  -- nothing is written of the line in turn
  pub stopped-between : (start : S) (before : Option (List ℕ)) (seen : List ℕ) (state : S)
      (after held : Option (List ℕ)) (status : Status) (later : Option (List ℕ))
      → Progress gives start before seen state after held status → Keeps after later
      → (rest : List ℕ) → WritesFront gives start before later (lines_of (seen ++ rest))
  stopped-between start before seen state after held status later p keeps rest = record {
    first = p.ended;
    others = lines_of (p.tail ++ rest);
    state = state;
    replies = p.replies;
    left = [];
    are = p.parts rest;
    answers = p.answers;
    written = (
      flat_map reply_text p.replies,
      sym (append-nil (flat_map reply_text p.replies)),
      Appends-kept before after later (flat_map reply_text p.replies) p.printed keeps,
    );
  }

  -- a front of the replies to the line in turn is written
  pub stopped-within : (start : S) (before : Option (List ℕ)) (seen : List ℕ) (state : S)
      (after held : Option (List ℕ)) (status : Status) (later : Option (List ℕ)) (new : S) (replies : List Reply)
      (lines more : List (Option (List ℕ)))
      → (p : Progress gives start before seen state after held status)
      → Answers gives state held new replies → AppendsFront after later (flat_map reply_text replies)
      → lines ≡ p.ended ++ kept p.tail ∷ more → WritesFront gives start before later lines
  stopped-within start before seen state after held status later new replies lines more p one front is = record {
    first = p.ended ++ kept p.tail ∷ [];
    others = more;
    state = new;
    replies = p.replies ++ replies;
    left = front.0;
    are = is ∙ sym (append_assoc p.ended (kept p.tail ∷ []) more);
    answers = AnswersAll-more gives start state new p.ended (kept p.tail) p.replies replies p.answers
        (subst (λ line. Answers gives state line new replies) p.held_is one);
    written = (
      flat_map reply_text p.replies ++ front.2.0,
      sym (texts-append p.replies replies)
          ∙ ap (λ text. flat_map reply_text p.replies ++ text) front.2.1
          ∙ sym (append_assoc (flat_map reply_text p.replies) front.2.0 front.0),
      Appends-trans before after later (flat_map reply_text p.replies) front.2.0 p.printed front.2.2,
    );
  }

  -- a line feed ends the line in turn
  pub stopped-feed : (start : S) (before : Option (List ℕ)) (seen : List ℕ) (state : S)
      (after held : Option (List ℕ)) (status : Status) (later : Option (List ℕ))
      → Progress gives start before seen state after held status → StoppedOne gives state held after later
      → (rest : List ℕ) → WritesFront gives start before later (lines_of ((seen ++ 10 ∷ []) ++ rest))
  stopped-feed start before seen state after held status later p (inl keeps) rest =
      subst (λ input. WritesFront gives start before later (lines_of input)) (sym (append_assoc seen (10 ∷ []) rest))
      (stopped-between start before seen state after held status later p keeps (10 ∷ rest))
  stopped-feed start before seen state after held status later p (inr one) rest =
      stopped-within start before seen state after held status later one.0 one.1
      (lines_of ((seen ++ 10 ∷ []) ++ rest)) (lines_of rest) p one.2 one.3
      (ap lines_of (append_assoc seen (10 ∷ []) rest) ∙ p.parts (10 ∷ rest)
      ∙ ap (λ lines. p.ended ++ lines) (lines_of-feed p.tail rest p.unended))

  -- the input ends the line in turn
  pub stopped-end : (start : S) (before : Option (List ℕ)) (seen : List ℕ) (state : S)
      (after held : Option (List ℕ)) (status : Status) (later : Option (List ℕ))
      → (held ≡ Some [] → ⊥) → Progress gives start before seen state after held status
      → StoppedOne gives state held after later → WritesFront gives start before later (lines_of seen)
  stopped-end start before seen state after held status later some p (inl keeps) =
      subst (λ input. WritesFront gives start before later (lines_of input)) (append-nil seen)
      (stopped-between start before seen state after held status later p keeps [])
  stopped-end start before seen state after held status later some p (inr one) =
      stopped-within start before seen state after held status later one.0 one.1 (lines_of seen) [] p one.2 one.3
      (whole gives p ∙ ap (λ lines. p.ended ++ lines)
      (lines_of-some p.tail p.unended (λ none. some (p.held_is ∙ ap kept none))))

  -- all lines were answered, and their replies written
  pub stopped-behind : (start new : S) (before after later : Option (List ℕ)) (input : List ℕ) (status : Status)
      → Printed gives start new before after input status → Keeps after later
      → WritesFront gives start before later (lines_of input)
  stopped-behind start new before after later input status p keeps = record {
    first = lines_of input;
    others = [];
    state = new;
    replies = p.replies;
    left = [];
    are = sym (append-nil (lines_of input));
    answers = p.answers;
    written = (
      flat_map reply_text p.replies,
      sym (append-nil (flat_map reply_text p.replies)),
      Appends-kept before after later (flat_map reply_text p.replies) p.printed keeps,
    );
  }
