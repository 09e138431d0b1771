-- A run goes on by one byte, and ends.
use Rattle.std.proofs.Common.{◌≡◌, ℕ, ◌==◌, Bool, true, false, ◌||◌, cond, List, [], ◌∷◌, ◌++◌, Option, Some, refl}
use Rattle.std.proofs.Common.{sym, ◌∙◌, ap, subst, append_assoc, append-nil}
use Rattle.std.specs.List.{flat_map, list_any}
use Rattle.std.specs.Io.KnownBytes.{Appends, Keeps}
use Rattle.std.proofs.lemmas.Grind.{flat_map-append}
use Rattle.std.proofs.KnownBytes.{Appends-trans, Appends-nil, Appends-kept}
use Rattle.rtp_media_program.specs.declared.command.Command.{Command}
use Rattle.rtp_media_program.specs.declared.reply.Reply.{Reply}
use Rattle.rtp_media_program.specs.declared.status.Status.{Status}
use Rattle.rtp_media_program.specs.declared.status.Status.TheVariants.{Success, ErrorLine}
use Rattle.rtp_media_program.specs.Input.{lines_of, kept, longer}
use Rattle.rtp_media_program.specs.ReplyLines.{reply_text, is_error_line}
use Rattle.rtp_media_program.specs.Runs.{Answers, AnswersAll, Printed, status_of}
use Rattle.rtp_media_program.specs.Statuses.{worse}
use Rattle.rtp_media_program.specs.Progress.{PrintedOne, Progress}
use Rattle.rtp_media_program.proofs.InputLines.{lines_of-feed, lines_of-some, lines_of-nothing, kept-empty}
use Rattle.rtp_media_program.proofs.InputLines.{HasNoFeed-push, longer-kept}

-- ---- statuses

worse_status : (first others : Bool) → worse (cond first ErrorLine Success) (cond others ErrorLine Success)
    ≡ cond (first || others) ErrorLine Success
worse_status true others = refl
worse_status false others = refl

or_assoc : (a b c : Bool) → (a || (b || c)) ≡ ((a || b) || c)
or_assoc true b c = refl
or_assoc false b c = refl

list_any-append : {X : Type 0} (p : X → Bool) (xs ys : List X) → list_any p (xs ++ ys)
    ≡ (list_any p xs || list_any p ys)
list_any-append p [] ys = refl
list_any-append p (x ∷ xs) ys = ap (λ some. p x || some) (list_any-append p xs ys)
    ∙ or_assoc (p x) (list_any p xs) (list_any p ys)

pub status_of-append : (first others : List Reply) → worse (status_of first) (status_of others)
    ≡ status_of (first ++ others)
status_of-append first others =
    worse_status (list_any is_error_line first) (list_any is_error_line others)
    ∙ ap (λ some. cond some ErrorLine Success) (sym (list_any-append is_error_line first others))

-- ---- replies

pub texts-append : (first others : List Reply) → flat_map reply_text first ++ flat_map reply_text others
    ≡ flat_map reply_text (first ++ others)
texts-append first others = sym (flat_map-append reply_text first others)

module _ {S : Type 0} (gives : S → Command → S → List Reply → Type 0) where
  -- one line more is answered
  pub AnswersAll-more : (old mid new : S) (lines : List (Option (List ℕ))) (line : Option (List ℕ))
      (first others : List Reply)
      → AnswersAll gives old lines mid first → Answers gives mid line new others
      → AnswersAll gives old (lines ++ line ∷ []) new (first ++ others)
  AnswersAll-more old mid new [] line first others all one = (
    new,
    others,
    [],
    subst (λ (s : S). Answers gives s line new others) all.0 one,
    (refl, refl),
    ap (λ rs. rs ++ others) all.1 ∙ sym (append-nil others),
  )
  AnswersAll-more old mid new (head ∷ lines) line first others all one = (
    all.0,
    all.1,
    all.2 ++ others,
    all.3,
    AnswersAll-more all.0 mid new lines line all.2 others all.4 one,
    ap (λ rs. rs ++ others) all.5 ∙ append_assoc all.1 all.2 others,
  )

  -- a byte other than a line feed is held
  pub Progress-byte : (start : S) (before : Option (List ℕ)) (seen : List ℕ) (state : S)
      (after held : Option (List ℕ)) (status : Status) (byte : ℕ)
      → (byte == 10) ≡ false → Progress gives start before seen state after held status
      → Progress gives start before (seen ++ byte ∷ []) state after (longer held byte) status
  Progress-byte start before seen state after held status byte other p = record {
    ended = p.ended;
    tail = p.tail ++ byte ∷ [];
    replies = p.replies;
    parts = λ rest.
        ap lines_of (append_assoc seen (byte ∷ []) rest) ∙ p.parts (byte ∷ rest)
        ∙ ap (λ input. p.ended ++ lines_of input) (sym (append_assoc p.tail (byte ∷ []) rest));
    unended = HasNoFeed-push p.tail byte p.unended other;
    held_is = ap (λ line. longer line byte) p.held_is ∙ longer-kept p.tail byte;
    answers = p.answers;
    printed = p.printed;
    status_is = p.status_is;
  }

  -- a line feed ends the line that is held, which is answered
  pub Progress-feed : (start : S) (before : Option (List ℕ)) (seen : List ℕ) (state : S)
      (after held : Option (List ℕ)) (status : Status) (next : S) (later : Option (List ℕ)) (more : Status)
      → Progress gives start before seen state after held status → PrintedOne gives state held next after later more
      → Progress gives start before (seen ++ 10 ∷ []) next later (Some []) (worse status more)
  Progress-feed start before seen state after held status next later more p one = record {
    ended = p.ended ++ kept p.tail ∷ [];
    tail = [];
    replies = p.replies ++ one.replies;
    parts = λ rest.
        ap lines_of (append_assoc seen (10 ∷ []) rest) ∙ p.parts (10 ∷ rest)
        ∙ ap (λ lines. p.ended ++ lines) (lines_of-feed p.tail rest p.unended)
        ∙ sym (append_assoc p.ended (kept p.tail ∷ []) (lines_of rest));
    unended = tt;
    held_is = refl;
    answers = AnswersAll-more start state next p.ended (kept p.tail) p.replies one.replies p.answers
        (subst (λ line. Answers gives state line next one.replies) p.held_is one.answers);
    printed = subst (Appends before later) (texts-append p.replies one.replies)
        (Appends-trans before after later _ _ p.printed one.printed);
    status_is = ap (λ s. worse s more) p.status_is ∙ ap (λ s. worse (status_of p.replies) s) one.status_is
        ∙ status_of-append p.replies one.replies;
  }

  -- before the first byte
  pub Progress-start : (start : S) (before : Option (List ℕ))
      → Progress gives start before [] start before (Some []) Success
  Progress-start start before = record {
    ended = [];
    tail = [];
    replies = [];
    parts = λ rest. refl;
    unended = tt;
    held_is = refl;
    answers = (refl, refl);
    printed = Appends-nil before;
    status_is = refl;
  }

  -- the lines of all that was seen
  pub whole : {start state : S} {before after held : Option (List ℕ)} {seen : List ℕ} {status : Status}
      (p : Progress gives start before seen state after held status)
      → lines_of seen ≡ p.ended ++ lines_of p.tail
  whole {seen = seen} p =
      ap lines_of (sym (append-nil seen)) ∙ p.parts [] ∙ ap (λ tail. p.ended ++ lines_of tail) (append-nil p.tail)

  -- the input ends after a line feed, or is empty
  pub Printed-ended : (start : S) (before : Option (List ℕ)) (seen : List ℕ) (state : S)
      (after held : Option (List ℕ)) (status : Status)
      → held ≡ Some [] → Progress gives start before seen state after held status
      → Printed gives start state before after seen status
  Printed-ended start before seen state after held status empty p =
      let none = kept-empty p.tail (sym p.held_is ∙ empty) in
      let lines : lines_of seen ≡ p.ended =
      whole p ∙ ap (λ tail. p.ended ++ lines_of tail) none ∙ ap (λ lines. p.ended ++ lines) lines_of-nothing
      ∙ append-nil p.ended in
      record {
        replies = p.replies;
        answers = subst (λ lines. AnswersAll gives start lines state p.replies) (sym lines) p.answers;
        printed = p.printed;
        status_is = p.status_is;
      }

  -- the input ends after a line that isn't empty
  pub Printed-last : (start : S) (before : Option (List ℕ)) (seen : List ℕ) (state : S)
      (after held : Option (List ℕ)) (status : Status) (next : S) (later : Option (List ℕ)) (more : Status)
      → (held ≡ Some [] → ⊥) → Progress gives start before seen state after held status
      → PrintedOne gives state held next after later more
      → Printed gives start next before later seen (worse status more)
  Printed-last start before seen state after held status next later more some p one =
      let lines : lines_of seen ≡ p.ended ++ kept p.tail ∷ [] =
      whole p ∙ ap (λ lines. p.ended ++ lines)
      (lines_of-some p.tail p.unended (λ none. some (p.held_is ∙ ap kept none))) in
      record {
        replies = p.replies ++ one.replies;
        answers = subst (λ lines. AnswersAll gives start lines next (p.replies ++ one.replies)) (sym lines)
            (AnswersAll-more start state next p.ended (kept p.tail) p.replies one.replies p.answers
            (subst (λ line. Answers gives state line next one.replies) p.held_is one.answers));
        printed = subst (Appends before later) (texts-append p.replies one.replies)
            (Appends-trans before after later _ _ p.printed one.printed);
        status_is = ap (λ s. worse s more) p.status_is ∙ ap (λ s. worse (status_of p.replies) s) one.status_is
            ∙ status_of-append p.replies one.replies;
      }

  -- what is printed stays so if the writer keeps it
  pub Printed-kept : (start : S) (before : Option (List ℕ)) (seen : List ℕ) (state : S)
      (after later : Option (List ℕ)) (status : Status)
      → Printed gives start state before after seen status → Keeps after later
      → Printed gives start state before later seen status
  Printed-kept start before seen state after later status p keeps = record {
    replies = p.replies;
    answers = p.answers;
    printed = Appends-kept before after later (flat_map reply_text p.replies) p.printed keeps;
    status_is = p.status_is;
  }
