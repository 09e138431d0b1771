-- What was taken so far, and how a run of frames ends.
use Rattle.std.proofs.Common.{◌≡◌, ◌≢◌, ◌<◌, ℕ, List, [], ◌∷◌, ◌++◌, Option, Some, None, Result, Ok, Err, length}
use Rattle.std.specs.Prelude.{OnErr}
use Rattle.std.proofs.Common.{inr, refl, sym, ap, subst, append_assoc, ◌∙◌}
use Rattle.std.proofs.lemmas.List.{append-nil}
use Rattle.payload_core_base.specs.Format.{Format}
use Rattle.payload_core_base.specs.declared.error.PacketError.{PacketError}
use Rattle.payload_core_buffer.specs.Pops.{PopState}
use Rattle.payload_core_buffer.specs.Steps.{Answer, AnswersBy, MediaUnit, PollStep, as_refusal, pop_step}
use Rattle.payload_core_base.specs.declared.error.PacketError.TheVariants.{Memory}
use Rattle.payload_core_buffer.proofs.Stepping.{fewer, other}
use Rattle.stream_recording.specs.Recorded.{Appends, AtEnd, Faults, HandsOut, IsShort, NoneDue, Outcome, Takes}

-- what is taken from here on follows what was taken so far
abbrev pub GoesOn : Format → ℕ → (PollStep PopState → PopState → PopState → Type 0) → PopState → PopState
    → List Outcome → Type 0
GoesOn format hold_back Ends start now taken = (rest : List Outcome) (new : PopState)
    → Takes format hold_back Ends now rest new → Takes format hold_back Ends start (taken ++ rest) new

-- what a pop answers of an outcome
abbrev pub answer-of : Outcome → Answer
answer-of (Ok u) = Ok (Some u)
answer-of (Err e) = Err e

pub record TakenSo (format : Format) (hold_back : ℕ) (start now : PopState) (before after : List Outcome) : Type 0 where
  pub taken : List Outcome
  pub appended : after ≡ before ++ taken
  pub whole : GoesOn format hold_back NoneDue start now taken
  pub short : GoesOn format hold_back IsShort start now taken

module _ (format : Format) (hold_back : ℕ) where
  pub none-taken : (s : PopState) (before : List Outcome) → TakenSo format hold_back s s before before
  none-taken s before = record {
    taken = [];
    appended = sym (append-nil before);
    whole = λ rest new takes. takes;
    short = λ rest new takes. takes;
  }

  longer : (Ends : PollStep PopState → PopState → PopState → Type 0) (start now next : PopState) (taken : List Outcome)
      (o : Outcome) → ((os : List Outcome) (new : PopState) → Takes format hold_back Ends next os new
      → Takes format hold_back Ends now (o ∷ os) new)
      → GoesOn format hold_back Ends start now taken → GoesOn format hold_back Ends start next (taken ++ o ∷ [])
  longer Ends start now next taken o one so rest new takes =
      subst (λ (os : List Outcome). Takes format hold_back Ends start os new)
      (sym (append_assoc taken (o ∷ []) rest)) (so (o ∷ rest) new (one rest new takes))

  -- an outcome more
  pub one-more : (start now next : PopState) (before after items : List Outcome) (o : Outcome)
      → AnswersBy (pop_step format hold_back now) next (Some (answer-of o))
      → TakenSo format hold_back start now before after → items ≡ after ++ o ∷ []
      → TakenSo format hold_back start next before items
  one-more start now next before after items (Ok u) is so same = record {
    taken = so.taken ++ Ok u ∷ [];
    appended = same ∙ ap (λ (os : List Outcome). os ++ Ok u ∷ []) so.appended
        ∙ append_assoc before so.taken (Ok u ∷ []);
    whole = longer NoneDue start now next so.taken (Ok u) (λ os new takes. HandsOut is takes) so.whole;
    short = longer IsShort start now next so.taken (Ok u) (λ os new takes. HandsOut is takes) so.short;
  }
  one-more start now next before after items (Err e) is so same = record {
    taken = so.taken ++ Err e ∷ [];
    appended = same ∙ ap (λ (os : List Outcome). os ++ Err e ∷ []) so.appended
        ∙ append_assoc before so.taken (Err e ∷ []);
    whole = longer NoneDue start now next so.taken (Err e) (λ os new takes. Faults is takes) so.whole;
    short = longer IsShort start now next so.taken (Err e) (λ os new takes. Faults is takes) so.short;
  }

  -- the end
  ended : (Ends : PollStep PopState → PopState → PopState → Type 0) (start now new : PopState)
      (before after items taken : List Outcome) → after ≡ before ++ taken → GoesOn format hold_back Ends start now taken
      → items ≡ after → Ends (pop_step format hold_back now) now new
      → Appends format hold_back Ends start new before items
  ended Ends start now new before after items taken appended so same ends = record {
    taken = taken;
    appended = same ∙ appended;
    takes = subst (λ (os : List Outcome). Takes format hold_back Ends start os new) (append-nil taken)
        (so [] new (AtEnd ends));
  }

  pub ends-whole : (start now new : PopState) (before after items : List Outcome)
      → TakenSo format hold_back start now before after → items ≡ after
      → NoneDue (pop_step format hold_back now) now new → Appends format hold_back NoneDue start new before items
  ends-whole start now new before after items so same ends =
      ended NoneDue start now new before after items so.taken so.appended so.whole same ends

  pub ends-short : (start now new : PopState) (before after items : List Outcome)
      → TakenSo format hold_back start now before after → items ≡ after
      → IsShort (pop_step format hold_back now) now new → Appends format hold_back IsShort start new before items
  ends-short start now new before after items so same ends =
      ended IsShort start now new before after items so.taken so.appended so.short same ends

-- the same of what a buffer's pop answers, whose format is read from the buffer
module _ (format read : Format) (hold_back : ℕ) (same_format : read ≡ format) where
  answers-as : (s t : PopState) (a b : Option Answer) → AnswersBy (pop_step read hold_back s) t a → a ≡ b
      → AnswersBy (pop_step format hold_back s) t b
  answers-as s t a b is same =
      subst (λ (o : Option Answer). AnswersBy (pop_step format hold_back s) t o) same
      (subst (λ (f : Format). AnswersBy (pop_step f hold_back s) t a) same_format is)

  pub hands-out : (start now next : PopState) (before after middle items : List Outcome) (u : MediaUnit)
      → AnswersBy (pop_step read hold_back now) next (Some (Ok (Some u)))
      → TakenSo format hold_back start now before after → middle ≡ after → items ≡ middle ++ Ok u ∷ []
      → TakenSo format hold_back start next before items
  hands-out start now next before after middle items u is so same pushed =
      one-more format hold_back start now next before after items (Ok u)
      (answers-as now next (Some (Ok (Some u))) (Some (Ok (Some u))) is refl) so
      (pushed ∙ ap (λ (os : List Outcome). os ++ Ok u ∷ []) same)

  pub faults : (start now next : PopState) (before after middle items : List Outcome) (e : PacketError)
      → AnswersBy (pop_step read hold_back now) next (as_refusal e) → e ≢ Memory
      → TakenSo format hold_back start now before after → middle ≡ after → items ≡ middle ++ Err e ∷ []
      → TakenSo format hold_back start next before items
  faults start now next before after middle items e is not so same pushed =
      one-more format hold_back start now next before after items (Err e)
      (answers-as now next (as_refusal e) (Some (Err e)) is (other e not)) so
      (pushed ∙ ap (λ (os : List Outcome). os ++ Err e ∷ []) same)

  pub silent : (start now new : PopState) (before after items : List Outcome)
      → AnswersBy (pop_step read hold_back now) new (Some (Ok None))
      → TakenSo format hold_back start now before after → items ≡ after
      → Appends format hold_back NoneDue start new before items
  silent start now new before after items is so same =
      ends-whole format hold_back start now new before after items so same
      (answers-as now new (Some (Ok None)) (Some (Ok None)) is refl)

  pub stops : (start now new : PopState) (before after items : List Outcome)
      → AnswersBy (pop_step read hold_back now) new None
      → TakenSo format hold_back start now before after → items ≡ after
      → Appends format hold_back IsShort start new before items
  stops start now new before after items is so same =
      ends-short format hold_back start now new before after items so same
      (inr (answers-as now new None None is refl))

-- fewer are held after a frame that can't be read
pub fewer-held : (format : Format) (hold_back : ℕ) (s t : PopState) (e : PacketError)
    → AnswersBy (pop_step format hold_back s) t (as_refusal e) → e ≢ Memory
    → length t.held < length s.held
fewer-held format hold_back s t e is not =
    let fails : Answer = Err e in
    fewer format hold_back s t fails
    (subst (λ (o : Option Answer). AnswersBy (pop_step format hold_back s) t o)
    (other e not) is) (λ same. cc)

pub whatever : {A E : Type 0} {X : Type 0} (r : Result A E) → X → OnErr r X
whatever (Ok a) x = tt
whatever (Err e) x = x
