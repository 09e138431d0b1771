-- The first refusal of a line.
use Rattle.std.proofs.Common.{ℕ, List, Option, ◌∙◌, ap}
use Rattle.words_and_replies.specs.Lines.{LineState, Refuses}

-- a refusal stays, whatever is refused after it
pub stays : (old between new : LineState) (reason other : Option (List ℕ)) → Refuses old reason between
    → Refuses between other new → Refuses old reason new
stays old between new reason other first later = (
  λ fresh. let refused = first.0 fresh in rw (later.1 refused.0) refused,
  λ was. let same = first.1 was in later.1 (ap (λ l. l.is_refused) same ∙ was) ∙ same,
)
