-- The contents of a handle before and after a call.
use Rattle.std.specs.Prelude.{ℕ, ◌≡◌, Option, Some, None}
use Rattle.jilqamur.specs.Codes.{ok, closed}

-- A call on a closed handle says so and leaves it closed; otherwise the contents answer.
abbrev pub AtObject : {A : Type 0} → Option A → Option A → ℕ → (A → A → Type 0) → Type 0
AtObject None None result answers = result ≡ closed
AtObject None (Some after) result answers = ⊥
AtObject (Some p) None result answers = ⊥
AtObject (Some p) (Some after) result answers = answers p after

-- What closing answers.
abbrev pub answer_of : {A : Type 0} → Option A → ℕ
answer_of None = closed
answer_of (Some x) = ok
