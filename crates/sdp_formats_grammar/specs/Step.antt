-- Steps over a text: what the text begins with, and the rest.
use Rattle.std.specs.Prelude.{◌≡◌, ◌<◌, ℕ, List, [], ◌∷◌, Option, Some, None, Result, Ok, Err, length}
use Rattle.std.specs.Borrow.{Bor}
use Rattle.sdp_formats_grammar.specs.declared.refusal.Refusal.{Refusal}
use Rattle.sdp_formats_grammar.specs.declared.refusal.Refusal.TheVariants.{Unfit, Memory}

-- A relation between a text, the value at its beginning, and the rest.
abbrev pub Step : Type 0 → Type 1
Step A = List ℕ → A → List ℕ → Type 0

-- No value begins here.
abbrev pub Stops : {A : Type 0} → Step A → List ℕ → Type 0
Stops S t = (a : _) (r : List ℕ) → S t a r → ⊥

-- Values in sequence.
abbrev pub Begins : {A : Type 0} → Step A → List ℕ → List A → List ℕ → Type 0
Begins S t [] r = r ≡ t
Begins S t (a ∷ as') r = (m : List ℕ) × S t a m × Begins S m as' r

-- As many values as possible.
abbrev pub Many : {A : Type 0} → Step A → List ℕ → List A → List ℕ → Type 0
Many S t as' r = Begins S t as' r × Stops S r

-- A value, if there is one.
abbrev pub Perhaps : {A : Type 0} → Step A → List ℕ → Option A → List ℕ → Type 0
Perhaps S t None r = (r ≡ t) × Stops S t
Perhaps S t (Some a) r = S t a r

-- A text has at most one value and rest.
abbrev pub IsFunctional : {A : Type 0} → Step A → Type 0
IsFunctional S = (t : List ℕ) (a b : _) (r s : List ℕ) → S t a r → S t b s → (a ≡ b) × (r ≡ s)

-- A reader's result: the value and the rest, or Unfit if there is none, unless memory runs out.
abbrev pub Steps : {A : Type 0} → Step A → List ℕ → Result (A × Bor (List ℕ)) Refusal → Type 0
Steps S t (Ok x) = S t x.0 x.1.now
Steps S t (Err Unfit) = Stops S t
Steps S t (Err Memory) = Unit {0}

-- A reader that always finds a value answers this.
abbrev pub Finds : {A : Type 0} → Step A → List ℕ → Result (A × Bor (List ℕ)) Refusal → Type 0
Finds S t (Ok x) = S t x.0 x.1.now
Finds S t (Err Unfit) = ⊥
Finds S t (Err Memory) = Unit {0}

-- Each step leaves a shorter rest.
abbrev pub IsShortening : {A : Type 0} → Step A → Type 0
IsShortening S = (t : List ℕ) (a : _) (r : List ℕ) → S t a r → length r < length t

-- What is left is shorter.
abbrev pub Shortens : {A : Type 0} → List ℕ → Result (A × Bor (List ℕ)) Refusal → Type 0
Shortens t (Ok x) = length x.1.now < length t
Shortens t (Err e) = Unit {0}
