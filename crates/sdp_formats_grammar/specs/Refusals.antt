-- What a reader answers of a text.
use Rattle.std.specs.Prelude.{◌≡◌, ℕ, List, Option, None, Some, Result, Ok, Err, codes}
use Rattle.std.specs.Borrow.{Bor}
use Rattle.std.specs.Option.{option_copied}
use Rattle.sdp_formats_grammar.specs.declared.refusal.Refusal.{Refusal}
use Rattle.sdp_formats_grammar.specs.declared.refusal.Refusal.TheVariants.{Unfit, Memory}

-- A reader returns the value that a form says of the text, and Unfit if and only if the form says nothing, unless
-- memory runs out.
abbrev pub GivesBy : {A B : Type 0} → (A → B) → Result A Refusal → Option B → Type 0
GivesBy view (Ok x) said = said ≡ Some (view x)
GivesBy view (Err Unfit) said = said ≡ None
GivesBy view (Err Memory) said = Unit {0}

abbrev pub Gives : {A : Type 0} → Result A Refusal → Option A → Type 0
Gives (Ok x) said = said ≡ Some x
Gives (Err Unfit) said = said ≡ None
Gives (Err Memory) said = Unit {0}

-- Two pieces of a text.
abbrev pub parted : Bor (List ℕ) × Bor (List ℕ) → List ℕ × List ℕ
parted p = (p.0.now, p.1.now)

-- A piece of a text, and another that may be there.
abbrev pub halved : Bor (List ℕ) × Option (Bor (List ℕ)) → List ℕ × Option (List ℕ)
halved p = (p.0.now, option_copied p.1)

-- A word that may be there, and what is left of a text, if anything is.
abbrev pub fielded : Option (Bor (List ℕ)) × Option (Bor (List ℕ)) → Option (List ℕ) × Option (List ℕ)
fielded p = (option_copied p.0, option_copied p.1)

-- What was read, or none if the text is unfit.
abbrev pub fitted_of : {A : Type 0} → Result A Refusal → Result (Option A) Refusal
fitted_of (Ok a) = Ok (Some a)
fitted_of (Err Unfit) = Ok None
fitted_of (Err Memory) = Err Memory

-- The text of a refusal.
abbrev pub refusal_text : Refusal → List ℕ
refusal_text Unfit = codes "not of the form"
refusal_text Memory = codes "out of memory"
