-- The kind of an attribute's name, or else another form.
use Rattle.std.proofs.Common.{◌≡◌, ℕ, true, List, Option, Some, None, Result, Ok, Err, ◌∙◌, ap}
use Rattle.std.specs.Option.{option_or}
use Rattle.sdp_formats_grammar.specs.Form.{Form}
use Rattle.sdp_formats_grammar.specs.KindLemmas.{first_of-by_kind}
use Rattle.sdp_formats_grammar.specs.Kinds.{Kind, first_of, by_name, are_apart}
use Rattle.sdp_formats_grammar.specs.Refusals.{Gives, fitted_of}
use Rattle.sdp_formats_grammar.specs.Split.{split_first}
use Rattle.sdp_formats_grammar.specs.declared.refusal.Refusal.{Refusal}
use Rattle.sdp_formats_grammar.specs.declared.refusal.Refusal.TheVariants.{Unfit, Memory}

ok_some : {A : Type 0} (x y : A) → fitted_of (Ok x) ≡ Ok (Some y) → x ≡ y
ok_some x y h = cc

ok_none : {A : Type 0} (x : A) → fitted_of (Ok x) ≡ Ok None → ⊥
ok_none x h = cc

unfit_some : {A : Type 0} (x : A) → fitted_of {A = A} (Err Unfit) ≡ Ok (Some x) → ⊥
unfit_some x h = cc

memory_ok : {A : Type 0} (o : Option A) → fitted_of {A = A} (Err Memory) ≡ Ok o → ⊥
memory_ok o h = cc

pub chosen : {A : Type 0} (kinds : List (Kind A)) (otherwise : Form A) (text : List ℕ) (r : Result A Refusal) (a : A)
    → are_apart kinds ≡ true → Gives r (by_name kinds text (split_first 58 text)) → fitted_of r ≡ Ok (Some a)
    → (first_of kinds otherwise).reads text ≡ Some a
chosen kinds otherwise text (Ok x) a h g e =
    first_of-by_kind kinds otherwise text h
    ∙ ap (λ o. option_or o (otherwise.reads text)) (g ∙ ap Some (ok_some x a e))
chosen kinds otherwise text (Err Unfit) a h g e = absurd (unfit_some a e)
chosen kinds otherwise text (Err Memory) a h g e = absurd (memory_ok (Some a) e)

pub passed-on : {A : Type 0} (kinds : List (Kind A)) (otherwise : Form A) (text : List ℕ) (r : Result A Refusal)
    → are_apart kinds ≡ true → Gives r (by_name kinds text (split_first 58 text)) → fitted_of r ≡ Ok None
    → (first_of kinds otherwise).reads text ≡ otherwise.reads text
passed-on kinds otherwise text (Ok x) h g e = absurd (ok_none x e)
passed-on kinds otherwise text (Err Unfit) h g e =
    first_of-by_kind kinds otherwise text h ∙ ap (λ o. option_or o (otherwise.reads text)) g
passed-on kinds otherwise text (Err Memory) h g e = absurd (memory_ok None e)
