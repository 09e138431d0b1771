-- Reading by the name before the first colon is the same as trying the kinds in order.
use Rattle.std.proofs.Common.{◌≡◌, ◌≢◌, ℕ, ◌==◌, Bool, true, false, not, ◌&&◌, cond, List, [], ◌∷◌, ◌++◌}
use Rattle.std.proofs.Common.{Option, Some, None, refl, sym, ◌∙◌, ap, append_assoc}
use Rattle.std.specs.Option.{option_or}
use Rattle.std.specs.Str.{bytes_eq}
use Rattle.std.proofs.lemmas.Bool.Decides.{Decides-eqb}
use Rattle.std.proofs.lemmas.Slice.Eq.{bytes_eq-Decides}
use Rattle.sdp_formats_grammar.specs.Bind.{◌>>=◌}
use Rattle.sdp_formats_grammar.specs.Cuts.{split_first-at, split_first-cuts, split_first-nowhere}
use Rattle.sdp_formats_grammar.specs.Form.{Form}
use Rattle.sdp_formats_grammar.specs.Kinds.{Kind, Named, OneOf, first_of, value_of, alone_of, by_name, by_kind}
use Rattle.sdp_formats_grammar.specs.Kinds.{lacks_colon, lack_colons, is_new, are_apart}
use Rattle.sdp_formats_grammar.specs.Split.{Lacks, split_first, behind}
use Rattle.sdp_formats_grammar.specs.Steps.{none_if, none_some, some_same}
use Rattle.sdp_formats_grammar.specs.Tables.{Table, word_of}
use Rattle.sdp_formats_grammar.specs.Words.{behind-append, behind-sound}

true_false : true ≡ false → ⊥
true_false h = cc

both_true : (a b : Bool) → (a && b) ≡ true → (a ≡ true) × (b ≡ true)
both_true true b h = (refl, h)
both_true false b h = absurd (true_false (sym h))

not_true : (a : Bool) → not a ≡ true → a ≡ false
not_true true h = absurd (true_false (sym h))
not_true false h = refl

-- another word
pub other-word : (t w : List ℕ) → t ≢ w → bytes_eq t w ≡ false
other-word t w h = by_test (bytes_eq t w) refl
  where
    by_test : (b : Bool) → bytes_eq t w ≡ b → b ≡ false
    by_test true e = absurd (h ((bytes_eq-Decides t w).0 e))
    by_test false e = refl

no_colon : (t : List ℕ) → lacks_colon t ≡ true → Lacks 58 t
no_colon [] h = tt
no_colon (b ∷ bs) h =
    let two = both_true (not (b == 58)) (lacks_colon bs) h in
    (λ same. true_false (sym ((Decides-eqb b 58).1 same) ∙ not_true (b == 58) two.0), no_colon bs two.1)

-- what follows a name and its colon, by the cut at the first colon
abbrev at_name : List ℕ → Option (List ℕ × List ℕ) → Option (List ℕ)
at_name name None = None
at_name name (Some p) = cond (bytes_eq p.0 name) (Some p.1) None

cut_there : (name t rest : List ℕ) → Lacks 58 name → behind (name ++ 58 ∷ []) t ≡ Some rest
    → split_first 58 t ≡ Some (name, rest)
cut_there name t rest lacks e =
    ap (split_first 58) (behind-sound (name ++ 58 ∷ []) t rest e ∙ append_assoc name (58 ∷ []) rest)
    ∙ split_first-at 58 name rest lacks

behind_there : (name rest : List ℕ) → behind (name ++ 58 ∷ []) (name ++ 58 ∷ rest) ≡ Some rest
behind_there name rest =
    ap (behind (name ++ 58 ∷ [])) (sym (append_assoc name (58 ∷ []) rest)) ∙ behind-append (name ++ 58 ∷ []) rest

behind_cut : (name t : List ℕ) (o : Option (List ℕ × List ℕ)) → Lacks 58 name → split_first 58 t ≡ o
    → behind (name ++ 58 ∷ []) t ≡ at_name name o
behind_cut name t None lacks e =
    none_if _ (λ rest there. none_some (name, rest) (sym e ∙ cut_there name t rest lacks there))
behind_cut name t (Some p) lacks e = by_test (bytes_eq p.0 name) refl
  where
    by_test : (b : Bool) → bytes_eq p.0 name ≡ b → behind (name ++ 58 ∷ []) t ≡ cond b (Some p.1) None
    by_test true same =
        ap (behind (name ++ 58 ∷ [])) ((split_first-cuts 58 t p.0 p.1 e).0
        ∙ ap (λ n. n ++ 58 ∷ p.1) ((bytes_eq-Decides p.0 name).0 same)) ∙ behind_there name p.1
    by_test false other = none_if _ (λ rest there. true_false (sym ((bytes_eq-Decides p.0 name).1
        (ap (λ (x : List ℕ × List ℕ). x.0) (some_same p (name, rest) (sym e ∙ cut_there name t rest lacks there))))
        ∙ other))

-- a text with a colon is no word of a table
no_word : {A : Type 0} (table : Table A) (t : List ℕ) (p : List ℕ × List ℕ) → lack_colons table ≡ true
    → split_first 58 t ≡ Some p → word_of table t ≡ None
no_word [] t p h e = refl
no_word (row ∷ rows) t p h e =
    let two = both_true (lacks_colon row.0) (lack_colons rows) h in
    ap (λ b. cond b (Some row.1) (word_of rows t)) (other-word t row.0 (λ same. none_some p
    (sym (split_first-nowhere 58 row.0 (no_colon row.0 two.0)) ∙ ap (split_first 58) (sym same) ∙ e)))
    ∙ no_word rows t p two.1 e

-- a name that no kind has
no_value : {A : Type 0} (kinds : List (Kind A)) (name value : List ℕ) → is_new name kinds ≡ true
    → value_of kinds name value ≡ None
no_value [] name value h = refl
no_value (Named other form ∷ kinds) name value h =
    let two = both_true (not (bytes_eq name other)) (is_new name kinds) h in
    ap (λ b. cond b (form.reads value) (value_of kinds name value)) (not_true (bytes_eq name other) two.0)
    ∙ no_value kinds name value two.1
no_value (OneOf table ∷ kinds) name value h = no_value kinds name value h

-- one more name
one_more : {A : Type 0} (b : Bool) (read : List ℕ → Option A) (value : List ℕ) (later other : Option A)
    → (b ≡ true → later ≡ None)
    → option_or (cond b (Some value) None >>= read) (option_or later other)
    ≡ option_or (cond b (read value) later) other
one_more true read value later other h = ap (λ o. option_or (read value) (option_or o other)) (h refl)
one_more false read value later other h = refl

or_or : {A : Type 0} (a b c : Option A) → option_or a (option_or b c) ≡ option_or (option_or a b) c
or_or None b c = refl
or_or (Some x) b c = refl

named : {A : Type 0} (kinds : List (Kind A)) (otherwise : Form A) (t : List ℕ) (p : List ℕ × List ℕ)
    → are_apart kinds ≡ true → split_first 58 t ≡ Some p
    → (first_of kinds otherwise).reads t ≡ option_or (value_of kinds p.0 p.1) (otherwise.reads t)
named [] otherwise t p h e = refl
named (Named name form ∷ kinds) otherwise t p h e =
    let two = both_true (lacks_colon name && is_new name kinds) (are_apart kinds) h in
    let own = both_true (lacks_colon name) (is_new name kinds) two.0 in
    ap (λ o. option_or (o >>= form.reads) ((first_of kinds otherwise).reads t))
    (behind_cut name t (Some p) (no_colon name own.0) e)
    ∙ ap (option_or (at_name name (Some p) >>= form.reads)) (named kinds otherwise t p two.1 e)
    ∙ one_more (bytes_eq p.0 name) form.reads p.1 (value_of kinds p.0 p.1) (otherwise.reads t)
    (λ same. ap (λ n. value_of kinds n p.1) ((bytes_eq-Decides p.0 name).0 same) ∙ no_value kinds name p.1 own.1)
named (OneOf table ∷ kinds) otherwise t p h e =
    let two = both_true (lack_colons table) (are_apart kinds) h in
    ap (λ o. option_or o ((first_of kinds otherwise).reads t)) (no_word table t p two.0 e)
    ∙ named kinds otherwise t p two.1 e

alone : {A : Type 0} (kinds : List (Kind A)) (otherwise : Form A) (t : List ℕ) → are_apart kinds ≡ true
    → split_first 58 t ≡ None → (first_of kinds otherwise).reads t ≡ option_or (alone_of kinds t) (otherwise.reads t)
alone [] otherwise t h e = refl
alone (Named name form ∷ kinds) otherwise t h e =
    let two = both_true (lacks_colon name && is_new name kinds) (are_apart kinds) h in
    ap (λ o. option_or (o >>= form.reads) ((first_of kinds otherwise).reads t))
    (behind_cut name t None (no_colon name (both_true (lacks_colon name) (is_new name kinds) two.0).0) e)
    ∙ alone kinds otherwise t two.1 e
alone (OneOf table ∷ kinds) otherwise t h e =
    ap (option_or (word_of table t)) (alone kinds otherwise t (both_true (lack_colons table) (are_apart kinds) h).1 e)
    ∙ or_or (word_of table t) (alone_of kinds t) (otherwise.reads t)

-- The name alone says which kind of a list it can be: the first kind that fits is the one of this name.
pub first_of-by_kind : {A : Type 0} (kinds : List (Kind A)) (otherwise : Form A) (text : List ℕ)
    → are_apart kinds ≡ true → (first_of kinds otherwise).reads text ≡ by_kind kinds otherwise text
first_of-by_kind kinds otherwise text h = by_cut (split_first 58 text) refl
  where
    by_cut : (o : Option (List ℕ × List ℕ)) → split_first 58 text ≡ o
        → (first_of kinds otherwise).reads text ≡ option_or (by_name kinds text o) (otherwise.reads text)
    by_cut None e = alone kinds otherwise text h e
    by_cut (Some p) e = named kinds otherwise text p h e

-- A name that isn't the first kind's.
pub value_of-past : {A : Type 0} (other : List ℕ) (form : Form A) (kinds : List (Kind A)) (name value : List ℕ)
    → name ≢ other → value_of (Named other form ∷ kinds) name value ≡ value_of kinds name value
value_of-past other form kinds name value h =
    ap (λ b. cond b (form.reads value) (value_of kinds name value)) (other-word name other h)
