-- Names that were read are printable.
use Rattle.std.proofs.Common.{◌≡◌, ◌<◌, ℕ, Bool, true, false, not, ◌&&◌, cond, List, [], ◌∷◌}
use Rattle.std.proofs.Common.{None, Some, refl, sym, ◌∙◌, ap, subst, chars, lit<, arith, inl, inr, ⊎_elim, ◌⊎◌, ◌||◌}
use Rattle.std.proofs.Common.{◌≢◌}
use Rattle.std.specs.List.{list_all}
use Rattle.std.specs.Str.{IsUtf8, NoCharPasses, NonePass, all_scalars, encode_utf8_all}
use Rattle.std.specs.Prelude.{All}
use Rattle.std.proofs.lemmas.List.Elements.{All-cons, All-head, All-nil, All-tail}
use Rattle.sdp_formats_grammar.specs.Bind.{◌>>=◌}
use Rattle.sdp_formats_grammar.specs.Form.{passed}
use Rattle.ucd_category.specs.GeneralCategory.{general_category}
use Rattle.ucd_category.specs.GeneralCategoryGroup.{in_group}
use Rattle.ucd_category.specs.declared.GeneralCategoryGroup.TheVariants.{Letter, Number}
use Rattle.sdp_formats_laws.proofs.Printed.{text_some}
use Rattle.std.proofs.lemmas.Str.{NoCharPasses-byte, chars-encodes, chars-nil, encodes-chars}
use Rattle.sdp_formats_grammar.specs.Cuts.{Lacks-from_index}
use Rattle.sdp_formats_grammar.specs.Form.{some_text}
use Rattle.sdp_formats_grammar.specs.Split.{Lacks}
use Rattle.sdp_formats_grammar.specs.Steps.{bind_some, none_some}
use Rattle.sdp_formats_reader.specs.Names.{has_name_chars, is_name_char, name}
use Rattle.ucd_category.proofs.Computing.{ucd_category}
use Rattle.sdp_formats_laws.proofs.Restrictions.{name_reads}
use Rattle.sdp_formats_laws.proofs.ValueTexts.{some_of}
use Rattle.sdp_formats_laws.specs.Names.{IsLetterOrNumber, NameSays, NamesAreLettersAndNumbers, NamesAreRead}
use Rattle.sdp_formats_laws.specs.Printable.{IsName}

-- signs that are neither letters nor numbers
feed : is_name_char 10 ≡ false
unfolding ucd_category
feed = refl

return : is_name_char 13 ≡ false
unfolding ucd_category
return = refl

blank : is_name_char 32 ≡ false
unfolding ucd_category
blank = refl

comma : is_name_char 44 ≡ false
unfolding ucd_category
comma = refl

semicolon : is_name_char 59 ≡ false
unfolding ucd_category
semicolon = refl

tilde : is_name_char 126 ≡ false
unfolding ucd_category
tilde = refl

-- no character of a name is another sign, and so no byte
both_true : (a b : Bool) → a ≡ true → b ≡ true → (a && b) ≡ true
both_true a b h k = cc

two_true : (a b : Bool) → (a && b) ≡ true → (a ≡ true) × (b ≡ true)
two_true true b h = (refl, h)
two_true false b h = absurd (cc)

none_other : (cs : List ℕ) → list_all is_name_char cs ≡ true → NonePass (λ c. not (is_name_char c)) cs
none_other [] h = tt
none_other (c ∷ cs) h =
    let two = two_true (is_name_char c) (list_all is_name_char cs) h in (ap not two.0, none_other cs two.1)

opposed : (b : Bool) → b ≡ false → not b ≡ false → ⊥
opposed true h k = cc
opposed false h k = cc

lacks_sign : (t : List ℕ) (c : ℕ) → IsUtf8 t → has_name_chars t ≡ true → c < 128 → is_name_char c ≡ false → Lacks c t
lacks_sign t c u h small other =
    let none : NoCharPasses (λ d. not (is_name_char d)) t = (chars t, encodes-chars t u, none_other (chars t) h) in
    Lacks-from_index c t (λ i inside same. opposed (is_name_char c) other
    (ap (λ d. not (is_name_char d)) (sym same)
    ∙ NoCharPasses-byte (λ d. not (is_name_char d)) t i none inside (omega (same, small, arith))))

passed_if : (x : Bool) (a b : List ℕ) → cond x (Some a) None ≡ Some b → x ≡ true
passed_if true a b h = refl
passed_if false a b h = absurd (none_some b h)

read_name : (t : List ℕ) → IsUtf8 t → name.reads t ≡ Some t → IsName t
read_name t u h =
    let s = bind_some (some_text t) _ t h in
    let one = some_of t s.0 s.1 in
    let letters : has_name_chars t ≡ true =
    subst (λ x. has_name_chars x ≡ true) (sym one.0) (passed_if (has_name_chars s.0) s.0 t s.2) in
    record {
      word = (
        (one.1, lacks_sign t 10 u letters (lit< tt) feed, lacks_sign t 13 u letters (lit< tt) return),
        lacks_sign t 32 u letters (lit< tt) blank,
      );
      name = letters;
      comma = lacks_sign t 44 u letters (lit< tt) comma;
      semicolon = lacks_sign t 59 u letters (lit< tt) semicolon;
      tilde = lacks_sign t 126 u letters (lit< tt) tilde;
    }

pub names_are_read : NamesAreRead
names_are_read t u = (read_name t u, name_reads t)

-- the characters of a name
or_cases : (a b : Bool) → (a || b) ≡ true → (a ≡ true) ⊎ (b ≡ true)
or_cases true b h = inl refl
or_cases false b h = inr h

or_left : (a b : Bool) → a ≡ true → (a || b) ≡ true
or_left a b h = ap (λ x. x || b) h

or_right : (a b : Bool) → b ≡ true → (a || b) ≡ true
or_right true b h = refl
or_right false b h = h

each_letter : (cs : List ℕ) → list_all is_name_char cs ≡ true → All IsLetterOrNumber cs
each_letter [] h = All-nil IsLetterOrNumber
each_letter (c ∷ cs) h =
    let two = two_true (is_name_char c) (list_all is_name_char cs) h in
    All-cons IsLetterOrNumber c cs
    (or_cases (in_group Letter (general_category c)) (in_group Number (general_category c)) two.0)
    (each_letter cs two.1)

all_letters : (cs : List ℕ) → All IsLetterOrNumber cs → list_all is_name_char cs ≡ true
all_letters [] h = refl
all_letters (c ∷ cs) h =
    let letter = in_group Letter (general_category c) in
    let number = in_group Number (general_category c) in
    let one : is_name_char c ≡ true =
    ⊎_elim (λ e. or_left letter number e) (λ e. or_right letter number e) (All-head IsLetterOrNumber c cs h) in
    both_true (is_name_char c) (list_all is_name_char cs) one (all_letters cs (All-tail IsLetterOrNumber c cs h))

some_chars : (t : List ℕ) → IsUtf8 t → t ≢ [] → chars t ≢ []
some_chars t u some e = some (sym (encodes-chars t u) ∙ ap encode_utf8_all e)

says_name : (t : List ℕ) → IsUtf8 t → name.reads t ≡ Some t → NameSays t
says_name t u h =
    let n = read_name t u h in (
      chars t,
      some_chars t u n.word.0.0,
      subst (λ cs. all_scalars cs ≡ true) (sym (chars-encodes u.0 u.1.0) ∙ ap chars u.1.1) u.1.0,
      each_letter (chars t) n.name,
      sym (encodes-chars t u),
    )

name_said : (t : List ℕ) → NameSays t → name.reads t ≡ Some t
name_said t h =
    let spelled : chars t ≡ h.0 = ap chars h.4 ∙ chars-encodes h.0 h.2 in
    let letters : has_name_chars t ≡ true =
    ap (list_all is_name_char) spelled ∙ all_letters h.0 h.3 in
    ap (λ o. o >>= passed has_name_chars) (text_some t (some_text_of h.0 t h.1 spelled))
    ∙ ap (λ b. cond b (Some t) None) letters
  where
    some_text_of : (cs t : List ℕ) → cs ≢ [] → chars t ≡ cs → t ≢ []
    some_text_of cs t some e none = some (sym e ∙ ap chars none ∙ chars-nil)

pub letters_and_numbers : NamesAreLettersAndNumbers
letters_and_numbers t u = (says_name t u, name_said t)
