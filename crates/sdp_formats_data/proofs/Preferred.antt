-- The best of a list is the preferred one.
use Rattle.std.proofs.Common.{◌≡◌, ℕ, Bool, true, false, List, [], ◌∷◌, ◌++◌, Option, Some, None, refl, sym, ap, ◌∙◌}
use Rattle.std.proofs.Common.{subst, append_assoc, append-nil, arith, if◌then◌else◌, nat_le, nat_lt}
use Rattle.std.specs.Prelude.{fold, map}
use Rattle.std.specs.List.{filter_map, cons_option, list_all}
use Rattle.std.specs.Option.{option_to_list}
use Rattle.std.proofs.lemmas.Grind.{common_steps}
use Rattle.std.proofs.lemmas.List.Folds.{list_all-append}
use Rattle.sdp_formats_values.specs.declared.fingerprint.Fingerprint.{Fingerprint}
use Rattle.sdp_formats_data.specs.declared.media.MediaLine.{MediaLine}
use Rattle.sdp_formats_data.specs.Preference.{IsFirstOfLowest, IsPreferred}
use Rattle.sdp_formats_values.specs.Preference.{hash_preference}
use Rattle.sdp_formats_data.specs.Preference.{chosen, better, best_of}
use Rattle.sdp_formats_data.specs.Transport.{first_listed, section_prints}

abbrev is_below : Fingerprint → Fingerprint → Bool
is_below p q = nat_lt (hash_preference p) (hash_preference q)

abbrev is_at_most : Fingerprint → Fingerprint → Bool
is_at_most p q = nat_le (hash_preference p) (hash_preference q)

list_mono : (P Q : Fingerprint → Bool) → ((p : Fingerprint) → P p ≡ true → Q p ≡ true) → (ps : List Fingerprint)
    → list_all P ps ≡ true → list_all Q ps ≡ true
list_mono P Q f [] e = refl
list_mono P Q f (p ∷ ps) e =
    let ih : list_all P ps ≡ true → list_all Q ps ≡ true = list_mono P Q f ps in
    let here : P p ≡ true → Q p ≡ true = f p in
    grind (arith, common_steps)

two : (P : Fingerprint → Bool) (ps qs : List Fingerprint) → list_all P ps ≡ true → list_all P qs ≡ true
    → list_all P (ps ++ qs) ≡ true
two P ps qs e f = list_all-append P ps qs ∙ grind (arith, common_steps)

with_head : (P : Fingerprint → Bool) (p : Fingerprint) (ps : List Fingerprint) → P p ≡ true → list_all P ps ≡ true
    → list_all P (p ∷ ps) ≡ true
with_head P p ps e f = grind (arith, common_steps)

below_below : (a b c : ℕ) → nat_lt a b ≡ true → nat_lt b c ≡ true → nat_lt a c ≡ true
below_below a b c e f = grind (arith, common_steps)

below_at_most : (a b c : ℕ) → nat_lt a b ≡ true → nat_le b c ≡ true → nat_lt a c ≡ true
below_at_most a b c e f = grind (arith, common_steps)

not_below : (a b : ℕ) → nat_lt a b ≡ false → nat_le b a ≡ true
not_below a b e = grind (arith, common_steps)

-- one that is preferred to the best so far
taken : (done : List Fingerprint) (b p : Fingerprint) → is_below p b ≡ true → IsFirstOfLowest done b
    → IsFirstOfLowest (done ++ p ∷ []) p
taken done b p e h =
    let early = list_mono (is_below b) (is_below p) (λ q. below_below (hash_preference p) (hash_preference b)
    (hash_preference q) e) h.before h.first in
    let late = list_mono (is_at_most b) (is_below p) (λ q. below_at_most (hash_preference p) (hash_preference b)
    (hash_preference q) e) h.behind h.lowest in
    let all = two (is_below p) h.before (b ∷ h.behind) early (with_head (is_below p) b h.behind e late) in
    record {
      before = done;
      behind = [];
      placed = refl;
      first = ap (list_all (is_below p)) h.placed ∙ all;
      lowest = refl;
    }

-- and one that isn't
passed_over : (done : List Fingerprint) (b p : Fingerprint) → is_below p b ≡ false → IsFirstOfLowest done b
    → IsFirstOfLowest (done ++ p ∷ []) b
passed_over done b p e h = record {
  before = h.before;
  behind = h.behind ++ p ∷ [];
  placed = ap (λ (l : List Fingerprint). l ++ p ∷ []) h.placed ∙ append_assoc h.before (b ∷ h.behind) (p ∷ []);
  first = h.first;
  lowest = two (is_at_most b) h.behind (p ∷ []) h.lowest
      (with_head (is_at_most b) p [] (not_below (hash_preference p) (hash_preference b) e) refl);
}

picked : (done : List Fingerprint) (b p : Fingerprint) (t : Bool) → is_below p b ≡ t → IsFirstOfLowest done b
    → IsPreferred (done ++ p ∷ []) (if t then Some p else Some b)
picked done b p true e h = taken done b p e h
picked done b p false e h = passed_over done b p e h

one_more : (done : List Fingerprint) (best next : Option Fingerprint) → IsPreferred done best
    → IsPreferred (done ++ option_to_list next) (chosen best next)
one_more done best None h = subst (λ (l : List Fingerprint). IsPreferred l best) (sym (append-nil done)) h
one_more done None (Some p) h = record {
  before = [];
  behind = [];
  placed = ap (λ (l : List Fingerprint). l ++ p ∷ []) h;
  first = refl;
  lowest = refl;
}
one_more done (Some b) (Some p) h = picked done b p (is_below p b) refl h

moved : (done rest : List Fingerprint) (next : Option Fingerprint)
    → (done ++ option_to_list next) ++ rest ≡ done ++ cons_option next rest
moved done rest None = ap (λ (l : List Fingerprint). l ++ rest) (append-nil done)
moved done rest (Some p) = append_assoc done (p ∷ []) rest

best_from : {A : Type 0} (f : A → Option Fingerprint) (attrs : List A) (done : List Fingerprint)
    (best : Option Fingerprint) → IsPreferred done best
    → IsPreferred (done ++ filter_map f attrs) (fold (better f) best attrs)
best_from f [] done best h = subst (λ (l : List Fingerprint). IsPreferred l best) (sym (append-nil done)) h
best_from f (a ∷ attrs) done best h =
    subst (λ (l : List Fingerprint). IsPreferred l (fold (better f) (chosen best (f a)) attrs))
    (moved done (filter_map f attrs) (f a))
    (best_from f attrs (done ++ option_to_list (f a)) (chosen best (f a)) (one_more done best (f a) h))

pub best_is_preferred : {A : Type 0} (f : A → Option Fingerprint) (attrs : List A)
    → IsPreferred (filter_map f attrs) (best_of f attrs)
best_is_preferred f attrs = best_from f attrs [] None refl

nil_split : (before behind : List Fingerprint) (p : Fingerprint) → [] ≡ before ++ p ∷ behind → ⊥
nil_split [] behind p e = cc
nil_split (q ∷ before) behind p e = cc

pub first_listed-some : (prints : List Fingerprint) (lists : List (List Fingerprint)) (p : Fingerprint)
    → IsFirstOfLowest prints p → first_listed (prints ∷ lists) ≡ prints
first_listed-some [] lists p h = absurd (nil_split h.before h.behind p h.placed)
first_listed-some (q ∷ prints) lists p h = refl

pub first_listed-at : (m : MediaLine) (rest left sections : List MediaLine) (p : Fingerprint) → left ≡ m ∷ rest
    → first_listed (map section_prints left) ≡ first_listed (map section_prints sections)
    → IsFirstOfLowest (section_prints m) p → IsFirstOfLowest (first_listed (map section_prints sections)) p
first_listed-at m rest left sections p cut same h =
    let there = ap (λ (l : List MediaLine). first_listed (map section_prints l)) cut in
    let here = first_listed-some (section_prints m) (map section_prints rest) p h in
    subst (λ (l : List Fingerprint). IsFirstOfLowest l p) (sym here ∙ sym there ∙ same) h
