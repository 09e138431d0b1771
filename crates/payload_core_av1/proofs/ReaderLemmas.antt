-- The elements of a packet, one step at a time.
use Rattle.std.proofs.Common.{◌≡◌, ℕ, zero, suc, ◌+◌, ◌-◌, ◌<◌, ◌≤◌, Bool, true, false, ltb, leb, eqb}
use Rattle.std.proofs.Common.{List, [], ◌∷◌, ◌++◌, take, drop, length, get_or, None, Some, Option, if◌then◌else◌}
use Rattle.std.proofs.Common.{refl, sym, ap, subst, ◌∙◌, append_assoc, arith}
use Rattle.std.proofs.lemmas.List.{length-drop, length-take}
use Rattle.std.proofs.lemmas.Bool.Decides.{nat_tests}
use Rattle.payload_core_base.specs.Format.{Fragment}
use Rattle.payload_core_av1.specs.Leb128.{Cut, Sized, behind_byte, cut_by, size_in, size_within, sized_part}
use Rattle.payload_core_av1.specs.Av1Reading.{all_given, and_behind, begun, complete, counted_elements, given}
use Rattle.payload_core_av1.specs.Av1Reading.{in_front}
use Rattle.payload_core_av1.specs.Av1Reading.{joined_option, opened, opened_by, sized_elements}
use Rattle.payload_core_av1.specs.Av1ReadingViews.{Gathers, all_in_front, fresh, given_of}

-- the rest after a part is shorter
abbrev RestWithin : ℕ → Option Cut → Type 0
RestWithin n None = Unit {0}
RestWithin n (Some cut) = length cut.part + length cut.rest < n

abbrev SizedWithin : ℕ → Option Sized → Type 0
SizedWithin n None = Unit {0}
SizedWithin n (Some s) = length s.rest < n

behind_within : (n b : ℕ) (o : Option Sized) → SizedWithin n o → SizedWithin (suc n) (behind_byte b o)
behind_within n b None h = tt
behind_within n b (Some s) h = omega arith

size_within_shorter : (k : ℕ) (text : List ℕ) → SizedWithin (length text) (size_within k text)
size_within_shorter zero text = tt
size_within_shorter (suc k) [] = tt
size_within_shorter (suc k) (b ∷ bs) = by_test (ltb b 128)
    (behind_within (length bs) b (size_within k bs) (size_within_shorter k bs))
  where
    by_test : (t : Bool) → SizedWithin (length (b ∷ bs)) (behind_byte b (size_within k bs))
        → SizedWithin (length (b ∷ bs)) (if t then Some (record { size = b; rest = bs })
        else behind_byte b (size_within k bs))
    by_test true h = omega arith
    by_test false h = h

cut_within : (n : ℕ) (o : Option Sized) → SizedWithin n o → RestWithin n (cut_by o)
cut_within n None h = tt
cut_within n (Some s) h = by_room (leb s.size (length s.rest))
  where
    by_room : (t : Bool) → RestWithin n (if t
        then Some (record { part = take s.size s.rest; rest = drop s.size s.rest }) else None)
    by_room true = omega (arith, h, length-drop s.size s.rest, length-take s.size s.rest)
    by_room false = tt

pub part-shorter : (text : List ℕ) → RestWithin (length text) (sized_part text)
unfolding size_in
part-shorter text = cut_within (length text) (size_within 8 text) (size_within_shorter 8 text)

pub part-shorter-at : (text : List ℕ) (cut : Cut) → sized_part text ≡ Some cut
    → length cut.part + length cut.rest < length text
part-shorter-at text cut is = let P : Option Cut → Type 0 = RestWithin (length text) in subst P is (part-shorter text)

push_in_front : (es : List (List ℕ)) (e : List ℕ) (o : Option (List (List ℕ))) → all_in_front es (in_front e o)
    ≡ all_in_front (es ++ e ∷ []) o
push_in_front es e None = refl
push_in_front es e (Some others) = ap Some (sym (append_assoc es (e ∷ []) others))

pub counted-go : (n : ℕ) (text : List ℕ) (cut : Cut) (es : List (List ℕ)) → sized_part text ≡ Some cut
    → all_in_front (es ++ cut.part ∷ []) (counted_elements n cut.rest) ≡ all_in_front es (counted_elements (suc n) text)
counted-go n text cut es is = sym (ap (λ o. all_in_front es (and_behind o (λ rest. counted_elements n rest))) is
    ∙ push_in_front es cut.part (counted_elements n cut.rest))

pub counted-stop : (n : ℕ) (text : List ℕ) (es : List (List ℕ)) → sized_part text ≡ None
    → all_in_front es (counted_elements (suc n) text) ≡ None
counted-stop n text es is = ap (λ o. all_in_front es (and_behind o (λ rest. counted_elements n rest))) is

-- room for as many elements as there are bytes is room enough
behind_same : (o : Option Cut) (n : ℕ) (f g : List ℕ → Option (List (List ℕ))) → RestWithin (suc n) o
    → ((rest : List ℕ) → length rest ≤ n → f rest ≡ g rest) → and_behind o f ≡ and_behind o g
behind_same None n f g shorter same = refl
behind_same (Some cut) n f g shorter same = ap (in_front cut.part) (same cut.rest (omega arith))

sized_same : (n a b : ℕ) (text : List ℕ) → length text ≤ n → length text ≤ a → length text ≤ b
    → sized_elements a text ≡ sized_elements b text
sized_same n a b [] ln la lb = refl
sized_same zero a b (x ∷ xs) ln la lb = absurd (omega arith)
sized_same (suc n) zero b (x ∷ xs) ln la lb = absurd (omega arith)
sized_same (suc n) (suc a) zero (x ∷ xs) ln la lb = absurd (omega arith)
sized_same (suc n) (suc a) (suc b) (x ∷ xs) ln la lb =
    behind_same (sized_part (x ∷ xs)) (length xs) (λ rest. sized_elements a rest) (λ rest. sized_elements b rest)
    (part-shorter (x ∷ xs))
    (λ rest le. sized_same n a b rest (omega arith) (omega arith) (omega arith))

sized_step : (b : ℕ) (bs : List ℕ) (cut : Cut) → sized_part (b ∷ bs) ≡ Some cut
    → sized_elements (length (b ∷ bs)) (b ∷ bs) ≡ in_front cut.part (sized_elements (length cut.rest) cut.rest)
sized_step b bs cut is =
    let shorter = part-shorter-at (b ∷ bs) cut is in
    ap (λ o. and_behind o (λ rest. sized_elements (length bs) rest)) is
    ∙ ap (in_front cut.part) (sized_same (length cut.rest) (length bs) (length cut.rest) cut.rest (omega arith)
    (omega arith) (omega arith))

pub sized-go : (text : List ℕ) (cut : Cut) (es : List (List ℕ)) → 0 < length text → sized_part text ≡ Some cut
    → all_in_front (es ++ cut.part ∷ []) (sized_elements (length cut.rest) cut.rest)
    ≡ all_in_front es (sized_elements (length text) text)
sized-go [] cut es some is = absurd (omega arith)
sized-go (b ∷ bs) cut es some is = sym (ap (all_in_front es) (sized_step b bs cut is)
    ∙ push_in_front es cut.part (sized_elements (length cut.rest) cut.rest))

-- what was given so far, and what the others give
pub given-go : (before after : List ℕ) (e : List ℕ) (es : List (List ℕ)) → Gathers before (given e) after
    → joined_option (Some after) (all_given es) ≡ joined_option (Some before) (all_given (e ∷ es))
given-go before after e es gathers = by_given (given e) gathers (all_given es)
  where
    by_given : (o : Option (List ℕ)) → Gathers before o after → (others : Option (List ℕ))
        → joined_option (Some after) others ≡ joined_option (Some before) (joined_option o others)
    by_given None g others = absurd g
    by_given (Some bytes) g None = refl
    by_given (Some bytes) g (Some others) = ap Some (ap (λ t. t ++ others) g ∙ append_assoc before bytes others)

pub given-stop : (before : List ℕ) (e : List ℕ) (es : List (List ℕ)) → given e ≡ None
    → joined_option (Some before) (all_given (e ∷ es)) ≡ None
given-stop before e es is = ap (λ o. joined_option (Some before) (joined_option o (all_given es))) is

pub none_behind : (before : List ℕ) (o : Option (List ℕ)) → joined_option (Some before) o ≡ None → o ≡ None
none_behind before None is = refl
none_behind before (Some bytes) is = absurd (cc)

-- with others after it the first element is complete, and the last is one of the others
pub complete-more : (y : Bool) (e o : List ℕ) (os : List (List ℕ)) → complete y (e ∷ o ∷ os) ≡ e ∷ complete y (o ∷ os)
complete-more true e o os =
    let n : length (e ∷ o ∷ os) - 1 ≡ suc (length os) = omega arith in
    let m : length (o ∷ os) - 1 ≡ length os = omega arith in
    ap (λ k. take k (e ∷ o ∷ os)) n ∙ ap (λ k. e ∷ take k (o ∷ os)) (sym m)
complete-more false e o os = refl

pub opened-more : (y : Bool) (open_still : Fragment) (e o : List ℕ) (os : List (List ℕ))
    → opened y open_still (e ∷ o ∷ os) ≡ opened y open_still (o ∷ os)
opened-more true open_still e o os =
    let n : length (e ∷ o ∷ os) - 1 ≡ suc (length os) = omega arith in
    let m : length (o ∷ os) - 1 ≡ length os = omega arith in
    ap (λ k. opened_by open_still (get_or (e ∷ o ∷ os) k [])) n
    ∙ ap (λ k. opened_by open_still (get_or (o ∷ os) k [])) (sym m)
opened-more false open_still e o os = refl

pub complete-behind : (y : Bool) (e : List ℕ) (os : List (List ℕ)) → 0 < length os → complete y (e ∷ os) ≡ e
    ∷ complete y os
complete-behind y e [] some = absurd (omega arith)
complete-behind y e (o ∷ os) some = complete-more y e o os

pub opened-behind : (y : Bool) (open_still : Fragment) (e : List ℕ) (os : List (List ℕ)) → 0 < length os
    → opened y open_still (e ∷ os) ≡ opened y open_still os
opened-behind y open_still e [] some = absurd (omega arith)
opened-behind y open_still e (o ∷ os) some = opened-more y open_still e o os

pub gathers-both : (before middle after : List ℕ) (e : List ℕ) (es : List (List ℕ)) → Gathers before (given e) middle
    → Gathers middle (all_given es) after → Gathers before (all_given (e ∷ es)) after
gathers-both before middle after e es first others = by_given (given e) (all_given es) first others
  where
    by_given : (o p : Option (List ℕ)) → Gathers before o middle → Gathers middle p after
        → Gathers before (joined_option o p) after
    by_given None p g h = absurd g
    by_given (Some bytes) None g h = absurd h
    by_given (Some bytes) (Some more) g h = h ∙ ap (λ t. t ++ more) g ∙ append_assoc before bytes more

pub none-first : (e : List ℕ) (es : List (List ℕ)) → given e ≡ None → all_given (e ∷ es) ≡ None
none-first e es is = ap (λ o. joined_option o (all_given es)) is

-- the first element goes on with what is open, and others follow it
begun_joined : (f e : List ℕ) (es : List (List ℕ)) → 0 < length e → begun true (Some f) (e ∷ es) ≡ fresh ((f ++ e) ∷ es)
begun_joined f [] es some = absurd (omega arith)
begun_joined f (b ∷ bs) es some = refl

given_joined : (y : Bool) (f e : List ℕ) (os : List (List ℕ)) → 0 < length e → 0 < length os
    → given_of y (begun true (Some f) (e ∷ os)) ≡ all_given ((f ++ e) ∷ complete y os)
given_joined y f e os some others = ap (given_of y) (begun_joined f e os some)
    ∙ ap all_given (complete-behind y (f ++ e) os others)

pub joined-none : (y : Bool) (f e : List ℕ) (fragment : Fragment) (os : List (List ℕ)) → fragment ≡ Some f
    → 0 < length e → 0 < length os → given (f ++ e) ≡ None → given_of y (begun true fragment (e ∷ os)) ≡ None
joined-none y f e fragment os is_open some others is = ap (λ o. given_of y (begun true o (e ∷ os))) is_open
    ∙ given_joined y f e os some others ∙ none-first (f ++ e) (complete y os) is

pub joined-both : (y : Bool) (f e : List ℕ) (fragment : Fragment) (os : List (List ℕ)) (before middle after : List ℕ)
    → fragment ≡ Some f → 0 < length e → 0 < length os → Gathers before (given (f ++ e)) middle
    → Gathers middle (given_of y (fresh os)) after → Gathers before (given_of y (begun true fragment (e ∷ os))) after
joined-both y f e fragment os before middle after is_open some others first behind =
    let G : Option (List ℕ) → Type 0 = λ o. Gathers before o after in
    subst G (sym (ap (λ o. given_of y (begun true o (e ∷ os))) is_open ∙ given_joined y f e os some others))
    (gathers-both before middle after (f ++ e) (complete y os) first behind)

pub not_empty : (n : ℕ) (b : Bool) → b ≡ eqb n 0 → b ≡ false → 0 < n
not_empty n b is e = grind (arith, nat_tests)
