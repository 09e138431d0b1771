-- A list of types gone through, up to the first that is taken.
use Rattle.std.proofs.Common.{◌≡◌, Bool, true, false, ◌&&◌, nat_le, nat_lt, List, [], ◌∷◌, ◌++◌, refl}
use Rattle.std.proofs.Common.{sym, subst, ◌∙◌, ap, append_assoc, append-nil, arith, Option, Some, None, Result, Ok, Err}
use Rattle.std.proofs.Common.{if◌then◌else◌}
use Rattle.std.specs.List.{list_all}
use Rattle.std.specs.Option.{option_or}
use Rattle.std.proofs.lemmas.Grind.{common_steps}
use Rattle.std.proofs.lemmas.List.{map-append}
use Rattle.std.proofs.lemmas.List.Folds.{list_all-append}
use Rattle.sdp_formats_rounds.specs.declared.error.RoundError.{RoundError}
use Rattle.sdp_formats_rounds.specs.Laws.{is_among, is_distinct}
use Rattle.sdp_formats_rounds.specs.Turns.{and_then}
use Rattle.sdp_formats_rounds.proofs.Apart.{apart_out, distinct_with, left_out}
use Rattle.sdp_formats_rounds.proofs.Locked.{or_left, or_right}
use Rattle.sdp_formats_rounds.specs.Standing.{Held, numbers, is_taken_behind, are_apart}

abbrev pub check : List Held → List Held → Option RoundError
check before [] = None
check before (h ∷ hs) = if is_taken_behind before h then Some h.refusal else check (before ++ h ∷ []) hs

pub check_append : (before xs ys : List Held)
    → check before (xs ++ ys) ≡ option_or (check before xs) (check (before ++ xs) ys)
check_append before [] ys = ap (λ l. check l ys) (sym (append-nil before))
check_append before (x ∷ xs) ys = at (is_taken_behind before x) (check_append (before ++ x ∷ []) xs ys)
  where
    at : (b : Bool)
        → check (before ++ x ∷ []) (xs ++ ys)
        ≡ option_or (check (before ++ x ∷ []) xs) (check ((before ++ x ∷ []) ++ xs) ys)
        → (if b then Some x.refusal else check (before ++ x ∷ []) (xs ++ ys))
        ≡ option_or (if b then Some x.refusal else check (before ++ x ∷ []) xs) (check (before ++ x ∷ xs) ys)
    at true ih = refl
    at false ih = ih
        ∙ ap (λ l. option_or (check (before ++ x ∷ []) xs) (check l ys)) (append_assoc before (x ∷ []) xs)

pub check_three : (before a b c : List Held) → check before (a ++ (b ++ c))
    ≡ option_or (check before a) (option_or (check (before ++ a) b) (check ((before ++ a) ++ b) c))
check_three before a b c = check_append before a (b ++ c)
    ∙ ap (λ o. option_or (check before a) o) (check_append (before ++ a) b c)

-- The refusal of an answer, if it is one.
abbrev pub refusal : {A : Type 0} → Result A RoundError → Option RoundError
refusal (Ok x) = None
refusal (Err e) = Some e

pub refusal_then : {A B : Type 0} (r : Result A RoundError) (s : Result B RoundError)
    → refusal (and_then r (λ x. s)) ≡ option_or (refusal r) (refusal s)
refusal_then (Ok x) s = refl
refusal_then (Err e) s = refl

pub refused_err : {A : Type 0} (r : Result A RoundError) (e : RoundError) → refusal r ≡ Some e → r ≡ Err e
refused_err (Ok x) e is = cc
refused_err (Err f) e is = cc

and_left : (a b : Bool) → (a && b) ≡ true → a ≡ true
and_left true b e = refl
and_left false b e = e

and_right : (a b : Bool) → (a && b) ≡ true → b ≡ true
and_right true b e = e
and_right false b e = cc

and_join : (a b : Bool) → a ≡ true → b ≡ true → (a && b) ≡ true
and_join a b e f = rw (e, f) refl

pub snoc_apart : (before : List Held) (h : Held) → are_apart before ≡ true → is_taken_behind before h ≡ false
    → are_apart (before ++ h ∷ []) ≡ true
snoc_apart before h a n =
    let all = list_all-append (λ (g : Held). nat_le g.pt 127) before (h ∷ []) in
    let front : list_all (λ (g : Held). nat_le g.pt 127) before ≡ true = and_left _ (is_distinct (numbers before)) a in
    let above : nat_lt 127 h.pt ≡ false = or_left _ (is_among (numbers before) h.pt) n in
    let one : list_all (λ (g : Held). nat_le g.pt 127) (h ∷ []) ≡ true = grind (arith, common_steps) in
    let small = all ∙ and_join _ _ front one in
    let there : is_among (numbers before) h.pt ≡ false = or_right (nat_lt 127 h.pt) _ n in
    let d : is_distinct (numbers before) ≡ true = and_right (list_all (λ (g : Held). nat_le g.pt 127) before) _ a in
    let nil = append-nil (numbers before) in
    let more = distinct_with h.pt (numbers before) [] (ap (λ l. is_distinct l) nil ∙ d)
    (ap (λ l. is_among l h.pt) nil ∙ there) in
    let m = map-append (λ (g : Held). g.pt) before (h ∷ []) in
    and_join _ _ small (ap (λ l. is_distinct l) m ∙ more)

pub front_apart : (before : List Held) (x : Held) (xs : List Held) → are_apart (before ++ x ∷ xs) ≡ true
    → is_taken_behind before x ≡ false
front_apart before x xs a =
    let small = sym (list_all-append (λ (g : Held). nat_le g.pt 127) before (x ∷ xs)) ∙ and_left _ _ a in
    let head = and_right (list_all (λ (g : Held). nat_le g.pt 127) before) _ small in
    let one : nat_le x.pt 127 ≡ true = and_left _ _ head in
    let m = map-append (λ (g : Held). g.pt) before (x ∷ xs) in
    let d : is_distinct (numbers before ++ x.pt ∷ numbers xs) ≡ true = sym (ap (λ l. is_distinct l) m)
    ∙ and_right (list_all (λ (g : Held). nat_le g.pt 127) (before ++ x ∷ xs)) _ a in
    let own : is_among (x.pt ∷ []) x.pt ≡ true = grind (arith, common_steps) in
    let out = left_out x.pt (numbers before) (numbers xs)
    (apart_out (numbers before) (x.pt ∷ []) (numbers xs) x.pt d own) in
    grind (arith, common_steps)

-- Where a list is gone through up to a type that is taken.
pub record Stop (before hs : List Held) (h : Held) : Type 0 where
  pub front : List Held
  pub behind : List Held
  pub placed : hs ≡ front ++ h ∷ behind
  pub apart : are_apart (before ++ front) ≡ true
  pub taken : is_taken_behind (before ++ front) h ≡ true

pub check_some : (before hs : List Held) (e : RoundError) → are_apart before ≡ true → check before hs ≡ Some e
    → (h : Held) × Stop before hs h × (e ≡ h.refusal)
check_some before [] e a c = absurd (cc)
check_some before (h ∷ hs) e a c = at (is_taken_behind before h) refl (check_some (before ++ h ∷ []) hs e) c
  where
    at : (b : Bool) → is_taken_behind before h ≡ b
        → (are_apart (before ++ h ∷ []) ≡ true → check (before ++ h ∷ []) hs ≡ Some e
        → (g : Held) × Stop (before ++ h ∷ []) hs g × (e ≡ g.refusal))
        → (if b then Some h.refusal else check (before ++ h ∷ []) hs) ≡ Some e
        → (g : Held) × Stop before (h ∷ hs) g × (e ≡ g.refusal)
    at true is ih f = (
      h,
      record {
        front = [];
        behind = hs;
        placed = refl;
        apart = subst (λ l. are_apart l ≡ true) (sym (append-nil before)) a;
        taken = subst (λ l. is_taken_behind l h ≡ true) (sym (append-nil before)) is;
      },
      cc,
    )
    at false is ih f =
        let s = ih (snoc_apart before h a is) f in
        let same = append_assoc before (h ∷ []) s.1.front in (
          s.0,
          record {
            front = h ∷ s.1.front;
            behind = s.1.behind;
            placed = ap (λ l. h ∷ l) s.1.placed;
            apart = subst (λ l. are_apart l ≡ true) same s.1.apart;
            taken = subst (λ l. is_taken_behind l s.0 ≡ true) same s.1.taken;
          },
          s.2,
        )

pub check_none : (before hs : List Held) → are_apart before ≡ true → check before hs ≡ None
    → are_apart (before ++ hs) ≡ true
check_none before [] a c = subst (λ l. are_apart l ≡ true) (sym (append-nil before)) a
check_none before (h ∷ hs) a c = at (is_taken_behind before h) refl (check_none (before ++ h ∷ []) hs) c
  where
    at : (b : Bool) → is_taken_behind before h ≡ b
        → (are_apart (before ++ h ∷ []) ≡ true → check (before ++ h ∷ []) hs ≡ None
        → are_apart ((before ++ h ∷ []) ++ hs) ≡ true)
        → (if b then Some h.refusal else check (before ++ h ∷ []) hs) ≡ None
        → are_apart (before ++ h ∷ hs) ≡ true
    at true is ih f = absurd (cc)
    at false is ih f = subst (λ l. are_apart l ≡ true) (append_assoc before (h ∷ []) hs)
        (ih (snoc_apart before h a is) f)

pub check_stops : (before xs ys : List Held) (h : Held) → are_apart (before ++ xs) ≡ true
    → is_taken_behind (before ++ xs) h ≡ true → check before (xs ++ h ∷ ys) ≡ Some h.refusal
check_stops before [] ys h a t = at (is_taken_behind before h)
    (subst (λ l. is_taken_behind l h ≡ true) (append-nil before) t)
  where
    at : (b : Bool) → b ≡ true
        → (if b then Some h.refusal else check (before ++ h ∷ []) ys) ≡ Some h.refusal
    at true is = refl
    at false is = absurd (cc)
check_stops before (x ∷ xs) ys h a t = at (is_taken_behind before x) (front_apart before x xs a)
    (check_stops (before ++ x ∷ []) xs ys h
    (subst (λ l. are_apart l ≡ true) (sym (append_assoc before (x ∷ []) xs)) a)
    (subst (λ l. is_taken_behind l h ≡ true) (sym (append_assoc before (x ∷ []) xs)) t))
  where
    at : (b : Bool) → b ≡ false → check (before ++ x ∷ []) (xs ++ h ∷ ys) ≡ Some h.refusal
        → (if b then Some x.refusal else check (before ++ x ∷ []) (xs ++ h ∷ ys)) ≡ Some h.refusal
    at true is more = absurd (cc)
    at false is more = more

pub check_passes : (before hs : List Held) → are_apart (before ++ hs) ≡ true → check before hs ≡ None
check_passes before [] a = refl
check_passes before (x ∷ xs) a = at (is_taken_behind before x) (front_apart before x xs a)
    (check_passes (before ++ x ∷ []) xs (subst (λ l. are_apart l ≡ true) (sym (append_assoc before (x ∷ []) xs)) a))
  where
    at : (b : Bool) → b ≡ false → check (before ++ x ∷ []) xs ≡ None
        → (if b then Some x.refusal else check (before ++ x ∷ []) xs) ≡ None
    at true is more = absurd (cc)
    at false is more = more
