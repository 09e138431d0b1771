-- The first turns of a round go through the types of its locked rows.
use Rattle.std.proofs.Common.{◌≡◌, ℕ, Bool, true, false, ◌||◌, ◌==◌, nat_lt, List, [], ◌∷◌, ◌++◌, refl, sym, ◌∙◌}
use Rattle.std.proofs.Common.{ap, append-nil, arith, Option, Some, None, Result, Ok, Err, if◌then◌else◌}
use Rattle.std.specs.Prelude.{filter}
use Rattle.std.specs.Option.{option_or}
use Rattle.std.proofs.lemmas.Grind.{common_steps, flat_map-append}
use Rattle.std.proofs.lemmas.List.{map-append}
use Rattle.std.proofs.lemmas.List.Elements.{filter-append}
use Rattle.sdp_formats_rows.specs.Rows.{Row}
use Rattle.sdp_formats_rounds.specs.declared.error.RoundError.{RoundError}
use Rattle.sdp_formats_rounds.specs.declared.error.RoundError.TheVariants.{TypeTaken, ResendTaken}
use Rattle.sdp_formats_rounds.specs.Laws.{is_among}
use Rattle.sdp_formats_rounds.specs.Rounds.{given, none_given, round, standing_row, standing_rows, standing_types}
use Rattle.sdp_formats_rounds.specs.Rounds.{agreed_rows, settled_rows}
use Rattle.sdp_formats_rounds.specs.Turns.{and_then, in_turn}
use Rattle.sdp_formats_rounds.specs.Types.{has_type, is_claimed, is_given, is_locked_type}
use Rattle.sdp_formats_rounds.proofs.Apart.{among_append}
use Rattle.sdp_formats_rounds.proofs.Split.{split_ok}
use Rattle.sdp_formats_rounds.specs.Standing.{Held, FirstTaken, held, held_by, held_if, numbers, are_apart}
use Rattle.sdp_formats_rounds.proofs.Checks.{check, check_append, check_none, check_passes, check_some, check_stops}
use Rattle.sdp_formats_rounds.proofs.Checks.{check_three, refusal, refusal_then, refused_err}

pub none_held : held [] ≡ []
unfolding held
none_held = refl

held_append : (xs ys : List Row) → held (xs ++ ys) ≡ held xs ++ held ys
unfolding held
held_append xs ys = rw (filter-append (λ (row : Row). row.locked) xs ys) (flat_map-append held_by (filter
    (λ row. row.locked) xs) (filter (λ row. row.locked) ys))

held_one : (row : Row) (rest : List Row) → row.locked ≡ true → held (row ∷ rest) ≡ held_by row ++ held rest
unfolding held
held_one row rest e = rw e refl

held_none : (row : Row) (rest : List Row) → row.locked ≡ false → held (row ∷ rest) ≡ held rest
unfolding held
held_none row rest e = rw e refl

snoc_one : (done : List Row) (row : Row) → row.locked ≡ true → held (done ++ row ∷ []) ≡ held done ++ held_by row
snoc_one done row e = held_append done (row ∷ []) ∙ ap (λ l. held done ++ l) (held_one row [] e
    ∙ ap (λ l. held_by row ++ l) none_held ∙ append-nil (held_by row))

snoc_none : (done : List Row) (row : Row) → row.locked ≡ false → held (done ++ row ∷ []) ≡ held done
snoc_none done row e = held_append done (row ∷ []) ∙ ap (λ l. held done ++ l) (held_none row [] e ∙ none_held)
    ∙ append-nil (held done)

has_is : (pt : ℕ) (resend red : Option ℕ) (t : ℕ) → (pt == t || is_given resend t || is_given red t)
    ≡ is_among (numbers (held_if TypeTaken (Some pt) ++ (held_if ResendTaken resend ++ held_if TypeTaken red))) t
has_is pt None None t = grind (arith, common_steps)
has_is pt (Some r) None t = grind (arith, common_steps)
has_is pt None (Some d) t = grind (arith, common_steps)
has_is pt (Some r) (Some d) t = grind (arith, common_steps)

locked_numbers : (rows : List Row) (t : ℕ) → is_locked_type rows t ≡ is_among (numbers (held rows)) t
locked_numbers [] t = rw none_held refl
locked_numbers (row ∷ rows) t = at row.locked refl (locked_numbers rows t)
  where
    at : (b : Bool) → row.locked ≡ b → is_locked_type rows t ≡ is_among (numbers (held rows)) t
        → is_locked_type (row ∷ rows) t ≡ is_among (numbers (held (row ∷ rows))) t
    at false is ih = rw (held_none row rows is, ← ih, is) refl
    at true is ih =
        let m = map-append (λ (g : Held). g.pt) (held_by row) (held rows) in
        let a = among_append t (numbers (held_by row)) (numbers (held rows)) in
        let own = has_is row.pt row.resend row.red t in
        let here : is_locked_type (row ∷ rows) t ≡ (has_type row t || is_locked_type rows t) = rw is refl in
        here ∙ ap (λ b. b || is_locked_type rows t) own
        ∙ ap (λ b. is_among (numbers (held_by row)) t || b) ih
        ∙ sym (ap (λ l. is_among (numbers l) t) (held_one row rows is) ∙ ap (λ l. is_among l t) m ∙ a)

-- the types that a row was given before, after the others
own_none : (done : List Row) (t : ℕ) → is_claimed done none_given t ≡ is_among (numbers (held done)) t
own_none done t = let l = locked_numbers done t in grind (arith, common_steps)

own_one : (done : List Row) (pt t : ℕ)
    → is_claimed done (given pt None) t ≡ is_among (numbers (held done ++ held_if TypeTaken (Some pt))) t
own_one done pt t = rw (
  map-append (λ (g : Held). g.pt) (held done) (held_if TypeTaken (Some pt)),
  among_append t (numbers (held done)) (numbers (held_if TypeTaken (Some pt))),
  ← (locked_numbers done t),
) refl

own_two : (done : List Row) (pt : ℕ) (resend : Option ℕ) (t : ℕ) → is_claimed done (given pt resend) t
    ≡ is_among (numbers ((held done ++ held_if TypeTaken (Some pt)) ++ held_if ResendTaken resend)) t
own_two done pt resend t =
    let front = held done ++ held_if TypeTaken (Some pt) in
    let m = map-append (λ (g : Held). g.pt) front (held_if ResendTaken resend) in
    let a = among_append t (numbers front) (numbers (held_if ResendTaken resend)) in
    let one = own_one done pt t in
    ap (λ b. b) (at resend) ∙ ap (λ b. b || is_among (numbers (held_if ResendTaken resend)) t) one
    ∙ sym (ap (λ l. is_among l t) m ∙ a)
  where
    at : (o : Option ℕ) → is_claimed done (given pt o) t
        ≡ (is_claimed done (given pt None) t || is_among (numbers (held_if ResendTaken o)) t)
    at None = grind (arith, common_steps)
    at (Some r) = grind (arith, common_steps)

-- a type that has to be unclaimed, and one that has to be if it is given
abbrev unclaimed_by : RoundError → ℕ → Bool → Result ℕ RoundError
unclaimed_by e t claimed = and_then (let r : Result Bool RoundError = if nat_lt 127 t then Err e else Ok claimed in r)
    (λ b. if b then Err e else Ok t)

abbrev given_by : (ℕ → RoundError) → (ℕ → Bool) → Option ℕ → Result (Option ℕ) RoundError
given_by f claimed None = Ok None
given_by f claimed (Some t) = and_then (unclaimed_by (f t) t (claimed t)) (λ u. Ok (Some u))

unclaimed_is : (f : ℕ → RoundError) (t : ℕ) (claimed : Bool) (before : List Held)
    → claimed ≡ is_among (numbers before) t
    → refusal (unclaimed_by (f t) t claimed) ≡ check before (held_if f (Some t))
unclaimed_is f t claimed before e = at (nat_lt 127 t) claimed (is_among (numbers before) t) e
  where
    at : (above x y : Bool) → x ≡ y
        → refusal (and_then (let r : Result Bool RoundError = if above then Err (f t) else Ok x in r)
        (λ b. let r : Result ℕ RoundError = if b then Err (f t) else Ok t in r))
        ≡ (if above || y then Some (f t) else None)
    at true x y is = refl
    at false true true is = refl
    at false false false is = refl
    at false true false is = absurd (cc)
    at false false true is = absurd (cc)

refusal_some : (r : Result ℕ RoundError) → refusal (and_then r (λ u. Ok (Some u))) ≡ refusal r
refusal_some (Ok x) = refl
refusal_some (Err e) = refl

given_is : (f : ℕ → RoundError) (claimed : ℕ → Bool) (o : Option ℕ) (before : List Held)
    → ((t : ℕ) → claimed t ≡ is_among (numbers before) t)
    → refusal (given_by f claimed o) ≡ check before (held_if f o)
given_is f claimed None before e = refl
given_is f claimed (Some t) before e = refusal_some (unclaimed_by (f t) t (claimed t))
    ∙ unclaimed_is f t (claimed t) before (e t)

parts : (done : List Row) (row : Row) (resend red : Option ℕ)
    → standing_types done (record row { resend = resend; red = red })
    ≡ and_then (unclaimed_by (TypeTaken row.pt) row.pt (is_claimed done none_given row.pt))
    (λ t. and_then (given_by ResendTaken (is_claimed done (given row.pt None)) resend)
    (λ r. given_by TypeTaken (is_claimed done (given row.pt resend)) red))
parts done row None None = refl
parts done row None (Some d) = refl
parts done row (Some r) None = refl
parts done row (Some r) (Some d) = refl

joined : {A B C : Type 0} (first : Result A RoundError) (second : Result B RoundError) (third : Result C RoundError)
    (before a b c : List Held) → refusal first ≡ check before a → refusal second ≡ check (before ++ a) b
    → refusal third ≡ check ((before ++ a) ++ b) c
    → refusal (and_then first (λ t. and_then second (λ r. third))) ≡ check before (a ++ (b ++ c))
joined first second third before a b c one two three = refusal_then first (and_then second (λ r. third))
    ∙ ap (λ o. option_or (refusal first) o) (refusal_then second third)
    ∙ ap (λ o. option_or o (option_or (refusal second) (refusal third))) one
    ∙ ap (λ o. option_or (check before a) (option_or o (refusal third))) two
    ∙ ap (λ o. option_or (check before a) (option_or (check (before ++ a) b) o)) three
    ∙ sym (check_three before a b c)

standing_is : (done : List Row) (row : Row) → refusal (standing_types done row) ≡ check (held done) (held_by row)
standing_is done row =
    let a = held_if TypeTaken (Some row.pt) in
    let b = held_if ResendTaken row.resend in
    let first = unclaimed_by (TypeTaken row.pt) row.pt (is_claimed done none_given row.pt) in
    let second = given_by ResendTaken (is_claimed done (given row.pt None)) row.resend in
    let third = given_by TypeTaken (is_claimed done (given row.pt row.resend)) row.red in
    ap (λ r. refusal r) (parts done row row.resend row.red)
    ∙ joined first second third (held done) a b (held_if TypeTaken row.red)
    (unclaimed_is TypeTaken row.pt (is_claimed done none_given row.pt) (held done) (own_none done row.pt))
    (given_is ResendTaken (is_claimed done (given row.pt None)) row.resend (held done ++ a) (own_one done row.pt))
    (given_is TypeTaken (is_claimed done (given row.pt row.resend)) row.red ((held done ++ a) ++ b)
    (own_two done row.pt row.resend))

turns : (done rows : List Row)
    → refusal (in_turn (λ done row rest. standing_row done row) done rows) ≡ check (held done) (held rows)
turns done [] = rw none_held refl
turns done (row ∷ rest) = at row.locked refl (turns (done ++ row ∷ []) rest)
  where
    After : Type 0
    After = refusal (in_turn (λ done row rest. standing_row done row) (done ++ row ∷ []) rest)
        ≡ check (held (done ++ row ∷ [])) (held rest)

    stand : (s : Result (Option ℕ) RoundError) → row.locked ≡ true → refusal s ≡ check (held done) (held_by row)
        → After → refusal (and_then (and_then s (λ t. Ok row))
        (λ new. in_turn (λ done row rest. standing_row done row) (done ++ new ∷ []) rest))
        ≡ check (held done) (held (row ∷ rest))
    stand (Err e) is f ih = rw (held_one row rest is, check_append (held done) (held_by row) (held rest), ← f) refl
    stand (Ok t) is f ih = ih ∙ rw (
      snoc_one done row is,
      held_one row rest is,
      check_append (held done) (held_by row) (held rest),
      ← f,
    ) refl

    at : (b : Bool) → row.locked ≡ b → After
        → refusal (and_then (if b then and_then (standing_types done row) (λ t. Ok row) else Ok row)
        (λ new. in_turn (λ done row rest. standing_row done row) (done ++ new ∷ []) rest))
        ≡ check (held done) (held (row ∷ rest))
    at false is ih = ih ∙ rw (snoc_none done row is, held_none row rest is) refl
    at true is ih = stand (standing_types done row) is (standing_is done row) ih

pub standing_check : (rows : List Row) → refusal (standing_rows rows) ≡ check [] (held rows)
standing_check rows = turns [] rows ∙ ap (λ l. check l (held rows)) none_held

pub standing_refused : (rows : List Row) (h : Held) → FirstTaken (held rows) h
    → standing_rows rows ≡ Err h.refusal
standing_refused rows h first =
    let c = check_stops [] first.before first.behind h first.apart first.taken in
    refused_err (standing_rows rows) h.refusal
    (standing_check rows ∙ ap (λ l. check [] l) first.placed ∙ c)

pub refuse : (dictated : Bool) (remote rows : List Row) (h : Held) → FirstTaken (held rows) h
    → round dictated remote rows ≡ Err h.refusal
unfolding round
refuse dictated remote rows h first = rw (standing_refused rows h first) refl

pub standing_apart : (rows same : List Row) → standing_rows rows ≡ Ok same → are_apart (held rows) ≡ true
standing_apart rows same e =
    let none : refusal (standing_rows rows) ≡ None = ap refusal e in
    check_none [] (held rows) refl (sym (standing_check rows) ∙ none)

pub apart : (dictated : Bool) (remote rows after : List Row) → round dictated remote rows ≡ Ok after
    → are_apart (held rows) ≡ true
unfolding round
apart dictated remote rows after e =
    let s = split_ok (standing_rows rows) (λ same. and_then (agreed_rows dictated remote rows rows)
    (λ agreed. settled_rows rows agreed)) after e in
    standing_apart rows s.0 s.1

passes : {A : Type 0} (r : Result A RoundError) → refusal r ≡ None → (x : A) × (r ≡ Ok x)
passes (Ok x) e = (x, refl)
passes (Err d) e = absurd (cc)

pub standing_passes : (rows : List Row) → are_apart (held rows) ≡ true
    → (same : List Row) × (standing_rows rows ≡ Ok same)
standing_passes rows a = passes (standing_rows rows) (standing_check rows ∙ check_passes [] (held rows) a)

pub standing_first : (rows : List Row) (e : RoundError) → standing_rows rows ≡ Err e
    → (h : Held) × FirstTaken (held rows) h × (e ≡ h.refusal)
standing_first rows e is =
    let some : refusal (standing_rows rows) ≡ Some e = ap refusal is in
    let s = check_some [] (held rows) e refl (sym (standing_check rows) ∙ some) in (
      s.0,
      record {
        before = s.1.front;
        behind = s.1.behind;
        placed = s.1.placed;
        apart = s.1.apart;
        taken = s.1.taken;
      },
      s.2,
    )
