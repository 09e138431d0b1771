-- What is seen of rows that took their turns: their types, and those of locked ones.
use Rattle.std.proofs.Common.{◌≡◌, ℕ, Bool, true, false, ◌||◌, List, [], ◌∷◌, ◌++◌, refl, sym, subst, ◌∙◌, ap}
use Rattle.std.proofs.Common.{inl, inr, arith, Option, Some, None}
use Rattle.std.specs.Prelude.{◌⊎◌}
use Rattle.std.proofs.lemmas.Grind.{common_steps, flat_map-append}
use Rattle.sdp_formats_rows.specs.Rows.{Row}
use Rattle.sdp_formats_rounds.specs.Best.{best_row}
use Rattle.sdp_formats_rounds.specs.Laws.{is_among}
use Rattle.sdp_formats_rounds.specs.Rounds.{locked_as, renegotiated}
use Rattle.sdp_formats_rounds.specs.TypeLaws.{types_in}
use Rattle.sdp_formats_rounds.specs.Types.{has_type, is_used, locked_types, types_of}
use Rattle.sdp_formats_rounds.proofs.Apart.{among_append}
use Rattle.sdp_formats_rounds.proofs.Fresh.{unused_unlocked}
use Rattle.sdp_formats_rounds.proofs.Locked.{locked_among, locked_append, locked_one, none_locked, types_has}
use Rattle.sdp_formats_rounds.proofs.Locked.{unlocked_one}
use Rattle.sdp_formats_rounds.specs.Named.{Claims}
use Rattle.sdp_formats_rounds.specs.Rounded.{IsMatched, IsSettled, claims_left, claims_matched}
use Rattle.sdp_formats_rounds.proofs.Sets.{Sees}

or_true : (b : Bool) → (b || true) ≡ true
or_true true = refl
or_true false = refl

or_none : (b : Bool) → (b || false) ≡ b
or_none true = refl
or_none false = refl

used_among : (rows : List Row) (t : ℕ) → is_used rows t ≡ is_among (types_in rows) t
used_among [] t = refl
used_among (row ∷ rows) t = ap (λ b. has_type row t || b) (used_among rows t)
    ∙ ap (λ b. b || is_among (types_in rows) t) (sym (types_has row.pt row.resend row.red t))
    ∙ sym (among_append t (types_of row) (types_in rows))

types_append : (xs ys : List Row) → types_in (xs ++ ys) ≡ types_in xs ++ types_in ys
types_append xs ys = flat_map-append types_of xs ys

pub locked_two : (xs ys : List Row) (t : ℕ) → is_among (locked_types (xs ++ ys)) t
    ≡ (is_among (locked_types xs) t || is_among (locked_types ys) t)
locked_two xs ys t = ap (λ l. is_among l t) (locked_append xs ys) ∙ among_append t (locked_types xs) (locked_types ys)

types_two : (xs ys : List Row) (t : ℕ) → is_among (types_in (xs ++ ys)) t
    ≡ (is_among (types_in xs) t || is_among (types_in ys) t)
types_two xs ys t = ap (λ l. is_among l t) (types_append xs ys) ∙ among_append t (types_in xs) (types_in ys)

locked_used : (rows : List Row) (t : ℕ) → is_among (locked_types rows) t ≡ true → is_among (types_in rows) t ≡ true
locked_used rows t e =
    let no = unused_unlocked rows t in
    let u = used_among rows t in
    let l = locked_among rows t in
    grind (arith, common_steps)

-- A row that was matched has the types that it had, or was unlocked and is locked now.
abbrev pub OneMet : Row → Row → Type 0
OneMet row new = ((locked_types (new ∷ []) ≡ locked_types (row ∷ [])) × (types_in (new ∷ []) ≡ types_in (row ∷ [])))
    ⊎ ((locked_types (row ∷ []) ≡ []) × (locked_types (new ∷ []) ≡ types_in (new ∷ [])))

renegotiated_types : (row : Row) (o : Option Row) → row.locked ≡ true → OneMet row (renegotiated row o)
renegotiated_types row None e = inl (refl, refl)
renegotiated_types row (Some best) e = inl (
  locked_one (renegotiated row (Some best)) [] e
      ∙ sym (locked_one row [] e),
  refl,
)

none_of : (row : Row) → row.locked ≡ false → locked_types (row ∷ []) ≡ []
none_of row e = unlocked_one row [] e ∙ none_locked

all_of : (row : Row) → row.locked ≡ true → locked_types (row ∷ []) ≡ types_in (row ∷ [])
all_of row e = locked_one row [] e ∙ ap (λ l. types_of row ++ l) none_locked

locked_is : (row best : Row) (pt : ℕ) (resend red : Option ℕ) → (locked_as row best pt resend red).locked ≡ true
unfolding locked_as
locked_is row best pt resend red = refl

one_met : (d : Bool) (remote : List Row) (c : Claims) (row new : Row) → IsMatched d remote c row new → OneMet row new
one_met d remote c row new (inl (x, same)) =
    subst (λ r. OneMet row r) (sym same) (renegotiated_types row (best_row row.spec remote) x)
one_met d remote c row new (inr (x, y, inl (z, same))) = subst (λ r. OneMet row r) (sym same) (inl (refl, refl))
one_met d remote c row new (inr (x, y, inr (best, z, is))) =
    let l : new.locked ≡ true = ap (λ (r : Row). r.locked) is.becomes
    ∙ locked_is row best is.pt is.resend is.red in
    inr (none_of row x, all_of new l)

-- Rows before a row that is matched, as they were and as they are.
pub record Met (xs done : List Row) : Type 0 where
  pub kept : (t : ℕ) → is_among (locked_types xs) t ≡ true → is_among (locked_types done) t ≡ true
  pub new : (t : ℕ) → is_among (types_in done) t ≡ true
      → (is_among (types_in xs) t || is_among (locked_types done) t) ≡ true

pub none_met : Met [] []
none_met = record {
  kept = λ t e. e;
  new = λ t e. absurd (cc);
}

one_kept : (row new : Row) → OneMet row new → (t : ℕ) → is_among (locked_types (row ∷ [])) t ≡ true
    → is_among (locked_types (new ∷ [])) t ≡ true
one_kept row new (inl (l, u)) t e = ap (λ l. is_among l t) l ∙ e
one_kept row new (inr (none, l)) t e =
    let no : is_among (locked_types (row ∷ [])) t ≡ false = ap (λ l. is_among l t) none in absurd (cc)

one_new : (row new : Row) → OneMet row new → (t : ℕ) → is_among (types_in (new ∷ [])) t ≡ true
    → (is_among (types_in (row ∷ [])) t || is_among (locked_types (new ∷ [])) t) ≡ true
one_new row new (inl (l, u)) t e =
    let there : is_among (types_in (row ∷ [])) t ≡ true = ap (λ l. is_among l t) (sym u) ∙ e in
    ap (λ b. b || is_among (locked_types (new ∷ [])) t) there
one_new row new (inr (none, l)) t e =
    let there : is_among (locked_types (new ∷ [])) t ≡ true = ap (λ x. is_among x t) l ∙ e in
    ap (λ b. is_among (types_in (row ∷ [])) t || b) there ∙ or_true (is_among (types_in (row ∷ [])) t)

kept_both : (a b c d : Bool) → (a ≡ true → c ≡ true) → (b ≡ true → d ≡ true) → (a || b) ≡ true → (c || d) ≡ true
kept_both true b c d f g e = ap (λ x. x || d) (f refl)
kept_both false b c d f g e = ap (λ x. c || x) (g e) ∙ or_true c

new_both : (v w u r l m : Bool) → (v ≡ true → (u || l) ≡ true) → (w ≡ true → (r || m) ≡ true) → (v || w) ≡ true
    → ((u || r) || (l || m)) ≡ true
new_both true w true r l m f g e = refl
new_both true w false r l m f g e = ap (λ x. r || (x || m)) (f refl) ∙ or_true r
new_both false w true r l m f g e = refl
new_both false w false true l m f g e = refl
new_both false w false false l m f g e = ap (λ x. l || x) (g e) ∙ or_true l

pub more_met : (d : Bool) (remote : List Row) (c : Claims) (xs done : List Row) (row new : Row) → Met xs done
    → IsMatched d remote c row new → Met (xs ++ row ∷ []) (done ++ new ∷ [])
more_met d remote c xs done row new m is =
    let one = one_met d remote c row new is in record {
      kept = λ t e. locked_two done (new ∷ []) t
          ∙ kept_both _ _ (is_among (locked_types done) t) (is_among (locked_types (new ∷ [])) t) (m.kept t)
          (one_kept row new one t) (sym (locked_two xs (row ∷ []) t) ∙ e);
      new = λ t e. ap (λ b. b || is_among (locked_types (done ++ new ∷ [])) t) (types_two xs (row ∷ []) t)
          ∙ ap (λ b. (is_among (types_in xs) t || is_among (types_in (row ∷ [])) t) || b) (locked_two done (new ∷ []) t)
          ∙ new_both _ _ (is_among (types_in xs) t) (is_among (types_in (row ∷ [])) t)
          (is_among (locked_types done) t) (is_among (locked_types (new ∷ [])) t) (m.new t) (one_new row new one t)
          (sym (types_two done (new ∷ []) t) ∙ e);
    }

claimed_both : (x r l : Bool) → (x ≡ true → l ≡ true) → (l || r) ≡ ((x || r) || l)
claimed_both true r l f = ap (λ b. b || r) (f refl)
claimed_both false true true f = refl
claimed_both false true false f = refl
claimed_both false false true f = refl
claimed_both false false false f = refl

used_both : (x r u l : Bool) → (u ≡ true → (x || l) ≡ true) → (l ≡ true → u ≡ true)
    → ((x || r) || (u || r)) ≡ ((x || r) || l)
used_both true r u l f g = refl
used_both false true u l f g = refl
used_both false false true l f g = sym (f refl)
used_both false false false true f g = g refl
used_both false false false false f g = refl

-- A row that is matched sees its claims.
pub sees_matched : (rows xs done rest : List Row) (row : Row) → rows ≡ xs ++ row ∷ rest → Met xs done
    → Sees rows (done ++ row ∷ rest) (claims_matched rows done)
sees_matched rows xs done rest row p m = record {
  claimed = λ t. locked_among (done ++ row ∷ rest) t ∙ locked_two done (row ∷ rest) t
      ∙ claimed_both (is_among (locked_types xs) t) (is_among (locked_types (row ∷ rest)) t)
      (is_among (locked_types done) t) (m.kept t)
      ∙ ap (λ b. b || is_among (locked_types done) t) (sym (ap (λ l. is_among (locked_types l) t) p
      ∙ locked_two xs (row ∷ rest) t))
      ∙ sym (among_append t (locked_types rows) (locked_types done));
  used = λ t.
      let whole = ap (λ l. is_among (types_in l) t) p ∙ types_two xs (row ∷ rest) t in
      ap (λ b. b || is_used (done ++ row ∷ rest) t) (used_among rows t ∙ whole)
      ∙ ap (λ b. (is_among (types_in xs) t || is_among (types_in (row ∷ rest)) t) || b)
      (used_among (done ++ row ∷ rest) t ∙ types_two done (row ∷ rest) t)
      ∙ used_both (is_among (types_in xs) t) (is_among (types_in (row ∷ rest)) t) (is_among (types_in done) t)
      (is_among (locked_types done) t) (m.new t) (locked_used done t)
      ∙ ap (λ b. b || is_among (locked_types done) t) (sym whole)
      ∙ sym (among_append t (types_in rows) (locked_types done));
}

-- A row that is settled changes nothing of the types of locked rows.
one_settled : (c : Claims) (row new : Row) → IsSettled c row new
    → locked_types (new ∷ []) ≡ locked_types (row ∷ [])
one_settled c row new (inl (x, same)) = ap (λ r. locked_types (r ∷ [])) same
one_settled c row new (inr (x, is)) =
    let l : new.locked ≡ false = ap (λ (r : Row). r.locked) is.becomes ∙ x in
    none_of new l ∙ sym (none_of row x)

pub more_settled : (c : Claims) (xs done : List Row) (row new : Row) → locked_types done ≡ locked_types xs
    → IsSettled c row new → locked_types (done ++ new ∷ []) ≡ locked_types (xs ++ row ∷ [])
more_settled c xs done row new e is = locked_append done (new ∷ [])
    ∙ ap (λ l. l ++ locked_types (new ∷ [])) e ∙ ap (λ l. locked_types xs ++ l) (one_settled c row new is)
    ∙ sym (locked_append xs (row ∷ []))

left_both : (a u r m : Bool) → (r ≡ true → (a || m) ≡ true) → (m ≡ true → (u || r) ≡ true)
    → (a || (u || r)) ≡ (a || (m || u))
left_both true u r m f g = refl
left_both false true r true f g = refl
left_both false true r false f g = refl
left_both false false true m f g = sym (f refl) ∙ sym (or_none m)
left_both false false false true f g = g refl
left_both false false false false f g = refl

behind_met : (rows matched xs rest : List Row) → matched ≡ xs ++ rest → Met rows matched → (t : ℕ)
    → is_among (types_in rest) t ≡ true → (is_among (types_in rows) t || is_among (locked_types matched) t) ≡ true
behind_met rows matched xs rest p m t e = m.new t (ap (λ l. is_among (types_in l) t) p ∙ types_two xs rest t
    ∙ ap (λ b. is_among (types_in xs) t || b) e ∙ or_true (is_among (types_in xs) t))

locked_behind : (matched xs done rest : List Row) → matched ≡ xs ++ rest → locked_types done ≡ locked_types xs → (t : ℕ)
    → is_among (locked_types matched) t ≡ true → (is_among (types_in done) t || is_among (types_in rest) t) ≡ true
locked_behind matched xs done rest p same t e =
    let both = sym (locked_two xs rest t) ∙ sym (ap (λ l. is_among (locked_types l) t) p) ∙ e in
    kept_both (is_among (locked_types xs) t) (is_among (locked_types rest) t) _ _
    (λ x. locked_used done t (ap (λ l. is_among l t) same ∙ x)) (locked_used rest t) both

-- A row that is left unlocked sees its claims.
pub sees_left : (rows matched xs done rest : List Row) (row : Row) → matched ≡ xs ++ row ∷ rest → Met rows matched
    → locked_types done ≡ locked_types xs → Sees rows (done ++ row ∷ rest) (claims_left rows matched done)
sees_left rows matched xs done rest row p m same = record {
  claimed = λ t. locked_among (done ++ row ∷ rest) t
      ∙ ap (λ l. is_among l t) (locked_append done (row ∷ rest) ∙ ap (λ l. l ++ locked_types (row ∷ rest)) same
      ∙ sym (locked_append xs (row ∷ rest)) ∙ ap (λ l. locked_types l) (sym p));
  used = λ t. ap (λ b. b || is_used (done ++ row ∷ rest) t) (used_among rows t)
      ∙ ap (λ b. is_among (types_in rows) t || b) (used_among (done ++ row ∷ rest) t ∙ types_two done (row ∷ rest) t)
      ∙ left_both (is_among (types_in rows) t) (is_among (types_in done) t) (is_among (types_in (row ∷ rest)) t)
      (is_among (locked_types matched) t) (behind_met rows matched xs (row ∷ rest) p m t)
      (locked_behind matched xs done (row ∷ rest) p same t)
      ∙ ap (λ b. is_among (types_in rows) t || b) (sym (among_append t (locked_types matched) (types_in done)))
      ∙ sym (among_append t (types_in rows) (locked_types matched ++ types_in done));
}
