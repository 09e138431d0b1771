-- The types of the rows that aren't locked.
use Rattle.std.proofs.Common.{◌≡◌, ℕ, Bool, true, false, not, ◌||◌, List, [], ◌∷◌, ◌++◌, refl, arith}
use Rattle.std.specs.Prelude.{filter}
use Rattle.std.proofs.lemmas.Grind.{common_steps, flat_map-append}
use Rattle.std.proofs.lemmas.List.Elements.{filter-append}
use Rattle.sdp_formats_rows.specs.Rows.{Row}
use Rattle.sdp_formats_rounds.specs.Types.{has_type, is_used, locked_types, types_of}
use Rattle.sdp_formats_rounds.specs.Laws.{is_among}
use Rattle.sdp_formats_rounds.specs.TypeLaws.{types_in, unlocked_types}
use Rattle.sdp_formats_rounds.proofs.Apart.{among_append}
use Rattle.sdp_formats_rounds.proofs.Locked.{locked_one, unlocked_one, none_locked, or_left, or_right, types_has}

pub none_unlocked : unlocked_types [] ≡ []
unfolding unlocked_types
none_unlocked = refl

pub apart_append : (xs ys : List Row) → unlocked_types (xs ++ ys) ≡ unlocked_types xs ++ unlocked_types ys
unfolding unlocked_types
apart_append xs ys = rw (filter-append (λ (row : Row). not row.locked) xs ys) (flat_map-append types_of (filter
    (λ row. not row.locked) xs) (filter (λ row. not row.locked) ys))

pub of_locked : (row : Row) (rest : List Row) → row.locked ≡ true → unlocked_types (row ∷ rest) ≡ unlocked_types rest
unfolding unlocked_types
of_locked row rest e = rw e refl

pub of_unlocked : (row : Row) (rest : List Row) → row.locked ≡ false
    → unlocked_types (row ∷ rest) ≡ types_of row ++ unlocked_types rest
unfolding unlocked_types
of_unlocked row rest e = rw e refl

-- a type that no row has
pub unused_apart : (rows : List Row) (t : ℕ) → is_used rows t ≡ false → is_among (unlocked_types rows) t ≡ false
unfolding unlocked_types
unused_apart [] t e = refl
unused_apart (row ∷ rows) t e = at row.locked refl (unused_apart rows t (or_right (has_type row t) _ e))
  where
    at : (b : Bool) → row.locked ≡ b → is_among (unlocked_types rows) t ≡ false
        → is_among (unlocked_types (row ∷ rows)) t ≡ false
    at true is ih = rw (of_locked row rows is) ih
    at false is ih =
        let a = among_append t (types_of row) (unlocked_types rows) in
        let b = types_has row.pt row.resend row.red t in
        let own : has_type row t ≡ false = or_left _ _ e in
        rw (of_unlocked row rows is, a, b, ih, own) refl

-- a type is a locked row's or an unlocked one's
pub split : (rows : List Row) (t : ℕ) → is_among (types_in rows) t
    ≡ (is_among (locked_types rows) t || is_among (unlocked_types rows) t)
split [] t = rw (none_locked, none_unlocked) refl
split (row ∷ rows) t = at row.locked refl (split rows t)
  where
    at : (b : Bool) → row.locked ≡ b
        → is_among (types_in rows) t ≡ (is_among (locked_types rows) t || is_among (unlocked_types rows) t)
        → is_among (types_in (row ∷ rows)) t
        ≡ (is_among (locked_types (row ∷ rows)) t || is_among (unlocked_types (row ∷ rows)) t)
    at true is ih =
        let a = among_append t (types_of row) (types_in rows) in
        let b = among_append t (types_of row) (locked_types rows) in
        rw (locked_one row rows is, of_locked row rows is, a, b, ih)
        (grind (arith, common_steps))
    at false is ih =
        let a = among_append t (types_of row) (types_in rows) in
        let b = among_append t (types_of row) (unlocked_types rows) in
        rw (unlocked_one row rows is, of_unlocked row rows is, a, b, ih)
        (grind (arith, common_steps))
