-- The types of one row.
use Rattle.std.proofs.Common.{◌≡◌, ℕ, Bool, true, false, ◌==◌, List, ◌∷◌, ◌++◌, refl, arith, Option, Some, None}
use Rattle.std.proofs.lemmas.Grind.{common_steps}
use Rattle.sdp_formats_rows.specs.Rows.{Row}
use Rattle.sdp_formats_rounds.specs.Types.{is_given, listed, types_of}
use Rattle.sdp_formats_rounds.specs.Laws.{is_among, is_distinct}
use Rattle.sdp_formats_rounds.proofs.Apart.{swap}
use Rattle.sdp_formats_rounds.proofs.Locked.{types_has}

pub has_pt : (row : Row) → is_among (types_of row) row.pt ≡ true
has_pt row = grind (arith, common_steps)

pub has_resend : (row : Row) (t : ℕ) → row.resend ≡ Some t → is_among (types_of row) t ≡ true
has_resend row t e =
    let b = types_has row.pt row.resend row.red t in
    let c : is_given row.resend t ≡ true = rw e (grind (arith, common_steps)) in
    grind (arith, common_steps)

pub has_red : (row : Row) (t : ℕ) → row.red ≡ Some t → is_among (types_of row) t ≡ true
has_red row t e =
    let b = types_has row.pt row.resend row.red t in
    let c : is_given row.red t ≡ true = rw e (grind (arith, common_steps)) in
    grind (arith, common_steps)

-- the types of a row that are its own twice
pub pt_resend : (pt : ℕ) (resend red : Option ℕ) (t : ℕ) → is_distinct (pt ∷ (listed resend ++ listed red)) ≡ true
    → resend ≡ Some t → (pt == t) ≡ false
pt_resend pt None red t d e = cc
pt_resend pt (Some s) None t d e = let same : s ≡ t = (cc) in
    let n : (s == pt) ≡ false = grind (arith, common_steps) in swap t pt (rw same at n)
pt_resend pt (Some s) (Some u) t d e = let same : s ≡ t = (cc) in
    let n : (s == pt) ≡ false = grind (arith, common_steps) in swap t pt (rw same at n)

pub pt_red : (pt : ℕ) (resend red : Option ℕ) (t : ℕ) → is_distinct (pt ∷ (listed resend ++ listed red)) ≡ true
    → red ≡ Some t → (pt == t) ≡ false
pt_red pt resend None t d e = cc
pt_red pt None (Some u) t d e = let same : u ≡ t = (cc) in
    let n : (u == pt) ≡ false = grind (arith, common_steps) in swap t pt (rw same at n)
pt_red pt (Some s) (Some u) t d e = let same : u ≡ t = (cc) in
    let n : (u == pt) ≡ false = grind (arith, common_steps) in swap t pt (rw same at n)

pub resend_red : (pt : ℕ) (resend red : Option ℕ) (s t : ℕ) → is_distinct (pt ∷ (listed resend ++ listed red)) ≡ true
    → resend ≡ Some s → red ≡ Some t → (s == t) ≡ false
resend_red pt None red s t d e f = cc
resend_red pt (Some a) None s t d e f = cc
resend_red pt (Some a) (Some b) s t d e f =
    let one : a ≡ s = (cc) in
    let two : b ≡ t = (cc) in
    let n : (b == a) ≡ false = grind (arith, common_steps) in
    swap t s (rw (one, two) at n)

-- two numbers, of which one is in a list and the other isn't
pub differ : (ts : List ℕ) (s t : ℕ) → is_among ts s ≡ true → is_among ts t ≡ false → (s == t) ≡ false
differ ts s t e f = at (s == t) refl
  where
    at : (b : Bool) → (s == t) ≡ b → (s == t) ≡ false
    at false is = is
    at true is = let same : s ≡ t = grind (arith, common_steps) in
        let yes : is_among ts t ≡ true = rw same at e in absurd (cc)
