-- The types that a row is given are no locked row's.
use Rattle.std.proofs.Common.{◌≡◌, ℕ, Bool, true, false, nat_lt, List, [], ◌∷◌, refl, ◌∙◌, arith, Option, Some, None}
use Rattle.std.proofs.Common.{Result, Ok, Err, find, if◌then◌else◌}
use Rattle.std.proofs.lemmas.Grind.{common_steps}
use Rattle.sdp_formats_rows.specs.Rows.{Row}
use Rattle.sdp_formats_rounds.specs.declared.error.RoundError.{RoundError}
use Rattle.sdp_formats_rounds.specs.declared.claims.Own.{Own}
use Rattle.sdp_formats_rounds.specs.declared.claims.Role.{Role}
use Rattle.sdp_formats_rounds.specs.declared.claims.Role.TheVariants.{Main, Resend}
use Rattle.sdp_formats_rounds.specs.Types.{is_locked_type, is_used, is_claimed, is_free, free_type, preferred}
use Rattle.sdp_formats_rounds.specs.Rounds.{tested, found, kept_or_free, fallback, instead_of, agreed_type}
use Rattle.sdp_formats_rounds.specs.Rounds.{agreed_resend, red_instead_of, agreed_red, taken}
use Rattle.sdp_formats_rounds.proofs.Split.{split_ok, ok_same}

-- a type that no row has, no locked row has
pub unused_unlocked : (rows : List Row) (t : ℕ) → is_used rows t ≡ false → is_locked_type rows t ≡ false
unused_unlocked [] t e = refl
unused_unlocked (row ∷ rows) t e =
    let ih : is_used rows t ≡ false → is_locked_type rows t ≡ false = unused_unlocked rows t in
    grind (arith, common_steps)

pub find_passes : (p : ℕ → Bool) (xs : List ℕ) (t : ℕ) → find p xs ≡ Some t → p t ≡ true
find_passes p [] t e = cc
find_passes p (x ∷ xs) t e =
    let ih : find p xs ≡ Some t → p t ≡ true = find_passes p xs t in
    grind (arith, common_steps)

pub free_unclaimed : (before now : List Row) (own : Own) (t : ℕ) → free_type before now own ≡ Some t
    → is_claimed now own t ≡ false
free_unclaimed before now own t e =
    let f = find_passes (is_free before now own) preferred t e in
    let u = unused_unlocked now t in
    grind (arith, common_steps)

pub found_unclaimed : (before now : List Row) (own : Own) (t : ℕ) → found (free_type before now own) ≡ Ok t
    → is_claimed now own t ≡ false
found_unclaimed before now own t e = at (free_type before now own) refl e
  where
    at : (o : Option ℕ) → free_type before now own ≡ o → found o ≡ Ok t → is_claimed now own t ≡ false
    at None is e = cc
    at (Some u) is e = let same : u ≡ t = (cc) in free_unclaimed before now own t (rw same at is)

pub tested_is : (role : Role) (now : List Row) (own : Own) (t : ℕ) (claimed : Bool)
    → tested role now own t ≡ Ok claimed → is_claimed now own t ≡ claimed
tested_is role now own t claimed e = at (nat_lt 127 t) e
  where
    at : (above : Bool) → (let r : Result Bool RoundError = if above then Err (taken role t) else Ok
        (is_claimed now own t) in r ≡ Ok claimed) → is_claimed now own t ≡ claimed
    at true e = cc
    at false e = cc

pub kept_unclaimed : (before now : List Row) (own : Own) (o t : ℕ) (claimed : Bool) → is_claimed now own o ≡ claimed
    → kept_or_free before now own o claimed ≡ Ok t → is_claimed now own t ≡ false
kept_unclaimed before now own o t true is e = found_unclaimed before now own t e
kept_unclaimed before now own o t false is e = let same : o ≡ t = (cc) in rw (← same) is

fallback_unclaimed : (role : Role) (before now : List Row) (own : Own) (ours : Option ℕ) (t : ℕ)
    → fallback role before now own ours ≡ Ok t → is_claimed now own t ≡ false
fallback_unclaimed role before now own None t e = found_unclaimed before now own t e
fallback_unclaimed role before now own (Some o) t e =
    let s = split_ok (tested role now own o) (kept_or_free before now own o) t e in
    kept_unclaimed before now own o t s.0 (tested_is role now own o s.0 s.1) s.2

instead_unclaimed : (role : Role) (dictated : Bool) (before now : List Row) (own : Own) (ours : Option ℕ)
    (theirs t : ℕ) (claimed : Bool)
    → is_claimed now own theirs ≡ claimed → instead_of role dictated before now own ours theirs claimed ≡ Ok t
    → is_claimed now own t ≡ false
instead_unclaimed role dictated before now own ours theirs t false is e = let same : theirs ≡ t = (cc) in rw (← same) is
instead_unclaimed role true before now own ours theirs t true is e = cc
instead_unclaimed role false before now own ours theirs t true is e = fallback_unclaimed role before now own ours t e

pub agreed_unclaimed : (role : Role) (dictated : Bool) (before now : List Row) (own : Own) (ours : Option ℕ)
    (theirs t : ℕ)
    → agreed_type role dictated before now own ours theirs ≡ Ok t → is_claimed now own t ≡ false
agreed_unclaimed role dictated before now own ours theirs t e =
    let s = split_ok (tested role now own theirs) (instead_of role dictated before now own ours theirs) t e in
    instead_unclaimed role dictated before now own ours theirs t s.0 (tested_is role now own theirs s.0 s.1) s.2

-- if types are dictated the other end's is the one
pub dictated_same : (role : Role) (before now : List Row) (own : Own) (ours : Option ℕ) (theirs t : ℕ)
    → agreed_type role true before now own ours theirs ≡ Ok t → t ≡ theirs
dictated_same role before now own ours theirs t e =
    let s = split_ok (tested role now own theirs) (instead_of role true before now own ours theirs) t e in at s.0 s.2
  where
    at : (claimed : Bool) → instead_of role true before now own ours theirs claimed ≡ Ok t → t ≡ theirs
    at true e = cc
    at false e = cc

pub resend_unclaimed : (dictated : Bool) (before now : List Row) (own : Own) (ours theirs resend : Option ℕ) (t : ℕ)
    → agreed_resend dictated before now own ours theirs ≡ Ok resend → resend ≡ Some t → is_claimed now own t ≡ false
resend_unclaimed dictated before now own ours None resend t e is = cc
resend_unclaimed dictated before now own ours (Some theirs) resend t e is =
    let s = split_ok (agreed_type Resend dictated before now own ours theirs) (λ u. Ok (Some u)) resend e in
    agreed_unclaimed Resend dictated before now own ours theirs t (let same : s.0 ≡ t = cc s.2 in rw same at s.1)

pub dictated_resend : (before now : List Row) (own : Own) (ours theirs resend : Option ℕ)
    → agreed_resend true before now own ours theirs ≡ Ok resend → resend ≡ theirs
dictated_resend before now own ours None resend e = cc
dictated_resend before now own ours (Some theirs) resend e =
    let s = split_ok (agreed_type Resend true before now own ours theirs) (λ u. Ok (Some u)) resend e in
    let same : s.0 ≡ theirs = dictated_same Resend before now own ours theirs s.0 s.1 in
    cc s.2

red_unclaimed_at : (dictated : Bool) (before now : List Row) (own : Own) (theirs : ℕ) (claimed : Bool)
    (red : Option ℕ) (t : ℕ)
    → is_claimed now own theirs ≡ claimed → red_instead_of dictated before now own theirs claimed ≡ Ok red
    → red ≡ Some t → is_claimed now own t ≡ false
red_unclaimed_at dictated before now own theirs false red t c e is = let same : theirs ≡ t = (cc) in rw (← same) c
red_unclaimed_at true before now own theirs true red t c e is = cc
red_unclaimed_at false before now own theirs true red t c e is = free_unclaimed before now own t (ok_same
    (free_type before now own) red e ∙ is)

pub red_unclaimed : (dictated : Bool) (before now : List Row) (own : Own) (audio : Bool)
    (ours theirs red : Option ℕ) (t : ℕ)
    → agreed_red dictated before now own audio ours theirs ≡ Ok red → red ≡ Some t → is_claimed now own t ≡ false
red_unclaimed dictated before now own true (Some o) (Some u) red t e is =
    let s = split_ok (tested Main now own u) (red_instead_of dictated before now own u) red e in
    red_unclaimed_at dictated before now own u s.0 red t (tested_is Main now own u s.0 s.1) s.2 is
red_unclaimed dictated before now own false o u red t e is = cc
red_unclaimed dictated before now own true None u red t e is = cc
red_unclaimed dictated before now own true (Some o) None red t e is = cc
