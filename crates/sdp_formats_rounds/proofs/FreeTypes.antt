-- Where the types come from that a row moves to.
use Rattle.std.proofs.Common.{◌≡◌, ℕ, Bool, true, false, List, refl, sym, ◌∙◌, ap, arith, Option, Some, None, Ok}
use Rattle.std.proofs.Common.{inl, inr}
use Rattle.std.specs.Prelude.{◌⊎◌}
use Rattle.std.proofs.lemmas.Grind.{common_steps}
use Rattle.sdp_formats_rows.specs.Rows.{Row}
use Rattle.sdp_formats_rounds.specs.declared.claims.Own.{Own}
use Rattle.sdp_formats_rounds.specs.declared.claims.Role.{Role}
use Rattle.sdp_formats_rounds.specs.declared.claims.Role.TheVariants.{Main, Resend}
use Rattle.sdp_formats_rounds.specs.Types.{free_type, is_free, is_own, is_used, preferred}
use Rattle.sdp_formats_rounds.specs.Rounds.{found, kept_or_free, moved_red, moved_resend, moved_type, none_given}
use Rattle.sdp_formats_rounds.specs.Rounds.{red_or_free, tested}
use Rattle.sdp_formats_rounds.proofs.Fresh.{find_passes}
use Rattle.sdp_formats_rounds.proofs.Split.{split_ok, ok_same}

found_free : (before now : List Row) (own : Own) (t : ℕ) → found (free_type before now own) ≡ Ok t
    → is_free before now own t ≡ true
found_free before now own t e = at (free_type before now own) refl e
  where
    at : (o : Option ℕ) → free_type before now own ≡ o → found o ≡ Ok t → is_free before now own t ≡ true
    at None is e = cc
    at (Some u) is e = let same : u ≡ t = (cc) in find_passes (is_free before now own) preferred t (rw same at is)

pub moved_is : (role : Role) (before now : List Row) (own : Own) (t u : ℕ) → moved_type role before now own t ≡ Ok u
    → (u ≡ t) ⊎ (is_free before now own u ≡ true)
moved_is role before now own t u e =
    let s = split_ok (tested role now none_given t) (kept_or_free before now own t) u e in at s.0 s.2
  where
    at : (claimed : Bool) → kept_or_free before now own t claimed ≡ Ok u → (u ≡ t) ⊎ (is_free before now own u ≡ true)
    at true f = inr (found_free before now own u f)
    at false f = inl (sym (ok_same t u f))

pub moved_resend_is : (before now : List Row) (own : Own) (resend new : Option ℕ) (u : ℕ)
    → moved_resend before now own resend ≡ Ok new → new ≡ Some u
    → (resend ≡ Some u) ⊎ (is_free before now own u ≡ true)
moved_resend_is before now own None new u e is = inl (ok_same None new e ∙ is)
moved_resend_is before now own (Some t) new u e is =
    let s = split_ok (moved_type Resend before now own t) (λ v. Ok (Some v)) new e in
    let same : s.0 ≡ u = (cc (ok_same (Some s.0) new s.2 ∙ is)) in
    at s.0 same (moved_is Resend before now own t s.0 s.1)
  where
    at : (v : ℕ) → v ≡ u → (v ≡ t) ⊎ (is_free before now own v ≡ true)
        → (Some t ≡ Some u) ⊎ (is_free before now own u ≡ true)
    at v same (inl kept) = inl (ap Some (sym kept ∙ same))
    at v same (inr free) = inr (rw same at free)

pub moved_red_is : (before now : List Row) (own : Own) (red new : Option ℕ) (u : ℕ)
    → moved_red before now own red ≡ Ok new → new ≡ Some u → (red ≡ Some u) ⊎ (is_free before now own u ≡ true)
moved_red_is before now own None new u e is = inl (ok_same None new e ∙ is)
moved_red_is before now own (Some t) new u e is =
    let s = split_ok (tested Main now none_given t) (red_or_free before now own t) new e in at s.0 s.2
  where
    at : (claimed : Bool) → red_or_free before now own t claimed ≡ Ok new
        → (Some t ≡ Some u) ⊎ (is_free before now own u ≡ true)
    at true f = inr (find_passes (is_free before now own) preferred u (ok_same (free_type before now own) new f ∙ is))
    at false f = inl (ok_same (Some t) new f ∙ is)

-- a free type is no row's and not its own row's
pub free_used : (before now : List Row) (own : Own) (t : ℕ) → is_free before now own t ≡ true → is_used now t ≡ false
free_used before now own t e = grind (arith, common_steps)

pub free_own : (before now : List Row) (own : Own) (t : ℕ) → is_free before now own t ≡ true → is_own own t ≡ false
free_own before now own t e = grind (arith, common_steps)
