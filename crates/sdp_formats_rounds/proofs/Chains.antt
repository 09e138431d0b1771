-- Three steps, one after the other.
use Rattle.std.proofs.Common.{◌≡◌, ℕ, refl, sym, ◌∙◌, ap, inl, inr, Option, Result, Ok, Err}
use Rattle.std.specs.Prelude.{◌⊎◌}
use Rattle.sdp_formats_rows.specs.Rows.{Row}
use Rattle.sdp_formats_rounds.specs.declared.error.RoundError.{RoundError}
use Rattle.sdp_formats_rounds.specs.Turns.{and_then}
use Rattle.sdp_formats_rounds.proofs.Split.{split_ok}
use Rattle.sdp_formats_rounds.proofs.Tables.{err_ap, err_is, ok_err, ok_is}

pub split_err : {A B : Type 0} (r : Result A RoundError) (f : A → Result B RoundError) (e : RoundError)
    → and_then r f ≡ Err e → (r ≡ Err e) ⊎ ((x : A) × (r ≡ Ok x) × (f x ≡ Err e))
split_err (Ok x) f e is = inr (x, refl, is)
split_err {A} {B} (Err d) f e is = inl (err_ap d e (err_is d e is))

pub then_ok : {A B : Type 0} (r : Result A RoundError) (f : A → Result B RoundError) (x : A) → r ≡ Ok x
    → and_then r f ≡ f x
then_ok r f x e = rw e refl

pub then_err : {A B : Type 0} (r : Result A RoundError) (f : A → Result B RoundError) (e : RoundError) → r ≡ Err e
    → and_then r f ≡ Err e
then_err r f e is = rw is refl

abbrev pub chain : (ℕ → Option ℕ → Option ℕ → Row) → Result ℕ RoundError → (ℕ → Result (Option ℕ) RoundError)
    → (ℕ → Option ℕ → Result (Option ℕ) RoundError) → Result Row RoundError
chain mk a b g = and_then a (λ x. and_then (b x) (λ y. and_then (g x y) (λ z. Ok (mk x y z))))

pub chain_same : (mk : ℕ → Option ℕ → Option ℕ → Row) (a a2 : Result ℕ RoundError)
    (b b2 : ℕ → Result (Option ℕ) RoundError) (g g2 : ℕ → Option ℕ → Result (Option ℕ) RoundError) → a ≡ a2
    → ((x : ℕ) → b x ≡ b2 x) → ((x : ℕ) (y : Option ℕ) → g x y ≡ g2 x y) → chain mk a b g ≡ chain mk a2 b2 g2
chain_same mk a a2 b b2 g g2 ea eb eg =
    let fb : b ≡ b2 = λ i x. eb x i in
    let fg : g ≡ g2 = λ i x y. eg x y i in
    ap (λ z. chain mk z b g) ea ∙ ap (λ z. chain mk a2 z g) fb ∙ ap (λ z. chain mk a2 b2 z) fg

-- What it makes, and where it is refused.
pub record Made (mk : ℕ → Option ℕ → Option ℕ → Row) (a : Result ℕ RoundError) (b : ℕ → Result (Option ℕ) RoundError)
    (g : ℕ → Option ℕ → Result (Option ℕ) RoundError) (new : Row) : Type 0 where
  pub x : ℕ
  pub y : Option ℕ
  pub z : Option ℕ
  pub first : a ≡ Ok x
  pub second : b x ≡ Ok y
  pub third : g x y ≡ Ok z
  pub makes : new ≡ mk x y z

abbrev pub MadeRefused : Result ℕ RoundError → (ℕ → Result (Option ℕ) RoundError)
    → (ℕ → Option ℕ → Result (Option ℕ) RoundError) → RoundError → Type 0
MadeRefused a b g e = (a ≡ Err e) ⊎ ((x : ℕ) × (a ≡ Ok x)
    × ((b x ≡ Err e) ⊎ ((y : Option ℕ) × (b x ≡ Ok y) × (g x y ≡ Err e))))

makes_is : (x y : Row) → (let r : Result Row RoundError = Ok x in r ≡ Ok y) → y ≡ x
makes_is x y e = sym (ok_is x y e)

pub chain_ok : (mk : ℕ → Option ℕ → Option ℕ → Row) (a : Result ℕ RoundError) (b : ℕ → Result (Option ℕ) RoundError)
    (g : ℕ → Option ℕ → Result (Option ℕ) RoundError) (new : Row) → chain mk a b g ≡ Ok new → Made mk a b g new
chain_ok mk a b g new e =
    let s = split_ok a (λ x. and_then (b x) (λ y. and_then (g x y) (λ z. Ok (mk x y z)))) new e in
    let t = split_ok (b s.0) (λ y. and_then (g s.0 y) (λ z. Ok (mk s.0 y z))) new s.2 in
    let u = split_ok (g s.0 t.0) (λ z. Ok (mk s.0 t.0 z)) new t.2 in record {
      x = s.0;
      y = t.0;
      z = u.0;
      first = s.1;
      second = t.1;
      third = u.1;
      makes = makes_is (mk s.0 t.0 u.0) new u.2;
    }

pub chain_back : (mk : ℕ → Option ℕ → Option ℕ → Row) (a : Result ℕ RoundError)
    (b : ℕ → Result (Option ℕ) RoundError) (g : ℕ → Option ℕ → Result (Option ℕ) RoundError) (x : ℕ) (y z : Option ℕ)
    → a ≡ Ok x → b x ≡ Ok y → g x y ≡ Ok z → chain mk a b g ≡ Ok (mk x y z)
chain_back mk a b g x y z ea eb eg = then_ok a (λ x. and_then (b x) (λ y. and_then (g x y) (λ z. Ok (mk x y z)))) x ea
    ∙ then_ok (b x) (λ y. and_then (g x y) (λ z. Ok (mk x y z))) y eb
    ∙ then_ok (g x y) (λ z. Ok (mk x y z)) z eg

pub chain_err : (mk : ℕ → Option ℕ → Option ℕ → Row) (a : Result ℕ RoundError) (b : ℕ → Result (Option ℕ) RoundError)
    (g : ℕ → Option ℕ → Result (Option ℕ) RoundError) (e : RoundError) → chain mk a b g ≡ Err e → MadeRefused a b g e
chain_err mk a b g e is = at (split_err a (λ x. and_then (b x) (λ y. and_then (g x y) (λ z. Ok (mk x y z)))) e is)
  where
    last : (x : ℕ) (y : Option ℕ)
        → (g x y ≡ Err e) ⊎ ((z : Option ℕ) × (g x y ≡ Ok z)
        × (let r : Result Row RoundError = Ok (mk x y z) in r ≡ Err e))
        → g x y ≡ Err e
    last x y (inl f) = f
    last x y (inr (z, f, h)) = ok_err (mk x y z) e h

    next : (x : ℕ) → (b x ≡ Err e) ⊎ ((y : Option ℕ) × (b x ≡ Ok y)
        × (and_then (g x y) (λ z. Ok (mk x y z)) ≡ Err e))
        → (b x ≡ Err e) ⊎ ((y : Option ℕ) × (b x ≡ Ok y) × (g x y ≡ Err e))
    next x (inl f) = inl f
    next x (inr (y, f, h)) = inr (y, f, last x y (split_err (g x y) (λ z. Ok (mk x y z)) e h))

    at : (a ≡ Err e) ⊎ ((x : ℕ) × (a ≡ Ok x)
        × (and_then (b x) (λ y. and_then (g x y) (λ z. Ok (mk x y z))) ≡ Err e)) → MadeRefused a b g e
    at (inl f) = inl f
    at (inr (x, f, h)) = inr (
      x,
      f,
      next x
          (split_err (b x) (λ y. and_then (g x y) (λ z. Ok (mk x y z))) e h),
    )

pub chain_not : (mk : ℕ → Option ℕ → Option ℕ → Row) (a : Result ℕ RoundError) (b : ℕ → Result (Option ℕ) RoundError)
    (g : ℕ → Option ℕ → Result (Option ℕ) RoundError) (e : RoundError) → MadeRefused a b g e → chain mk a b g ≡ Err e
chain_not mk a b g e (inl f) = then_err a (λ x. and_then (b x) (λ y. and_then (g x y) (λ z. Ok (mk x y z)))) e f
chain_not mk a b g e (inr (x, f, inl h)) =
    then_ok a (λ x. and_then (b x) (λ y. and_then (g x y) (λ z. Ok (mk x y z)))) x f
    ∙ then_err (b x) (λ y. and_then (g x y) (λ z. Ok (mk x y z))) e h
chain_not mk a b g e (inr (x, f, inr (y, h, k))) =
    then_ok a (λ x. and_then (b x) (λ y. and_then (g x y) (λ z. Ok (mk x y z)))) x f
    ∙ then_ok (b x) (λ y. and_then (g x y) (λ z. Ok (mk x y z))) y h
    ∙ then_err (g x y) (λ z. Ok (mk x y z)) e k
