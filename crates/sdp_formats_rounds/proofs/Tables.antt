-- Types by cases: above 127, claimed, open.
use Rattle.std.proofs.Common.{◌≡◌, ℕ, Bool, true, false, nat_lt, refl, sym, subst, ◌∙◌, ap}
use Rattle.std.proofs.Common.{inl, inr, Option, Some, None, Result, Ok, Err, if◌then◌else◌}
use Rattle.sdp_formats_rounds.specs.declared.error.RoundError.{RoundError}
use Rattle.sdp_formats_rounds.specs.declared.error.RoundError.TheVariants.{NoFreeType}
use Rattle.sdp_formats_rounds.specs.Laws.{is_among}
use Rattle.sdp_formats_rounds.specs.Rounds.{found}
use Rattle.sdp_formats_rounds.specs.Turns.{and_then}
use Rattle.sdp_formats_rounds.specs.Named.{Claims, IsAbove, IsAgreed, AgreedRefused, IsKept, KeptRefused}
use Rattle.sdp_formats_rounds.specs.Named.{IsOpen, free_of}

-- a type by what it is: above 127 it is refused, claimed it is as said
abbrev pub met_as : RoundError → (Bool → Result ℕ RoundError) → Bool → Bool → Result ℕ RoundError
met_as e f above claimed = and_then (let r : Result Bool RoundError = if above then Err e else Ok claimed in r) f

abbrev pub kept_then : Option ℕ → ℕ → Bool → Result ℕ RoundError
kept_then free t b = if b then found free else Ok t

abbrev pub kept_by : (ℕ → RoundError) → (ℕ → Bool) → Option ℕ → ℕ → Result ℕ RoundError
kept_by f p free t = met_as (f t) (kept_then free t) (nat_lt 127 t) (p t)

abbrev pub own_by : (ℕ → RoundError) → (ℕ → Bool) → Option ℕ → Option ℕ → Result ℕ RoundError
own_by f p free None = found free
own_by f p free (Some t) = kept_by f p free t

abbrev pub agreed_then : RoundError → Bool → Result ℕ RoundError → ℕ → Bool → Result ℕ RoundError
agreed_then e dictated own theirs b = if b then (if dictated then Err e else own) else Ok theirs

abbrev pub agreed_by : (ℕ → RoundError) → Bool → (ℕ → Bool) → Option ℕ → Option ℕ → ℕ → Result ℕ RoundError
agreed_by f dictated p free own theirs =
    met_as (f theirs) (agreed_then (f theirs) dictated (own_by f p free own) theirs) (nat_lt 127 theirs) (p theirs)

pub ok_ap : {A : Type 0} (x y : A) → x ≡ y → (let r : Result A RoundError = Ok x in r ≡ Ok y)
ok_ap x y e = rw e refl

pub err_ap : {A : Type 0} (d e : RoundError) → d ≡ e → (let r : Result A RoundError = Err d in r ≡ Err e)
err_ap d e is = rw is refl

pub ok_is : {A : Type 0} (x y : A) → (let r : Result A RoundError = Ok x in r ≡ Ok y) → x ≡ y
ok_is x y e = cc

pub err_is : {A : Type 0} (d e : RoundError) → (let r : Result A RoundError = Err d in r ≡ Err e) → d ≡ e
err_is d e is = cc

pub ok_err : {A : Type 0} {P : Type 0} (x : A) (e : RoundError) → (let r : Result A RoundError = Ok x in r ≡ Err e) → P
ok_err x e is = absurd (cc)

pub err_ok : {A : Type 0} {P : Type 0} (e : RoundError) (x : A) → (let r : Result A RoundError = Err e in r ≡ Ok x) → P
err_ok e x is = absurd (cc)

met_at : (e : RoundError) (f : Bool → Result ℕ RoundError) (a b x y : Bool) → a ≡ x → b ≡ y
    → met_as e f a b ≡ met_as e f x y
met_at e f a b x y same same2 = ap (λ z. met_as e f z b) same ∙ ap (λ z. met_as e f x z) same2

found_ok : (o : Option ℕ) (t : ℕ) → found o ≡ Ok t → o ≡ Some t
found_ok None t e = err_ok NoFreeType t e
found_ok (Some u) t e = ap Some (ok_is u t e)

found_err : (o : Option ℕ) (e : RoundError) → found o ≡ Err e → (o ≡ None) × (e ≡ NoFreeType)
found_err None e is = (refl, sym (err_is NoFreeType e is))
found_err (Some u) e is = ok_err u e is

kept_ok : (f : ℕ → RoundError) (c : Claims) (t u : ℕ) → kept_by f (is_among c.claimed) (free_of c) t ≡ Ok u
    → IsKept c (Some t) u
kept_ok f c t u e = at (nat_lt 127 t) (is_among c.claimed t) refl refl e
  where
    at : (above claimed : Bool) → nat_lt 127 t ≡ above → is_among c.claimed t ≡ claimed
        → met_as (f t) (kept_then (free_of c) t) above claimed ≡ Ok u → IsKept c (Some t) u
    at true claimed x y z = err_ok (f t) u z
    at false false x y z = let same = ok_is t u z in inl (ap Some same, subst (λ v. IsOpen c v) same (x, y))
    at false true x y z = inr ((x, y), found_ok (free_of c) u z)

kept_err : (f : ℕ → RoundError) (c : Claims) (t : ℕ) (e : RoundError)
    → kept_by f (is_among c.claimed) (free_of c) t ≡ Err e → KeptRefused f c (Some t) e
kept_err f c t e is = at (nat_lt 127 t) (is_among c.claimed t) refl refl is
  where
    at : (above claimed : Bool) → nat_lt 127 t ≡ above → is_among c.claimed t ≡ claimed
        → met_as (f t) (kept_then (free_of c) t) above claimed ≡ Err e → KeptRefused f c (Some t) e
    at true claimed x y z = inl (t, refl, x, sym (err_is (f t) e z))
    at false false x y z = ok_err t e z
    at false true x y z = let n = found_err (free_of c) e z in inr ((x, y), n.0, n.1)

some_is : (t u : ℕ) → Some t ≡ Some u → t ≡ u
some_is t u e = cc

none_some : {P : Type 0} (t : ℕ) → (let o : Option ℕ = None in o ≡ Some t) → P
none_some t e = absurd (cc)

kept_back : (f : ℕ → RoundError) (c : Claims) (t u : ℕ) → IsKept c (Some t) u
    → kept_by f (is_among c.claimed) (free_of c) t ≡ Ok u
kept_back f c t u (inl (same, open_u)) =
    let s = some_is t u same in
    let o = subst (λ v. IsOpen c v) (sym s) open_u in
    met_at (f t) (kept_then (free_of c) t) (nat_lt 127 t) (is_among c.claimed t) false false o.0 o.1 ∙ ok_ap t u s
kept_back f c t u (inr (claimed, free)) =
    met_at (f t) (kept_then (free_of c) t) (nat_lt 127 t) (is_among c.claimed t) false true claimed.0 claimed.1
    ∙ ap found free

kept_not : (f : ℕ → RoundError) (c : Claims) (t : ℕ) (e : RoundError) → KeptRefused f c (Some t) e
    → kept_by f (is_among c.claimed) (free_of c) t ≡ Err e
kept_not f c t e (inl (v, same, above, is)) =
    let s = some_is t v same in
    met_at (f t) (kept_then (free_of c) t) (nat_lt 127 t) (is_among c.claimed t) true (is_among c.claimed t)
    (subst (λ w. IsAbove w) (sym s) above) refl ∙ err_ap (f t) e (ap f s ∙ sym is)
kept_not f c t e (inr (claimed, none, is)) =
    met_at (f t) (kept_then (free_of c) t) (nat_lt 127 t) (is_among c.claimed t) false true claimed.0 claimed.1
    ∙ ap found none ∙ err_ap NoFreeType e (sym is)

pub own_ok : (f : ℕ → RoundError) (c : Claims) (o : Option ℕ) (u : ℕ)
    → own_by f (is_among c.claimed) (free_of c) o ≡ Ok u → IsKept c o u
own_ok f c None u e = inr (tt, found_ok (free_of c) u e)
own_ok f c (Some t) u e = kept_ok f c t u e

pub own_err : (f : ℕ → RoundError) (c : Claims) (o : Option ℕ) (e : RoundError)
    → own_by f (is_among c.claimed) (free_of c) o ≡ Err e → KeptRefused f c o e
own_err f c None e is = let n = found_err (free_of c) e is in inr (tt, n.0, n.1)
own_err f c (Some t) e is = kept_err f c t e is

pub own_back : (f : ℕ → RoundError) (c : Claims) (o : Option ℕ) (u : ℕ) → IsKept c o u
    → own_by f (is_among c.claimed) (free_of c) o ≡ Ok u
own_back f c None u (inl (same, open_u)) = none_some u same
own_back f c None u (inr (none, free)) = ap found free
own_back f c (Some t) u k = kept_back f c t u k

pub own_not : (f : ℕ → RoundError) (c : Claims) (o : Option ℕ) (e : RoundError) → KeptRefused f c o e
    → own_by f (is_among c.claimed) (free_of c) o ≡ Err e
own_not f c None e (inl (v, same, above, is)) = none_some v same
own_not f c None e (inr (unit, none, is)) = ap found none ∙ err_ap NoFreeType e (sym is)
own_not f c (Some t) e k = kept_not f c t e k

pub agreed_ok : (f : ℕ → RoundError) (d : Bool) (c : Claims) (o : Option ℕ) (theirs t : ℕ)
    → agreed_by f d (is_among c.claimed) (free_of c) o theirs ≡ Ok t → IsAgreed d c o theirs t
agreed_ok f d c o theirs t e = at (nat_lt 127 theirs) (is_among c.claimed theirs) d refl refl refl e
  where
    own : Result ℕ RoundError
    own = own_by f (is_among c.claimed) (free_of c) o

    at : (above claimed dictated : Bool) → nat_lt 127 theirs ≡ above → is_among c.claimed theirs ≡ claimed
        → d ≡ dictated → met_as (f theirs) (agreed_then (f theirs) dictated own theirs) above claimed ≡ Ok t
        → IsAgreed d c o theirs t
    at true claimed dictated x y z is = err_ok (f theirs) t is
    at false false dictated x y z is = inl (sym (ok_is theirs t is), (x, y))
    at false true true x y z is = err_ok (f theirs) t is
    at false true false x y z is = inr (z, (x, y), own_ok f c o t is)

pub agreed_err : (f : ℕ → RoundError) (d : Bool) (c : Claims) (o : Option ℕ) (theirs : ℕ) (e : RoundError)
    → agreed_by f d (is_among c.claimed) (free_of c) o theirs ≡ Err e → AgreedRefused f d c o theirs e
agreed_err f d c o theirs e is = at (nat_lt 127 theirs) (is_among c.claimed theirs) d refl refl refl is
  where
    own : Result ℕ RoundError
    own = own_by f (is_among c.claimed) (free_of c) o

    at : (above claimed dictated : Bool) → nat_lt 127 theirs ≡ above → is_among c.claimed theirs ≡ claimed
        → d ≡ dictated → met_as (f theirs) (agreed_then (f theirs) dictated own theirs) above claimed ≡ Err e
        → AgreedRefused f d c o theirs e
    at true claimed dictated x y z is = inl (x, sym (err_is (f theirs) e is))
    at false false dictated x y z is = ok_err theirs e is
    at false true true x y z is = inr (inl (z, (x, y), sym (err_is (f theirs) e is)))
    at false true false x y z is = inr (inr (z, (x, y), own_err f c o e is))

-- the same if the type and whether types are dictated are known
agreed_at : (f : ℕ → RoundError) (d : Bool) (c : Claims) (o : Option ℕ) (theirs : ℕ) (above claimed dictated : Bool)
    → nat_lt 127 theirs ≡ above → is_among c.claimed theirs ≡ claimed → d ≡ dictated
    → agreed_by f d (is_among c.claimed) (free_of c) o theirs ≡ met_as (f theirs)
    (agreed_then (f theirs) dictated (own_by f (is_among c.claimed) (free_of c) o) theirs) above claimed
agreed_at f d c o theirs above claimed dictated x y z =
    let own = own_by f (is_among c.claimed) (free_of c) o in
    met_at (f theirs) (agreed_then (f theirs) d own theirs) (nat_lt 127 theirs) (is_among c.claimed theirs)
    above claimed x y ∙ ap (λ b. met_as (f theirs) (agreed_then (f theirs) b own theirs) above claimed) z

pub agreed_back : (f : ℕ → RoundError) (d : Bool) (c : Claims) (o : Option ℕ) (theirs t : ℕ)
    → IsAgreed d c o theirs t → agreed_by f d (is_among c.claimed) (free_of c) o theirs ≡ Ok t
agreed_back f d c o theirs t (inl (same, open_t)) =
    agreed_at f d c o theirs false false d open_t.0 open_t.1 refl ∙ ok_ap theirs t (sym same)
agreed_back f d c o theirs t (inr (free, claimed, kept)) =
    agreed_at f d c o theirs false true false claimed.0 claimed.1 free ∙ own_back f c o t kept

pub agreed_not : (f : ℕ → RoundError) (d : Bool) (c : Claims) (o : Option ℕ) (theirs : ℕ) (e : RoundError)
    → AgreedRefused f d c o theirs e → agreed_by f d (is_among c.claimed) (free_of c) o theirs ≡ Err e
agreed_not f d c o theirs e (inl (above, is)) =
    agreed_at f d c o theirs true (is_among c.claimed theirs) d above refl refl ∙ err_ap (f theirs) e (sym is)
agreed_not f d c o theirs e (inr (inl (dictated, claimed, is))) =
    agreed_at f d c o theirs false true true claimed.0 claimed.1 dictated ∙ err_ap (f theirs) e (sym is)
agreed_not f d c o theirs e (inr (inr (free, claimed, kept))) =
    agreed_at f d c o theirs false true false claimed.0 claimed.1 free ∙ own_not f c o e kept
