-- RTX and RED types by cases.
use Rattle.std.proofs.Common.{◌≡◌, ℕ, Bool, true, false, nat_lt, refl, sym, ◌∙◌, ap, inl, inr, Option, Some, None}
use Rattle.std.proofs.Common.{Result, Ok, Err, if◌then◌else◌}
use Rattle.sdp_formats_rounds.specs.declared.error.RoundError.{RoundError}
use Rattle.sdp_formats_rounds.specs.declared.error.RoundError.TheVariants.{ResendTaken, TypeTaken}
use Rattle.sdp_formats_rounds.specs.Laws.{is_among}
use Rattle.sdp_formats_rounds.specs.Turns.{and_then}
use Rattle.sdp_formats_rounds.specs.Named.{Claims, IsRed}
use Rattle.sdp_formats_rounds.specs.Named.{RedRefused, IsResend, IsResendKept, ResendKeptRefused, ResendRefused}
use Rattle.sdp_formats_rounds.specs.Named.{free_of}
use Rattle.sdp_formats_rounds.proofs.Chains.{then_err, then_ok}
use Rattle.sdp_formats_rounds.proofs.Tables.{agreed_back, agreed_by, agreed_err, agreed_not, agreed_ok, err_ap}
use Rattle.sdp_formats_rounds.proofs.Tables.{err_is}
use Rattle.sdp_formats_rounds.proofs.Tables.{err_ok, ok_ap, ok_err, ok_is, own_back, own_by, own_err, own_not}
use Rattle.sdp_formats_rounds.proofs.Tables.{own_ok}

abbrev pub some_of : Result ℕ RoundError → Result (Option ℕ) RoundError
some_of r = and_then r (λ t. Ok (Some t))

some_ok : (r : Result ℕ RoundError) (new : Option ℕ) → some_of r ≡ Ok new → (t : ℕ) × (new ≡ Some t) × (r ≡ Ok t)
some_ok (Ok t) new e = (t, sym (ok_is (Some t) new e), refl)
some_ok (Err d) new e = err_ok d new e

some_err : (r : Result ℕ RoundError) (e : RoundError) → some_of r ≡ Err e → r ≡ Err e
some_err (Ok t) e is = ok_err (Some t) e is
some_err (Err d) e is = err_ap d e (err_is d e is)

some_back : (r : Result ℕ RoundError) (new : Option ℕ) (t : ℕ) → new ≡ Some t → r ≡ Ok t → some_of r ≡ Ok new
some_back r new t same e = then_ok r (λ u. Ok (Some u)) t e ∙ ok_ap (Some t) new (sym same)

abbrev pub resend_by : Bool → (ℕ → Bool) → Option ℕ → Option ℕ → Option ℕ → Result (Option ℕ) RoundError
resend_by d p free own None = Ok None
resend_by d p free own (Some t) = some_of (agreed_by ResendTaken d p free own t)

pub resend_ok : (d : Bool) (c : Claims) (own theirs new : Option ℕ)
    → resend_by d (is_among c.claimed) (free_of c) own theirs ≡ Ok new → IsResend d c own theirs new
resend_ok d c own None new e = sym (ok_is None new e)
resend_ok d c own (Some theirs) new e =
    let s = some_ok (agreed_by ResendTaken d (is_among c.claimed) (free_of c) own theirs) new e in
    (s.0, s.1, agreed_ok ResendTaken d c own theirs s.0 s.2)

pub resend_back : (d : Bool) (c : Claims) (own theirs new : Option ℕ) → IsResend d c own theirs new
    → resend_by d (is_among c.claimed) (free_of c) own theirs ≡ Ok new
resend_back d c own None new e = ok_ap None new (sym e)
resend_back d c own (Some theirs) new (t, same, is) =
    some_back (agreed_by ResendTaken d (is_among c.claimed) (free_of c) own theirs) new t same
    (agreed_back ResendTaken d c own theirs t is)

pub resend_err : (d : Bool) (c : Claims) (own theirs : Option ℕ) (e : RoundError)
    → resend_by d (is_among c.claimed) (free_of c) own theirs ≡ Err e → ResendRefused d c own theirs e
resend_err d c own None e is = ok_err None e is
resend_err d c own (Some theirs) e is = agreed_err ResendTaken d c own theirs e
    (some_err (agreed_by ResendTaken d (is_among c.claimed) (free_of c) own theirs) e is)

pub resend_not : (d : Bool) (c : Claims) (own theirs : Option ℕ) (e : RoundError) → ResendRefused d c own theirs e
    → resend_by d (is_among c.claimed) (free_of c) own theirs ≡ Err e
resend_not d c own None e is = absurd is
resend_not d c own (Some theirs) e is =
    then_err (agreed_by ResendTaken d (is_among c.claimed) (free_of c) own theirs) (λ t. Ok (Some t)) e
    (agreed_not ResendTaken d c own theirs e is)

abbrev pub resend_kept_by : (ℕ → Bool) → Option ℕ → Option ℕ → Result (Option ℕ) RoundError
resend_kept_by p free None = Ok None
resend_kept_by p free (Some t) = some_of (own_by ResendTaken p free (Some t))

pub resend_kept_ok : (c : Claims) (own new : Option ℕ)
    → resend_kept_by (is_among c.claimed) (free_of c) own ≡ Ok new → IsResendKept c own new
resend_kept_ok c None new e = sym (ok_is None new e)
resend_kept_ok c (Some own) new e =
    let s = some_ok (own_by ResendTaken (is_among c.claimed) (free_of c) (Some own)) new e in
    (s.0, s.1, own_ok ResendTaken c (Some own) s.0 s.2)

pub resend_kept_back : (c : Claims) (own new : Option ℕ) → IsResendKept c own new
    → resend_kept_by (is_among c.claimed) (free_of c) own ≡ Ok new
resend_kept_back c None new e = ok_ap None new (sym e)
resend_kept_back c (Some own) new (t, same, is) =
    some_back (own_by ResendTaken (is_among c.claimed) (free_of c) (Some own)) new t same
    (own_back ResendTaken c (Some own) t is)

pub resend_kept_err : (c : Claims) (own : Option ℕ) (e : RoundError)
    → resend_kept_by (is_among c.claimed) (free_of c) own ≡ Err e → ResendKeptRefused c own e
resend_kept_err c None e is = ok_err None e is
resend_kept_err c (Some own) e is = own_err ResendTaken c (Some own) e
    (some_err (own_by ResendTaken (is_among c.claimed) (free_of c) (Some own)) e is)

pub resend_kept_not : (c : Claims) (own : Option ℕ) (e : RoundError) → ResendKeptRefused c own e
    → resend_kept_by (is_among c.claimed) (free_of c) own ≡ Err e
resend_kept_not c None e is = absurd is
resend_kept_not c (Some own) e is =
    then_err (own_by ResendTaken (is_among c.claimed) (free_of c) (Some own)) (λ t. Ok (Some t)) e
    (own_not ResendTaken c (Some own) e is)

abbrev pub red_of : Bool → Option ℕ → ℕ → Bool → Option ℕ
red_of d free t claimed = if claimed then (if d then None else free) else Some t

abbrev pub red_as : Bool → Option ℕ → ℕ → Bool → Bool → Result (Option ℕ) RoundError
red_as d free t above claimed =
    and_then (let r : Result Bool RoundError = if above then Err (TypeTaken t) else Ok claimed in r)
    (λ b. Ok (red_of d free t b))

abbrev pub red_by : Bool → (ℕ → Bool) → Option ℕ → Option ℕ → Result (Option ℕ) RoundError
red_by d p free None = Ok None
red_by d p free (Some t) = red_as d free t (nat_lt 127 t) (p t)

red_at : (d : Bool) (c : Claims) (t : ℕ) (above claimed dictated : Bool) → nat_lt 127 t ≡ above
    → is_among c.claimed t ≡ claimed → d ≡ dictated
    → red_by d (is_among c.claimed) (free_of c) (Some t) ≡ red_as dictated (free_of c) t above claimed
red_at d c t above claimed dictated x y z =
    ap (λ b. red_as d (free_of c) t b (is_among c.claimed t)) x ∙ ap (λ b. red_as d (free_of c) t above b) y
    ∙ ap (λ b. red_as b (free_of c) t above claimed) z

pub red_ok : (d : Bool) (c : Claims) (met new : Option ℕ)
    → red_by d (is_among c.claimed) (free_of c) met ≡ Ok new → IsRed d c met new
red_ok d c None new e = sym (ok_is None new e)
red_ok d c (Some t) new e = at (nat_lt 127 t) (is_among c.claimed t) d refl refl refl e
  where
    at : (above claimed dictated : Bool) → nat_lt 127 t ≡ above → is_among c.claimed t ≡ claimed → d ≡ dictated
        → red_as dictated (free_of c) t above claimed ≡ Ok new → IsRed d c (Some t) new
    at true claimed dictated x y z is = err_ok (TypeTaken t) new is
    at false false dictated x y z is = inl ((x, y), sym (ok_is (Some t) new is))
    at false true true x y z is = inr (inl ((x, y), z, sym (ok_is None new is)))
    at false true false x y z is = inr (inr ((x, y), z, sym (ok_is (free_of c) new is)))

pub red_back : (d : Bool) (c : Claims) (met new : Option ℕ) → IsRed d c met new
    → red_by d (is_among c.claimed) (free_of c) met ≡ Ok new
red_back d c None new e = ok_ap None new (sym e)
red_back d c (Some t) new (inl (o, same)) = red_at d c t false false d o.0 o.1 refl ∙ ok_ap (Some t) new (sym same)
red_back d c (Some t) new (inr (inl (o, z, same))) =
    red_at d c t false true true o.0 o.1 z ∙ ok_ap None new (sym same)
red_back d c (Some t) new (inr (inr (o, z, same))) =
    red_at d c t false true false o.0 o.1 z ∙ ok_ap (free_of c) new (sym same)

pub red_err : (d : Bool) (c : Claims) (met : Option ℕ) (e : RoundError)
    → red_by d (is_among c.claimed) (free_of c) met ≡ Err e → RedRefused met e
red_err d c None e is = ok_err None e is
red_err d c (Some t) e is = at (nat_lt 127 t) refl is
  where
    at : (above : Bool) → nat_lt 127 t ≡ above → red_as d (free_of c) t above (is_among c.claimed t) ≡ Err e
        → RedRefused (Some t) e
    at true x z = (x, sym (err_is (TypeTaken t) e z))
    at false x z = ok_err (red_of d (free_of c) t (is_among c.claimed t)) e z

pub red_not : (d : Bool) (c : Claims) (met : Option ℕ) (e : RoundError) → RedRefused met e
    → red_by d (is_among c.claimed) (free_of c) met ≡ Err e
red_not d c None e is = absurd is
red_not d c (Some t) e (above, same) =
    red_at d c t true (is_among c.claimed t) d above refl refl ∙ err_ap (TypeTaken t) e (sym same)
