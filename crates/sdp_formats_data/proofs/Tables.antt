-- What is known of payload types, from nothing and with one more.
use Rattle.std.proofs.Common.{◌≡◌, ℕ, ◌<◌, ◌≤◌, ◌≢◌, ◌⊎◌, Bool, true, false, List, length, replicate, inl, inr}
use Rattle.std.proofs.Common.{Option, Some, None, sym, ap, ◌∙◌, arith, get_or-set_same, get_or-set_other}
use Rattle.std.proofs.lemmas.Bool.{cases_lt, cases_order}
use Rattle.std.proofs.lemmas.List.{get_or-replicate, get_or_past, length-replicate, length-set}
use Rattle.std.specs.Prelude.{slice_index_or, slice_set}
use Rattle.sdp_formats_data.specs.Consistency.{is_mapped}
use Rattle.sdp_formats_data.specs.KnownTypes.{KnowsApts, KnowsMapped}
use Rattle.sdp_formats_data.specs.declared.media.MediaAttribute.{MediaAttribute}

-- nothing is kept of any place
blank : {X : Type 0} (n i : ℕ) (a : X) → slice_index_or (replicate n a) i a ≡ a
blank n i a = at (cases_lt i n)
  where
    at : (i < n) ⊎ (n ≤ i) → slice_index_or (replicate n a) i a ≡ a
    at (inl h) = get_or-replicate n i a a h
    at (inr h) = get_or_past (replicate n a) i a (omega (arith, length-replicate n a, h))

abbrev Kept : {X : Type 0} → List X → ℕ → X → X → ℕ → Type 0
Kept xs i y d j = ((j ≡ i) × (slice_index_or (slice_set xs i y) j d ≡ y))
    ⊎ (slice_index_or (slice_set xs i y) j d ≡ slice_index_or xs j d)

-- a place is the one that was written, or as before
kept : {X : Type 0} (xs : List X) (i j : ℕ) (y d : X) → i < length xs → Kept xs i y d j
kept xs i j y d inside = at (cases_order j i)
  where
    other : j ≢ i → Kept xs i y d j
    other ne = inr (get_or-set_other xs i j y d ne)

    at : (j ≡ i) ⊎ ((j < i) ⊎ (i < j)) → Kept xs i y d j
    at (inl e) = inl (e, ap (λ (k : ℕ). slice_index_or (slice_set xs i y) k d) e ∙ get_or-set_same xs i y d inside)
    at (inr (inl h)) = other (λ e. omega (arith, h, e))
    at (inr (inr h)) = other (λ e. omega (arith, h, e))

pub none_mapped : (attrs : List MediaAttribute) → KnowsMapped attrs (replicate 256 false)
none_mapped attrs = record {
  places = length-replicate 256 false;
  mapped = λ pt e. absurd-by (sym (blank 256 pt false) ∙ e);
}
  where
    absurd-by : {A : Type 0} → false ≡ true → A
    absurd-by e = cc

pub more_mapped : (attrs : List MediaAttribute) (known : List Bool) (i : ℕ) → i < 256
    → true ≡ is_mapped attrs i → KnowsMapped attrs known → KnowsMapped attrs (slice_set known i true)
more_mapped attrs known i inside is k = record {
  places = length-set known i true ∙ k.places;
  mapped = λ pt e. at pt e (kept known i pt true false (omega (arith, inside, k.places)));
}
  where
    at : (pt : ℕ) → slice_index_or (slice_set known i true) pt false ≡ true → Kept known i true false pt
        → is_mapped attrs pt ≡ true
    at pt e (inl p) = ap (is_mapped attrs) p.0 ∙ sym is
    at pt e (inr p) = k.mapped pt (sym p ∙ e)

pub no_apts : (attrs : List MediaAttribute) → KnowsApts attrs (replicate 256 None)
no_apts attrs = record {
  places = length-replicate {A = Option ℕ} 256 None;
  agree = λ pt apt e. absurd-by apt (sym (blank 256 pt None) ∙ e);
}
  where
    absurd-by : {A : Type 0} (apt : ℕ) → None ≡ Some apt → A
    absurd-by apt e = cc
