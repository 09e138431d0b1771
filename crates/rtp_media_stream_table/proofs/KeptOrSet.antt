-- What is under each key if a number was set, or memory ran out.
use Rattle.std.proofs.Common.{◌≡◌, ◌⊎◌, inl, inr, ℕ, Bool, true, false, ◌==◌, None, Some, refl, sym, ◌∙◌, ap}
use Rattle.std.proofs.lemmas.Bool.{and_parts, eqb-true}
use Rattle.std.specs.BTreeMap.{IsUnchanged, is_at}
use Rattle.std.specs.Map.{lookup}
use Rattle.rtp_media_stream_table.specs.StreamIndex.{KeepsOrRemoves, KeepsOrSets, is_key, key_cmp, number_at}
use Rattle.rtp_media_stream_table.specs.declared.stream_index.StreamIndex.{StreamIndex}

pub kept : (number : ℕ) (old new : StreamIndex) → IsUnchanged old.numbers new.numbers → KeepsOrSets number old new
kept number old new same ssrc pt =
    inl (ap (λ entries. lookup (is_at (key_cmp (record { ssrc = ssrc; pt = pt }))) entries) same)

pub set_there : (number a b : ℕ) (old new : StreamIndex) → number_at new a b ≡ Some number
    → ((s p : ℕ) → is_key a b s p ≡ false → number_at new s p ≡ number_at old s p) → KeepsOrSets number old new
set_there number a b old new there others s p = by_key (is_key a b s p) refl
  where
    by_key : (is : Bool) → is_key a b s p ≡ is
        → (number_at new s p ≡ number_at old s p) ⊎ (number_at new s p ≡ Some number)
    by_key false e = inl (others s p e)
    by_key true e =
        let keys = and_parts (a == s) (b == p) e in
        let ssrc = eqb-true a s keys.0 in
        let pt = eqb-true b p keys.1 in
        inr (sym (λ i. number_at new (ssrc i) (pt i)) ∙ there)

pub removed_there : (a b : ℕ) (old new : StreamIndex) → number_at new a b ≡ None
    → ((s p : ℕ) → is_key a b s p ≡ false → number_at new s p ≡ number_at old s p) → KeepsOrRemoves old new
removed_there a b old new there others s p = by_key (is_key a b s p) refl
  where
    by_key : (is : Bool) → is_key a b s p ≡ is
        → (number_at new s p ≡ number_at old s p) ⊎ (number_at new s p ≡ None)
    by_key false e = inl (others s p e)
    by_key true e =
        let keys = and_parts (a == s) (b == p) e in
        let ssrc = eqb-true a s keys.0 in
        let pt = eqb-true b p keys.1 in
        inr (sym (λ i. number_at new (ssrc i) (pt i)) ∙ there)

pub then_kept : (number : ℕ) (old middle new : StreamIndex) → KeepsOrSets number old middle
    → KeepsOrSets number middle new → KeepsOrSets number old new
then_kept number old middle new first second s p = elim (second s p) [
  | inl e ↦ elim (first s p) [ inl f ↦ inl (e ∙ f) | inr f ↦ inr (e ∙ f) ]
  | inr e ↦ inr e
]
