-- Keys that compare alike are one.
use Rattle.std.proofs.Common.{◌≡◌, ℕ, Bool, true, false, ap, arith, refl}
use Rattle.std.proofs.lemmas.Grind.{common_steps}
use Rattle.std.proofs.lemmas.Map.Lookups.{exact_pairs, exact_unsigned}
use Rattle.std.specs.BTreeMap.{is_at}
use Rattle.std.specs.Ordering.{is_eq, nat_cmp, ordering_then}
use Rattle.std.specs.declared.cmp.Ordering.{Ordering}
use Rattle.std.specs.declared.cmp.Ordering.TheVariants.{Less, Equal, Greater}
use Rattle.rtp_media_stream_table.specs.StreamIndex.{is_key, key_cmp}

equal : (o : Ordering) → is_eq o ≡ true → o ≡ Equal
equal Less e = grind (arith, common_steps, e)
equal Equal e = refl
equal Greater e = grind (arith, common_steps, e)

by_cases : (a b s p : ℕ) (at : Bool) → is_eq (ordering_then (nat_cmp a s) (nat_cmp b p)) ≡ at
    → is_key a b s p ≡ false → at ≡ false
by_cases a b s p false e n = refl
by_cases a b s p true e n =
    let same = exact_pairs nat_cmp nat_cmp exact_unsigned exact_unsigned (a, b) (s, p) (equal _ e) in
    let ssrc : a ≡ s = ap (λ (x : ℕ × ℕ). x.0) same in
    let pt : b ≡ p = ap (λ (x : ℕ × ℕ). x.1) same in
    grind (arith, common_steps, ssrc, pt, n)

pub other-key : (a b s p : ℕ) → is_key a b s p ≡ false
    → is_at (key_cmp (record { ssrc = a; pt = b })) (record { ssrc = s; pt = p }) ≡ false
other-key a b s p n = by_cases a b s p _ refl n
