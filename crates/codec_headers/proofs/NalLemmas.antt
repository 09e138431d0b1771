-- Payloads of NAL units, byte by byte.
use Rattle.std.proofs.Common.{◌≡◌, ℕ, ◌+◌, ◌<◌, ◌≤◌, List, [], ◌++◌, length, get_or, drop, refl, ap, sym, ◌∙◌, add-one}
use Rattle.std.proofs.Common.{append_assoc}
use Rattle.std.proofs.Math.Seq.{drop-cons}
use Rattle.std.proofs.lemmas.List.{append-nil, drop_all}
use Rattle.codec_headers.specs.Nal.{kept, payload_after}

after-byte : (before last i : ℕ) (unit : List ℕ) → i < length unit → payload_after before last (drop i unit)
    ≡ kept before last (get_or unit i 0) ++ payload_after last (get_or unit i 0) (drop (i + 1) unit)
unfolding payload_after
after-byte before last i unit below = rw (add-one, drop-cons unit i 0) refl

pub payload-more : (before last i : ℕ) (whole unit out written : List ℕ) → i < length unit
    → whole ≡ out ++ payload_after before last (drop i unit) → written ≡ out ++ kept before last (get_or unit i 0)
    → whole ≡ written ++ payload_after last (get_or unit i 0) (drop (i + 1) unit)
payload-more before last i whole unit out written below so_far next =
    so_far ∙ (ap (λ (l : List ℕ). out ++ l) (after-byte before last i unit below)
    ∙ (sym (append_assoc out (kept before last (get_or unit i 0)) _)
    ∙ ap (λ (l : List ℕ). l ++ payload_after last (get_or unit i 0) (drop (i + 1) unit)) (sym next)))

pub payload-all : (before last i : ℕ) (whole unit out : List ℕ) → length unit ≤ i
    → whole ≡ out ++ payload_after before last (drop i unit) → out ≡ whole
unfolding payload_after
payload-all before last i whole unit out above so_far =
    let e : drop i unit ≡ [] = drop_all _ _ above in
    let f : payload_after before last (drop i unit) ≡ [] = rw e refl in
    sym (so_far ∙ (ap (λ (l : List ℕ). out ++ l) f ∙ append-nil out))
