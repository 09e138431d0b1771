-- Bytes that are in front of others.
use Rattle.std.proofs.Common.{◌≡◌, ℕ, zero, suc, ◌≤◌, List, [], ◌∷◌, ◌++◌, length, take, refl, ap, sym}
use Rattle.std.proofs.Common.{◌∙◌, arith}
use Rattle.std.proofs.lemmas.List.{length-take, take-append-le}
use Rattle.payload_core_av1.specs.Av1ReadingViews.{Keeps}

within : (a b : List ℕ) → Keeps a b → length a ≤ length b
within a b kept = omega (arith, length-take (length a) b, ap length kept)

keeps_more : (a b c : List ℕ) → Keeps a b → Keeps a (b ++ c)
keeps_more a b c kept = let le : length a ≤ length b = within a b kept in
    take-append-le (length a) b c le ∙ kept

pub keeps-is : (a b c d : List ℕ) → Keeps a b → d ≡ b ++ c → Keeps a d
keeps-is a b c d kept is = ap (take (length a)) is ∙ keeps_more a b c kept

take_take : (n m : ℕ) (c : List ℕ) → n ≤ m → take n (take m c) ≡ take n c
take_take zero m c le = refl
take_take (suc n) zero c le = absurd (omega arith)
take_take (suc n) (suc m) [] le = refl
take_take (suc n) (suc m) (x ∷ xs) le = ap (λ ys. x ∷ ys) (take_take n m xs (omega arith))

pub keeps-both : (a b c : List ℕ) → Keeps a b → Keeps b c → Keeps a c
keeps-both a b c first second = let le : length a ≤ length b = within a b first in
    sym (take_take (length a) (length b) c le) ∙ ap (take (length a)) second ∙ first
