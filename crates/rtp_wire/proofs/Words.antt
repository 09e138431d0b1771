-- Words, one after the other.
use Rattle.std.proofs.Common.{◌≡◌, ℕ, zero, suc, ◌+◌, ◌-◌, ◌*◌, ◌<◌, refl, sym, ◌∙◌, ap, arith, List, [], ◌∷◌, ◌++◌}
use Rattle.std.proofs.Common.{length, drop, replicate, length-append, append_assoc, add-one}
use Rattle.std.proofs.Common.{set as set_at}
use Rattle.std.specs.Int.{w32, from_be_bytes}
use Rattle.std.proofs.lemmas.List as lists
use Rattle.std.proofs.lemmas.List.{drop-drop}
use Rattle.rtp_wire.specs.Header.{u32_at, words_in, slots}

pub length-words_in : (n : ℕ) (bytes : List ℕ) → length (words_in n bytes) ≡ n
length-words_in zero bytes = refl
length-words_in (suc n) bytes = ap suc (length-words_in n (drop 4 bytes))

-- one word more
pub words_in-more : (n : ℕ) (bytes : List ℕ) → words_in (suc n) bytes ≡ words_in n bytes ++ u32_at bytes (4 * n) ∷ []
words_in-more zero bytes = refl
words_in-more (suc n) bytes =
    let e : drop (4 * n) (drop 4 bytes) ≡ drop (4 * suc n) bytes =
    drop-drop (4 * n) 4 bytes ∙ ap (λ k. drop k bytes) (omega arith) in
    let f : u32_at (drop 4 bytes) (4 * n) ≡ u32_at bytes (4 * suc n) = ap (from_be_bytes w32) e in
    ap (λ (ws : List ℕ). from_be_bytes w32 bytes ∷ ws)
    (words_in-more n (drop 4 bytes) ∙ ap (λ w. words_in n (drop 4 bytes) ++ w ∷ []) f)

pub slots-more : (xs : List ℕ) (i w : ℕ) → length xs ≡ i → i < 15 → set_at (slots xs) i w ≡ slots (xs ++ w ∷ [])
slots-more xs i w l b =
    let k : 15 - length xs ≡ suc (15 - length (xs ++ w ∷ [])) = omega (arith, length-append xs (w ∷ [])) in
    rw k (lists.set_at xs 0 (replicate (15 - length (xs ++ w ∷ [])) 0) w i l
    ∙ sym (append_assoc xs (w ∷ []) (replicate (15 - length (xs ++ w ∷ [])) 0)))

-- the loop's step
pub placed-more : (bytes csrc : List ℕ) (i : ℕ) → csrc ≡ slots (words_in i (drop 12 bytes)) → i < 15
    → set_at csrc i (u32_at bytes (12 + 4 * i)) ≡ slots (words_in (i + 1) (drop 12 bytes))
placed-more bytes csrc i e b =
    let at : drop (4 * i) (drop 12 bytes) ≡ drop (12 + 4 * i) bytes = drop-drop (4 * i) 12 bytes in
    let w : u32_at (drop 12 bytes) (4 * i) ≡ u32_at bytes (12 + 4 * i) = ap (from_be_bytes w32) at in
    rw (e, ← w, add-one i) (slots-more (words_in i (drop 12 bytes)) i (u32_at (drop 12 bytes) (4 * i))
    (length-words_in i (drop 12 bytes)) b
    ∙ ap slots (sym (words_in-more i (drop 12 bytes))))
