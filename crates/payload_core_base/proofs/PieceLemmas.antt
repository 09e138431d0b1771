-- What the pieces of a text are, one after the other.
use Rattle.std.proofs.Common.{◌≡◌, ℕ, zero, suc, ◌+◌, ◌-◌, ◌*◌, ◌/◌, ◌<◌, ◌≤◌, List, [], ◌∷◌, ◌++◌, map, length, min}
use Rattle.std.proofs.Common.{take, drop, refl, sym, ap, subst, ◌∙◌, arith, inl, inr}
use Rattle.std.specs.List.{range_with_len, All}
use Rattle.std.proofs.lemmas.List.{length-take, length-drop, length-append, take-append-drop, take_all, drop_all}
use Rattle.std.proofs.lemmas.List.{append-nil}
use Rattle.std.proofs.lemmas.List.Concat.{flat_map-cons}
use Rattle.std.proofs.lemmas.List.Elements.{All-cons, All-nil}
use Rattle.std.proofs.lemmas.Bool.{cases_lt}
use Rattle.std.proofs.Math.Seq.{drop-nil, take-append_seam, drop-append_seam}
use Rattle.std.proofs.Math.Nat.{add-div_right, div-eq_of_lt, div-zero}
use Rattle.payload_core_base.specs.Pieces.{pieces, piece_at, piece_count}
use Rattle.payload_core_base.specs.Law.{AreFull, joined}

-- at limit 0 there is no piece
pub pieces-none : (text : List ℕ) → pieces 0 text ≡ []
unfolding pieces
pieces-none text = ap (λ n. map (piece_at 0 text) (range_with_len 0 n)) (div-zero (length text + 0 - 1))

count_empty : (limit : ℕ) → piece_count 0 limit ≡ 0
count_empty zero = div-zero 0
count_empty (suc k) = let lt : 0 + suc k - 1 < suc k = omega arith in div-eq_of_lt lt

-- a text without bytes has no piece
pub pieces-empty : (limit : ℕ) → pieces limit [] ≡ []
unfolding pieces
pieces-empty limit = ap (λ n. map (piece_at limit []) (range_with_len 0 n)) (count_empty limit)

count_more : (size limit : ℕ) → 0 < limit → 0 < size → piece_count size limit ≡ suc (piece_count (size - limit) limit)
count_more size limit some_limit some_size = elim (cases_lt size limit) [
  | inl short ↦
      let gone : size - limit ≡ 0 = omega arith in
      let shape : size + limit - 1 ≡ (size - 1) + limit = omega arith in
      let lt : size - 1 < limit = omega arith in
      ap (λ n. n / limit) shape ∙ add-div_right (size - 1) some_limit ∙ ap (λ n. n + 1) (div-eq_of_lt lt)
      ∙ ap suc (sym (ap (λ n. piece_count n limit) gone ∙ count_empty limit))
  | inr more ↦
      let shape : size + limit - 1 ≡ (size - limit + limit - 1) + limit = omega arith in
      let one_more : (size - limit + limit - 1) / limit + 1 ≡ suc ((size - limit + limit - 1) / limit) = omega arith in
      ap (λ n. n / limit) shape ∙ add-div_right (size - limit + limit - 1) some_limit ∙ one_more
]

drop_drop : (a b : ℕ) (text : List ℕ) → drop (a + b) text ≡ drop b (drop a text)
drop_drop zero b text = ap (λ n. drop n text) (omega arith)
drop_drop (suc a) b [] = let e : suc a + b ≡ suc (a + b) = omega arith in ap (λ n. drop n []) e ∙ sym (drop-nil b)
drop_drop (suc a) b (x ∷ xs) = let e : suc a + b ≡ suc (a + b) = omega arith in
    ap (λ n. drop n (x ∷ xs)) e ∙ drop_drop a b xs

piece_behind : (limit : ℕ) (text : List ℕ) (k : ℕ) → piece_at limit text (k + 1) ≡ piece_at limit (drop limit text) k
piece_behind limit text k =
    let e : (k + 1) * limit ≡ limit + k * limit = grind arith in
    ap (λ n. take limit (drop n text)) e ∙ ap (take limit) (drop_drop limit (k * limit) text)

pieces_from : (limit : ℕ) (text : List ℕ) (a n : ℕ) → map (piece_at limit text) (range_with_len (a + 1) n)
    ≡ map (piece_at limit (drop limit text)) (range_with_len a n)
pieces_from limit text a zero = refl
pieces_from limit text a (suc n) =
    ap (λ p. p ∷ map (piece_at limit text) (range_with_len (a + 1 + 1) n)) (piece_behind limit text a)
    ∙ ap (λ ps. piece_at limit (drop limit text) a ∷ ps) (pieces_from limit text (a + 1) n)

-- the first piece is what the limit takes, and the others are the pieces of what is after it
pub pieces-step : (limit : ℕ) (text : List ℕ) → 0 < limit → 0 < length text → pieces limit text ≡ take limit text
    ∷ pieces limit (drop limit text)
unfolding pieces
pieces-step limit text some_limit some_byte =
    let count = count_more (length text) limit some_limit some_byte in
    let left : length text - limit ≡ length (drop limit text) = sym (length-drop limit text) in
    let start : 0 * limit ≡ 0 = omega arith in
    ap (λ n. map (piece_at limit text) (range_with_len 0 n)) count
    ∙ ap (λ n. take limit (drop n text) ∷ map (piece_at limit text)
    (range_with_len 1 (piece_count (length text - limit) limit))) start
    ∙ ap (λ ps. take limit text ∷ ps) (pieces_from limit text 0 (piece_count (length text - limit) limit))
    ∙ ap (λ n. take limit text ∷ map (piece_at limit (drop limit text)) (range_with_len 0 (piece_count n limit))) left

no_byte : (text : List ℕ) → length text ≤ 0 → text ≡ []
no_byte [] h = refl
no_byte (x ∷ xs) h = absurd (omega arith)

module _ (limit : ℕ) (some_limit : 0 < limit) where
  -- by how many bytes are left at most
  joined_within : (n : ℕ) (text : List ℕ) → length text ≤ n → joined (pieces limit text) ≡ text
  joined_within zero text h = let e = no_byte text h in
      ap (λ t. joined (pieces limit t)) e ∙ ap joined (pieces-empty limit) ∙ sym e
  joined_within (suc n) [] h = ap joined (pieces-empty limit)
  joined_within (suc n) (x ∷ xs) h =
      let text : List ℕ = x ∷ xs in
      let some : 0 < length text = omega arith in
      let rest : length (drop limit text) ≤ n = omega (arith, length-drop limit text) in
      ap joined (pieces-step limit text some_limit some)
      ∙ flat_map-cons (λ p. p) (take limit text) (pieces limit (drop limit text))
      ∙ ap (λ t. take limit text ++ t) (joined_within n (drop limit text) rest)
      ∙ take-append-drop limit text

  -- each piece has a byte, and none passes the limit
  within_within : (n : ℕ) (text : List ℕ) → length text ≤ n
      → All (λ p. (0 < length p) × (length p ≤ limit)) (pieces limit text)
  within_within zero text h = let P : List (List ℕ) → Type 0 =
      λ ps. All (λ p. (0 < length p) × (length p ≤ limit)) ps in
      subst P (sym (ap (pieces limit) (no_byte text h) ∙ pieces-empty limit)) (All-nil _)
  within_within (suc n) [] h = let P : List (List ℕ) → Type 0 =
      λ ps. All (λ p. (0 < length p) × (length p ≤ limit)) ps in subst P (sym (pieces-empty limit)) (All-nil _)
  within_within (suc n) (x ∷ xs) h =
      let text : List ℕ = x ∷ xs in
      let some : 0 < length text = omega arith in
      let rest : length (drop limit text) ≤ n = omega (arith, length-drop limit text) in
      let P : List (List ℕ) → Type 0 = λ ps. All (λ p. (0 < length p) × (length p ≤ limit)) ps in
      subst P (sym (pieces-step limit text some_limit some))
      (All-cons (λ (p : List ℕ). (0 < length p) × (length p ≤ limit)) (take limit text)
      (pieces limit (drop limit text)) (
        omega (arith, length-take limit text),
        omega (arith, length-take limit text),
      ) (within_within n (drop limit text) rest))

  -- a text that has a piece has a byte
  byte_of_piece : (text : List ℕ) → 0 < length (pieces limit text) → 0 < length text
  byte_of_piece [] h = absurd (omega (arith, ap length (pieces-empty limit)))
  byte_of_piece (x ∷ xs) h = omega arith

  first_full : (text : List ℕ) → AreFull limit (pieces limit (drop limit text))
      → AreFull limit (take limit text ∷ pieces limit (drop limit text))
  first_full text others zero lt =
      let left = byte_of_piece (drop limit text) (omega arith) in
      omega (arith, length-take limit text, length-drop limit text, left)
  first_full text others (suc k) lt = others k (omega arith)

  -- each piece but the last has the limit's size
  full_within : (n : ℕ) (text : List ℕ) → length text ≤ n → AreFull limit (pieces limit text)
  full_within zero text h = let P : List (List ℕ) → Type 0 = AreFull limit in
      subst P (sym (ap (pieces limit) (no_byte text h) ∙ pieces-empty limit)) (λ k lt. absurd (omega arith))
  full_within (suc n) [] h = let P : List (List ℕ) → Type 0 = AreFull limit in
      subst P (sym (pieces-empty limit)) (λ k lt. absurd (omega arith))
  full_within (suc n) (x ∷ xs) h =
      let text : List ℕ = x ∷ xs in
      let some : 0 < length text = omega arith in
      let rest : length (drop limit text) ≤ n = omega (arith, length-drop limit text) in
      let P : List (List ℕ) → Type 0 = AreFull limit in
      subst P (sym (pieces-step limit text some_limit some)) (first_full text (full_within n (drop limit text) rest))

  -- the pieces are the text
  pub joined-pieces : (text : List ℕ) → joined (pieces limit text) ≡ text
  joined-pieces text = joined_within (length text) text (omega arith)

  pub pieces-within : (text : List ℕ) → All (λ p. (0 < length p) × (length p ≤ limit)) (pieces limit text)
  pieces-within text = within_within (length text) text (omega arith)

  pub pieces-full : (text : List ℕ) → AreFull limit (pieces limit text)
  pieces-full text = full_within (length text) text (omega arith)

-- cut from the front: a piece of the limit's size, or of what is left, and the pieces of what is after it
pub pieces-next : (limit : ℕ) (text piece rest : List ℕ) → 0 < limit → 0 < length text → text ≡ piece ++ rest
    → length piece ≡ min limit (length text) → pieces limit text ≡ piece ∷ pieces limit rest
pieces-next limit text piece rest some_limit some_byte parts size = elim (cases_lt (length text) limit) [
  | inl short ↦
      let none_left : rest ≡ [] = no_byte rest (omega (arith, length-append piece rest, ap length parts)) in
      let all : take limit text ≡ text = take_all limit text (omega arith) in
      let gone : drop limit text ≡ [] = drop_all limit text (omega arith) in
      let piece_is : text ≡ piece = parts ∙ ap (λ (t : List ℕ). piece ++ t) none_left ∙ append-nil piece in
      pieces-step limit text some_limit some_byte ∙ ap (λ p. p ∷ pieces limit (drop limit text)) (all ∙ piece_is)
      ∙ ap (λ t. piece ∷ pieces limit t) (gone ∙ sym none_left)
  | inr more ↦
      let whole : length piece ≡ limit = omega arith in
      let front : take limit text ≡ piece = ap (λ n. take n text) (sym whole) ∙ ap (take (length piece)) parts
      ∙ take-append_seam piece rest in
      let back : drop limit text ≡ rest = ap (λ n. drop n text) (sym whole) ∙ ap (drop (length piece)) parts
      ∙ drop-append_seam piece rest in
      pieces-step limit text some_limit some_byte ∙ ap (λ p. p ∷ pieces limit (drop limit text)) front
      ∙ ap (λ t. piece ∷ pieces limit t) back
]

-- at the end no piece is left
pub pieces-end : (limit : ℕ) (text : List ℕ) → length text ≡ 0 → pieces limit text ≡ []
pieces-end limit text e = ap (pieces limit) (no_byte text (omega arith)) ∙ pieces-empty limit
