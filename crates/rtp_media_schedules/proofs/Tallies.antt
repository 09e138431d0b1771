-- How many places pass a test, and at how many a frame ends.
use Rattle.std.proofs.Common.{◌≡◌, ℕ, zero, suc, ◌+◌, ◌<◌, ◌≤◌, refl, sym, ◌∙◌, ap, ap₂, subst}
use Rattle.std.proofs.Common.{arith, Bool, true, false, cond, List, [], ◌∷◌, ◌++◌, length, map}
use Rattle.std.proofs.Common.{inl, inr}
use Rattle.std.specs.Prelude.{Option, None, Some}
use Rattle.std.specs.List.{cons_option, filter_map, range_with_len}
use Rattle.std.proofs.lemmas.Bool.{cases_lt}
use Rattle.payload_core_buffer.specs.Frames.{lowest_of, packet_at}
use Rattle.payload_core_buffer.specs.Packets.{Packet}
use Rattle.payload_core_buffer.specs.declared.frame.Frame.{Frame}
use Rattle.rtp_media_schedules.specs.Turns.{Sender}
use Rattle.rtp_media_schedules.proofs.Places.{packet}
use Rattle.rtp_media_schedules.proofs.Ready.{at-most-one}
use Rattle.std.proofs.lemmas.List.{length-map}

abbrev pub tally : {A : Type 0} → (A → Bool) → List A → ℕ
tally t [] = 0
tally t (x ∷ xs) = cond (t x) (1 + tally t xs) (tally t xs)

-- at most as many are given as pass a test
pub given-few : (h : ℕ → Option Frame) (t : ℕ → Bool) → ((k : ℕ) → t k ≡ false → h k ≡ None) → (lo n : ℕ)
    → length (filter_map h (range_with_len lo n)) ≤ tally t (range_with_len lo n)
given-few h t none lo zero = omega arith
given-few h t none lo (suc n) = go (given-few h t none (lo + 1) n) (t lo) refl where
  go : length (filter_map h (range_with_len (lo + 1) n)) ≤ tally t (range_with_len (lo + 1) n)
      → (b : Bool) → t lo ≡ b → length (cons_option (h lo) (filter_map h (range_with_len (lo + 1) n)))
      ≤ cond (t lo) (1 + tally t (range_with_len (lo + 1) n)) (tally t (range_with_len (lo + 1) n))
  go ih true e = rw e (omega (
    arith,
    at-most-one (h lo) (filter_map h (range_with_len (lo + 1) n)),
    ih,
  ))
  go ih false e = rw (e, none lo e) ih

pub shifted : (q : ℕ → Bool) (lo n : ℕ) → tally q (range_with_len (lo + 1) n)
    ≡ tally (λ k. q (suc k)) (range_with_len lo n)
shifted q lo zero = refl
shifted q lo (suc n) = let e : lo + 1 ≡ suc lo = omega arith in
    ap₂ (λ (a b : ℕ). cond (q a) (1 + b) b) e (shifted q (lo + 1) n)

pub by-place : (t : Packet → Bool) (ps : List Packet) → tally (λ k. t (packet_at ps k)) (range_with_len 0 (length ps))
    ≡ tally t ps
by-place t [] = refl
by-place t (p ∷ ps) = ap (λ (n : ℕ). cond (t p) (1 + n) n)
    (shifted (λ k. t (packet_at (p ∷ ps) k)) 0 (length ps) ∙ by-place t ps)

pub given-split : (h : ℕ → Option Frame) (lo a b : ℕ) → length (filter_map h (range_with_len lo (a + b)))
    ≡ length (filter_map h (range_with_len lo a)) + length (filter_map h (range_with_len (lo + a) b))
given-split h lo zero b =
    let e : lo ≡ lo + 0 = omega arith in
    let k : 0 + b ≡ b = omega arith in
    let same : length (filter_map h (range_with_len lo (0 + b))) ≡ length (filter_map h (range_with_len (lo + 0) b)) =
    ap₂ (λ (x n : ℕ). length (filter_map h (range_with_len x n))) e k in
    omega (arith, same)
given-split h lo (suc a) b =
    let e : lo + 1 + a ≡ lo + suc a = omega arith in
    let k : suc a + b ≡ suc (a + b) = omega arith in
    let rest : length (filter_map h (range_with_len (lo + 1) (a + b)))
    ≡ length (filter_map h (range_with_len (lo + 1) a)) + length (filter_map h (range_with_len (lo + suc a) b)) =
    given-split h (lo + 1) a b ∙ ap (λ (x : ℕ). length (filter_map h (range_with_len (lo + 1) a))
    + length (filter_map h (range_with_len x b))) e in
    ap (λ (n : ℕ). length (filter_map h (range_with_len lo n))) k ∙ go (h lo) rest where
      go : (o : Option Frame) → length (filter_map h (range_with_len (lo + 1) (a + b)))
          ≡ length (filter_map h (range_with_len (lo + 1) a)) + length (filter_map h (range_with_len (lo + suc a) b)) →
          length (cons_option o (filter_map h (range_with_len (lo + 1) (a + b))))
          ≡ length (cons_option o (filter_map h (range_with_len (lo + 1) a)))
          + length (filter_map h (range_with_len (lo + suc a) b))
      go None rest = rest
      go (Some f) rest = omega (arith, rest)

pub given-one : (h : ℕ → Option Frame) (f : Frame) (k lo n : ℕ) → lo ≤ k → k < lo + n → h k ≡ Some f
    → 1 ≤ length (filter_map h (range_with_len lo n))
given-one h f k lo zero a b e = absurd (omega arith)
given-one h f k lo (suc n) a b e = elim (cases_lt lo k) [
  | inl before ↦ go (h lo) (given-one h f k (lo + 1) n (omega arith) (omega arith) e)
  | inr le ↦ let same : k ≡ lo = omega arith in rw (subst (λ (j : ℕ). h j ≡ Some f) same e) (omega arith)
] where
  go : (o : Option Frame) → 1 ≤ length (filter_map h (range_with_len (lo + 1) n))
      → 1 ≤ length (cons_option o (filter_map h (range_with_len (lo + 1) n)))
  go None rest = rest
  go (Some g) rest = omega arith

-- those after the first ones
pub by-place-after : (sender : Sender) (t : Packet → Bool) (ls ys : List ℕ) →
    tally (λ k. t (packet_at (map (packet sender) (ls ++ ys)) k)) (range_with_len (length ls) (length ys))
    ≡ tally t (map (packet sender) ys)
by-place-after sender t [] ys =
    ap (λ (n : ℕ). tally (λ k. t (packet_at (map (packet sender) ys) k)) (range_with_len 0 n))
    (sym (length-map ys (packet sender))) ∙ by-place t (map (packet sender) ys)
by-place-after sender t (l ∷ ls) ys = let e : suc (length ls) ≡ length ls + 1 = omega arith in
    ap (λ (n : ℕ). tally (λ k. t (packet_at (map (packet sender) (l ∷ ls ++ ys)) k)) (range_with_len n (length ys))) e
    ∙ shifted (λ k. t (packet_at (map (packet sender) (l ∷ ls ++ ys)) k)) (length ls) (length ys)
    ∙ by-place-after sender t ls ys

-- none is given before the first one, if each is given where it ends
pub first-none : (h : ℕ → Option Frame) (f : Frame) (lo n : ℕ)
    → ((k : ℕ) (g : Frame) → h k ≡ Some g → g.end ≡ k + 1) → lowest_of (filter_map h (range_with_len lo n)) ≡ Some f
    → (j : ℕ) → lo ≤ j → j + 1 < f.end → h j ≡ None
first-none h f lo zero ends first j low before = absurd cc
first-none h f lo (suc n) ends first j low before = go (h lo) refl (first-none h f (lo + 1) n ends) first where
  go : (o : Option Frame) → h lo ≡ o → (lowest_of (filter_map h (range_with_len (lo + 1) n)) ≡ Some f
      → (j : ℕ) → lo + 1 ≤ j → j + 1 < f.end → h j ≡ None)
      → lowest_of (cons_option o (filter_map h (range_with_len (lo + 1) n))) ≡ Some f → h j ≡ None
  go (Some g) e ih first =
      let same : g ≡ f = cc in
      absurd (omega (arith, ends lo g e, ap (λ (x : Frame). x.end) same))
  go None e ih first = elim (cases_lt lo j) [
    | inl less ↦ ih first j (omega arith) before
    | inr le ↦ let same : j ≡ lo = omega arith in ap h same ∙ e
  ]
