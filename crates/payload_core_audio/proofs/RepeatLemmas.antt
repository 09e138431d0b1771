-- Blocks that are taken from the history one by one.
use Rattle.std.proofs.Common.{◌≡◌, ℕ, ◌+◌, ◌-◌, ◌<◌, ◌≤◌, List, [], ◌∷◌, ◌++◌, get_or, length, map, reverse}
use Rattle.std.proofs.Common.{◌%◌, take, drop, refl, sym, ap, subst, ◌∙◌, append_assoc, arith}
use Rattle.std.specs.Prelude.{filter, filter_map, flat_map}
use Rattle.std.proofs.lemmas.List.{append-nil, get_or_at, length-append, length-map, length-reverse, reverse-append}
use Rattle.std.proofs.lemmas.List.{take-append-drop, take_all, take_at}
use Rattle.std.proofs.lemmas.List.Elements.{All-map, filter-append, filter_map-append}
use Rattle.std.proofs.lemmas.List.Sums.{sum_by-append}
use Rattle.payload_core_audio.specs.Red.{Block, HasRoom, IsRed, spelled}
use Rattle.payload_core_audio.specs.RedHistory.{AreDistances, Kept}
use Rattle.payload_core_audio.specs.RedSending.{fits, masked}
use Rattle.payload_core_audio.specs.RedWrapping.{IsLongestPrefix, IsWrapped, bytes_of, level, levels}
use Rattle.payload_core_audio.proofs.LevelLemmas.{levels-more}
use Rattle.payload_core_audio.proofs.PrefixLemmas.{stops}
use Rattle.payload_core_audio.proofs.WrapLemmas.{All-reverse, levels-few, levels-room}

module _ (h : List Kept) (ds : List ℕ) (time : ℕ) where
  -- the blocks at the first n distances
  abbrev pub first : ℕ → List Block
  first n = levels h (take n ds) time

  -- one distance more, and the blocks at it
  first-more : (i : ℕ) (here : List Block) → i < length ds → levels h (get_or ds i 0 ∷ []) time ≡ here → first (i + 1)
      ≡ first i ++ here
  first-more i here lt is = levels-more h ds time i lt ∙ ap (λ bs. first i ++ bs) is

  -- all blocks are those, and the others
  first-whole : (n : ℕ) → levels h ds time ≡ first n ++ levels h (drop n ds) time
  first-whole n =
      ap (λ xs. levels h xs time) (sym (take-append-drop n ds))
      ∙ ap (filter fits) (filter_map-append (level h time) (take n ds) (drop n ds))
      ∙ filter-append fits (filter_map (level h time) (take n ds)) (filter_map (level h time) (drop n ds))

  pub first-taken : (n : ℕ) → take (length (first n)) (levels h ds time) ≡ first n
  first-taken n = ap (take (length (first n))) (first-whole n)
      ∙ take_at (first n) (levels h (drop n ds) time) (length (first n)) refl

  pub bytes-some : (i : ℕ) (b : Block) → i < length ds → levels h (get_or ds i 0 ∷ []) time ≡ b ∷ []
      → bytes_of (first (i + 1)) ≡ bytes_of (first i) + (4 + length b.payload)
  bytes-some i b lt is = omega (
    arith,
    ap bytes_of (first-more i (b ∷ []) lt is),
    sum_by-append (λ (b : Block). 4 + length b.payload) (first i) (b ∷ []),
  )

  pub bytes-none : (i : ℕ) → i < length ds → levels h (get_or ds i 0 ∷ []) time ≡ [] → bytes_of (first (i + 1))
      ≡ bytes_of (first i)
  bytes-none i lt is = ap bytes_of (first-more i [] lt is ∙ append-nil (first i))

  -- the block at the next distance has no room
  pub reach-stops : (budget size len i : ℕ) (b : Block) → i < length ds → levels h (get_or ds i 0 ∷ []) time ≡ b ∷ []
      → len ≡ 1 + bytes_of (first i) + size → len ≤ budget → budget - len < 4 + length b.payload
      → IsLongestPrefix budget size (levels h ds time) (length (first i))
  reach-stops budget size len i b lt is long within short =
      let blocks : List Block = levels h ds time in
      let others : List Block = levels h (drop (i + 1) ds) time in
      let whole : blocks ≡ first i ++ (b ∷ others) =
      first-whole (i + 1) ∙ ap (λ bs. bs ++ others) (first-more i (b ∷ []) lt is)
      ∙ append_assoc (first i) (b ∷ []) others in
      stops budget size (budget - len) blocks (length (first i)) b
      (omega (arith, ap length whole, length-append (first i) (b ∷ others)))
      (sym (ap (λ bs. get_or bs (length (first i)) b) whole ∙ get_or_at (first i) b others b (length (first i)) refl))
      (omega (arith, ap bytes_of (first-taken i), long, within)) short

  -- all have room
  pub reach-ends : (budget size len n : ℕ) → length ds ≤ n → len ≡ 1 + bytes_of (first n) + size → len ≤ budget
      → IsLongestPrefix budget size (levels h ds time) (length (first n))
  reach-ends budget size len n all long within =
      let blocks : List Block = levels h ds time in
      let whole : first n ≡ blocks = ap (λ xs. levels h xs time) (take_all n ds all) in
      record {
        existing = omega (arith, ap length whole);
        within = omega (arith, ap bytes_of (first-taken n), long, within);
        longest = λ m more le. absurd (omega (arith, more, le, ap length whole));
      }

  -- they are a RED payload
  first-red : (n pt : ℕ) (primary : List ℕ) → AreDistances ds → let blocks = map masked (reverse (first n)) in
      IsRed (spelled blocks (pt % 128) primary) blocks (pt % 128) primary
  first-red n pt primary are =
      let R : Block → Type 0 = λ b. HasRoom (masked b) in
      record {
        is_spelled = refl;
        few = omega (
          arith,
          length-map (reverse (first n)) masked,
          length-reverse (first n),
          ap length (first-whole n),
          length-append (first n) (levels h (drop n ds) time),
          levels-few h ds time are,
        );
        room = All-map HasRoom masked (reverse (first n)) (All-reverse R (first n) (levels-room h (take n ds) time));
        primary_pt = omega arith;
      }

  pub first-wrapped : (pt budget n : ℕ) (payload : List ℕ) → AreDistances ds
      → IsLongestPrefix budget (length payload) (levels h ds time) (length (first n))
      → IsWrapped (record { distances = ds; history = h }) pt payload time budget
      (spelled (map masked (reverse (first n))) (pt % 128) payload)
  first-wrapped pt budget n payload are longest =
      let sent : List ℕ = spelled (map masked (reverse (first n))) (pt % 128) payload in
      let Red : List Block → Type 0 = λ bs. IsRed sent (map masked (reverse bs)) (pt % 128) payload in
      record {
        count = length (first n);
        longest = longest;
        is_red = subst Red (sym (first-taken n)) (first-red n pt payload are);
      }

  module _ (f : Block → List ℕ) where
    -- what is written of the blocks at the first n distances, oldest first
    abbrev pub written : ℕ → List ℕ
    written n = flat_map f (map masked (reverse (first n)))

    -- what is left is written from its end on
    pub written-some : (place : ℕ) (b : Block) (old new all : List ℕ) → 0 < place → place ≤ length ds
        → levels h (get_or ds (place - 1) 0 ∷ []) time ≡ b ∷ [] → new ≡ old ++ f (masked b)
        → old ++ written place ≡ all → new ++ written (place - 1) ≡ all
    written-some place b old new all some few is put whole =
        let next : place - 1 + 1 ≡ place = omega arith in
        let here : written (place - 1 + 1) ≡ f (masked b) ++ written (place - 1) =
        ap (λ bs. flat_map f (map masked (reverse bs))) (first-more (place - 1) (b ∷ []) (omega arith) is)
        ∙ ap (λ bs. flat_map f (map masked bs)) (reverse-append (first (place - 1)) (b ∷ [])) in
        ap (λ xs. xs ++ written (place - 1)) put ∙ append_assoc old (f (masked b)) (written (place - 1))
        ∙ ap (λ xs. old ++ xs) (sym here) ∙ ap (λ n. old ++ written n) next ∙ whole

    pub written-none : (place : ℕ) (old all : List ℕ) → 0 < place → place ≤ length ds
        → levels h (get_or ds (place - 1) 0 ∷ []) time ≡ [] → old ++ written place ≡ all
        → old ++ written (place - 1) ≡ all
    written-none place old all some few is whole =
        let next : place - 1 + 1 ≡ place = omega arith in
        ap (λ bs. old ++ flat_map f (map masked (reverse bs)))
        (sym (first-more (place - 1) [] (omega arith) is ∙ append-nil (first (place - 1))))
        ∙ ap (λ n. old ++ written n) next ∙ whole

    pub written-begins : (place : ℕ) (old : List ℕ) → length ds ≤ place → old ++ written place
        ≡ old ++ flat_map f (map masked (reverse (levels h ds time)))
    written-begins place old all = ap (λ xs. old ++ flat_map f (map masked (reverse (levels h xs time))))
        (take_all place ds all)

    pub written-ends : (place : ℕ) (old all : List ℕ) → place ≤ 0 → old ++ written place ≡ all → old ≡ all
    written-ends place old all none whole =
        let end : 0 ≡ place = omega arith in
        sym (append-nil old) ∙ ap (λ n. old ++ written n) end ∙ whole
