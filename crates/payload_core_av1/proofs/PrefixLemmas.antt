-- The longest prefix of texts, found one text after the other.
use Rattle.std.proofs.Common.{◌≡◌, ℕ, zero, suc, ◌+◌, ◌-◌, ◌<◌, ◌≤◌, Bool, true, false, ltb, leb, eqb, List, [], ◌∷◌}
use Rattle.std.proofs.Common.{take, drop, length, min, if◌then◌else◌, refl, sym, ap, subst, ◌∙◌, arith, inl, inr}
use mathlib.Core.Bool.{false≢true}
use Rattle.std.proofs.lemmas.Bool.Decides.{nat_tests}
use Rattle.std.proofs.lemmas.Bool.{cases_lt}
use Rattle.std.proofs.lemmas.List.{length-append, length-drop, length-take-le, take_all}
use Rattle.payload_core_base.specs.Law.{joined}
use Rattle.payload_core_av1.specs.Leb128.{spelling}
use Rattle.payload_core_av1.specs.Av1Packing.{back, body_from, fits, front, greatest, is_cut, longest, sized}
use Rattle.payload_core_av1.specs.Av1Packets.{AreTexts, greatest_part, last_len}

pub greatest-le : (test : ℕ → Bool) (n : ℕ) → greatest test n ≤ n
greatest-le test zero = omega arith
greatest-le test (suc n) = by_test (test (suc n)) (greatest-le test n)
  where
    by_test : (t : Bool) → greatest test n ≤ n → (if t then suc n else greatest test n) ≤ suc n
    by_test true h = omega arith
    by_test false h = omega arith

pub greatest-holds : (test : ℕ → Bool) (n : ℕ) → 0 < greatest test n → test (greatest test n) ≡ true
greatest-holds test zero some = absurd (omega arith)
greatest-holds test (suc n) some = by_test (test (suc n)) refl (greatest-holds test n) some
  where
    by_test : (t : Bool) → test (suc n) ≡ t → (0 < greatest test n → test (greatest test n) ≡ true)
        → 0 < (if t then suc n else greatest test n) → test (if t then suc n else greatest test n) ≡ true
    by_test true e h some = e
    by_test false e h some = h some

pub greatest-above : (test : ℕ → Bool) (n k : ℕ) → k ≤ n → greatest test n < k → test k ≡ false
greatest-above test zero k le lt = absurd (omega arith)
greatest-above test (suc n) k le lt = by_test (test (suc n)) refl (greatest-above test n k) lt
  where
    by_test : (t : Bool) → test (suc n) ≡ t → (k ≤ n → greatest test n < k → test k ≡ false)
        → (if t then suc n else greatest test n) < k → test k ≡ false
    by_test true e h lt = absurd (omega arith)
    by_test false e h lt = elim (cases_lt k (suc n)) [
      | inl less ↦ h (omega arith) lt
      | inr more ↦ let same : k ≡ suc n = omega arith in ap test same ∙ e
    ]

pub greatest-is : (test : ℕ → Bool) (n g : ℕ) → g ≤ n → (0 < g → test g ≡ true)
    → ((k : ℕ) → g < k → k ≤ n → test k ≡ false) → greatest test n ≡ g
greatest-is test zero g le holds above = omega arith
greatest-is test (suc n) g le holds above = by_test (test (suc n)) refl (greatest-is test n g)
  where
    by_test : (t : Bool) → test (suc n) ≡ t →
        (g ≤ n → (0 < g → test g ≡ true) → ((k : ℕ) → g < k → k ≤ n → test k ≡ false) → greatest test n ≡ g)
        → (if t then suc n else greatest test n) ≡ g
    by_test true e h = elim (cases_lt g (suc n)) [
      | inl less ↦ absurd (false≢true (sym (above (suc n) less (omega arith)) ∙ e))
      | inr more ↦ omega arith
    ]
    by_test false e h = elim (cases_lt g (suc n)) [
      | inl less ↦ h (omega arith) holds (λ k lt small. above k lt (omega arith))
      | inr more ↦ let same : suc n ≡ g = omega arith in
          absurd (false≢true (sym e ∙ ap test same ∙ holds (omega arith)))
    ]

-- prefixes that end within the first text, and after it
pub front-zero : (es : List (List ℕ)) → front 0 es ≡ []
front-zero [] = refl
front-zero (e ∷ es) = refl

pub front-part : (n : ℕ) (e : List ℕ) (es : List (List ℕ)) → 0 < n → n ≤ length e → front n (e ∷ es) ≡ take n e ∷ []
front-part n e es some le =
    let t : eqb n 0 ≡ false = grind (arith, nat_tests) in
    let u : leb n (length e) ≡ true = grind (arith, nat_tests) in
    ap (λ t. if t then [] else (if leb n (length e) then take n e ∷ [] else e ∷ front (n - length e) es)) t
    ∙ ap (λ u. if u then take n e ∷ [] else e ∷ front (n - length e) es) u

pub front-behind : (n m : ℕ) (e : List ℕ) (es : List (List ℕ)) → n ≡ length e + m → 0 < m → front n (e ∷ es) ≡ e
    ∷ front m es
front-behind n m e es is some =
    let t : eqb n 0 ≡ false = grind (arith, nat_tests) in
    let u : leb n (length e) ≡ false = grind (arith, nat_tests) in
    let left : n - length e ≡ m = omega arith in
    ap (λ t. if t then [] else (if leb n (length e) then take n e ∷ [] else e ∷ front (n - length e) es)) t
    ∙ ap (λ u. if u then take n e ∷ [] else e ∷ front (n - length e) es) u ∙ ap (λ k. e ∷ front k es) left

pub front-whole : (m : ℕ) (e : List ℕ) (es : List (List ℕ)) → 0 < length e → front (length e + m) (e ∷ es) ≡ e
    ∷ front m es
front-whole zero e es some =
    let n : length e + 0 ≡ length e = omega arith in
    ap (λ n. front n (e ∷ es)) n ∙ front-part (length e) e es some (omega arith)
    ∙ ap (λ t. t ∷ []) (take_all (length e) e (omega arith)) ∙ ap (λ ts. e ∷ ts) (sym (front-zero es))
front-whole (suc m) e es some = front-behind (length e + suc m) (suc m) e es refl (omega arith)

pub back-part : (n : ℕ) (e : List ℕ) (es : List (List ℕ)) → n < length e → back n (e ∷ es) ≡ drop n e ∷ es
back-part n e es lt = let t : ltb n (length e) ≡ true = grind (arith, nat_tests) in
    ap (λ t. if t then drop n e ∷ es else back (n - length e) es) t

pub back-whole : (m : ℕ) (e : List ℕ) (es : List (List ℕ)) → back (length e + m) (e ∷ es) ≡ back m es
back-whole m e es =
    let n : ℕ = length e + m in
    let t : ltb n (length e) ≡ false = grind (arith, nat_tests) in
    let left : n - length e ≡ m = omega arith in
    ap (λ t. if t then drop n e ∷ es else back (n - length e) es) t ∙ ap (λ k. back k es) left

pub cut-part : (n : ℕ) (e : List ℕ) (es : List (List ℕ)) → n < length e → is_cut n (e ∷ es) ≡ ltb 0 n
cut-part n e es lt = let t : ltb n (length e) ≡ true = grind (arith, nat_tests) in
    ap (λ t. if t then ltb 0 n else is_cut (n - length e) es) t

pub cut-whole : (m : ℕ) (e : List ℕ) (es : List (List ℕ)) → is_cut (length e + m) (e ∷ es) ≡ is_cut m es
cut-whole m e es =
    let n : ℕ = length e + m in
    let t : ltb n (length e) ≡ false = grind (arith, nat_tests) in
    let left : n - length e ≡ m = omega arith in
    ap (λ t. if t then ltb 0 n else is_cut (n - length e) es) t ∙ ap (λ k. is_cut k es) left

-- how many bytes the body of a prefix has
abbrev body_len : ℕ → ℕ → List (List ℕ) → ℕ
body_len place n es = length (body_from place (front n es))

len_last : (place : ℕ) (t : List ℕ) (n : ℕ) → length t ≡ n → (b : Bool) → length (if b then t else sized t)
    ≡ (if b then n else length (spelling n) + n)
len_last place t n long true = long
len_last place t n long false = length-append (spelling (length t)) t ∙ ap (λ k. length (spelling k) + k) long

pub body-none : (place : ℕ) (es : List (List ℕ)) → body_len place 0 es ≡ 0
body-none place es = ap (λ ts. length (body_from place ts)) (front-zero es)

pub body-part : (place n : ℕ) (e : List ℕ) (es : List (List ℕ)) → 0 < n → n ≤ length e → body_len place n (e ∷ es)
    ≡ last_len place n
body-part place n e es some le = ap (λ ts. length (body_from place ts)) (front-part n e es some le)
    ∙ len_last place (take n e) n (length-take-le n e le) (ltb place 3)

front_cons : (place m : ℕ) (e : List ℕ) (es : List (List ℕ)) → 0 < m → 0 < length (joined es)
    → length (body_from place (e ∷ front m es)) ≡ length (sized e) + length (body_from (place + 1) (front m es))
front_cons place m e [] some more = absurd (omega arith)
front_cons place m e (f ∷ fs) some more = by_first (eqb m 0) (leb m (length f)) (grind (arith, nat_tests))
  where
    by_first : (t u : Bool) → t ≡ false → length
        (body_from place (e ∷ (if t then [] else (if u then take m f ∷ [] else f ∷ front (m - length f) fs))))
        ≡ length (sized e) + length (body_from (place + 1)
        (if t then [] else (if u then take m f ∷ [] else f ∷ front (m - length f) fs)))
    by_first true u is = absurd (false≢true (sym is))
    by_first false true is = length-append (sized e) (body_from (place + 1) (take m f ∷ []))
    by_first false false is = length-append (sized e) (body_from (place + 1) (f ∷ front (m - length f) fs))

pub body-behind : (place n m : ℕ) (e : List ℕ) (es : List (List ℕ)) → n ≡ length e + m → 0 < m
    → 0 < length (joined es) → body_len place n (e ∷ es)
    ≡ length (spelling (length e)) + length e + body_len (place + 1) m es
body-behind place n m e es is some more =
    ap (λ ts. length (body_from place ts)) (front-behind n m e es is some) ∙ front_cons place m e es some more
    ∙ ap (λ k. k + body_len (place + 1) m es) (length-append (spelling (length e)) e)

pub total-cons : (e : List ℕ) (es : List (List ℕ)) → length (joined (e ∷ es)) ≡ length e + length (joined es)
total-cons e es = length-append e (joined es)

-- the longest prefix, text after text
abbrev pub greedy : ℕ → ℕ → List (List ℕ) → ℕ
greedy place room [] = 0
greedy place room (e ∷ es) = if ltb (greatest_part place room (length e)) (length e)
    then greatest_part place room (length e)
    else length e + greedy (place + 1) (room - (length (spelling (length e)) + length e)) es

pub greedy-part : (place room : ℕ) (e : List ℕ) (es : List (List ℕ)) → greatest_part place room (length e) < length e
    → greedy place room (e ∷ es) ≡ greatest_part place room (length e)
greedy-part place room e es lt =
    let part : ℕ = greatest_part place room (length e) in
    let t : ltb part (length e) ≡ true = grind (arith, nat_tests) in
    ap (λ t. if t then part else length e + greedy (place + 1) (room - (length (spelling (length e)) + length e)) es) t

pub greedy-whole : (place room : ℕ) (e : List ℕ) (es : List (List ℕ))
    → length e ≤ greatest_part place room (length e) → greedy place room (e ∷ es)
    ≡ length e + greedy (place + 1) (room - (length (spelling (length e)) + length e)) es
greedy-whole place room e es ge =
    let part : ℕ = greatest_part place room (length e) in
    let t : ltb part (length e) ≡ false = grind (arith, nat_tests) in
    ap (λ t. if t then part else length e + greedy (place + 1) (room - (length (spelling (length e)) + length e)) es) t

leb-le : (a b : ℕ) → leb a b ≡ true → a ≤ b
leb-le a b e = grind (arith, nat_tests)

leb-gt : (a b : ℕ) → leb a b ≡ false → b < a
leb-gt a b e = grind (arith, nat_tests)

le-leb : (a b : ℕ) → a ≤ b → leb a b ≡ true
le-leb a b e = grind (arith, nat_tests)

gt-leb : (a b : ℕ) → b < a → leb a b ≡ false
gt-leb a b e = grind (arith, nat_tests)

-- as the last element at a place no text takes fewer bytes than it has, or more than after its size
pub last-between : (place n : ℕ) → (n ≤ last_len place n) × (last_len place n ≤ length (spelling n) + n)
last-between place n = by_place (ltb place 3)
  where
    by_place : (t : Bool) → (n ≤ (if t then n else length (spelling n) + n))
        × ((if t then n else length (spelling n) + n) ≤ length (spelling n) + n)
    by_place true = (omega arith, omega arith)
    by_place false = (omega arith, omega arith)

part-fits : (place room len : ℕ) → 0 < greatest_part place room len
    → last_len place (greatest_part place room len) ≤ room
part-fits place room len some = leb-le _ room (greatest-holds (λ n. leb (last_len place n) room) len some)

part-most : (place room len n : ℕ) → n ≤ len → greatest_part place room len < n → room < last_len place n
part-most place room len n le lt = leb-gt (last_len place n) room
    (greatest-above (λ n. leb (last_len place n) room) len n le lt)

no_room : (place : ℕ) (es : List (List ℕ)) → AreTexts es → greedy place 0 es ≡ 0
no_room place [] are = refl
no_room place (e ∷ es) are =
    let none : greatest_part place 0 (length e) ≡ 0 =
    greatest-is (λ n. leb (last_len place n) 0) (length e) 0 (omega arith) (λ some. absurd (omega arith))
    (λ k lt le. gt-leb (last_len place k) 0 (omega (arith, (last-between place k).0))) in
    greedy-part place 0 e es (omega (arith, none, are.0)) ∙ none

pub greedy-le : (place room : ℕ) (es : List (List ℕ)) → greedy place room es ≤ length (joined es)
greedy-le place room [] = omega arith
greedy-le place room (e ∷ es) = elim (cases_lt (greatest_part place room (length e)) (length e)) [
  | inl less ↦ omega (arith, greedy-part place room e es less, total-cons e es)
  | inr more ↦ omega (
    arith,
    greedy-whole place room e es more,
    total-cons e es,
    greedy-le (place + 1) (room - (length (spelling (length e)) + length e)) es,
  )
]

abbrev Fit : ℕ → ℕ → List (List ℕ) → ℕ → Type 0
Fit place room es n = body_len place n es ≤ room

fits_part : (place room : ℕ) (e : List ℕ) (es : List (List ℕ)) (n : ℕ) → n ≡ greatest_part place room (length e)
    → Fit place room (e ∷ es) n
fits_part place room e es zero is = omega (arith, body-none place (e ∷ es))
fits_part place room e es (suc n) is =
    let le = greatest-le (λ n. leb (last_len place n) room) (length e) in
    omega (
      arith,
      body-part place (suc n) e es (omega arith) (omega (arith, is, le)),
      ap (last_len place) is,
      part-fits place room (length e) (omega (arith, is)),
    )

fits_whole : (place room : ℕ) (e : List ℕ) (es : List (List ℕ)) (m : ℕ) → 0 < length e
    → last_len place (length e) ≤ room → (0 < m → 0 < length (joined es))
    → (0 < m → length (spelling (length e)) + length e ≤ room)
    → Fit (place + 1) (room - (length (spelling (length e)) + length e)) es m
    → Fit place room (e ∷ es) (length e + m)
fits_whole place room e es zero some last more room_left fit =
    let n : length e + 0 ≡ length e = omega arith in
    let F : ℕ → Type 0 = Fit place room (e ∷ es) in
    let there : F (length e) = omega (arith, body-part place (length e) e es some (omega arith)) in
    subst F (sym n) there
fits_whole place room e es (suc m) some last more room_left fit =
    omega (
      arith,
      body-behind place (length e + suc m) (suc m) e es refl (omega arith) (more (omega arith)),
      room_left (omega arith),
      fit,
    )

pub greedy-fits : (place room : ℕ) (es : List (List ℕ)) → AreTexts es → Fit place room es (greedy place room es)
greedy-fits place room [] are = omega arith
greedy-fits place room (e ∷ es) (some, small, are) =
    let len : ℕ = length e in
    let taken : ℕ = length (spelling len) + len in
    let m : ℕ = greedy (place + 1) (room - taken) es in
    let F : ℕ → Type 0 = Fit place room (e ∷ es) in
    elim (cases_lt (greatest_part place room len) len) [
      | inl less ↦ subst F (sym (greedy-part place room e es less))
          (fits_part place room e es (greatest_part place room len) refl)
      | inr more ↦
          let le = greatest-le (λ n. leb (last_len place n) room) len in
          let all : greatest_part place room len ≡ len = omega arith in
          let last : last_len place len ≤ room = omega
          (arith, ap (last_len place) all, part-fits place room len (omega (arith, all, some))) in
          let others : 0 < m → 0 < length (joined es) = λ h. omega (arith, greedy-le (place + 1) (room - taken) es) in
          let left : 0 < m → taken ≤ room = λ h. elim (cases_lt room taken) [
            | inl short ↦ let gone : room - taken ≡ 0 = omega arith in
                absurd (omega (arith, ap (λ r. greedy (place + 1) r es) gone, no_room (place + 1) es are))
            | inr enough ↦ enough
          ] in
          subst F (sym (greedy-whole place room e es more))
          (fits_whole place room e es m some last others left (greedy-fits (place + 1) (room - taken) es are))
    ]

pub greedy-most : (place room : ℕ) (es : List (List ℕ)) (n : ℕ) → AreTexts es → n ≤ length (joined es)
    → greedy place room es < n → room < body_len place n es
greedy-most place room [] n are le lt = absurd (omega arith)
greedy-most place room (e ∷ es) n (some, small, are) le lt =
    let len : ℕ = length e in
    let taken : ℕ = length (spelling len) + len in
    let m : ℕ = n - len in
    let within : len < n → m ≤ length (joined es) = λ h. omega (arith, total-cons e es) in
    elim (cases_lt (greatest_part place room len) len) [
      | inl less ↦
          let past : greatest_part place room len < n = omega (arith, greedy-part place room e es less) in
          elim (cases_lt len n) [
            | inl behind ↦
                let is : n ≡ len + m = omega arith in
                omega (
                  arith,
                  body-behind place n m e es is (omega arith) (omega (arith, within behind)),
                  part-most place room len len (omega arith) less,
                  (last-between place len).1,
                )
            | inr inside ↦ omega (
              arith,
              body-part place n e es (omega arith) inside,
              part-most place room len n inside past,
            )
          ]
      | inr more ↦
          let behind : len < n = omega (arith, greedy-whole place room e es more) in
          let is : n ≡ len + m = omega arith in
          let past : greedy (place + 1) (room - taken) es < m = omega (arith, greedy-whole place room e es more) in
          omega (
            arith,
            body-behind place n m e es is (omega arith) (omega (arith, within behind)),
            greedy-most (place + 1) (room - taken) es m are (within behind) past,
          )
    ]

-- so it is the longest that fits
pub longest-greedy : (room : ℕ) (es : List (List ℕ)) → AreTexts es → longest (room + 1) es ≡ greedy 0 room es
unfolding longest
longest-greedy room es are =
    greatest-is (fits (room + 1) es) (length (joined es)) (greedy 0 room es) (greedy-le 0 room es)
    (λ some. le-leb (1 + body_len 0 (greedy 0 room es) es) (room + 1) (omega (arith, greedy-fits 0 room es are)))
    (λ n lt le. gt-leb (1 + body_len 0 n es) (room + 1) (omega (arith, greedy-most 0 room es n are le lt)))

-- the code's part of an element
first_len : (place n : ℕ) → place < 3 → last_len place n ≡ n
first_len place n lt = let t : ltb place 3 ≡ true = grind (arith, nat_tests) in
    ap (λ t. if t then n else length (spelling n) + n) t

later_len : (place n : ℕ) → 3 ≤ place → last_len place n ≡ length (spelling n) + n
later_len place n ge = let t : ltb place 3 ≡ false = grind (arith, nat_tests) in
    ap (λ t. if t then n else length (spelling n) + n) t

pub fitting-first : (place room len part : ℕ) → place < 3 → part ≡ min room len → part ≡ greatest_part place room len
fitting-first place room len part lt is =
    sym (greatest-is (λ n. leb (last_len place n) room) len part (omega arith)
    (λ some. le-leb (last_len place part) room (omega (arith, first_len place part lt)))
    (λ k above le. gt-leb (last_len place k) room (omega (arith, first_len place k lt))))

pub fitting-later : (place room len part : ℕ) → 3 ≤ place → part ≤ len
    → (0 < part → length (spelling part) + part ≤ room)
    → ((k : ℕ) → part < k → k ≤ len → room < length (spelling k) + k) → part ≡ greatest_part place room len
fitting-later place room len part ge le fits above =
    sym (greatest-is (λ n. leb (last_len place n) room) len part le
    (λ some. le-leb (last_len place part) room (omega (arith, later_len place part ge, fits some)))
    (λ k lt small. gt-leb (last_len place k) room (omega (arith, later_len place k ge, above k lt small))))

-- texts and their prefixes
pub texts-front : (n : ℕ) (es : List (List ℕ)) → AreTexts es → AreTexts (front n es)
texts-front n [] are = tt
texts-front n (e ∷ es) (some, small, are) = elim (cases_lt (length e) n) [
  | inl behind ↦ let is : n ≡ length e + (n - length e) = omega arith in
      subst AreTexts (sym (front-behind n (n - length e) e es is (omega arith)))
      (some, small, texts-front (n - length e) es are)
  | inr inside ↦ elim (cases_lt 0 n) [
    | inl more ↦ subst AreTexts (sym (front-part n e es more inside))
        (omega (arith, length-take-le n e inside), omega (arith, length-take-le n e inside), tt)
    | inr none ↦ let zero_is : n ≡ 0 = omega arith in subst AreTexts (sym (ap (λ n. front n (e ∷ es)) zero_is)) tt
  ]
]

pub texts-back : (n : ℕ) (es : List (List ℕ)) → AreTexts es → AreTexts (back n es)
texts-back n [] are = tt
texts-back n (e ∷ es) (some, small, are) = elim (cases_lt n (length e)) [
  | inl inside ↦ subst AreTexts (sym (back-part n e es inside))
      (omega (arith, length-drop n e), omega (arith, length-drop n e), are)
  | inr behind ↦
      let is : n ≡ length e + (n - length e) = omega arith in
      subst AreTexts (sym (ap (λ n. back n (e ∷ es)) is ∙ back-whole (n - length e) e es))
      (texts-back (n - length e) es are)
]

pub total-back : (n : ℕ) (es : List (List ℕ)) → length (joined (back n es)) ≡ length (joined es) - n
total-back n [] = omega arith
total-back n (e ∷ es) = elim (cases_lt n (length e)) [
  | inl inside ↦ omega (
    arith,
    ap (λ ts. length (joined ts)) (back-part n e es inside),
    total-cons (drop n e) es,
    total-cons e es,
    length-drop n e,
  )
  | inr behind ↦
      let is : n ≡ length e + (n - length e) = omega arith in
      omega (
        arith,
        ap (λ ts. length (joined ts)) (ap (λ n. back n (e ∷ es)) is ∙ back-whole (n - length e) e es),
        total-back (n - length e) es,
        total-cons e es,
      )
]

-- with room for a byte there is always one
pub greedy-some : (room : ℕ) (e : List ℕ) (es : List (List ℕ)) → 0 < room → AreTexts (e ∷ es)
    → 0 < greedy 0 room (e ∷ es)
greedy-some room e es some are = elim (cases_lt (greatest_part 0 room (length e)) (length e)) [
  | inl less ↦ omega (
    arith,
    greedy-part 0 room e es less,
    fitting-first 0 room (length e) (min room (length e)) (omega arith) refl,
    are.0,
  )
  | inr more ↦ omega (arith, greedy-whole 0 room e es more, are.0)
]

pub longest-some : (limit : ℕ) (e : List ℕ) (es : List (List ℕ)) → 2 ≤ limit → AreTexts (e ∷ es)
    → 0 < longest limit (e ∷ es)
longest-some limit e es room are =
    let is : limit ≡ (limit - 1) + 1 = omega arith in
    omega (
      arith,
      ap (λ l. longest l (e ∷ es)) is,
      longest-greedy (limit - 1) (e ∷ es) are,
      greedy-some (limit - 1) e es (omega arith) are,
    )
