-- What makes sizes be read if and only if they are spelled.
use Rattle.std.proofs.Common.{◌≡◌, ℕ, zero, suc, ◌+◌, ◌*◌, ◌%◌, ◌<◌, ◌≤◌, Bool, true, false, ltb, leb, List, [], ◌∷◌}
use Rattle.std.proofs.Common.{◌++◌, take, drop, length, None, Some, Option, if◌then◌else◌, refl, sym, ap, subst, ◌∙◌}
use Rattle.std.proofs.Common.{arith}
use Rattle.std.proofs.lemmas.Bool.Decides.{nat_tests}
use Rattle.std.proofs.lemmas.List.{drop_at, length-append, length-take-le, take-append-drop, take_at}
use Rattle.payload_core_av1.specs.Leb128.{Cut, HasTopBits, Sized, behind_byte, cut_by, size_in, size_within}
use Rattle.payload_core_av1.specs.Leb128.{sized_part, spelled}
use Rattle.payload_core_av1.specs.Av1Layout.{IsSized}

read_size : (size rest : List ℕ) (k : ℕ) → HasTopBits size → length size ≤ k → size_within k (size ++ rest)
    ≡ Some (record { size = spelled size; rest = rest })
read_size [] rest k top few = absurd top
read_size (b ∷ []) rest zero top few = absurd (omega arith)
read_size (b ∷ []) rest (suc k) top few =
    let t : ltb b 128 ≡ true = grind (arith, nat_tests) in
    let e : b ≡ b % 128 + 128 * 0 = omega arith in
    ap (λ t. if t then Some (record { size = b; rest = rest }) else behind_byte b (size_within k rest)) t
    ∙ ap (λ n. Some (record { size = n; rest = rest })) e
read_size (b ∷ c ∷ bs) rest zero top few = absurd (omega arith)
read_size (b ∷ c ∷ bs) rest (suc k) top few =
    let t : ltb b 128 ≡ false = grind (arith, nat_tests) in
    let text : List ℕ = (c ∷ bs) ++ rest in
    ap (λ t. if t then Some (record { size = b; rest = text }) else behind_byte b (size_within k text)) t
    ∙ ap (behind_byte b) (read_size (c ∷ bs) rest k top.1 (omega arith))

-- a size that was read is spelled in front
record IsRead (k : ℕ) (text : List ℕ) (s : Sized) : Type 0 where
  size : List ℕ
  laid_out : text ≡ size ++ s.rest
  few : length size ≤ k
  top_bits : HasTopBits size
  value : s.size ≡ spelled size

pub top_cons : (b : ℕ) (size : List ℕ) → 128 ≤ b → HasTopBits size → HasTopBits (b ∷ size)
top_cons b [] large top = absurd top
top_cons b (c ∷ bs) large top = (large, top)

one_read : (k b : ℕ) (bs : List ℕ) (s : Sized) → b < 128 → Some (record { size = b; rest = bs }) ≡ Some s
    → IsRead (suc k) (b ∷ bs) s
one_read k b bs s small is =
    let same : record { size = b; rest = bs } ≡ s = cc in
    let P : Sized → Type 0 = IsRead (suc k) (b ∷ bs) in
    subst P same (record { size = b ∷ []; laid_out = refl; few = omega arith; top_bits = small; value = omega arith })

more_read : (k b : ℕ) (bs : List ℕ) (o : Option Sized) (s : Sized) → 128 ≤ b
    → ((t : Sized) → o ≡ Some t → IsRead k bs t) → behind_byte b o ≡ Some s → IsRead (suc k) (b ∷ bs) s
more_read k b bs None s large found is = absurd (cc)
more_read k b bs (Some t) s large found is =
    let r = found t refl in
    let same : record { size = b % 128 + 128 * t.size; rest = t.rest } ≡ s = cc in
    let P : Sized → Type 0 = IsRead (suc k) (b ∷ bs) in
    subst P same (record {
      size = b ∷ r.size;
      laid_out = ap (λ t. b ∷ t) r.laid_out;
      few = omega (arith, r.few);
      top_bits = top_cons b r.size large r.top_bits;
      value = ap (λ n. b % 128 + 128 * n) r.value;
    })

by_top : (k b : ℕ) (bs : List ℕ) (s : Sized) (t : Bool) → ltb b 128 ≡ t
    → ((t : Sized) → size_within k bs ≡ Some t → IsRead k bs t)
    → (if t then Some (record { size = b; rest = bs }) else behind_byte b (size_within k bs)) ≡ Some s
    → IsRead (suc k) (b ∷ bs) s
by_top k b bs s true e found is = one_read k b bs s (grind (arith, nat_tests)) is
by_top k b bs s false e found is = more_read k b bs (size_within k bs) s (grind (arith, nat_tests)) found is

found_size : (k : ℕ) (text : List ℕ) (s : Sized) → size_within k text ≡ Some s → IsRead k text s
found_size zero text s is = absurd (cc)
found_size (suc k) [] s is = absurd (cc)
found_size (suc k) (b ∷ bs) s is = by_top k b bs s (ltb b 128) refl (λ t e. found_size k bs t e) is

-- a part after its size is read
cut_there : (n : ℕ) (part rest : List ℕ) → length part ≡ n → cut_by (Some (record { size = n; rest = part ++ rest }))
    ≡ Some (record { part = part; rest = rest })
cut_there n part rest long =
    let t : leb n (length (part ++ rest)) ≡ true = grind (arith, nat_tests, length-append part rest) in
    ap (λ t. if t then Some (record { part = take n (part ++ rest); rest = drop n (part ++ rest) }) else None) t
    ∙ ap (λ p. Some (record { part = p; rest = drop n (part ++ rest) })) (take_at part rest n long)
    ∙ ap (λ r. Some (record { part = part; rest = r })) (drop_at part rest n long)

pub sized-read : (text part rest : List ℕ) → IsSized text part rest → sized_part text
    ≡ Some (record { part = part; rest = rest })
unfolding size_in
sized-read text part rest is =
    ap (λ t. cut_by (size_within 8 t)) is.laid_out
    ∙ ap cut_by (read_size is.size (part ++ rest) 8 is.spells.top_bits is.spells.few)
    ∙ cut_there (spelled is.size) part rest is.spells.value

cut_found : (text : List ℕ) (o : Option Sized) (cut : Cut) → ((s : Sized) → o ≡ Some s → IsRead 8 text s) → cut_by o
    ≡ Some cut → IsSized text cut.part cut.rest
cut_found text None cut found is = absurd (cc)
cut_found text (Some s) cut found is = by_room (leb s.size (length s.rest)) refl is
  where
    by_room : (t : Bool) → leb s.size (length s.rest) ≡ t
        → (if t then Some (record { part = take s.size s.rest; rest = drop s.size s.rest }) else None) ≡ Some cut
        → IsSized text cut.part cut.rest
    by_room false e is = absurd (cc)
    by_room true e is =
        let r = found s refl in
        let same : record { part = take s.size s.rest; rest = drop s.size s.rest } ≡ cut = cc in
        let P : Cut → Type 0 = λ cut. IsSized text cut.part cut.rest in
        let room : s.size ≤ length s.rest = grind (arith, nat_tests) in
        subst P same (record {
          size = r.size;
          laid_out = r.laid_out ∙ ap (λ t. r.size ++ t) (sym (take-append-drop s.size s.rest));
          spells = record { few = r.few; top_bits = r.top_bits; value = length-take-le s.size s.rest room ∙ r.value };
        })

pub sized-found : (text : List ℕ) (cut : Cut) → sized_part text ≡ Some cut → IsSized text cut.part cut.rest
unfolding size_in
sized-found text cut is = cut_found text (size_within 8 text) cut (λ s e. found_size 8 text s e) is

-- a spelling has a byte
some_spelling : (size : List ℕ) → HasTopBits size → 0 < length size
some_spelling [] top = absurd top
some_spelling (b ∷ bs) top = omega arith

pub sized-some : (text part rest : List ℕ) → IsSized text part rest → 0 < length text
sized-some text part rest is = omega (
  arith,
  ap length is.laid_out,
  length-append is.size (part ++ rest),
  some_spelling is.size is.spells.top_bits,
)
