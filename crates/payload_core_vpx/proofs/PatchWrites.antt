-- Writing ids into a payload: what stays, in which order it may be done, and how it is undone.
use Rattle.std.proofs.Common.{◌≡◌, ℕ, ◌+◌, ◌*◌, ◌/◌, ◌%◌, ◌<◌, ◌≤◌, Bool, true, false, List, drop, length, None, Some}
use Rattle.std.proofs.Common.{Option, refl, sym, ap, ◌∙◌, arith}
use Rattle.std.specs.Prelude.{◌≢◌, slice_index, slice_set}
use Rattle.std.specs.Option.{ForSome}
use Rattle.std.proofs.lemmas.List.{drop-set-lt, get_or-set_same, get_or-set_other, length-set, set-get_or, set-set}
use Rattle.std.proofs.lemmas.List.{set_comm}
use Rattle.payload_core_vpx.specs.Vp8Patches.{picture_id_end, with_key_idx, with_low, with_picture_id}
use Rattle.payload_core_vpx.specs.Vp8Patches.{with_tl0_pic_idx}

-- a place that a picture id doesn't reach
abbrev pub OffId : Bool → Option ℕ → ℕ → Type 0
OffId long o n = ForSome o (λ _. (n ≢ 2) × (n ≢ picture_id_end long))

-- a place that an id at one place doesn't reach
abbrev pub OffPlace : ℕ → Option ℕ → ℕ → Type 0
OffPlace place o n = ForSome o (λ _. n ≢ place)

-- a number is none that is less
below_apart : (a b : ℕ) → a < b → b ≢ a
below_apart a b lt e = omega arith

above_apart : (a b : ℕ) → a < b → a ≢ b
above_apart a b lt e = omega arith

-- lengths stay
pub length-id : (long : Bool) (o : Option ℕ) (p : List ℕ) → length (with_picture_id long o p) ≡ length p
length-id long None p = refl
length-id false (Some id) p = length-set p 2 _
length-id true (Some id) p = length-set _ 3 _ ∙ length-set p 2 _

pub length-tl0 : (t : ℕ) (o : Option ℕ) (p : List ℕ) → length (with_tl0_pic_idx t o p) ≡ length p
length-tl0 t None p = refl
length-tl0 t (Some v) p = length-set p t v

pub length-key : (k : ℕ) (o : Option ℕ) (p : List ℕ) → length (with_key_idx k o p) ≡ length p
length-key k None p = refl
length-key k (Some v) p = length-set p k _

-- other bytes stay
pub id-other : (long : Bool) (o : Option ℕ) (p : List ℕ) (n : ℕ) → OffId long o n
    → slice_index (with_picture_id long o p) n ≡ slice_index p n
id-other long None p n off = refl
id-other false (Some id) p n off = get_or-set_other p 2 n _ 0 (off id refl).0
id-other true (Some id) p n off = get_or-set_other _ 3 n _ 0 (off id refl).1
    ∙ get_or-set_other p 2 n _ 0 (off id refl).0

pub tl0-other : (t : ℕ) (o : Option ℕ) (p : List ℕ) (n : ℕ) → OffPlace t o n → slice_index (with_tl0_pic_idx t o p) n
    ≡ slice_index p n
tl0-other t None p n off = refl
tl0-other t (Some v) p n off = get_or-set_other p t n v 0 (off v refl)

pub key-other : (k : ℕ) (o : Option ℕ) (p : List ℕ) (n : ℕ) → OffPlace k o n → slice_index (with_key_idx k o p) n
    ≡ slice_index p n
key-other k None p n off = refl
key-other k (Some v) p n off = get_or-set_other p k n _ 0 (off v refl)

-- the higher bits of a byte stay
low_128 : (v b : ℕ) → with_low 128 v b / 128 ≡ b / 128
low_128 v b = omega arith

low_32 : (v b : ℕ) → with_low 32 v b / 32 ≡ b / 32
low_32 v b = omega arith

pub id-m_bit : (long : Bool) (o : Option ℕ) (p : List ℕ) → 2 < length p
    → slice_index (with_picture_id long o p) 2 / 128 ≡ slice_index p 2 / 128
id-m_bit long None p lt = refl
id-m_bit false (Some id) p lt = ap (λ n. n / 128) (get_or-set_same p 2 _ 0 lt) ∙ low_128 id (slice_index p 2)
id-m_bit true (Some id) p lt =
    let other : 2 ≢ 3 = above_apart 2 3 (omega arith) in
    ap (λ n. n / 128) (get_or-set_other (slice_set p 2 (with_low 128 (id / 256) (slice_index p 2))) 3 2 (id % 256) 0
    other ∙ get_or-set_same p 2 (with_low 128 (id / 256) (slice_index p 2)) 0 lt)
    ∙ low_128 (id / 256) (slice_index p 2)

pub key-tid_and_y : (k : ℕ) (o : Option ℕ) (p : List ℕ) → k < length p → slice_index (with_key_idx k o p) k / 32
    ≡ slice_index p k / 32
key-tid_and_y k None p lt = refl
key-tid_and_y k (Some v) p lt = ap (λ n. n / 32) (get_or-set_same p k _ 0 lt) ∙ low_32 v (slice_index p k)

-- what is written is there
pub id-short_low : (o p2 : ℕ) → o ≤ 127 → with_low 128 o p2 % 128 ≡ o
id-short_low o p2 small = omega (arith, small)

pub id-long_low : (o p2 : ℕ) → o ≤ 32767 → with_low 128 (o / 256) p2 % 128 * 256 + o % 256 ≡ o
id-long_low o p2 small = omega (arith, small)

pub key-low : (o b : ℕ) → o ≤ 31 → with_low 32 o b % 32 ≡ o
key-low o b small = omega (arith, small)

pub short-there : (id : ℕ) (p : List ℕ) → 2 < length p → slice_index (with_picture_id false (Some id) p) 2
    ≡ with_low 128 id (slice_index p 2)
short-there id p lt = get_or-set_same p 2 (with_low 128 id (slice_index p 2)) 0 lt

pub long-there : (id : ℕ) (p : List ℕ) → 3 < length p
    → (slice_index (with_picture_id true (Some id) p) 2 ≡ with_low 128 (id / 256) (slice_index p 2))
    × (slice_index (with_picture_id true (Some id) p) 3 ≡ id % 256)
long-there id p lt =
    let other : 2 ≢ 3 = above_apart 2 3 (omega arith) in
    let two : 2 < length p = omega (arith, lt) in
    let q : List ℕ = slice_set p 2 (with_low 128 (id / 256) (slice_index p 2)) in
    let room : 3 < length q = omega (arith, lt, length-set p 2 (with_low 128 (id / 256) (slice_index p 2))) in (
      get_or-set_other q 3 2 (id % 256) 0 other
          ∙ get_or-set_same p 2 (with_low 128 (id / 256) (slice_index p 2)) 0 two,
      get_or-set_same q 3 (id % 256) 0 room,
    )

pub tl0-there : (t v : ℕ) (p : List ℕ) → t < length p → slice_index (with_tl0_pic_idx t (Some v) p) t ≡ v
tl0-there t v p lt = get_or-set_same p t v 0 lt

pub key-there : (k v : ℕ) (p : List ℕ) → k < length p → slice_index (with_key_idx k (Some v) p) k
    ≡ with_low 32 v (slice_index p k)
key-there k v p lt = get_or-set_same p k (with_low 32 v (slice_index p k)) 0 lt

-- what follows stays
pub drop-id : (n : ℕ) (long : Bool) (o : Option ℕ) (p : List ℕ)
    → ForSome o (λ _. (2 < n) × (picture_id_end long < n)) → drop n (with_picture_id long o p) ≡ drop n p
drop-id n long None p before = refl
drop-id n false (Some id) p before = drop-set-lt n p 2 (with_low 128 id (slice_index p 2)) (before id refl).0
drop-id n true (Some id) p before = drop-set-lt n (slice_set p 2 (with_low 128 (id / 256) (slice_index p 2))) 3
    (id % 256) (before id refl).1 ∙ drop-set-lt n p 2 (with_low 128 (id / 256) (slice_index p 2)) (before id refl).0

pub drop-tl0 : (n t : ℕ) (o : Option ℕ) (p : List ℕ) → ForSome o (λ _. t < n) → drop n (with_tl0_pic_idx t o p)
    ≡ drop n p
drop-tl0 n t None p before = refl
drop-tl0 n t (Some v) p before = drop-set-lt n p t v (before v refl)

pub drop-key : (n k : ℕ) (o : Option ℕ) (p : List ℕ) → ForSome o (λ _. k < n) → drop n (with_key_idx k o p) ≡ drop n p
drop-key n k None p before = refl
drop-key n k (Some v) p before = drop-set-lt n p k (with_low 32 v (slice_index p k)) (before v refl)

-- the order doesn't matter
set-id : (long : Bool) (o : Option ℕ) (p : List ℕ) (n v : ℕ) → OffId long o n
    → with_picture_id long o (slice_set p n v) ≡ slice_set (with_picture_id long o p) n v
set-id long None p n v off = refl
set-id false (Some id) p n v off = high id
  where
    high : (x : ℕ) → slice_set (slice_set p n v) 2 (with_low 128 x (slice_index (slice_set p n v) 2))
        ≡ slice_set (slice_set p 2 (with_low 128 x (slice_index p 2))) n v
    high x =
        let at : 2 ≢ n = λ e. (off id refl).0 (sym e) in
        ap (λ b. slice_set (slice_set p n v) 2 (with_low 128 x b)) (get_or-set_other p n 2 v 0 at)
        ∙ set_comm p n 2 v (with_low 128 x (slice_index p 2)) (off id refl).0
set-id true (Some id) p n v off = ap (λ r. slice_set r 3 (id % 256)) (high (id / 256))
    ∙ set_comm (slice_set p 2 (with_low 128 (id / 256) (slice_index p 2))) n 3 v (id % 256) (off id refl).1
  where
    high : (x : ℕ) → slice_set (slice_set p n v) 2 (with_low 128 x (slice_index (slice_set p n v) 2))
        ≡ slice_set (slice_set p 2 (with_low 128 x (slice_index p 2))) n v
    high x =
        let at : 2 ≢ n = λ e. (off id refl).0 (sym e) in
        ap (λ b. slice_set (slice_set p n v) 2 (with_low 128 x b)) (get_or-set_other p n 2 v 0 at)
        ∙ set_comm p n 2 v (with_low 128 x (slice_index p 2)) (off id refl).0

pub id-tl0 : (long : Bool) (o : Option ℕ) (t : ℕ) (o' : Option ℕ) (p : List ℕ) → OffId long o t
    → with_picture_id long o (with_tl0_pic_idx t o' p) ≡ with_tl0_pic_idx t o' (with_picture_id long o p)
id-tl0 long o t None p off = refl
id-tl0 long o t (Some v) p off = set-id long o p t v off

pub id-key : (long : Bool) (o : Option ℕ) (k : ℕ) (o' : Option ℕ) (p : List ℕ) → OffId long o k
    → with_picture_id long o (with_key_idx k o' p) ≡ with_key_idx k o' (with_picture_id long o p)
id-key long o k None p off = refl
id-key long o k (Some v) p off = set-id long o p k (with_low 32 v (slice_index p k)) off
    ∙ ap (λ b. slice_set (with_picture_id long o p) k (with_low 32 v b)) (sym (id-other long o p k off))

pub tl0-key : (t : ℕ) (o : Option ℕ) (k : ℕ) (o' : Option ℕ) (p : List ℕ) → OffPlace t o k
    → with_tl0_pic_idx t o (with_key_idx k o' p) ≡ with_key_idx k o' (with_tl0_pic_idx t o p)
tl0-key t None k o' p off = refl
tl0-key t (Some v) k None p off = refl
tl0-key t (Some v) k (Some w) p off = set_comm p k t (with_low 32 w (slice_index p k)) v (off v refl)
    ∙ ap (λ b. slice_set (slice_set p t v) k (with_low 32 w b)) (sym (get_or-set_other p t k v 0 (off v refl)))

-- the old ids undo the new ones
again_128 : (v w b : ℕ) → w % 128 ≡ b % 128 → with_low 128 w (with_low 128 v b) ≡ b
again_128 v w b e = omega arith

same_128 : (w b : ℕ) → w % 128 ≡ b % 128 → with_low 128 w b ≡ b
same_128 w b e = omega arith

again_32 : (v b : ℕ) → with_low 32 (b % 32) (with_low 32 v b) ≡ b
again_32 v b = omega arith

same_32 : (b : ℕ) → with_low 32 (b % 32) b ≡ b
same_32 b = omega arith

pub tl0-undone : (t : ℕ) (o : Option ℕ) (p : List ℕ)
    → with_tl0_pic_idx t (Some (slice_index p t)) (with_tl0_pic_idx t o p) ≡ p
tl0-undone t None p = set-get_or p t 0
tl0-undone t (Some v) p = set-set p t v (slice_index p t) ∙ set-get_or p t 0

pub key-undone : (k : ℕ) (o : Option ℕ) (p : List ℕ) → k < length p
    → with_key_idx k (Some (slice_index p k % 32)) (with_key_idx k o p) ≡ p
key-undone k None p lt = ap (slice_set p k) (same_32 (slice_index p k)) ∙ set-get_or p k 0
key-undone k (Some v) p lt =
    let b : ℕ = slice_index p k in
    let there : slice_index (slice_set p k (with_low 32 v b)) k ≡ with_low 32 v b =
    get_or-set_same p k (with_low 32 v b) 0 lt in
    ap (λ n. slice_set (slice_set p k (with_low 32 v b)) k (with_low 32 (b % 32) n)) there
    ∙ set-set p k (with_low 32 v b) (with_low 32 (b % 32) (with_low 32 v b))
    ∙ ap (slice_set p k) (again_32 v b) ∙ set-get_or p k 0

-- the byte 2, whatever it was set to
undo_high : (x w : ℕ) (p : List ℕ) → 2 < length p → w % 128 ≡ slice_index p 2 % 128
    → slice_set (slice_set p 2 (with_low 128 x (slice_index p 2))) 2
    (with_low 128 w (slice_index (slice_set p 2 (with_low 128 x (slice_index p 2))) 2)) ≡ p
undo_high x w p lt e =
    let b : ℕ = slice_index p 2 in
    let there : slice_index (slice_set p 2 (with_low 128 x b)) 2 ≡ with_low 128 x b =
    get_or-set_same p 2 (with_low 128 x b) 0 lt in
    ap (λ n. slice_set (slice_set p 2 (with_low 128 x b)) 2 (with_low 128 w n)) there
    ∙ set-set p 2 (with_low 128 x b) (with_low 128 w (with_low 128 x b))
    ∙ ap (slice_set p 2) (again_128 x w b e) ∙ set-get_or p 2 0

pub short-undone : (o : Option ℕ) (p : List ℕ) → 2 < length p
    → with_picture_id false (Some (slice_index p 2 % 128)) (with_picture_id false o p) ≡ p
short-undone None p lt =
    let e : slice_index p 2 % 128 % 128 ≡ slice_index p 2 % 128 = omega arith in
    ap (slice_set p 2) (same_128 (slice_index p 2 % 128) (slice_index p 2) e) ∙ set-get_or p 2 0
short-undone (Some id) p lt = let e : slice_index p 2 % 128 % 128 ≡ slice_index p 2 % 128 = omega arith in
    undo_high id (slice_index p 2 % 128) p lt e

module _ (p : List ℕ) (lt : 3 < length p) (byte : slice_index p 3 < 256) where
  abbrev own : ℕ
  own = slice_index p 2 % 128 * 256 + slice_index p 3

  own_high : own / 256 % 128 ≡ slice_index p 2 % 128
  own_high = omega (arith, byte)

  own_low : own % 256 ≡ slice_index p 3
  own_low = omega (arith, byte)

  pub long-undone : (o : Option ℕ) → with_picture_id true (Some own) (with_picture_id true o p) ≡ p
  long-undone None =
      ap (λ n. slice_set (slice_set p 2 n) 3 (own % 256)) (same_128 (own / 256) (slice_index p 2) own_high)
      ∙ ap (λ q. slice_set q 3 (own % 256)) (set-get_or p 2 0)
      ∙ ap (slice_set p 3) own_low ∙ set-get_or p 3 0
  long-undone (Some id) =
      let x : ℕ = with_low 128 (id / 256) (slice_index p 2) in
      let y : ℕ = id % 256 in
      let q : List ℕ = slice_set p 2 x in
      let apart : 3 ≢ 2 = below_apart 2 3 (omega arith) in
      let apart' : 2 ≢ 3 = above_apart 2 3 (omega arith) in
      let room : 2 < length p = omega (arith, lt) in
      let there : slice_index (slice_set q 3 y) 2 ≡ slice_index q 2 = get_or-set_other q 3 2 y 0 apart' in
      let w : ℕ = with_low 128 (own / 256) (slice_index q 2) in
      ap (λ n. slice_set (slice_set (slice_set q 3 y) 2 (with_low 128 (own / 256) n)) 3 (own % 256)) there
      ∙ ap (λ r. slice_set r 3 (own % 256)) (set_comm q 3 2 y w apart
      ∙ ap (λ r. slice_set r 3 y) (undo_high (id / 256) (own / 256) p room own_high))
      ∙ set-set p 3 y (own % 256) ∙ ap (slice_set p 3) own_low ∙ set-get_or p 3 0
