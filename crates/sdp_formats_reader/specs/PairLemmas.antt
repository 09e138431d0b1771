-- Reading a pair agrees with the relation.
use Rattle.std.proofs.Common.{◌≡◌, ◌≢◌, ◌++◌, ◌==◌, ◌||◌, ◌&&◌, not, ℕ, Bool, true, false, cond, List, [], ◌∷◌}
use Rattle.std.proofs.Common.{Option, Some, None, refl, sym, ◌∙◌, ap, subst, inl, inr, append_assoc}
use Rattle.std.proofs.Common.{append-nil, arith}
use Rattle.std.specs.List.{list_all}
use Rattle.std.proofs.lemmas.Bool.Decides.{nat_tests}
use Rattle.sdp_formats_grammar.specs.Bind.{◌>>=◌}
use Rattle.sdp_formats_grammar.specs.Form.{some_text}
use Rattle.sdp_formats_grammar.specs.Split.{Lacks, split_first, halves, halves_of, behind}
use Rattle.sdp_formats_grammar.specs.Cuts.{split_first-cuts, IsCut, somewhere, nowhere, cut_of, split_first-at}
use Rattle.sdp_formats_grammar.specs.Cuts.{split_first-nowhere}
use Rattle.sdp_formats_grammar.specs.Words.{behind-append, behind-sound}
use Rattle.sdp_formats_grammar.specs.Steps.{bind_some, some_same, none_some}
use Rattle.sdp_formats_reader.specs.Pairs.{word, is_word_byte, is_blank, unblanked}
use Rattle.sdp_formats_reader.specs.Pairs.{word_before, passed_tail, padded}
use Rattle.sdp_formats_reader.specs.Pairs.{make_pair, or_empty, pair_at}
use Rattle.sdp_formats_reader.specs.PairsSay.{Blanks, IsParted, PairSays}
use Rattle.sdp_formats_values.specs.declared.Pair.{Pair}

and_true : (a b : Bool) → (a && b) ≡ true → (a ≡ true) × (b ≡ true)
and_true true b h = (refl, h)
and_true false b h = absurd (cc)

both_true : (a b : Bool) → a ≡ true → b ≡ true → (a && b) ≡ true
both_true a b h k = cc

-- Blanks in front.
unblanked-front : (t : List ℕ) → (front : List ℕ) × Blanks front × (t ≡ front ++ unblanked t)
unblanked-front [] = ([], refl, refl)
unblanked-front (b ∷ t) = front_case b t (is_blank b) refl (unblanked-front t)
  where
    front_case : (b : ℕ) (t : List ℕ) (x : Bool) → is_blank b ≡ x → (front : List ℕ) × Blanks front
        × (t ≡ front ++ unblanked t)
        → (front : List ℕ) × Blanks front × (b ∷ t ≡ front ++ cond x (unblanked t) (b ∷ t))
    front_case b t true e h = (b ∷ h.0, both_true (is_blank b) (list_all is_blank h.0) e h.1, ap (λ y. b ∷ y) h.2)
    front_case b t false e h = ([], refl, refl)

unblanked-past : (front t : List ℕ) → Blanks front → unblanked (front ++ t) ≡ unblanked t
unblanked-past [] t h = refl
unblanked-past (b ∷ front) t h = let two = and_true (is_blank b) (list_all is_blank front) h in
    ap (λ x. cond x (unblanked (front ++ t)) (b ∷ (front ++ t))) two.0 ∙ unblanked-past front t two.1

word_blank : (b : ℕ) → is_word_byte b ≡ true → is_blank b ≡ false
word_blank b h = by_bits (b == 32) (b == 9) h
  where
    by_bits : (x y : Bool) → (not x && not y) ≡ true → (x || y) ≡ false
    by_bits true y h = absurd (cc)
    by_bits false true h = absurd (cc)
    by_bits false false h = refl

pub unblanked-word : (w t : List ℕ) → w ≢ [] → list_all is_word_byte w ≡ true → unblanked (w ++ t) ≡ w ++ t
unblanked-word [] t n h = absurd (n refl)
unblanked-word (b ∷ w) t n h = ap (λ x. cond x (unblanked (w ++ t)) (b ∷ (w ++ t)))
    (word_blank b (and_true (is_word_byte b) (list_all is_word_byte w) h).0)

-- A word's reading.
some_some : (t w : List ℕ) → some_text t ≡ Some w → (t ≡ w) × (w ≢ [])
some_some [] w h = absurd (none_some w h)
some_some (b ∷ t) w h = let same = some_same (b ∷ t) w h in (same, λ e. cons_nil b t (same ∙ e))
  where
    cons_nil : (b : ℕ) (t : List ℕ) → b ∷ t ≡ [] → ⊥
    cons_nil b t h = cc

some_is : (w : List ℕ) → w ≢ [] → some_text w ≡ Some w
some_is [] n = absurd (n refl)
some_is (b ∷ w) n = refl

passed_if : {A : Type 0} (x : Bool) (a b : A) → cond x (Some a) None ≡ Some b → (x ≡ true) × (a ≡ b)
passed_if true a b h = (refl, some_same a b h)
passed_if false a b h = absurd (none_some b h)

word-sound : (t w : List ℕ) → word.reads t ≡ Some w → (t ≡ w) × (w ≢ []) × (list_all is_word_byte w ≡ true)
word-sound t w h =
    let s = bind_some (some_text t) _ w h in
    let one = some_some t s.0 s.1 in
    let two = passed_if (list_all is_word_byte s.0) s.0 w s.2 in
    (one.0 ∙ two.1, subst (λ x. x ≢ []) two.1 one.1, subst (λ x. list_all is_word_byte x ≡ true) two.1 two.0)

pub word-complete : (w : List ℕ) → w ≢ [] → list_all is_word_byte w ≡ true → word.reads w ≡ Some w
word-complete w n h = ap (λ o. o >>= λ a. cond (list_all is_word_byte a) (Some a) None) (some_is w n)
    ∙ ap (λ x. cond x (Some w) None) h

-- Cuts.
lacks-front : (k : ℕ) (a b : List ℕ) → Lacks k (a ++ b) → Lacks k a
lacks-front k [] b h = tt
lacks-front k (x ∷ a) b h = (h.0, lacks-front k a b h.1)

lacks-both : (k : ℕ) (a b : List ℕ) → Lacks k a → Lacks k b → Lacks k (a ++ b)
lacks-both k [] b h i = i
lacks-both k (x ∷ a) b h i = (h.0, lacks-both k a b h.1 i)

pub at-cut : (c : ℕ) (t front back : List ℕ) → t ≡ front ++ c ∷ back → Lacks c front → halves c t ≡ (front, Some back)
at-cut c t front back whole lacks = ap (halves_of t) (ap (split_first c) whole ∙ split_first-at c front back lacks)

pub at-none : (c : ℕ) (t : List ℕ) → Lacks c t → halves c t ≡ (t, None)
at-none c t lacks = ap (halves_of t) (split_first-nowhere c t lacks)

-- The first half lacks the byte and is the front of the text.
front_by : (c : ℕ) (t : List ℕ) → IsCut c t → Lacks c (halves c t).0 × ((more : List ℕ) × (t ≡ (halves c t).0 ++ more))
front_by c t (somewhere front back whole lacks) =
    let e = ap (λ (x : List ℕ × Option (List ℕ)). x.0) (at-cut c t front back whole lacks) in
    (subst (Lacks c) (sym e) lacks, (c ∷ back, whole ∙ sym (ap (λ x. x ++ c ∷ back) e)))
front_by c t (nowhere lacks) =
    let e = ap (λ (x : List ℕ × Option (List ℕ)). x.0) (at-none c t lacks) in
    (subst (Lacks c) (sym e) lacks, ([], sym (append-nil t) ∙ sym (ap (λ x. x ++ []) e)))

word_bits : (b : ℕ) → b ≢ 32 → b ≢ 9 → is_word_byte b ≡ true
word_bits b h k = grind (arith, nat_tests)

pub lacks-word : (t : List ℕ) → Lacks 32 t → Lacks 9 t → list_all is_word_byte t ≡ true
lacks-word [] h k = refl
lacks-word (b ∷ t) h k = both_true (is_word_byte b) (list_all is_word_byte t) (word_bits b h.0 k.0)
    (lacks-word t h.1 k.1)

word_byte_not : (b : ℕ) → is_word_byte b ≡ true → (b ≢ 32) × (b ≢ 9)
word_byte_not b h = (grind (arith, nat_tests), grind (arith, nat_tests))

word-lacks : (t : List ℕ) → list_all is_word_byte t ≡ true → Lacks 32 t × Lacks 9 t
word-lacks [] h = (tt, tt)
word-lacks (b ∷ t) h =
    let two = and_true (is_word_byte b) (list_all is_word_byte t) h in
    let bits = word_byte_not b two.0 in
    let more = word-lacks t two.1 in
    ((bits.0, more.0), (bits.1, more.1))

before-word : (t : List ℕ) → list_all is_word_byte (word_before t) ≡ true
before-word t =
    let one = front_by 32 t (cut_of 32 t) in
    let two = front_by 9 (halves 32 t).0 (cut_of 9 (halves 32 t).0) in
    lacks-word (word_before t) (lacks-front 32 (word_before t) two.1.0 (subst (Lacks 32) two.1.1 one.0)) two.0

padded-sound : (t v : List ℕ) → padded t ≡ Some v → (tail : List ℕ) × (t ≡ v ++ tail) × Blanks tail × (v ≢ [])
    × (list_all is_word_byte v ≡ true)
unfolding padded
padded-sound t v h =
    let w = bind_some (some_text (word_before t)) _ v h in
    let tl = bind_some (behind w.0 t) _ v w.2 in
    let one = some_some (word_before t) w.0 w.1 in
    let two = passed_if (list_all is_blank tl.0) w.0 v tl.2 in (
      tl.0,
      behind-sound w.0 t tl.0 tl.1 ∙ ap (λ x. x ++ tl.0) two.1,
      two.0,
      subst (λ x. x ≢ []) two.1 one.1,
      subst (λ x. list_all is_word_byte x ≡ true) (one.0 ∙ two.1) (before-word t),
    )

pub after_by : (t : List ℕ) → IsCut 59 t → (after : List ℕ) × (t ≡ (halves 59 t).0 ++ after)
    × IsParted after (or_empty (halves 59 t).1) × Lacks 59 (halves 59 t).0
after_by t (somewhere front back whole lacks) =
    let e = at-cut 59 t front back whole lacks in (
      59 ∷ back,
      whole ∙ sym (ap (λ (x : List ℕ × Option (List ℕ)). x.0 ++ 59 ∷ back) e),
      inl (sym (ap (λ (x : List ℕ × Option (List ℕ)). 59 ∷ or_empty x.1) e)),
      subst (Lacks 59) (sym (ap (λ (x : List ℕ × Option (List ℕ)). x.0) e)) lacks,
    )
after_by t (nowhere lacks) =
    let e = at-none 59 t lacks in (
      [],
      sym (append-nil t) ∙ sym (ap (λ (x : List ℕ × Option (List ℕ)). x.0 ++ []) e),
      inr (refl, ap (λ (x : List ℕ × Option (List ℕ)). or_empty x.1) e),
      subst (Lacks 59) (sym (ap (λ (x : List ℕ × Option (List ℕ)). x.0) e)) lacks,
    )

pub pair-sound : (t : List ℕ) (p : Pair) (r : List ℕ) → pair_at t ≡ Some (p, r) → PairSays t p r
unfolding pair_at
pair-sound t p r h =
    let cut = bind_some (split_first 61 (unblanked t)) _ (p, r) h in
    let key = bind_some (word.reads cut.0.0) _ (p, r) cut.2 in
    let value = bind_some (padded (halves 59 cut.0.1).0) _ (p, r) key.2 in
    let same = some_same _ _ value.2 in
    let f = unblanked-front t in
    let cuts = split_first-cuts 61 (unblanked t) cut.0.0 cut.0.1 cut.1 in
    let w = word-sound cut.0.0 key.0 key.1 in
    let pd = padded-sound (halves 59 cut.0.1).0 value.0 value.1 in
    let a = after_by cut.0.1 (cut_of 59 cut.0.1) in
    let whole : t ≡ f.0 ++ (key.0 ++ 61 ∷ ((value.0 ++ pd.0) ++ a.0)) =
    f.2 ∙ ap (λ x. f.0 ++ x) (cuts.0 ∙ ap (λ x. x ++ 61 ∷ cut.0.1) w.0
    ∙ ap (λ x. key.0 ++ 61 ∷ x) (a.1 ∙ ap (λ x. x ++ a.0) pd.1)) in
    subst (λ (x : Pair × List ℕ). PairSays t x.0 x.1) same (
      f.0,
      pd.0,
      a.0,
      whole,
      f.1,
      (w.1, w.2, subst (Lacks 61) w.0 cuts.1),
      (pd.3, pd.4, lacks-front 59 value.0 pd.0 (subst (Lacks 59) pd.1 a.3)),
      pd.2,
      a.2,
    )

-- A pair that is there is read.
blank_not : (b : ℕ) → is_blank b ≡ true → b ≢ 59
blank_not b h = grind (arith, nat_tests)

blanks-lack : (t : List ℕ) → Blanks t → Lacks 59 t
blanks-lack [] h = tt
blanks-lack (b ∷ t) h = let two = and_true (is_blank b) (list_all is_blank t) h in
    (blank_not b two.0, blanks-lack t two.1)

blanks-front : (a b : List ℕ) → Blanks (a ++ b) → Blanks a
blanks-front [] b h = refl
blanks-front (x ∷ a) b h = let two = and_true (is_blank x) (list_all is_blank (a ++ b)) h in
    both_true (is_blank x) (list_all is_blank a) two.0 (blanks-front a b two.1)

front32 : (v tail : List ℕ) → Lacks 32 v → Blanks tail → IsCut 32 tail → (t1 : List ℕ)
    × ((halves 32 (v ++ tail)).0 ≡ v ++ t1) × Blanks t1 × Lacks 32 t1
front32 v tail l h (somewhere front back whole lacks) =
    let e : v ++ tail ≡ (v ++ front) ++ 32 ∷ back = ap (λ x. v ++ x) whole ∙ sym (append_assoc v front (32 ∷ back)) in (
      front,
      ap (λ (x : List ℕ × Option (List ℕ)). x.0)
          (at-cut 32 (v ++ tail) (v ++ front) back e (lacks-both 32 v front l lacks)),
      blanks-front front (32 ∷ back) (subst Blanks whole h),
      lacks,
    )
front32 v tail l h (nowhere lacks) =
    (tail, ap (λ (x : List ℕ × Option (List ℕ)). x.0) (at-none 32 (v ++ tail) (lacks-both 32 v tail l lacks)), h, lacks)

tab_alone : (b : ℕ) → is_blank b ≡ true → b ≢ 32 → b ≡ 9
tab_alone b h k = grind (arith, nat_tests)

front9 : (v t1 : List ℕ) → Lacks 9 v → Blanks t1 → Lacks 32 t1 → (halves 9 (v ++ t1)).0 ≡ v
front9 v [] l h k = ap (λ (x : List ℕ × Option (List ℕ)). x.0)
    (at-none 9 (v ++ []) (subst (Lacks 9) (sym (append-nil v)) l)) ∙ append-nil v
front9 v (b ∷ t1) l h k =
    let tab = tab_alone b (and_true (is_blank b) (list_all is_blank t1) h).0 k.0 in
    ap (λ (x : List ℕ × Option (List ℕ)). x.0) (at-cut 9 (v ++ b ∷ t1) v t1 (ap (λ x. v ++ x ∷ t1) tab) l)

padded-complete : (v tail : List ℕ) → v ≢ [] → list_all is_word_byte v ≡ true → Blanks tail → padded (v ++ tail)
    ≡ Some v
unfolding padded
padded-complete v tail n h b =
    let l = word-lacks v h in
    let f = front32 v tail l.0 b (cut_of 32 tail) in
    let before : word_before (v ++ tail) ≡ v = ap (λ x. (halves 9 x).0) f.1 ∙ front9 v f.0 l.1 f.2 f.3 in
    ap (λ o. o >>= λ w. behind w (v ++ tail) >>= λ t. passed_tail w t) (ap some_text before ∙ some_is v n)
    ∙ ap (λ o. o >>= λ t. passed_tail v t) (behind-append v tail)
    ∙ ap (λ x. cond x (Some v) None) b

pub parted_halves : (front after rest : List ℕ) → Lacks 59 front → IsParted after rest
    → ((halves 59 (front ++ after)).0 ≡ front) × (or_empty (halves 59 (front ++ after)).1 ≡ rest)
parted_halves front after rest l (inl e) =
    let at = at-cut 59 (front ++ after) front rest (ap (λ x. front ++ x) e) l in
    (ap (λ (x : List ℕ × Option (List ℕ)). x.0) at, ap (λ (x : List ℕ × Option (List ℕ)). or_empty x.1) at)
parted_halves front after rest l (inr e) =
    let same : front ++ after ≡ front = ap (λ x. front ++ x) e.0 ∙ append-nil front in
    let at : halves 59 (front ++ after) ≡ (front, None) = ap (halves 59) same ∙ at-none 59 front l in
    (ap (λ (x : List ℕ × Option (List ℕ)). x.0) at, ap (λ (x : List ℕ × Option (List ℕ)). or_empty x.1) at ∙ sym e.1)

pub pair-complete : (t : List ℕ) (p : Pair) (r : List ℕ) → PairSays t p r → pair_at t ≡ Some (p, r)
unfolding pair_at
pair-complete t p r s =
    let front = s.0 in let tail = s.1 in let after = s.2 in
    let behind_key = (p.value ++ tail) ++ after in
    let start : unblanked t ≡ p.key ++ 61 ∷ behind_key =
    ap unblanked s.3 ∙ unblanked-past front (p.key ++ 61 ∷ behind_key) s.4
    ∙ unblanked-word p.key (61 ∷ behind_key) s.5.0 s.5.1 in
    let h = parted_halves (p.value ++ tail) after r (lacks-both 59 p.value tail s.6.2 (blanks-lack tail s.7)) s.8 in
    ap (λ o. o >>= λ cut. word.reads cut.0 >>= λ key. padded (halves 59 cut.1).0 >>= λ value. Some
    (make_pair (key, value), or_empty (halves 59 cut.1).1))
    (ap (split_first 61) start ∙ split_first-at 61 p.key behind_key s.5.2)
    ∙ ap (λ o. o >>= λ key. padded (halves 59 behind_key).0 >>= λ value. Some
    (make_pair (key, value), or_empty (halves 59 behind_key).1)) (word-complete p.key s.5.0 s.5.1)
    ∙ ap (λ o. o >>= λ value. Some (make_pair (p.key, value), or_empty (halves 59 behind_key).1))
    (ap padded h.0 ∙ padded-complete p.value tail s.6.0 s.6.1 s.7)
    ∙ ap (λ x. Some (make_pair (p.key, p.value), x)) h.1

-- Blanks alone hold no word.
pub blank_word : (front w t : List ℕ) → list_all is_blank (front ++ (w ++ t)) ≡ true → w ≢ []
    → list_all is_word_byte w ≡ true → ⊥
blank_word [] [] t h n k = n refl
blank_word [] (b ∷ w) t h n k =
    let one = (and_true (is_blank b) (list_all is_blank (w ++ t)) h).0 in
    let two = word_blank b (and_true (is_word_byte b) (list_all is_word_byte w) k).0 in
    no_both (is_blank b) one two
  where
    no_both : (x : Bool) → x ≡ true → x ≡ false → ⊥
    no_both true h k = cc
    no_both false h k = cc
blank_word (b ∷ front) w t h n k = blank_word front w t
    (and_true (is_blank b) (list_all is_blank (front ++ (w ++ t))) h).1 n k
