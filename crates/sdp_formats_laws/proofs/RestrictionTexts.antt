-- Restrictions are read if and only if a text says them.
use Rattle.std.proofs.Common.{◌≡◌, ◌≢◌, ◌==◌, ◌&&◌, ℕ, Bool, true, false, cond, List, [], ◌∷◌, ◌++◌, length}
use Rattle.std.proofs.Common.{Option, Some, None, refl, sym, ◌∙◌, ap, subst, inl, inr, ⊎_elim, append_assoc}
use Rattle.std.proofs.Common.{append-nil, arith}
use Rattle.std.specs.List.{list_all}
use Rattle.std.proofs.lemmas.Bool.Decides.{nat_tests}
use Rattle.sdp_formats_grammar.specs.Bind.{◌>>=◌}
use Rattle.sdp_formats_grammar.specs.Cuts.{cut_of, split_first-at, split_first-cuts}
use Rattle.sdp_formats_grammar.specs.Form.{some_text}
use Rattle.sdp_formats_grammar.specs.Split.{Lacks, halves, split_first}
use Rattle.sdp_formats_grammar.specs.Step.{Begins, Stops}
use Rattle.sdp_formats_grammar.specs.Steps.{bind_some, none_some, some_same}
use Rattle.sdp_formats_reader.specs.PairLemmas.{after_by, parted_halves, unblanked-word, word-complete}
use Rattle.sdp_formats_reader.specs.Pairs.{all_read, ends_open, is_blank, is_word_byte, make_pair, or_empty}
use Rattle.sdp_formats_reader.specs.Pairs.{restriction_at, restrictions_of, unblanked, word}
use Rattle.sdp_formats_reader.specs.PairsSay.{Blanks, IsParted, IsWord}
use Rattle.sdp_formats_reader.specs.Runs.{At, run, run-sound}
use Rattle.sdp_formats_reader.proofs.PairRounds.{restriction-shorter, restrictions-read}
use Rattle.sdp_formats_values.specs.declared.Pair.{Pair}
use Rattle.sdp_formats_laws.proofs.ValueTexts.{some_of}
use Rattle.sdp_formats_laws.specs.RestrictionTexts.{RestrictionSays, RestrictionsAreExact, RestrictionsSay}

two_true : (a b : Bool) → (a && b) ≡ true → (a ≡ true) × (b ≡ true)
two_true true b h = (refl, h)
two_true false b h = absurd (cc)

both_true : (a b : Bool) → a ≡ true → b ≡ true → (a && b) ≡ true
both_true a b h k = cc

-- blanks in front
blanks_front : (t : List ℕ) → (front : List ℕ) × Blanks front × (t ≡ front ++ unblanked t)
blanks_front [] = ([], refl, refl)
blanks_front (b ∷ t) = by_first b t (is_blank b) refl (blanks_front t)
  where
    by_first : (b : ℕ) (t : List ℕ) (x : Bool) → is_blank b ≡ x
        → (front : List ℕ) × Blanks front × (t ≡ front ++ unblanked t)
        → (front : List ℕ) × Blanks front × (b ∷ t ≡ front ++ cond x (unblanked t) (b ∷ t))
    by_first b t true e h = (b ∷ h.0, both_true (is_blank b) (list_all is_blank h.0) e h.1, ap (λ y. b ∷ y) h.2)
    by_first b t false e h = ([], refl, refl)

blanks_past : (front t : List ℕ) → Blanks front → unblanked (front ++ t) ≡ unblanked t
blanks_past [] t h = refl
blanks_past (b ∷ front) t h =
    let two = two_true (is_blank b) (list_all is_blank front) h in
    ap (λ x. cond x (unblanked (front ++ t)) (b ∷ (front ++ t))) two.0 ∙ blanks_past front t two.1

-- a word
passed_if : (x : Bool) (a b : List ℕ) → cond x (Some a) None ≡ Some b → (x ≡ true) × (a ≡ b)
passed_if true a b h = (refl, some_same a b h)
passed_if false a b h = absurd (none_some b h)

word_sound : (t w : List ℕ) → word.reads t ≡ Some w → (t ≡ w) × (w ≢ []) × (list_all is_word_byte w ≡ true)
word_sound t w h =
    let s = bind_some (some_text t) _ w h in
    let one = some_of t s.0 s.1 in
    let two = passed_if (list_all is_word_byte s.0) s.0 w s.2 in (
      one.0 ∙ two.1,
      subst (λ x. x ≢ []) (one.0 ∙ two.1) one.1,
      subst (λ x. list_all is_word_byte x ≡ true) two.1 two.0,
    )

-- one restriction and what follows it
record Step (t : List ℕ) (p : Pair) (r : List ℕ) : Type 0 where
  front : List ℕ
  after : List ℕ
  whole : t ≡ front ++ (p.key ++ 61 ∷ (p.value ++ after))
  blanks : Blanks front
  key : IsWord 61 p.key
  value : IsWord 59 p.value
  parts : IsParted after r

step_sound : (t : List ℕ) (p : Pair) (r : List ℕ) → restriction_at t ≡ Some (p, r) → Step t p r
unfolding restriction_at
step_sound t p r h =
    let cut = bind_some (split_first 61 (unblanked t)) _ (p, r) h in
    let key = bind_some (word.reads cut.0.0) _ (p, r) cut.2 in
    let value = bind_some (word.reads (halves 59 cut.0.1).0) _ (p, r) key.2 in
    let same = some_same _ _ value.2 in
    let f = blanks_front t in
    let cuts = split_first-cuts 61 (unblanked t) cut.0.0 cut.0.1 cut.1 in
    let w = word_sound cut.0.0 key.0 key.1 in
    let v = word_sound (halves 59 cut.0.1).0 value.0 value.1 in
    let a = after_by cut.0.1 (cut_of 59 cut.0.1) in
    let whole : t ≡ f.0 ++ (key.0 ++ 61 ∷ (value.0 ++ a.0)) =
    f.2 ∙ ap (λ x. f.0 ++ x) (cuts.0 ∙ ap (λ x. x ++ 61 ∷ cut.0.1) w.0
    ∙ ap (λ x. key.0 ++ 61 ∷ x) (a.1 ∙ ap (λ x. x ++ a.0) v.0)) in
    subst (λ (x : Pair × List ℕ). Step t x.0 x.1) same (record {
      front = f.0;
      after = a.0;
      whole = whole;
      blanks = f.1;
      key = (w.1, w.2, subst (Lacks 61) w.0 cuts.1);
      value = (v.1, v.2, subst (Lacks 59) v.0 a.3);
      parts = a.2;
    })

step_complete : (t : List ℕ) (p : Pair) (r : List ℕ) → Step t p r → restriction_at t ≡ Some (p, r)
unfolding restriction_at
step_complete t p r s =
    let behind_key = p.value ++ s.after in
    let start : unblanked t ≡ p.key ++ 61 ∷ behind_key =
    ap unblanked s.whole ∙ blanks_past s.front (p.key ++ 61 ∷ behind_key) s.blanks
    ∙ unblanked-word p.key (61 ∷ behind_key) s.key.0 s.key.1 in
    let h = parted_halves p.value s.after r s.value.2 s.parts in
    ap (λ o. o >>= λ cut. word.reads cut.0 >>= λ key. word.reads (halves 59 cut.1).0 >>= λ value. Some
    (make_pair (key, value), or_empty (halves 59 cut.1).1))
    (ap (split_first 61) start ∙ split_first-at 61 p.key behind_key s.key.2)
    ∙ ap (λ o. o >>= λ key. word.reads (halves 59 behind_key).0 >>= λ value. Some
    (make_pair (key, value), or_empty (halves 59 behind_key).1)) (word-complete p.key s.key.0 s.key.1)
    ∙ ap (λ o. o >>= λ value. Some (make_pair (p.key, value), or_empty (halves 59 behind_key).1))
    (ap word.reads h.0 ∙ word-complete p.value s.value.0 s.value.1)
    ∙ ap (λ x. Some (make_pair (p.key, p.value), x)) h.1

-- nothing says no restriction
some_there : (front key more : List ℕ) → [] ≡ front ++ (key ++ 61 ∷ more) → ⊥
some_there [] [] more e = cc
some_there [] (b ∷ key) more e = cc
some_there (b ∷ front) key more e = cc

nothing_there : Stops (At restriction_at) []
nothing_there = λ p r h. let s = step_sound [] p r h in some_there s.front p.key (p.value ++ s.after) s.whole

-- how a text ends
ends_behind : (xs : List ℕ) (b : ℕ) (t : List ℕ) → ends_open (xs ++ b ∷ t) ≡ ends_open (b ∷ t)
ends_behind [] b t = refl
ends_behind (x ∷ []) b t = refl
ends_behind (x ∷ y ∷ xs) b t = ends_behind (y ∷ xs) b t

ends_later : (xs : List ℕ) (b : ℕ) (t : List ℕ) → ends_open (xs ++ b ∷ t) ≡ false → ends_open t ≡ false
ends_later xs b [] h = refl
ends_later xs b (c ∷ t) h = sym (ends_behind xs b (c ∷ t)) ∙ h

other_end : (b : ℕ) → b ≢ 59 → (b == 59) ≡ false
other_end b h = grind (arith, nat_tests)

word_ends : (w : List ℕ) → Lacks 59 w → ends_open w ≡ false
word_ends [] h = refl
word_ends (b ∷ []) h = other_end b h.0
word_ends (b ∷ c ∷ w) h = word_ends (c ∷ w) h.1

ends_word : (xs w : List ℕ) → w ≢ [] → Lacks 59 w → ends_open (xs ++ w) ≡ false
ends_word xs [] some h = absurd (some refl)
ends_word xs (b ∷ w) some h = ends_behind xs b w ∙ word_ends (b ∷ w) h

-- shapes of a restriction
abbrev pub spelled : List ℕ → Pair → List ℕ
spelled front p = front ++ (p.key ++ 61 ∷ p.value)

shape : (front : List ℕ) (p : Pair) (after : List ℕ)
    → front ++ (p.key ++ 61 ∷ (p.value ++ after)) ≡ spelled front p ++ after
shape front p after =
    ap (λ x. front ++ x) (sym (append_assoc p.key (61 ∷ p.value) after))
    ∙ sym (append_assoc front (p.key ++ 61 ∷ p.value) after)

value_last : (front : List ℕ) (p : Pair) → spelled front p ≡ (front ++ (p.key ++ 61 ∷ [])) ++ p.value
value_last front p =
    ap (λ x. front ++ x) (sym (append_assoc p.key (61 ∷ []) p.value))
    ∙ sym (append_assoc front (p.key ++ 61 ∷ []) p.value)

opposed : (b : Bool) → b ≡ true → b ≡ false → ⊥
opposed b h k = cc

last_says : (t : List ℕ) (p : Pair) (m : List ℕ) → Step t p m → [] ≡ m → ends_open t ≡ false → RestrictionSays t p
last_says t p m s none closed = ⊎_elim
    (λ (e : s.after ≡ 59 ∷ m).
    let whole : t ≡ spelled s.front p ++ 59 ∷ [] =
    s.whole ∙ shape s.front p s.after ∙ ap (λ x. spelled s.front p ++ x) (e ∙ ap (λ x. 59 ∷ x) (sym none)) in
    absurd (opposed (ends_open t) (ap ends_open whole ∙ ends_behind (spelled s.front p) 59 []) closed))
    (λ (e : (s.after ≡ []) × (m ≡ [])). (
      s.front,
      s.whole ∙ shape s.front p s.after ∙ ap (λ x. spelled s.front p ++ x) e.0 ∙ append-nil (spelled s.front p),
      s.blanks,
      s.key,
      s.value,
    )) s.parts

begins_say : (t : List ℕ) (ps : List Pair) → Begins (At restriction_at) t ps [] → ends_open t ≡ false
    → RestrictionsSay t ps
begins_say t [] h closed = sym h
begins_say t (p ∷ []) h closed = last_says t p h.0 (step_sound t p h.0 h.1) h.2 closed
begins_say t (p ∷ q ∷ ps) h closed =
    let s = step_sound t p h.0 h.1 in ⊎_elim
    (λ (e : s.after ≡ 59 ∷ h.0).
    let whole : t ≡ spelled s.front p ++ 59 ∷ h.0 =
    s.whole ∙ shape s.front p s.after ∙ ap (λ x. spelled s.front p ++ x) e in (
      spelled s.front p,
      h.0,
      whole,
      (s.front, refl, s.blanks, s.key, s.value),
      begins_say h.0 (q ∷ ps) h.2
          (ends_later (spelled s.front p) 59 h.0 (ap ends_open (sym whole) ∙ closed)),
    ))
    (λ (e : (s.after ≡ []) × (h.0 ≡ [])).
    absurd (nothing_there q h.2.0 (ap restriction_at (sym e.1) ∙ h.2.1))) s.parts

said_there : (rest : List ℕ) (q : Pair) (ps : List Pair) → RestrictionsSay rest (q ∷ ps) → rest ≢ []
said_there rest q [] h e = some_there h.0 q.key q.value (sym e ∙ h.1)
said_there rest q (p ∷ ps) h e = some_more h.0 h.1 (sym e ∙ h.2)
  where
    some_more : (one more : List ℕ) → [] ≡ one ++ 59 ∷ more → ⊥
    some_more [] more e = cc
    some_more (b ∷ one) more e = cc

ends_rest : (one rest : List ℕ) → rest ≢ [] → ends_open rest ≡ false → ends_open (one ++ 59 ∷ rest) ≡ false
ends_rest one [] some h = absurd (some refl)
ends_rest one (b ∷ rest) some h = ends_behind one 59 (b ∷ rest) ∙ h

say_begins : (t : List ℕ) (ps : List Pair) → RestrictionsSay t ps
    → Begins (At restriction_at) t ps [] × (ends_open t ≡ false)
say_begins t [] h = (sym h, ap ends_open h)
say_begins t (p ∷ []) h = (
  (
    [],
    step_complete t p [] (record {
      front = h.0;
      after = [];
      whole = h.1 ∙ ap (λ x. h.0 ++ (p.key ++ 61 ∷ x)) (sym (append-nil p.value));
      blanks = h.2;
      key = h.3;
      value = h.4;
      parts = inr (refl, refl);
    }),
    refl,
  ),
  ap ends_open (h.1 ∙ value_last h.0 p) ∙ ends_word (h.0 ++ (p.key ++ 61 ∷ [])) p.value h.4.0 h.4.2,
)
say_begins t (p ∷ q ∷ ps) h =
    let s = h.3 in
    let more = say_begins h.1 (q ∷ ps) h.4 in (
      (
        h.1,
        step_complete t p h.1 (record {
          front = s.0;
          after = 59 ∷ h.1;
          whole = h.2 ∙ ap (λ x. x ++ 59 ∷ h.1) s.1 ∙ sym (shape s.0 p (59 ∷ h.1));
          blanks = s.2;
          key = s.3;
          value = s.4;
          parts = inl refl;
        }),
        more.0,
      ),
      ap ends_open h.2 ∙ ends_rest h.0 h.1 (said_there h.1 q ps h.4) more.1,
    )

-- the whole text
no_rest : (r : List ℕ) → (length r == 0) ≡ true → r ≡ []
no_rest [] h = refl
no_rest (b ∷ r) h = absurd (grind (arith, nat_tests))

read_all : (x : List Pair × List ℕ) (ps : List Pair) → all_read x ≡ Some ps → (x.0 ≡ ps) × (x.1 ≡ [])
read_all x ps h = by_rest (length x.1 == 0) refl h
  where
    by_rest : (b : Bool) → (length x.1 == 0) ≡ b → cond b (Some x.0) None ≡ Some ps → (x.0 ≡ ps) × (x.1 ≡ [])
    by_rest true e h = (some_same x.0 ps h, no_rest x.1 e)
    by_rest false e h = absurd (none_some ps h)

not_open : (b : Bool) (o : Option (List Pair)) (ps : List Pair) → cond b None o ≡ Some ps → (b ≡ false) × (o ≡ Some ps)
not_open true o ps h = absurd (none_some ps h)
not_open false o ps h = (refl, h)

sound : (t : List ℕ) (ps : List Pair) → restrictions_of t ≡ Some ps → RestrictionsSay t ps
unfolding restrictions_of
sound t ps h =
    let x = run restriction_at (length t) t in
    let closed = not_open (ends_open t) (all_read x) ps h in
    let all = read_all x ps closed.1 in
    let m = run-sound restriction_at restriction-shorter (length t) t (omega arith) in
    begins_say t ps (subst (λ r. Begins (At restriction_at) t ps r) all.1
    (subst (λ y. Begins (At restriction_at) t y x.1) all.0 m.0)) closed.0

complete : (t : List ℕ) (ps : List Pair) → RestrictionsSay t ps → restrictions_of t ≡ Some ps
complete t ps h = let b = say_begins t ps h in restrictions-read t ps [] b.1 (b.0, nothing_there)

pub restrictions_exact : RestrictionsAreExact
restrictions_exact t ps = (sound t ps, complete t ps)
