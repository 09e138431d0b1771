-- Forms whose reader and relation agree.
use Rattle.std.proofs.Common.{◌≡◌, ◌≢◌, ◌⊎◌, ℕ, Bool, ◌==◌, List, [], ◌∷◌, Option, Some, None, refl, sym, ◌∙◌}
use Rattle.std.proofs.Common.{ap, inl, inr, ⊎_elim, cond, true, false}
use Rattle.std.specs.Option.{option_map, option_or}
use Rattle.sdp_formats_grammar.specs.Bind.{◌>>=◌}
use Rattle.sdp_formats_grammar.specs.Split.{IsJoined, split_first, halves, halves_of, behind, parts, onto_first}
use Rattle.sdp_formats_grammar.specs.Form.{Form, IsExact, told, made, after, both, cut, maybe, both_maybe, SaysMaybe}
use Rattle.sdp_formats_grammar.specs.Form.{cut_maybe, each, Each, separated, either, passed, only}
use Rattle.sdp_formats_grammar.specs.Steps.{bind_some, map_some, none_if, none_some, some_same, nil_cons, cons_same}
use Rattle.sdp_formats_grammar.specs.Cuts.{split_first-at, split_first-nowhere, split_first-cuts, IsCut, somewhere}
use Rattle.sdp_formats_grammar.specs.Cuts.{nowhere, cut_of, same_byte, other_byte, same_or_not, parts-at, parts-whole}
use Rattle.sdp_formats_grammar.specs.Words.{behind-append, behind-sound}

pub told-exact : {A : Type 0} (f : List ℕ → Option A) → IsExact (told f)
told-exact f = record { sound = λ t a h. h; complete = λ t a h. h }

pub made-exact : {A B : Type 0} (h : A → B) (f : Form A) → IsExact f → IsExact (made h f)
made-exact h f exact = record {
  sound = λ t b e. let s = map_some h (f.reads t) b e in (s.0, exact.sound t s.0 s.1, s.2);
  complete = λ t b s. ap (option_map h) (exact.complete t s.0 s.1) ∙ ap Some (sym s.2);
}

pub after-exact : {A : Type 0} (words : List ℕ) (f : Form A) → IsExact f → IsExact (after words f)
after-exact words f exact = record {
  sound = λ t a e. let s = bind_some (behind words t) f.reads a e in
      (s.0, behind-sound words t s.0 s.1, exact.sound s.0 a s.2);
  complete = λ t a s. ap (λ x. behind words x >>= f.reads) s.1 ∙ ap (λ o. o >>= f.reads) (behind-append words s.0)
      ∙ exact.complete s.0 a s.2;
}

both_some : {A B : Type 0} (o : Option A) (p : Option B) (ab : A × B) → (o >>= λ a. p >>= λ b. Some (a, b)) ≡ Some ab
    → (o ≡ Some ab.0) × (p ≡ Some ab.1)
both_some None p ab h = absurd (none_some ab h)
both_some (Some a) None ab h = absurd (none_some ab h)
both_some (Some a) (Some b) ab h = (cc, cc)

pub cut-exact : {A B : Type 0} (c : ℕ) (f : Form A) (g : Form B) → IsExact f → IsExact g → IsExact (cut c f g)
cut-exact c f g fs gs = record {
  sound = λ t ab e.
      let s = bind_some (split_first c t) (both f.reads g.reads) ab e in
      let cuts = split_first-cuts c t s.0.0 s.0.1 s.1 in
      let two = both_some (f.reads s.0.0) (g.reads s.0.1) ab s.2 in
      (s.0.0, s.0.1, cuts.0, cuts.1, fs.sound s.0.0 ab.0 two.0, gs.sound s.0.1 ab.1 two.1);
  complete = λ t ab s.
      ap (λ x. split_first c x >>= both f.reads g.reads) s.2
      ∙ ap (λ o. o >>= both f.reads g.reads) (split_first-at c s.0 s.1 s.3)
      ∙ ap (λ o. o >>= λ a. g.reads s.1 >>= λ b. Some (a, b)) (fs.complete s.0 ab.0 s.4)
      ∙ ap (λ o. o >>= λ b. Some (ab.0, b)) (gs.complete s.1 ab.1 s.5);
}

maybe_some : {A B : Type 0} (f : Option A) (g : Option B) (ab : A × Option B)
    → (f >>= λ a. option_map Some g >>= λ b. Some (a, b)) ≡ Some ab
    → (b : B) × (f ≡ Some ab.0) × (g ≡ Some b) × (ab.1 ≡ Some b)
maybe_some None g ab h = absurd (none_some ab h)
maybe_some (Some a) None ab h = absurd (none_some ab h)
maybe_some (Some a) (Some b) ab h = let same : (a, Some b) ≡ ab = some_same _ _ h in
    (b, ap (λ (x : _ × Option _). Some x.0) same, refl, sym (ap (λ (x : _ × Option _). x.1) same))

alone_some : {A B : Type 0} (f : Option A) (ab : A × Option B) → (f >>= λ a. Some (a, None)) ≡ Some ab
    → (f ≡ Some ab.0) × (ab.1 ≡ None)
alone_some None ab h = absurd (none_some ab h)
alone_some (Some a) ab h = (cc, cc)

maybe_sound : {A B : Type 0} (c : ℕ) (f : Form A) (g : Form B) (t : List ℕ) (a : A) (b : Option B) → IsExact f
    → IsExact g → IsCut c t
    → both_maybe f.reads (maybe g.reads) (halves c t) ≡ Some (a, b) → SaysMaybe c f.Says g.Says t a b
maybe_sound c f g t a b fs gs (somewhere front back whole lacks) e =
    let at : halves c t ≡ (front, Some back) =
    ap (halves_of t) (ap (split_first c) whole ∙ split_first-at c front back lacks) in
    let s = maybe_some (f.reads front) (g.reads back) (a, b) (sym (ap (both_maybe f.reads (maybe g.reads)) at) ∙ e) in
    rw s.3 (front, back, whole, lacks, fs.sound front a s.1, gs.sound back s.0 s.2)
maybe_sound c f g t a b fs gs (nowhere lacks) e =
    let at : halves c t ≡ (t, None) = ap (halves_of t) (split_first-nowhere c t lacks) in
    let s = alone_some (f.reads t) (a, b) (sym (ap (both_maybe f.reads (maybe g.reads)) at) ∙ e) in
    rw s.1 (lacks, fs.sound t a s.0)

maybe_complete : {A B : Type 0} (c : ℕ) (f : Form A) (g : Form B) (t : List ℕ) (a : A) (b : Option B) → IsExact f
    → IsExact g
    → SaysMaybe c f.Says g.Says t a b → both_maybe f.reads (maybe g.reads) (halves c t) ≡ Some (a, b)
maybe_complete c f g t a None fs gs s =
    ap (λ o. both_maybe f.reads (maybe g.reads) (halves_of t o)) (split_first-nowhere c t s.0)
    ∙ ap (λ o. o >>= λ x. Some (x, None)) (fs.complete t a s.1)
maybe_complete c f g t a (Some b) fs gs s =
    ap (λ o. both_maybe f.reads (maybe g.reads) (halves_of t o)) (ap (split_first c) s.2 ∙ split_first-at c s.0 s.1 s.3)
    ∙ ap (λ o. o >>= λ x. option_map Some (g.reads s.1) >>= λ y. Some (x, y)) (fs.complete s.0 a s.4)
    ∙ ap (λ o. option_map Some o >>= λ y. Some (a, y)) (gs.complete s.1 b s.5)

pub cut_maybe-exact : {A B : Type 0} (c : ℕ) (f : Form A) (g : Form B) → IsExact f → IsExact g
    → IsExact (cut_maybe c f g)
cut_maybe-exact c f g fs gs = record {
  sound = λ t ab e. maybe_sound c f g t ab.0 ab.1 fs gs (cut_of c t) e;
  complete = λ t ab s. maybe_complete c f g t ab.0 ab.1 fs gs s;
}

-- Pieces.
onto_joined : (c b : ℕ) (t : List ℕ) (pieces : List (List ℕ)) → b ≢ c → IsJoined c pieces t
    → IsJoined c (onto_first b pieces) (b ∷ t)
onto_joined c b t [] other h = absurd h
onto_joined c b t (piece ∷ []) other h = (ap (λ x. b ∷ x) h.0, (other, h.1))
onto_joined c b t (piece ∷ next ∷ pieces) other h = (h.0, ap (λ x. b ∷ x) h.1, (other, h.2), h.3)

new_joined : (c b : ℕ) (t : List ℕ) (pieces : List (List ℕ)) → b ≡ c → IsJoined c pieces t
    → IsJoined c ([] ∷ pieces) (b ∷ t)
new_joined c b t [] same h = absurd h
new_joined c b t (piece ∷ pieces) same h = (t, ap (λ x. x ∷ t) same, tt, h)

parts_step : (c b : ℕ) (t : List ℕ) (pieces : List (List ℕ)) → IsJoined c pieces t → (b ≡ c) ⊎ (b ≢ c)
    → IsJoined c (cond (b == c) ([] ∷ pieces) (onto_first b pieces)) (b ∷ t)
parts_step c b t pieces h = ⊎_elim
    (λ same. rw (same_byte b c ([] ∷ pieces) (onto_first b pieces) same) (new_joined c b t pieces same h))
    (λ other. rw (other_byte b c ([] ∷ pieces) (onto_first b pieces) other) (onto_joined c b t pieces other h))

parts_joined : (c : ℕ) (t : List ℕ) → IsJoined c (parts c t) t
parts_joined c [] = (refl, tt)
parts_joined c (b ∷ t) = parts_step c b t (parts c t) (parts_joined c t) (same_or_not b c)

joined_parts : (c : ℕ) (pieces : List (List ℕ)) (t : List ℕ) → IsJoined c pieces t → parts c t ≡ pieces
joined_parts c [] t h = absurd h
joined_parts c (piece ∷ []) t h = ap (parts c) h.0 ∙ parts-whole c piece h.1
joined_parts c (piece ∷ next ∷ pieces) t h =
    ap (parts c) h.1 ∙ parts-at c piece h.0 h.2 ∙ ap (λ ps. piece ∷ ps) (joined_parts c (next ∷ pieces) h.0 h.3)

each_sound : {A : Type 0} (f : Form A) → IsExact f → (pieces : List (List ℕ)) (as' : List A) → each f.reads pieces
    ≡ Some as' → Each f.Says pieces as'
each_sound f fs [] [] e = tt
each_sound f fs [] (a ∷ as') e = absurd (nil_cons a as' (some_same _ _ e))
each_sound f fs (t ∷ ts) [] e =
    let x = bind_some (f.reads t) (λ x. each f.reads ts >>= λ xs. Some (x ∷ xs)) [] e in
    let xs = bind_some (each f.reads ts) (λ xs. Some (x.0 ∷ xs)) [] x.2 in
    nil_cons x.0 xs.0 (sym (some_same _ _ xs.2))
each_sound f fs (t ∷ ts) (a ∷ as') e =
    let x = bind_some (f.reads t) (λ x. each f.reads ts >>= λ xs. Some (x ∷ xs)) (a ∷ as') e in
    let xs = bind_some (each f.reads ts) (λ xs. Some (x.0 ∷ xs)) (a ∷ as') x.2 in
    let two = cons_same x.0 a xs.0 as' (some_same _ _ xs.2) in
    (fs.sound t a (x.1 ∙ ap Some two.0), each_sound f fs ts as' (xs.1 ∙ ap Some two.1))

each_complete : {A : Type 0} (f : Form A) → IsExact f → (pieces : List (List ℕ)) (as' : List A)
    → Each f.Says pieces as' → each f.reads pieces ≡ Some as'
each_complete f fs [] [] s = refl
each_complete f fs [] (a ∷ as') s = absurd s
each_complete f fs (t ∷ ts) [] s = absurd s
each_complete f fs (t ∷ ts) (a ∷ as') s =
    ap (λ o. o >>= λ x. each f.reads ts >>= λ xs. Some (x ∷ xs)) (fs.complete t a s.0)
    ∙ ap (λ o. o >>= λ xs. Some (a ∷ xs)) (each_complete f fs ts as' s.1)

pub separated-exact : {A : Type 0} (c : ℕ) (f : Form A) → IsExact f → IsExact (separated c f)
separated-exact c f fs = record {
  sound = λ t as' e. (parts c t, parts_joined c t, each_sound f fs (parts c t) as' e);
  complete = λ t as' s. ap (each f.reads) (joined_parts c s.0 t s.1) ∙ each_complete f fs s.0 as' s.2;
}

either_sound : {A : Type 0} (f g : Form A) (t : List ℕ) (a : A) → IsExact f → IsExact g → (o : Option A) → f.reads t ≡ o
    → option_or (f.reads t) (g.reads t) ≡ Some a → f.Says t a ⊎ (((x : A) → f.Says t x → ⊥) × g.Says t a)
either_sound f g t a fs gs (Some x) h e = inl (fs.sound t a (h ∙ sym (ap (λ o. option_or o (g.reads t)) h) ∙ e))
either_sound f g t a fs gs None h e =
    inr (λ x s. none_some x (sym h ∙ fs.complete t x s), gs.sound t a (sym (ap (λ o. option_or o (g.reads t)) h) ∙ e))

pub either-exact : {A : Type 0} (f g : Form A) → IsExact f → IsExact g → IsExact (either f g)
either-exact f g fs gs = record {
  sound = λ t a e. either_sound f g t a fs gs (f.reads t) refl e;
  complete = λ t a s. ⊎_elim (λ x. ap (λ o. option_or o (g.reads t)) (fs.complete t a x))
      (λ x. ap (λ o. option_or o (g.reads t)) (none_if (f.reads t) (λ y h. x.0 y (fs.sound t y h)))
      ∙ gs.complete t a x.1) s;
}

passed_some : {A : Type 0} (p : A → Bool) (x a : A) (b : Bool) → p x ≡ b → cond b (Some x) None ≡ Some a → (x ≡ a)
    × (p x ≡ true)
passed_some p x a true h e = (some_same x a e, h)
passed_some p x a false h e = absurd (none_some a e)

pub only-exact : {A : Type 0} (p : A → Bool) (f : Form A) → IsExact f → IsExact (only p f)
only-exact p f fs = record {
  sound = λ t a e.
      let s = bind_some (f.reads t) (passed p) a e in
      let two = passed_some p s.0 a (p s.0) refl s.2 in
      (fs.sound t a (s.1 ∙ ap Some two.0), sym (ap p two.0) ∙ two.1);
  complete = λ t a s. ap (λ o. o >>= passed p) (fs.complete t a s.0) ∙ ap (λ b. cond b (Some a) None) s.1;
}
