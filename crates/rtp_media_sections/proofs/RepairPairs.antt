-- Pairs of SSRCs and of those of their repairs that fit the SSRCs of a section.
use Rattle.std.proofs.Common.{◌≡◌, ℕ, ◌==◌, Bool, true, false, not, ◌&&◌, ◌||◌, List, [], ◌∷◌, map, refl, sym, ◌∙◌, ap}
use Rattle.std.proofs.Common.{arith, inl, inr}
use Rattle.std.specs.Prelude.{◌↔◌, IsTrue}
use Rattle.std.proofs.lemmas.Bool.{false≢true}
use Rattle.std.proofs.lemmas.Bool.Decides.{nat_tests}
use Rattle.sdp_formats_rounds.specs.Members.{IsIn}
use Rattle.rtp_media_sections.specs.Repairs.{ArePairsOf, are_sound_pairs, is_among, is_repaired, is_repairing}

both : (a b : Bool) → (a && b) ≡ true → (a ≡ true) × (b ≡ true)
both true b e = (refl, e)
both false b e = absurd (false≢true e)

is_not : (a : Bool) → not a ≡ true → a ≡ false
is_not false e = refl
is_not true e = absurd (false≢true e)

-- the parts of soundness
pub record SoundPair (ssrcs : List ℕ) (p : ℕ × ℕ) (ps : List (ℕ × ℕ)) : Type 0 where
  pub named : is_among ssrcs p.0 ≡ true
  pub new : is_among ssrcs p.1 ≡ false
  pub repaired_once : is_repaired ps p.0 ≡ false
  pub repairing_once : is_repairing ps p.1 ≡ false
  pub rest : are_sound_pairs ssrcs ps ≡ true

pub sound_pair : (ssrcs : List ℕ) (p : ℕ × ℕ) (ps : List (ℕ × ℕ)) → are_sound_pairs ssrcs (p ∷ ps) ≡ true
    → SoundPair ssrcs p ps
sound_pair ssrcs p ps e =
    let two = both (is_among ssrcs p.0 && not (is_among ssrcs p.1))
    ((not (is_repaired ps p.0) && not (is_repairing ps p.1)) && are_sound_pairs ssrcs ps) e in
    let front = both (is_among ssrcs p.0) (not (is_among ssrcs p.1)) two.0 in
    let back = both (not (is_repaired ps p.0) && not (is_repairing ps p.1)) (are_sound_pairs ssrcs ps) two.1 in
    let once = both (not (is_repaired ps p.0)) (not (is_repairing ps p.1)) back.0 in
    record {
      named = front.0;
      new = is_not (is_among ssrcs p.1) front.1;
      repaired_once = is_not (is_repaired ps p.0) once.0;
      repairing_once = is_not (is_repairing ps p.1) once.1;
      rest = back.1;
    }

-- tests and what they mean
pub behind : (a b : Bool) → b ≡ true → (a || b) ≡ true
behind true b e = refl
behind false b e = e

among_is : (ns : List ℕ) (n : ℕ) → is_among ns n ≡ true → IsIn n ns
among_is [] n e = absurd (false≢true e)
among_is (m ∷ ns) n e = at (m == n) refl e (among_is ns n)
  where
    at : (b : Bool) → (m == n) ≡ b → (b || is_among ns n) ≡ true → (is_among ns n ≡ true → IsIn n ns)
        → IsIn n (m ∷ ns)
    at true is f later = let same : m ≡ n = grind (arith, nat_tests) in inl same
    at false is f later = inr (later f)

is_among_of : (ns : List ℕ) (n : ℕ) → IsIn n ns → is_among ns n ≡ true
is_among_of [] n h = absurd h
is_among_of (m ∷ ns) n (inl same) =
    let e : (m == n) ≡ true = grind (arith, nat_tests) in ap (λ b. b || is_among ns n) e
is_among_of (m ∷ ns) n (inr h) = behind (m == n) (is_among ns n) (is_among_of ns n h)

not_in : (ns : List ℕ) (n : ℕ) → is_among ns n ≡ false → IsIn n ns → ⊥
not_in ns n e h = false≢true (sym e ∙ is_among_of ns n h)

not_among : (ns : List ℕ) (n : ℕ) → (IsIn n ns → ⊥) → is_among ns n ≡ false
not_among ns n h = at (is_among ns n) refl
  where
    at : (b : Bool) → is_among ns n ≡ b → is_among ns n ≡ false
    at true is = absurd (h (among_is ns n is))
    at false is = is

abbrev pub firsts : List (ℕ × ℕ) → List ℕ
firsts ps = map (λ p. p.0) ps

abbrev pub seconds : List (ℕ × ℕ) → List ℕ
seconds ps = map (λ p. p.1) ps

pub first_among : (ps : List (ℕ × ℕ)) (n : ℕ) → is_repaired ps n ≡ is_among (firsts ps) n
first_among [] n = refl
first_among (p ∷ ps) n = ap (λ b. p.0 == n || b) (first_among ps n)

pub second_among : (ps : List (ℕ × ℕ)) (n : ℕ) → is_repairing ps n ≡ is_among (seconds ps) n
second_among [] n = refl
second_among (p ∷ ps) n = ap (λ b. p.1 == n || b) (second_among ps n)

sound_to : (ssrcs : List ℕ) (ps : List (ℕ × ℕ)) → are_sound_pairs ssrcs ps ≡ true → ArePairsOf ssrcs ps
sound_to ssrcs [] e = record { repaired_once = tt; repaired_named = tt; repairing_once = tt; repairing_new = tt }
sound_to ssrcs (p ∷ ps) e =
    let one = sound_pair ssrcs p ps e in
    let more = sound_to ssrcs ps one.rest in
    record {
      repaired_once = (not_in (firsts ps) p.0 (sym (first_among ps p.0) ∙ one.repaired_once), more.repaired_once);
      repaired_named = (among_is ssrcs p.0 one.named, more.repaired_named);
      repairing_once = (not_in (seconds ps) p.1 (sym (second_among ps p.1) ∙ one.repairing_once), more.repairing_once);
      repairing_new = (not_in ssrcs p.1 one.new, more.repairing_new);
    }

to_sound : (ssrcs : List ℕ) (ps : List (ℕ × ℕ)) → ArePairsOf ssrcs ps → are_sound_pairs ssrcs ps ≡ true
to_sound ssrcs [] h = refl
to_sound ssrcs (p ∷ ps) h =
    let more = to_sound ssrcs ps (record {
      repaired_once = h.repaired_once.1;
      repaired_named = h.repaired_named.1;
      repairing_once = h.repairing_once.1;
      repairing_new = h.repairing_new.1;
    }) in
    λ i. (is_among_of ssrcs p.0 h.repaired_named.0 i && not (not_among ssrcs p.1 h.repairing_new.0 i))
    && ((not ((first_among ps p.0 ∙ not_among (firsts ps) p.0 h.repaired_once.0) i)
    && not ((second_among ps p.1 ∙ not_among (seconds ps) p.1 h.repairing_once.0) i)) && more i)

pub sound_is_sound : (ssrcs : List ℕ) (ps : List (ℕ × ℕ))
    → IsTrue (are_sound_pairs ssrcs ps) ↔ ArePairsOf ssrcs ps
sound_is_sound ssrcs ps = (sound_to ssrcs ps, to_sound ssrcs ps)
