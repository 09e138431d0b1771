-- Packets of texts, one step at a time.
use Rattle.std.proofs.Common.{◌≡◌, ℕ, zero, suc, ◌+◌, ◌-◌, ◌<◌, ◌≤◌, Bool, true, false, ltb, leb, List, [], ◌∷◌, ◌++◌}
use Rattle.std.proofs.Common.{length, get_or, if◌then◌else◌, refl, sym, ap, subst, ◌∙◌, append_assoc, arith}
use Rattle.std.specs.Prelude.{◌||◌}
use Rattle.std.proofs.lemmas.Bool.Decides.{nat_tests}
use Rattle.std.proofs.lemmas.List.{append-nil}
use Rattle.payload_core_base.specs.Law.{joined}
use Rattle.payload_core_base.specs.Packing.{with_prefix}
use Rattle.payload_core_av1.specs.Leb128.{size_limit, spelling}
use Rattle.payload_core_av1.specs.Av1Packing.{back, body_from, front, is_cut, longest, packet_of, packets_within}
use Rattle.payload_core_av1.specs.Av1Packing.{sized}
use Rattle.payload_core_av1.specs.Av1Packets.{AreTexts, greatest_part}
use Rattle.payload_core_av1.proofs.PrefixLemmas.{back-whole, cut-whole, front-whole, greedy, greedy-whole}
use Rattle.payload_core_av1.proofs.PrefixLemmas.{longest-some, texts-back, total-back, total-cons}

-- a text that is taken as a whole
pub record IsTaken (place room p r : ℕ) (e : List ℕ) (others texts elements : List (List ℕ)) : Type 0 where
  pub texts_are : AreTexts others
  pub elements_are : (elements ++ e ∷ []) ++ front (greedy p r others) others ≡ elements
      ++ front (greedy place room texts) texts
  pub cut_is : is_cut (greedy p r others) others ≡ is_cut (greedy place room texts) texts
  pub behind_is : back (greedy p r others) others ≡ back (greedy place room texts) texts

pub taken-whole : (place room p r : ℕ) (e : List ℕ) (others texts elements : List (List ℕ)) → texts ≡ e ∷ others
    → AreTexts texts → length e ≤ greatest_part place room (length e) → p ≡ place + 1 → r
    ≡ room - (length (spelling (length e)) + length e)
    → IsTaken place room p r e others texts elements
taken-whole place room p r e others texts elements is are ge p_is r_is =
    let all : AreTexts (e ∷ others) = subst AreTexts is are in
    let step : greedy place room texts ≡ length e + greedy p r others =
    ap (greedy place room) is ∙ greedy-whole place room e others ge
    ∙ ap (λ p. length e + greedy p (room - (length (spelling (length e)) + length e)) others) (sym p_is)
    ∙ ap (λ r. length e + greedy p r others) (sym r_is) in
    let m : ℕ = greedy p r others in
    record {
      texts_are = all.2;
      elements_are =
          append_assoc elements (e ∷ []) (front m others)
          ∙ ap (λ ts. elements ++ ts) (sym (front-whole m e others all.0))
          ∙ ap (λ ts. elements ++ front (length e + m) ts) (sym is) ∙ ap (λ n. elements ++ front n texts) (sym step);
      cut_is = sym (cut-whole m e others) ∙ ap (λ ts. is_cut (length e + m) ts) (sym is)
          ∙ ap (λ n. is_cut n texts) (sym step);
      behind_is = sym (back-whole m e others) ∙ ap (λ ts. back (length e + m) ts) (sym is)
          ∙ ap (λ n. back n texts) (sym step);
    }

-- an element of a body, with its size or without
pub body-step : (place total : ℕ) (e : List ℕ) (es : List (List ℕ)) → total ≡ place + 1 + length es
    → (if ltb (place + 1) total || leb 3 place then sized e else e) ++ body_from (place + 1) es
    ≡ body_from place (e ∷ es)
body-step place total e [] is = by_tests (ltb (place + 1) total) (leb 3 place) (ltb place 3)
    (grind (arith, nat_tests)) (grind (arith, nat_tests))
  where
    by_tests : (a b c : Bool) → a ≡ false → b ≡ (if c then false else true) → (if a || b then sized e else e) ++ []
        ≡ (if c then e else sized e)
    by_tests true b c p q = absurd (cc)
    by_tests false true true p q = absurd (cc)
    by_tests false true false p q = append-nil (sized e)
    by_tests false false true p q = append-nil e
    by_tests false false false p q = absurd (cc)
body-step place total e (f ∷ es) is =
    let t : ltb (place + 1) total ≡ true = grind (arith, nat_tests) in
    ap (λ t. (if t || leb 3 place then sized e else e) ++ body_from (place + 1) (f ∷ es)) t

pub text-at : (es : List (List ℕ)) (k : ℕ) (none : List ℕ) → AreTexts es → k < length es
    → length (get_or es k none) < size_limit
text-at [] k none are lt = absurd (omega arith)
text-at (e ∷ es) zero none are lt = are.1
text-at (e ∷ es) (suc k) none are lt = text-at es k none are.2 (omega arith)

-- as many packets as there are bytes are enough
pub packets-same : (k l limit : ℕ) (z n : Bool) (texts : List (List ℕ)) → 2 ≤ limit → AreTexts texts
    → length (joined texts) ≤ k → length (joined texts) ≤ l → packets_within k limit z n texts
    ≡ packets_within l limit z n texts
packets-same zero zero limit z n texts room are lk ll = refl
packets-same zero (suc l) limit z n [] room are lk ll = refl
packets-same (suc k) zero limit z n [] room are lk ll = refl
packets-same (suc k) (suc l) limit z n [] room are lk ll = refl
packets-same zero (suc l) limit z n (e ∷ es) room are lk ll = absurd (omega (arith, total-cons e es, are.0))
packets-same (suc k) zero limit z n (e ∷ es) room are lk ll = absurd (omega (arith, total-cons e es, are.0))
packets-same (suc k) (suc l) limit z n (e ∷ es) room are lk ll =
    let size : ℕ = longest limit (e ∷ es) in
    let y : Bool = is_cut size (e ∷ es) in
    let some : 0 < size = longest-some limit e es room are in
    ap (λ ps. packet_of z y n (front size (e ∷ es)) ∷ ps)
    (packets-same k l limit y false (back size (e ∷ es)) room (texts-back size (e ∷ es) are)
    (omega (arith, total-back size (e ∷ es), some)) (omega (arith, total-back size (e ∷ es), some)))

pub total-less : (limit : ℕ) (texts : List (List ℕ)) → 2 ≤ limit → AreTexts texts → 0 < length texts
    → length (joined (back (longest limit texts) texts)) < length (joined texts)
total-less limit [] room are some = absurd (omega arith)
total-less limit (e ∷ es) room are some =
    omega (
      arith,
      total-back (longest limit (e ∷ es)) (e ∷ es),
      longest-some limit e es room are,
      total-cons e es,
      are.0,
    )

pub packets-go : (prefix : List ℕ) (limit : ℕ) (z n : Bool) (texts packets : List (List ℕ)) → 2 ≤ limit → AreTexts texts
    → 0 < length texts
    → let size = longest limit texts in
    (packets ++ (prefix ++ packet_of z (is_cut size texts) n (front size texts)) ∷ []) ++ with_prefix prefix
    (packets_within (length (joined (back size texts))) limit (is_cut size texts) false (back size texts))
    ≡ packets ++ with_prefix prefix (packets_within (length (joined texts)) limit z n texts)
packets-go prefix limit z n [] packets room are some = absurd (omega arith)
packets-go prefix limit z n (e ∷ es) packets room are some =
    let texts : List (List ℕ) = e ∷ es in
    let size : ℕ = longest limit texts in
    let y : Bool = is_cut size texts in
    let less = total-less limit texts room are some in
    let is : length (joined texts) ≡ suc (length (joined texts) - 1) = omega (arith, less) in
    append_assoc packets ((prefix ++ packet_of z y n (front size texts)) ∷ [])
    (with_prefix prefix (packets_within (length (joined (back size texts))) limit y false (back size texts)))
    ∙ ap (λ ps. packets ++ (prefix ++ packet_of z y n (front size texts)) ∷ with_prefix prefix ps)
    (packets-same (length (joined (back size texts))) (length (joined texts) - 1) limit y false (back size texts)
    room (texts-back size texts are) (omega arith) (omega (arith, less)))
    ∙ ap (λ k. packets ++ with_prefix prefix (packets_within k limit z n texts)) (sym is)
