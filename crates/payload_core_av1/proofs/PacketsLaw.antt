-- What makes the packets of a sample those of the longest prefixes.
use Rattle.std.proofs.Common.{◌≡◌, ℕ, zero, suc, ◌+◌, ◌-◌, ◌*◌, ◌<◌, ◌≤◌, Bool, true, false, ltb, leb, eqb, List, []}
use Rattle.std.proofs.Common.{◌∷◌, ◌++◌, length, take, drop, None, Some, Ok, Err, Option, Result, if◌then◌else◌, refl}
use Rattle.std.proofs.Common.{sym, ap, subst, ◌∙◌, arith, inl, inr}
use Rattle.std.specs.Prelude.{option_map, filter}
use Rattle.std.proofs.lemmas.Bool.{cases_lt}
use Rattle.std.proofs.lemmas.Bool.Decides.{nat_tests}
use Rattle.std.proofs.lemmas.List.{append-nil, drop_all, length-append, length-take, take-append-le, drop-append-le}
use Rattle.payload_core_base.specs.Law.{joined}
use Rattle.payload_core_base.specs.Packing.{Sender, Sent}
use Rattle.payload_core_base.specs.declared.error.PacketError.{PacketError}
use Rattle.payload_core_av1.specs.Leb128.{spelling}
use Rattle.payload_core_av1.specs.Obus.{Obu, is_kept}
use Rattle.payload_core_av1.specs.Samples.{begins_sequence, obus_of}
use Rattle.payload_core_av1.specs.Av1Reading.{count_w, has_n, has_y, has_z}
use Rattle.payload_core_av1.specs.Av1Packing.{back, body_from, count_field, front, is_cut, longest, pack_kept}
use Rattle.payload_core_av1.specs.Av1Packing.{packets_of, packets_within, texts_of}
use Rattle.payload_core_av1.specs.Av1Coding.{ArePackets, HeaderLaw, IsLongest, PacketsLaw, PrefixLaw, RefusedLaw}
use Rattle.payload_core_av1.specs.Av1Packets.{AreTexts}
use Rattle.payload_core_av1.proofs.PrefixLemmas.{back-part, back-whole, front-part, front-behind, front-zero, greedy}
use Rattle.payload_core_av1.proofs.PrefixLemmas.{greedy-fits, greedy-le, greedy-most, longest-greedy, longest-some}
use Rattle.payload_core_av1.proofs.PrefixLemmas.{texts-back, total-back, total-cons}
use Rattle.payload_core_av1.proofs.SampleLemmas.{kept-sendable, sendable-texts}

-- the bits of a header that was put together
bits : (z y n : Bool) (w : ℕ) → w < 4 → (has_z
    ((if z then 128 else 0) + (if y then 64 else 0) + 16 * w + (if n then 8 else 0)) ≡ z)
    × (has_y ((if z then 128 else 0) + (if y then 64 else 0) + 16 * w + (if n then 8 else 0)) ≡ y)
    × (count_w ((if z then 128 else 0) + (if y then 64 else 0) + 16 * w + (if n then 8 else 0)) ≡ w)
    × (has_n ((if z then 128 else 0) + (if y then 64 else 0) + 16 * w + (if n then 8 else 0)) ≡ n)
bits true true true w few = (grind (arith, nat_tests), grind (arith, nat_tests), omega arith, grind (arith, nat_tests))
bits true true false w few = (grind (arith, nat_tests), grind (arith, nat_tests), omega arith, grind (arith, nat_tests))
bits true false true w few = (grind (arith, nat_tests), grind (arith, nat_tests), omega arith, grind (arith, nat_tests))
bits true false false w few = (
  grind (arith, nat_tests),
  grind (arith, nat_tests),
  omega arith,
  grind (arith, nat_tests),
)
bits false true true w few = (grind (arith, nat_tests), grind (arith, nat_tests), omega arith, grind (arith, nat_tests))
bits false true false w few = (
  grind (arith, nat_tests),
  grind (arith, nat_tests),
  omega arith,
  grind (arith, nat_tests),
)
bits false false true w few = (
  grind (arith, nat_tests),
  grind (arith, nat_tests),
  omega arith,
  grind (arith, nat_tests),
)
bits false false false w few = (
  grind (arith, nat_tests),
  grind (arith, nat_tests),
  omega arith,
  grind (arith, nat_tests),
)

count_few : (count : ℕ) → count_field count < 4
count_few count = by_test (leb count 3) refl
  where
    by_test : (t : Bool) → leb count 3 ≡ t → (if t then count else 0) < 4
    by_test true e = grind (arith, nat_tests)
    by_test false e = omega arith

pub header_law : HeaderLaw
header_law z y n count = bits z y n (count_field count) (count_few count)

take_past : (n m : ℕ) (e rest : List ℕ) → n ≡ length e + m → take n (e ++ rest) ≡ e ++ take m rest
take_past n m [] rest is = let same : n ≡ m = omega arith in ap (λ k. take k rest) same
take_past zero m (b ∷ bs) rest is = absurd (omega arith)
take_past (suc n) m (b ∷ bs) rest is = ap (λ t. b ∷ t) (take_past n m bs rest (omega arith))

drop_past : (n m : ℕ) (e rest : List ℕ) → n ≡ length e + m → drop n (e ++ rest) ≡ drop m rest
drop_past n m [] rest is = let same : n ≡ m = omega arith in ap (λ k. drop k rest) same
drop_past zero m (b ∷ bs) rest is = absurd (omega arith)
drop_past (suc n) m (b ∷ bs) rest is = drop_past n m bs rest (omega arith)

front_bytes : (n : ℕ) (texts : List (List ℕ)) → joined (front n texts) ≡ take n (joined texts)
front_bytes zero texts = ap joined (front-zero texts)
front_bytes (suc n) [] = refl
front_bytes (suc n) (e ∷ es) = elim (cases_lt (length e) (suc n)) [
  | inl behind ↦
      let m : ℕ = suc n - length e in
      let is : suc n ≡ length e + m = omega arith in
      ap joined (front-behind (suc n) m e es is (omega arith)) ∙ ap (λ t. e ++ t) (front_bytes m es)
      ∙ sym (take_past (suc n) m e (joined es) is)
  | inr inside ↦ ap joined (front-part (suc n) e es (omega arith) inside) ∙ append-nil (take (suc n) e)
      ∙ sym (take-append-le (suc n) e (joined es) inside)
]

back_bytes : (n : ℕ) (texts : List (List ℕ)) → joined (back n texts) ≡ drop n (joined texts)
back_bytes n [] = sym (drop_all n [] (omega arith))
back_bytes n (e ∷ es) = elim (cases_lt n (length e)) [
  | inl inside ↦ ap joined (back-part n e es inside) ∙ sym (drop-append-le n e (joined es) (omega arith))
  | inr behind ↦
      let m : ℕ = n - length e in
      let is : n ≡ length e + m = omega arith in
      ap (λ k. joined (back k (e ∷ es))) is ∙ ap joined (back-whole m e es) ∙ back_bytes m es
      ∙ sym (drop_past n m e (joined es) is)
]

pub prefix_law : PrefixLaw
prefix_law n texts = (front_bytes n texts, back_bytes n texts)

-- the longest prefix is that
pub longest-is : (limit : ℕ) (z n : Bool) (texts : List (List ℕ)) → 2 ≤ limit → AreTexts texts
    → IsLongest limit z n texts (longest limit texts)
longest-is limit z n texts room are =
    let l : ℕ = limit - 1 in
    let is : limit ≡ l + 1 = omega arith in
    let g : longest limit texts ≡ greedy 0 l texts = ap (λ k. longest k texts) is ∙ longest-greedy l texts are in
    let G : ℕ → Type 0 = IsLongest limit z n texts in
    subst G (sym g) (record {
      within = greedy-le 0 l texts;
      fits = omega (arith, greedy-fits 0 l texts are);
      no_longer = λ m lt le. omega (arith, greedy-most 0 l texts m are le lt);
    })

body_some : (n : ℕ) (e : List ℕ) (es : List (List ℕ)) → 0 < n → AreTexts (e ∷ es)
    → 0 < length (body_from 0 (front n (e ∷ es)))
body_some n e es some are = by_first (eqb n 0) (leb n (length e)) (grind (arith, nat_tests)) (take n e)
    (omega (arith, length-take n e, are.0)) (front (n - length e) es)
  where
    some_body : (f : List ℕ) (fs : List (List ℕ)) → 0 < length f → 0 < length (body_from 0 (f ∷ fs))
    some_body f [] some = some
    some_body f (g ∷ gs) some = omega (
      arith,
      length-append (spelling (length f) ++ f) (body_from 1 (g ∷ gs)),
      length-append (spelling (length f)) f,
    )

    by_first : (t u : Bool) → t ≡ false → (part : List ℕ) → 0 < length part → (others : List (List ℕ))
        → 0 < length (body_from 0 (if t then [] else (if u then part ∷ [] else e ∷ others)))
    by_first true u is part some others = absurd (cc)
    by_first false true is part some others = some_body part [] some
    by_first false false is part some others = some_body e others are.0

pub packets-are : (k limit : ℕ) (z n : Bool) (texts : List (List ℕ)) → 2 ≤ limit → AreTexts texts
    → length (joined texts) ≤ k → ArePackets limit z n texts (packets_within k limit z n texts)
packets-are zero limit z n [] room are le = refl
packets-are zero limit z n (e ∷ es) room are le = absurd (omega (arith, total-cons e es, are.0))
packets-are (suc k) limit z n [] room are le = refl
packets-are (suc k) limit z n (e ∷ es) room are le =
    let texts : List (List ℕ) = e ∷ es in
    let size : ℕ = longest limit texts in
    let some : 0 < size = longest-some limit e es room are in (
      size,
      longest-is limit z n texts room are,
      refl,
      omega (arith, body_some size e es some are),
      packets-are k limit (is_cut size texts) false (back size texts) room (texts-back size texts are)
          (omega (arith, total-back size texts, some)),
    )

abbrev sent_by : Sender → ℕ → List Obu → Bool → Result Sent PacketError
sent_by s limit os t = Ok (record {
  packets =
      if t then [] else packets_of limit (begins_sequence os) (texts_of os);
  sender = s;
})

sent_are : (s : Sender) (limit : ℕ) (os : List Obu) (sent : Sent) (t : Bool) → ltb limit 2 ≡ t → AreTexts (texts_of os)
    → sent_by s limit os t ≡ Ok sent
    → (2 ≤ limit → ArePackets limit false (begins_sequence os) (texts_of os) sent.packets)
    × (limit < 2 → sent.packets ≡ [])
sent_are s limit os sent true e are is =
    let low : limit < 2 = grind (arith, nat_tests) in
    let same : record { packets = []; sender = s } ≡ sent = cc in
    ((λ room. absurd (omega arith)), (λ low. sym (ap (λ (x : Sent). x.packets) same)))
sent_are s limit os sent false e are is =
    let high : 2 ≤ limit = grind (arith, nat_tests) in
    let ps : List (List ℕ) = packets_of limit (begins_sequence os) (texts_of os) in
    let same : record { packets = ps; sender = s } ≡ sent = cc in
    let P : Sent → Type 0 = λ x. ArePackets limit false (begins_sequence os) (texts_of os) x.packets in (
      (λ room. subst P same (packets-are (length (joined (texts_of os))) limit false (begins_sequence os)
          (texts_of os) high are (omega arith))),
      (λ low. absurd (omega arith)),
    )

pub packets_law : PacketsLaw
packets_law s limit sample sent os is kept =
    sent_are s limit os sent (ltb limit 2) refl (sendable-texts os (kept-sendable sample os kept))
    (sym (ap (pack_kept s limit) kept) ∙ is)

refused_if : (s : Sender) (limit : ℕ) (q : Option (List Obu)) (e : PacketError)
    → pack_kept s limit (option_map (λ os. filter is_kept os) q) ≡ Err e → q ≡ None
refused_if s limit None e is = refl
refused_if s limit (Some os) e is = absurd (cc)

pub refused_law : RefusedLaw
refused_law s limit sample = (
  (λ none. ap (λ q. pack_kept s limit (option_map (λ os. filter is_kept os) q)) none),
  (λ e is. refused_if s limit (obus_of sample) e is),
)
