-- What the packets of texts give a receiver.
use Rattle.std.proofs.Common.{◌≡◌, ℕ, zero, suc, ◌+◌, ◌<◌, ◌≤◌, Bool, true, false, ltb, leb, List, [], ◌∷◌, ◌++◌}
use Rattle.std.proofs.Common.{length, take, drop, map, None, Some, if◌then◌else◌, refl, sym, ap, subst, ◌∙◌}
use Rattle.std.proofs.Common.{append_assoc, arith}
use Rattle.std.specs.Prelude.{◌||◌}
use Rattle.std.proofs.lemmas.Bool.Decides.{nat_tests}
use Rattle.std.proofs.lemmas.List.{append-nil, drop_at, drop-map, length-append, take-map, take_at}
use Rattle.payload_core_base.specs.Format.{Fragment, Run, read_all, run_after, run_behind}
use Rattle.payload_core_base.specs.Law.{joined}
use Rattle.payload_core_base.specs.declared.extra.CodecExtra.{CodecExtra}
use Rattle.payload_core_base.specs.declared.extra.CodecExtra.TheVariants.{Av1}
use Rattle.payload_core_av1.specs.Leb128.{size_limit, spelling}
use Rattle.payload_core_av1.specs.Obus.{Obu, with_its_size, without_its_size}
use Rattle.payload_core_av1.specs.Av1Layout.{AreSized, AreSizedButLast, IsBody, IsSized}
use Rattle.payload_core_av1.specs.Av1Packing.{aggregation, back, body_from, count_field, front, is_cut, longest}
use Rattle.payload_core_av1.specs.Av1Packing.{packet_of, packets_within, sized, texts_of}
use Rattle.payload_core_av1.specs.Av1Reading.{Begun, all_given, av1_format, begun, count_w, has_n, has_y, has_z}
use Rattle.payload_core_av1.specs.Av1Reading.{opened, read_av1, read_begun, read_elements, reading_of}
use Rattle.payload_core_av1.specs.Av1Reading.{was_keyframe}
use Rattle.payload_core_av1.specs.Av1Packets.{AreTexts}
use Rattle.payload_core_av1.proofs.Av1LayoutLaw.{long_read}
use Rattle.payload_core_av1.proofs.ElementsLaw.{elements-read}
use Rattle.payload_core_av1.proofs.PacketsLaw.{header_law, longest-is}
use Rattle.payload_core_av1.proofs.PrefixLemmas.{longest-some, texts-back, texts-front, total-back, total-cons}
use Rattle.payload_core_av1.proofs.SampleLemmas.{AreSendable}
use Rattle.payload_core_av1.proofs.SpellingLaw.{spelling-spells}
use Rattle.payload_core_av1.proofs.SplitLemmas.{front-some, glue, split}
use Rattle.payload_core_av1.proofs.UnitLemmas.{all-given-texts}

sized_is : (e rest : List ℕ) → length e < size_limit → IsSized (sized e ++ rest) e rest
sized_is e rest small = record {
  size = spelling (length e);
  laid_out =
      append_assoc (spelling (length e)) e rest;
  spells = spelling-spells (length e) small;
}

body_counted : (place : ℕ) (e : List ℕ) (es : List (List ℕ)) → place + length (e ∷ es) ≤ 3 → AreTexts (e ∷ es)
    → AreSizedButLast (body_from place (e ∷ es)) (e ∷ es)
body_counted place e [] few are = let t : ltb place 3 ≡ true = grind (arith, nat_tests) in
    ap (λ t. if t then e else sized e) t
body_counted place e (f ∷ es) few are = (
  body_from (place + 1) (f ∷ es),
  sized_is e (body_from (place + 1) (f ∷ es)) are.1,
  body_counted (place + 1) f es (omega arith) are.2,
)

body_sized : (place : ℕ) (es : List (List ℕ)) → 3 < place + length es → AreTexts es → AreSized (body_from place es) es
body_sized place [] many are = refl
body_sized place (e ∷ []) many are =
    let t : ltb place 3 ≡ false = grind (arith, nat_tests) in
    let S : List ℕ → Type 0 = λ t. IsSized t e [] in
    ([], subst S (append-nil (sized e) ∙ sym (ap (λ t. if t then e else sized e) t)) (sized_is e [] are.1), refl)
body_sized place (e ∷ f ∷ es) many are = (
  body_from (place + 1) (f ∷ es),
  sized_is e (body_from (place + 1) (f ∷ es)) are.1,
  body_sized (place + 1) (f ∷ es) (omega arith) are.2,
)

body_is : (e : List ℕ) (es : List (List ℕ)) → AreTexts (e ∷ es)
    → IsBody (count_field (length (e ∷ es))) (body_from 0 (e ∷ es)) (e ∷ es)
body_is e es are = by_count (leb (length (e ∷ es)) 3) refl
  where
    by_count : (t : Bool) → leb (length (e ∷ es)) 3 ≡ t
        → IsBody (if t then length (e ∷ es) else 0) (body_from 0 (e ∷ es)) (e ∷ es)
    by_count true is = (refl, body_counted 0 e es (grind (arith, nat_tests)) are)
    by_count false is = body_sized 0 (e ∷ es) (grind (arith, nat_tests)) are

body_some : (e : List ℕ) (es : List (List ℕ)) → 0 < length e → 0 < length (body_from 0 (e ∷ es))
body_some e [] some = some
body_some e (f ∷ es) some = omega (
  arith,
  length-append (sized e) (body_from 1 (f ∷ es)),
  length-append (spelling (length e)) e,
)

-- what a packet of elements gives
elements_read : (first : ℕ) (fragment : Fragment) (extra : CodecExtra) (z y n : Bool) (es : List (List ℕ))
    → has_z first ≡ z → has_y first ≡ y → has_n first ≡ n
    → read_elements first fragment extra (Some es) ≡ read_begun y (was_keyframe extra || n) (begun z fragment es)
elements_read first fragment extra z y n es z_is y_is n_is =
    ap (λ z. read_begun (has_y first) (was_keyframe extra || has_n first) (begun z fragment es)) z_is
    ∙ ap (λ y. read_begun y (was_keyframe extra || has_n first) (begun z fragment es)) y_is
    ∙ ap (λ n. read_begun y (was_keyframe extra || n) (begun z fragment es)) n_is

packet_read : (fragment : Fragment) (extra : CodecExtra) (z y n : Bool) (es : List (List ℕ)) → 0 < length es
    → AreTexts es
    → read_av1 fragment extra (packet_of z y n es) ≡ read_begun y (was_keyframe extra || n) (begun z fragment es)
packet_read fragment extra z y n [] some are = absurd (omega arith)
packet_read fragment extra z y n (e ∷ es) some are =
    let first : ℕ = aggregation z y n (length (e ∷ es)) in
    let header = header_law z y n (length (e ∷ es)) in
    let body : List ℕ = body_from 0 (e ∷ es) in
    let B : ℕ → Type 0 = λ w. IsBody w body (e ∷ es) in
    long_read fragment extra first body (body_some e es are.0)
    ∙ ap (read_elements first fragment extra)
    (elements-read (count_w first) body (e ∷ es) (subst B (sym header.2) (body_is e es are)))
    ∙ elements_read first fragment extra z y n (e ∷ es) header.0 header.1 header.3

-- the fragment that is open between packets
abbrev pub open_part : Bool → List ℕ → Fragment
open_part z p = if z then Some p else None

begun_glue : (z : Bool) (p : List ℕ) (es : List (List ℕ)) → 0 < length es → AreTexts es → (z ≡ false → p ≡ [])
    → begun z (open_part z p) es ≡ record { open_still = None; elements = glue p es }
begun_glue z p [] some are plain = absurd (omega arith)
begun_glue true p ([] ∷ es) some are plain = absurd (omega (arith, are.0))
begun_glue true p ((b ∷ bs) ∷ es) some are plain = refl
begun_glue false p (e ∷ es) some are plain =
    let make : List ℕ → Begun = λ q. record { open_still = None; elements = (q ++ e) ∷ es } in
    sym (ap make (plain refl))

texts_at : (os : List Obu) (whole left : List (List ℕ)) → texts_of os ≡ whole ++ left
    → (whole ≡ texts_of (take (length whole) os)) × (left ≡ texts_of (drop (length whole) os))
texts_at os whole left is = (
  sym (take_at whole left (length whole) refl) ∙ ap (take (length whole)) (sym is)
      ∙ take-map without_its_size (length whole) os,
  sym (drop_at whole left (length whole) refl) ∙ ap (drop (length whole)) (sym is)
      ∙ drop-map without_its_size (length whole) os,
)

sendable_take : (n : ℕ) (os : List Obu) → AreSendable os → AreSendable (take n os)
sendable_take zero os are = tt
sendable_take (suc n) [] are = tt
sendable_take (suc n) (o ∷ os) are = (are.0, are.1, are.2, sendable_take n os are.3)

sendable_drop : (n : ℕ) (os : List Obu) → AreSendable os → AreSendable (drop n os)
sendable_drop zero os are = are
sendable_drop (suc n) [] are = tt
sendable_drop (suc n) (o ∷ os) are = sendable_drop n os are.3

joined_parts : (n : ℕ) (os : List Obu) → joined (map with_its_size (take n os))
    ++ joined (map with_its_size (drop n os)) ≡ joined (map with_its_size os)
joined_parts zero os = refl
joined_parts (suc n) [] = refl
joined_parts (suc n) (o ∷ os) = append_assoc (with_its_size o) (joined (map with_its_size (take n os)))
    (joined (map with_its_size (drop n os))) ∙ ap (λ t. with_its_size o ++ t) (joined_parts n os)

-- a run that gave these bytes and left nothing open
pub record Gave (run : Run) (bytes : List ℕ) : Type 0 where
  pub no_fault : run.fault ≡ None
  pub written : run.written ≡ bytes
  pub closed : run.fragment ≡ None

-- the state between packets: the units that are left, as texts of which the first goes on with the open part
pub record IsBetween (z : Bool) (p : List ℕ) (ts : List (List ℕ)) (os : List Obu) : Type 0 where
  pub texts : AreTexts ts
  pub sendable : AreSendable os
  pub units : texts_of os ≡ glue p ts
  pub plain : z ≡ false → p ≡ []
  pub more : z ≡ true → 0 < length ts

-- one packet: whole units, and the state after it
pub record IsStep (limit : ℕ) (z n : Bool) (p : List ℕ) (ts : List (List ℕ)) (os : List Obu) : Type 0 where
  pub count : ℕ
  pub part : List ℕ
  pub next : IsBetween (is_cut (longest limit ts) ts) part (back (longest limit ts) ts) (drop count os)
  pub reading : (extra : CodecExtra) → read_av1 (open_part z p) extra
      (packet_of z (is_cut (longest limit ts) ts) n (front (longest limit ts) ts))
      ≡ reading_of (Some (joined (map with_its_size (take count os)))) (was_keyframe extra || n)
      (open_part (is_cut (longest limit ts) ts) part)

pub step : (limit : ℕ) (z n : Bool) (p : List ℕ) (ts : List (List ℕ)) (os : List Obu) → 2 ≤ limit → 0 < length ts
    → IsBetween z p ts os → IsStep limit z n p ts os
step limit z n p [] os room some is = absurd (omega arith)
step limit z n p (t ∷ rest) os room some is =
    let ts : List (List ℕ) = t ∷ rest in
    let size : ℕ = longest limit ts in
    let y : Bool = is_cut size ts in
    let fs : List (List ℕ) = front size ts in
    let positive : 0 < size = longest-some limit t rest room is.texts in
    let s = split p size ts is.texts positive (longest-is limit z n ts room is.texts).within in
    let parts = texts_at os s.whole (glue s.part (back size ts)) (is.units ∙ s.left) in
    let some_front : 0 < length fs = front-some size ts positive some in
    let texts = texts-front size ts is.texts in
    record {
      count = length s.whole;
      part = s.part;
      next = record {
        texts = texts-back size ts is.texts;
        sendable = sendable_drop (length s.whole) os is.sendable;
        units = sym parts.1;
        plain = s.plain;
        more = s.more;
      };
      reading = λ extra.
          packet_read (open_part z p) extra z y n fs some_front texts
          ∙ ap (read_begun y (was_keyframe extra || n)) (begun_glue z p fs some_front texts is.plain)
          ∙ ap (λ es. reading_of (all_given es) (was_keyframe extra || n) (opened y None (glue p fs)))
          (s.completes ∙ parts.0)
          ∙ ap (λ g. reading_of g (was_keyframe extra || n) (opened y None (glue p fs)))
          (all-given-texts (take (length s.whole) os) (sendable_take (length s.whole) os is.sendable))
          ∙ ap (reading_of (Some (joined (map with_its_size (take (length s.whole) os)))) (was_keyframe extra || n))
          s.opens;
    }

-- nothing is left
none_left : (z : Bool) (p : List ℕ) (os : List Obu) → IsBetween z p [] os → (os ≡ []) × (open_part z p ≡ None)
none_left true p os is = absurd (let some = is.more refl in omega arith)
none_left false p [] is = (refl, refl)
none_left false p (o ∷ os) is = absurd (omega (arith, ap length is.units))

ended : (z : Bool) (p : List ℕ) (os : List Obu) (extra : CodecExtra) → IsBetween z p [] os
    → Gave (read_all av1_format (open_part z p) extra []) (joined (map with_its_size os))
ended z p os extra is = let none = none_left z p os is in
    record { no_fault = refl; written = sym (ap (λ os. joined (map with_its_size os)) none.0); closed = none.1 }

gave_behind : (front_bytes bytes : List ℕ) (run : Run) → Gave run bytes
    → Gave (run_behind front_bytes run) (front_bytes ++ bytes)
gave_behind front_bytes bytes run g = record
    { no_fault = g.no_fault; written = ap (λ t. front_bytes ++ t) g.written; closed = g.closed }

pub gives_units : (k limit : ℕ) (z n : Bool) (p : List ℕ) (ts : List (List ℕ)) (os : List Obu) (extra : CodecExtra)
    → 2 ≤ limit → length (joined ts) ≤ k → IsBetween z p ts os
    → Gave (read_all av1_format (open_part z p) extra (packets_within k limit z n ts)) (joined (map with_its_size os))
gives_units zero limit z n p [] os extra room le is = ended z p os extra is
gives_units (suc k) limit z n p [] os extra room le is = ended z p os extra is
gives_units zero limit z n p (t ∷ ts) os extra room le is = absurd (omega (arith, total-cons t ts, is.texts.0))
gives_units (suc k) limit z n p (t ∷ rest) os extra room le is =
    let ts : List (List ℕ) = t ∷ rest in
    let size : ℕ = longest limit ts in
    let y : Bool = is_cut size ts in
    let s = step limit z n p ts os room (omega arith) is in
    let packets : List (List ℕ) = packets_within k limit y false (back size ts) in
    let behind = gives_units k limit y false s.part (back size ts) (drop s.count os)
    (Av1 (record { is_keyframe = was_keyframe extra || n })) room
    (omega (arith, total-back size ts, longest-some limit t rest room is.texts)) s.next in
    let front_bytes : List ℕ = joined (map with_its_size (take s.count os)) in
    let all = gave_behind front_bytes (joined (map with_its_size (drop s.count os)))
    (read_all av1_format (open_part y s.part) (Av1 (record { is_keyframe = was_keyframe extra || n })) packets)
    behind in
    let R : Run → Type 0 = λ run. Gave run (joined (map with_its_size os)) in
    let B : List ℕ → Type 0 = Gave (run_behind front_bytes
    (read_all av1_format (open_part y s.part) (Av1 (record { is_keyframe = was_keyframe extra || n })) packets)) in
    subst R (sym (ap (λ r. run_after (open_part z p) extra r (λ f x. read_all av1_format f x packets))
    (s.reading extra))) (subst B (joined_parts s.count os) all)
