-- The units of a sample, one step at a time.
use Rattle.std.proofs.Common.{◌≡◌, ℕ, zero, suc, ◌+◌, ◌<◌, ◌≤◌, Bool, true, false, List, [], ◌∷◌, ◌++◌, length, None}
use Rattle.std.proofs.Common.{Some, Option, if◌then◌else◌, refl, sym, ap, subst, ◌∙◌, append_assoc, arith}
use Rattle.std.specs.Prelude.{◌||◌, filter, option_map}
use Rattle.std.proofs.lemmas.List.{length-append, map-append}
use Rattle.payload_core_av1.specs.Obus.{Obu, ObuCut, extension_bytes, first_obu, has_extension, is_kept}
use Rattle.payload_core_av1.specs.Obus.{payload_limit, without_its_size}
use Rattle.payload_core_av1.specs.Av1Layout.{HasExtensionIf, IsObu}
use Rattle.payload_core_av1.specs.Av1Packing.{texts_of}
use Rattle.payload_core_av1.specs.Av1Packets.{AreTexts}
use Rattle.payload_core_av1.specs.Samples.{AreObus, SampleLaw, and_obus, begins_sequence, is_sequence_header}
use Rattle.payload_core_av1.specs.Samples.{kept_of}
use Rattle.payload_core_av1.specs.Samples.{obu_in_front, obus_of, obus_within}
use Rattle.payload_core_av1.proofs.ObuLaw.{first-found, first-read}

-- a unit has a byte, so the rest after it is shorter
pub front-some : (text : List ℕ) (o : Obu) → IsObu text o → 0 < length text
front-some text o is = omega (arith, ap length is.laid_out)

rest_shorter : (text : List ℕ) (cut : ObuCut) → first_obu text ≡ Some cut → length cut.rest < length text
rest_shorter text cut is =
    let f = first-found text cut is in
    omega (arith, ap length f.laid_out, length-append f.front cut.rest, front-some f.front cut.obu f.is_obu)

and_same : (o : Option ObuCut) (n : ℕ) (f g : List ℕ → Option (List Obu))
    → ((cut : ObuCut) → o ≡ Some cut → length cut.rest < suc n)
    → ((rest : List ℕ) → length rest ≤ n → f rest ≡ g rest) → and_obus o f ≡ and_obus o g
and_same None n f g shorter same = refl
and_same (Some cut) n f g shorter same = ap (obu_in_front cut.obu) (same cut.rest (omega (arith, shorter cut refl)))

obus_same : (n a b : ℕ) (text : List ℕ) → length text ≤ n → length text ≤ a → length text ≤ b → obus_within a text
    ≡ obus_within b text
obus_same n a b [] ln la lb = refl
obus_same zero a b (x ∷ xs) ln la lb = absurd (omega arith)
obus_same (suc n) zero b (x ∷ xs) ln la lb = absurd (omega arith)
obus_same (suc n) (suc a) zero (x ∷ xs) ln la lb = absurd (omega arith)
obus_same (suc n) (suc a) (suc b) (x ∷ xs) ln la lb =
    and_same (first_obu (x ∷ xs)) (length xs) (λ rest. obus_within a rest) (λ rest. obus_within b rest)
    (λ cut is. rest_shorter (x ∷ xs) cut is)
    (λ rest le. obus_same n a b rest (omega arith) (omega arith) (omega arith))

pub obus-go : (text : List ℕ) (cut : ObuCut) → first_obu text ≡ Some cut → obus_of text
    ≡ obu_in_front cut.obu (obus_of cut.rest)
obus-go [] cut is = absurd (cc)
obus-go (b ∷ bs) cut is =
    let shorter = rest_shorter (b ∷ bs) cut is in
    ap (λ o. and_obus o (λ rest. obus_within (length bs) rest)) is
    ∙ ap (obu_in_front cut.obu) (obus_same (length cut.rest) (length bs) (length cut.rest) cut.rest (omega arith)
    (omega arith) (omega arith))

read_obus : (os : List Obu) (sample : List ℕ) → AreObus sample os → obus_of sample ≡ Some os
read_obus [] sample are = ap obus_of are
read_obus (o ∷ os) sample (front, rest, laid, is, at_end, more) =
    obus-go sample (record { obu = o; rest = rest }) (ap first_obu laid ∙ first-read front rest o is at_end)
    ∙ ap (obu_in_front o) (read_obus os rest more)

step_found : (text : List ℕ) (p : Option ObuCut) (f : List ℕ → Option (List Obu)) (os : List Obu)
    → ((cut : ObuCut) (others : List Obu) → p ≡ Some cut → f cut.rest ≡ Some others
    → AreObus text (cut.obu ∷ others)) → and_obus p f ≡ Some os → AreObus text os
step_found text None f os found is = absurd (cc)
step_found text (Some cut) f os found is = by_others (f cut.rest) refl is
  where
    by_others : (q : Option (List Obu)) → f cut.rest ≡ q → obu_in_front cut.obu q ≡ Some os → AreObus text os
    by_others None e is = absurd (cc)
    by_others (Some others) e is = let same : cut.obu ∷ others ≡ os = cc in let P : List Obu → Type 0 =
        AreObus text in subst P same (found cut others refl e)

found_obus : (n : ℕ) (text : List ℕ) (os : List Obu) → obus_within n text ≡ Some os → AreObus text os
found_obus n [] os is = let same : [] ≡ os = cc in let P : List Obu → Type 0 = AreObus [] in subst P same refl
found_obus zero (b ∷ bs) os is = absurd (cc)
found_obus (suc n) (b ∷ bs) os is =
    step_found (b ∷ bs) (first_obu (b ∷ bs)) (λ rest. obus_within n rest) os
    (λ cut others e f. let first = first-found (b ∷ bs) cut e in
    (first.front, cut.rest, first.laid_out, first.is_obu, first.at_end, found_obus n cut.rest others f)) is

pub sample_law : SampleLaw
sample_law sample os = ((λ are. read_obus os sample are), (λ is. found_obus (length sample) sample os is))

-- which of a list are kept
pub filter-cons : (o : Obu) (os : List Obu) → filter is_kept (o ∷ os) ≡ filter is_kept (o ∷ []) ++ filter is_kept os
filter-cons o os = by_kept (is_kept o)
  where
    by_kept : (k : Bool) → (if k then o ∷ filter is_kept os else filter is_kept os) ≡ (if k then o ∷ [] else [])
        ++ filter is_kept os
    by_kept true = refl
    by_kept false = refl

pub texts-go : (text : List ℕ) (cut : ObuCut) (texts : List (List ℕ)) → first_obu text ≡ Some cut
    → option_map (λ os. (texts ++ texts_of (filter is_kept (cut.obu ∷ []))) ++ texts_of os) (kept_of cut.rest)
    ≡ option_map (λ os. texts ++ texts_of os) (kept_of text)
texts-go text cut texts is = by_others (obus_of cut.rest)
    ∙ ap (λ q. option_map (λ os. texts ++ texts_of os) (option_map (λ os. filter is_kept os) q))
    (sym (obus-go text cut is))
  where
    by_others : (q : Option (List Obu)) → option_map
        (λ os. (texts ++ texts_of (filter is_kept (cut.obu ∷ []))) ++ texts_of os)
        (option_map (λ os. filter is_kept os) q)
        ≡ option_map (λ os. texts ++ texts_of os)
        (option_map (λ os. filter is_kept os) (obu_in_front cut.obu q))
    by_others None = refl
    by_others (Some os) =
        let one : List Obu = filter is_kept (cut.obu ∷ []) in
        ap Some (append_assoc texts (texts_of one) (texts_of (filter is_kept os))
        ∙ ap (λ ts. texts ++ ts) (sym (map-append without_its_size one (filter is_kept os))
        ∙ ap texts_of (sym (filter-cons cut.obu os))))

or_assoc : (a b c : Bool) → ((a || b) || c) ≡ (a || (b || c))
or_assoc true b c = refl
or_assoc false b c = refl

any_append : (os ps : List Obu) → begins_sequence (os ++ ps) ≡ (begins_sequence os || begins_sequence ps)
any_append [] ps = refl
any_append (o ∷ os) ps = ap (λ b. is_sequence_header o || b) (any_append os ps)
    ∙ sym (or_assoc (is_sequence_header o) (begins_sequence os) (begins_sequence ps))

pub begins-go : (text : List ℕ) (cut : ObuCut) (b : Bool) → first_obu text ≡ Some cut
    → option_map (λ os. (b || begins_sequence (filter is_kept (cut.obu ∷ []))) || begins_sequence os)
    (kept_of cut.rest) ≡ option_map (λ os. b || begins_sequence os) (kept_of text)
begins-go text cut b is = by_others (obus_of cut.rest)
    ∙ ap (λ q. option_map (λ os. b || begins_sequence os) (option_map (λ os. filter is_kept os) q))
    (sym (obus-go text cut is))
  where
    by_others : (q : Option (List Obu)) → option_map
        (λ os. (b || begins_sequence (filter is_kept (cut.obu ∷ []))) || begins_sequence os)
        (option_map (λ os. filter is_kept os) q)
        ≡ option_map (λ os. b || begins_sequence os)
        (option_map (λ os. filter is_kept os) (obu_in_front cut.obu q))
    by_others None = refl
    by_others (Some os) =
        let one : List Obu = filter is_kept (cut.obu ∷ []) in
        ap Some (or_assoc b (begins_sequence one) (begins_sequence (filter is_kept os))
        ∙ ap (λ c. b || c) (sym (any_append one (filter is_kept os))
        ∙ ap begins_sequence (sym (filter-cons cut.obu os))))

-- units that can be sent: with an extension byte if and only if X is, and of a size that can be spelled
abbrev pub AreSendable : List Obu → Type 0
AreSendable [] = Unit {0}
AreSendable (o ∷ os) = HasExtensionIf (has_extension o.header) o.extension × (length o.payload < payload_limit)
    × (is_kept o ≡ true) × AreSendable os

keep_sendable : (o : Obu) (os : List Obu) → HasExtensionIf (has_extension o.header) o.extension
    → length o.payload < payload_limit → AreSendable (filter is_kept os) → AreSendable (filter is_kept (o ∷ os))
keep_sendable o os has small are = by_kept (is_kept o) refl
  where
    by_kept : (k : Bool) → is_kept o ≡ k → AreSendable (if k then o ∷ filter is_kept os else filter is_kept os)
    by_kept true e = (has, small, e, are)
    by_kept false e = are

sendable_of : (os : List Obu) (sample : List ℕ) → AreObus sample os → AreSendable (filter is_kept os)
sendable_of [] sample are = tt
sendable_of (o ∷ os) sample (front, rest, laid, is, at_end, more) =
    keep_sendable o os is.is_extension is.is_small (sendable_of os rest more)

pub kept-sendable : (sample : List ℕ) (os : List Obu) → kept_of sample ≡ Some os → AreSendable os
kept-sendable sample os is = by_obus (obus_of sample) (λ all e. found_obus (length sample) sample all e) is
  where
    by_obus : (q : Option (List Obu)) → ((all : List Obu) → q ≡ Some all → AreObus sample all)
        → option_map (λ os. filter is_kept os) q ≡ Some os → AreSendable os
    by_obus None found is = absurd (cc)
    by_obus (Some all) found is = let same : filter is_kept all ≡ os = cc in
        subst AreSendable same (sendable_of all sample (found all refl))

extension_few : (x : Bool) (extension : Option ℕ) → length (extension_bytes extension) ≤ 1
extension_few x None = omega arith
extension_few x (Some byte) = omega arith

text_len : (o : Obu) → length (without_its_size o) ≡ 1 + length (extension_bytes o.extension) + length o.payload
text_len o = omega (arith, length-append (extension_bytes o.extension) o.payload)

pub sendable-texts : (os : List Obu) → AreSendable os → AreTexts (texts_of os)
sendable-texts [] are = tt
sendable-texts (o ∷ os) (has, small, kept, are) =
    (omega arith, omega (arith, text_len o, extension_few true o.extension), sendable-texts os are)

pub kept-texts : (sample : List ℕ) (texts : List (List ℕ)) → option_map texts_of (kept_of sample) ≡ Some texts
    → AreTexts texts
kept-texts sample texts is = by_kept (kept_of sample) (λ os e. kept-sendable sample os e) is
  where
    by_kept : (q : Option (List Obu)) → ((os : List Obu) → q ≡ Some os → AreSendable os) → option_map texts_of q
        ≡ Some texts → AreTexts texts
    by_kept None found is = absurd (cc)
    by_kept (Some os) found is = let same : texts_of os ≡ texts = cc in
        subst AreTexts same (sendable-texts os (found os refl))
