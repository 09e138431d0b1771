-- Units with their sizes and without.
use Rattle.std.proofs.Common.{◌≡◌, ℕ, ◌+◌, ◌-◌, ◌/◌, ◌%◌, ◌<◌, Bool, true, false, eqb, List, [], ◌∷◌, ◌++◌, length}
use Rattle.std.proofs.Common.{map, None, Some, Option, if◌then◌else◌, refl, sym, ap, subst, ◌∙◌, arith}
use Rattle.std.specs.Prelude.{◌||◌, not, filter, option_map}
use Rattle.std.specs.List.{flat_map}
use Rattle.std.proofs.lemmas.Bool.Decides.{nat_tests}
use Rattle.payload_core_base.specs.Law.{joined}
use Rattle.payload_core_av1.specs.Leb128.{spelling}
use Rattle.payload_core_av1.specs.Obus.{Obu, extension_bytes, has_extension, has_size, is_kept, payload_limit}
use Rattle.payload_core_av1.specs.Obus.{type_of, with_its_size, with_size, without_its_size, without_size}
use Rattle.payload_core_av1.specs.Av1Layout.{HasExtensionIf, IsObu, IsSizeOf}
use Rattle.payload_core_av1.specs.Av1Packing.{texts_of}
use Rattle.payload_core_av1.specs.Av1Reading.{all_given, given, given_by, joined_option}
use Rattle.payload_core_av1.specs.Samples.{AreObus, KeptOnce, kept_of, kept_text, obus_of}
use Rattle.payload_core_av1.proofs.ObuLaw.{obu-read}
use Rattle.payload_core_av1.proofs.SampleLemmas.{AreSendable, kept-sendable, sample_law}
use Rattle.payload_core_av1.proofs.SpellingLaw.{spelling-spells}

-- a header keeps its other fields without S, and with it
record IsSame (header other : ℕ) : Type 0 where
  types : type_of other ≡ type_of header
  extensions : has_extension other ≡ has_extension header

without_same : (header : ℕ) → IsSame header (without_size header) × (has_size (without_size header) ≡ false)
    × (with_size (without_size header) ≡ with_size header)
without_same header = by_size (has_size header) refl
  where
    by_size : (s : Bool) → has_size header ≡ s → IsSame header (if s then header - 2 else header)
        × (has_size (if s then header - 2 else header) ≡ false)
        × (with_size (if s then header - 2 else header) ≡ (if s then header else header + 2))
    by_size false e = (record { types = refl; extensions = refl }, e, ap (λ s. if s then header else header + 2) e)
    by_size true e =
        let bit : header / 2 % 2 ≡ 1 = grind (arith, nat_tests) in
        let type_is : (header - 2) / 8 % 16 ≡ header / 8 % 16 = omega arith in
        let extension_is : (header - 2) / 4 % 2 ≡ header / 4 % 2 = omega arith in
        let clear : (header - 2) / 2 % 2 ≡ 0 = omega arith in
        let none : has_size (header - 2) ≡ false = ap (λ b. eqb b 1) clear in
        let back : header - 2 + 2 ≡ header = omega arith in (
          record { types = type_is; extensions = ap (λ b. eqb b 1) extension_is },
          none,
          ap (λ s. if s then header - 2 else header - 2 + 2) none ∙ back,
        )

with_same : (header : ℕ) → IsSame header (with_size header) × (has_size (with_size header) ≡ true)
    × (with_size (with_size header) ≡ with_size header)
with_same header = by_size (has_size header) refl
  where
    by_size : (s : Bool) → has_size header ≡ s → IsSame header (if s then header else header + 2)
        × (has_size (if s then header else header + 2) ≡ true)
        × (with_size (if s then header else header + 2) ≡ (if s then header else header + 2))
    by_size true e = (record { types = refl; extensions = refl }, e, ap (λ s. if s then header else header + 2) e)
    by_size false e =
        let bit : header / 2 % 2 ≡ 0 = grind (arith, nat_tests) in
        let type_is : (header + 2) / 8 % 16 ≡ header / 8 % 16 = omega arith in
        let extension_is : (header + 2) / 4 % 2 ≡ header / 4 % 2 = omega arith in
        let set : (header + 2) / 2 % 2 ≡ 1 = omega arith in
        let there : has_size (header + 2) ≡ true = ap (λ b. eqb b 1) set in (
          record { types = type_is; extensions = ap (λ b. eqb b 1) extension_is },
          there,
          ap (λ s. if s then header + 2 else header + 2 + 2) there,
        )

abbrev kept_type : ℕ → Bool
kept_type t = not ((eqb t 2) || (eqb t 8) || (eqb t 15))

-- a text that was sent is its unit without S
given_text : (o : Obu) → HasExtensionIf (has_extension o.header) o.extension → length o.payload < payload_limit
    → is_kept o ≡ true → given (without_its_size o) ≡ Some (with_its_size o)
given_text o has small kept =
    let same = without_same o.header in
    let X : Bool → Type 0 = λ b. HasExtensionIf b o.extension in
    let S : Bool → Type 0 = λ b. IsSizeOf b [] o.payload in
    let sent : Obu = record { header = without_size o.header; extension = o.extension; payload = o.payload } in
    let there : S false = refl in
    let is : IsObu (without_its_size o) sent = record {
      size = [];
      laid_out = refl;
      is_extension = subst X (sym same.0.extensions) has;
      is_size = subst S (sym same.1) there;
      is_small = small;
    } in
    let keeps : is_kept sent ≡ true = ap kept_type same.0.types ∙ kept in
    ap given_by (obu-read (without_its_size o) sent is) ∙ ap (λ k. Some (if k then with_its_size sent else [])) keeps
    ∙ ap (λ h. Some (h ∷ (extension_bytes o.extension ++ (spelling (length o.payload) ++ o.payload)))) same.2

pub all-given-texts : (os : List Obu) → AreSendable os → all_given (texts_of os) ≡ Some (joined (map with_its_size os))
all-given-texts [] are = refl
all-given-texts (o ∷ os) (has, small, kept, are) =
    ap (λ g. joined_option g (all_given (texts_of os))) (given_text o has small kept)
    ∙ ap (joined_option (Some (with_its_size o))) (all-given-texts os are)

-- units with S
abbrev with_s : Obu → Obu
with_s o = record { header = with_size o.header; extension = o.extension; payload = o.payload }

sized_obu : (o : Obu) → HasExtensionIf (has_extension o.header) o.extension → length o.payload < payload_limit
    → IsObu (with_its_size o) (with_s o)
sized_obu o has small =
    let same = with_same o.header in
    let X : Bool → Type 0 = λ b. HasExtensionIf b o.extension in
    let S : Bool → Type 0 = λ b. IsSizeOf b (spelling (length o.payload)) o.payload in
    let there : S true = spelling-spells (length o.payload) (omega arith) in
    record {
      size = spelling (length o.payload);
      laid_out = refl;
      is_extension = subst X (sym same.0.extensions) has;
      is_size = subst S (sym same.1) there;
      is_small = small;
    }

sized_obus : (os : List Obu) → AreSendable os → AreObus (flat_map with_its_size os) (map with_s os)
sized_obus [] are = refl
sized_obus (o ∷ os) (has, small, kept, are) = (
  with_its_size o,
  flat_map with_its_size os,
  refl,
  sized_obu o has small,
  (λ none. absurd (let e : true ≡ false = sym (with_same o.header).1 ∙ none in cc)),
  sized_obus os are,
)

kept_again : (os : List Obu) → AreSendable os → filter is_kept (map with_s os) ≡ map with_s os
kept_again [] are = refl
kept_again (o ∷ os) (has, small, kept, are) =
    let keeps : is_kept (with_s o) ≡ true = ap kept_type (with_same o.header).0.types ∙ kept in
    ap (λ k. if k then with_s o ∷ filter is_kept (map with_s os) else filter is_kept (map with_s os)) keeps
    ∙ ap (λ xs. with_s o ∷ xs) (kept_again os are)

text_again : (os : List Obu) → flat_map with_its_size (map with_s os) ≡ flat_map with_its_size os
text_again [] = refl
text_again (o ∷ os) =
    ap (λ h. (h ∷ (extension_bytes o.extension ++ (spelling (length o.payload) ++ o.payload)))
    ++ flat_map with_its_size (map with_s os)) (with_same o.header).2
    ∙ ap (λ t. with_its_size o ++ t) (text_again os)

once_of : (sample kept : List ℕ) (q : Option (List Obu)) → ((os : List Obu) → q ≡ Some os → AreSendable os)
    → option_map (λ os. flat_map with_its_size os) q ≡ Some kept → kept_text kept ≡ Some kept
once_of sample kept None sendable is = absurd (cc)
once_of sample kept (Some os) sendable is =
    let same : flat_map with_its_size os ≡ kept = cc in
    let are = sendable os refl in
    let K : List ℕ → Type 0 = λ t. kept_text t ≡ Some t in
    let units : obus_of (flat_map with_its_size os) ≡ Some (map with_s os) =
    (sample_law (flat_map with_its_size os) (map with_s os)).0 (sized_obus os are) in
    subst K same (
    ap (λ q. option_map (λ os. flat_map with_its_size os) (option_map (λ os. filter is_kept os) q)) units
    ∙ ap (λ os. Some (flat_map with_its_size os)) (kept_again os are) ∙ ap Some (text_again os))

pub kept_once : KeptOnce
kept_once sample kept is = once_of sample kept (kept_of sample) (λ os e. kept-sendable sample os e) is
