-- Candidates and fingerprints are read of the texts that they are printed as.
use Rattle.std.proofs.Common.{◌≡◌, ◌≢◌, ◌<◌, ◌^◌, ◌/◌, ◌%◌, ◌+◌, ◌*◌, ◌-◌, ℕ, Bool, true, false, ◌&&◌, cond}
use Rattle.std.proofs.Common.{nat_le, nat_lt, List, [], ◌∷◌, ◌++◌, length, drop, Option, Some, None, IfSome, refl}
use Rattle.std.proofs.Common.{◌∙◌, ap, subst, arith, inr}
use Rattle.std.specs.Char.{digit_value}
use Rattle.std.specs.Fmt.{digit_glyph}
use Rattle.std.specs.Option.{option_map}
use Rattle.std.specs.Str.Parse.{without_leading_plus, digits_value}
use Rattle.std.proofs.lemmas.Bool.Decides.{nat_tests}
use Rattle.sdp_formats_grammar.specs.Cuts.{other_byte, split_first-cuts}
use Rattle.sdp_formats_grammar.specs.Form.{any_text, each, separated, some_text, told}
use Rattle.sdp_formats_grammar.specs.Joined.{octet_text}
use Rattle.sdp_formats_grammar.specs.Numbers.{all_digits, number_below}
use Rattle.sdp_formats_grammar.specs.Split.{Lacks, parts, split_first}
use Rattle.sdp_formats_values.specs.FromText.{all_hex, hex_number, print_in_text}
use Rattle.sdp_formats_reader.specs.Digest.{fingerprint, hex_byte, hex_digit}
use Rattle.sdp_formats_values.specs.Fingerprints.{make_fingerprint}
use Rattle.sdp_formats_values.specs.PrintedValues.{fingerprint_text}
use Rattle.sdp_formats_values.specs.declared.candidate.RelatedAddress.{RelatedAddress}
use Rattle.sdp_formats_values.specs.declared.fingerprint.Fingerprint.{Fingerprint}
use Rattle.sdp_formats_laws.proofs.CandidateFound.{unbind, words_found}
use Rattle.sdp_formats_laws.proofs.CandidatesLemmas.{candidate_body, candidate_read, candidate_spelled}
use Rattle.sdp_formats_laws.proofs.FormatRanges.{cond_in, split_some}
use Rattle.sdp_formats_laws.proofs.Fingerprints.{digest_text, lacks_octet, octet_shape, octets_read}
use Rattle.sdp_formats_laws.proofs.Printed.{text_some}
use Rattle.sdp_formats_laws.proofs.Readings.{AreRead, cut_reads, list_reads}
use Rattle.sdp_formats_laws.specs.CandidateWords.{IsOneWord}
use Rattle.sdp_formats_laws.specs.Printable.{AreBelow}
use Rattle.sdp_formats_laws.specs.ValueTexts.{FingerprintsComeBackFromText, IsDigest, IsNamedDigest}
use Rattle.sdp_formats_laws.specs.ValueTexts.{IsRelatedOfWords, PrintedCandidatesComeBack, PrintedFingerprintsComeBack}
use Rattle.sdp_formats_laws.specs.ValueTexts.{ReadCandidatesAreOfWords, ReadFingerprintsAreNamed}

-- a number that was read is below its limit
number_small : (limit : ℕ) (t : List ℕ) → IfSome (number_below limit t) (λ m. m < limit)
number_small limit t =
    cond_in (nat_lt 0 (length (without_leading_plus t)) && all_digits (without_leading_plus t))
    (digits_value 10 (without_leading_plus t)) limit

read_small : (limit n : ℕ) (t : List ℕ) → number_below limit t ≡ Some n → n < limit
read_small limit n t e = subst (λ o. IfSome o (λ m. m < limit)) e (number_small limit t)

related_words : (r : Option RelatedAddress) (port : List ℕ)
    → IfSome r (λ a. IsOneWord a.addr × Lacks 32 port × (number_below (2 ^ 16) port ≡ Some a.port))
    → IfSome r IsRelatedOfWords
related_words None port h = tt
related_words (Some r) port h = (h.0, read_small (2 ^ 16) r.port port h.2)

pub read_words : ReadCandidatesAreOfWords
read_words text c h =
    let found = words_found text c h in
    let words = found.1 in (
      words.foundation,
      read_small (2 ^ 16) c.component_id found.0.component words.spells.component,
      read_small (2 ^ 32) c.prio found.0.priority words.spells.priority,
      words.addr,
      read_small (2 ^ 16) c.port found.0.port words.spells.port,
      related_words c.related found.0.related_port words.address,
      words.ufrag,
    )

pub candidates_back : PrintedCandidatesComeBack
candidates_back c =
    (λ h. (candidate_body c, candidate_spelled c, candidate_read c h), λ t. read_words t.0 c t.2)

-- fingerprints
print_reads : (name : List ℕ) (bytes : List ℕ) → IsOneWord name → IsDigest bytes
    → fingerprint.reads (name ++ 32 ∷ digest_text bytes) ≡ Some (make_fingerprint (name, bytes))
print_reads name [] h below = absurd below
print_reads name (b ∷ bs) h below = ap (option_map make_fingerprint)
    (cut_reads 32 any_text (separated 58 (told hex_byte)) name (digest_text (b ∷ bs)) name (b ∷ bs) h.1
    (text_some name h.0) (list_reads 58 hex_byte octet_text b bs (octets_read (b ∷ bs) below)))

-- a byte in base 16
glyph_value : (n : ℕ) → n < 16 → digit_value (digit_glyph true n) ≡ n
glyph_value n small = grind (arith, nat_tests)

glyph_other : (n : ℕ) → n < 16 → digit_glyph true n ≢ 43
glyph_other n small = λ e. grind (arith, nat_tests)

taken : (a b n : ℕ) → a < 16 → b < 16 → a * 16 + b ≡ n → n < 256
    → cond ((nat_lt a 16 && (nat_lt b 16 && true)) && nat_lt n (2 ^ 8)) (Some n) None ≡ Some n
taken a b n x y e small = grind (arith, nat_tests)

two_value : (a b x y : ℕ) → a ≢ 43 → digit_value a ≡ x → digit_value b ≡ y → x < 16 → y < 16
    → hex_number (a ∷ b ∷ []) ≡ Some (x * 16 + y)
two_value a b x y other first second low high =
    ap (λ n. cond (nat_lt 0 (length (drop n (a ∷ b ∷ []))) && all_hex (drop n (a ∷ b ∷ []))
    && nat_lt (digits_value 16 (drop n (a ∷ b ∷ []))) (2 ^ 8)) (Some (digits_value 16 (drop n (a ∷ b ∷ [])))) None)
    (other_byte a 43 1 0 other)
    ∙ (λ i. cond ((nat_lt (first i) 16 && (nat_lt (second i) 16 && true))
    && nat_lt ((0 * 16 + first i) * 16 + second i) (2 ^ 8)) (Some ((0 * 16 + first i) * 16 + second i)) None)
    ∙ (λ i. cond ((nat_lt x 16 && (nat_lt y 16 && true)) && nat_lt (none i * 16 + y) (2 ^ 8)) (Some (none i * 16 + y))
    None)
    ∙ taken x y (x * 16 + y) low high refl (omega (low, high, arith))
  where
    none : 0 * 16 + x ≡ x
    none = omega arith

octet_number : (b : ℕ) → b < 256 → hex_number (octet_text b) ≡ Some b
octet_number b small =
    let high : b / 16 < 16 = omega arith in
    let low : b % 16 < 16 = omega arith in
    ap hex_number (octet_shape b small)
    ∙ two_value (digit_glyph true (b / 16)) (digit_glyph true (b % 16)) (b / 16) (b % 16) (glyph_other (b / 16) high)
    (glyph_value (b / 16) high) (glyph_value (b % 16) low) high low
    ∙ ap Some (omega arith)

numbers_read : (bytes : List ℕ) → AreBelow (2 ^ 8) bytes → AreRead 58 hex_number octet_text bytes
numbers_read [] h = tt
numbers_read (b ∷ bs) h = (lacks_octet 58 b h.0 (inr refl), octet_number b h.0, numbers_read bs h.1)

text_reads : (name : List ℕ) (bytes : List ℕ) → Lacks 32 name → IsDigest bytes
    → print_in_text.reads (name ++ 32 ∷ digest_text bytes) ≡ Some (make_fingerprint (name, bytes))
text_reads name [] h below = absurd below
text_reads name (b ∷ bs) h below = ap (option_map make_fingerprint)
    (cut_reads 32 (told Some) (separated 58 (told hex_number)) name (digest_text (b ∷ bs)) name (b ∷ bs) h refl
    (list_reads 58 hex_number octet_text b bs (numbers_read (b ∷ bs) below)))

pub from_text : FingerprintsComeBackFromText
from_text f h below = text_reads f.hash_func f.bytes h below

-- what was read
made_of : (o : Option (List ℕ × List ℕ)) (f : Fingerprint) → option_map make_fingerprint o ≡ Some f
    → (x : List ℕ × List ℕ) × (o ≡ Some x) × (make_fingerprint x ≡ f)
made_of None f e = absurd (cc)
made_of (Some x) f e = (x, refl, cc)

pub some_of : (t a : List ℕ) → some_text t ≡ Some a → (t ≡ a) × (t ≢ [])
some_of [] a e = absurd (cc)
some_of (b ∷ t) a e = (cc, λ n. cc)

digit_in : (c : ℕ) (x y z : Bool) → (nat_le 48 c && nat_le c 57) ≡ x → (nat_le 65 c && nat_le c 70) ≡ y
    → (nat_le 97 c && nat_le c 102) ≡ z
    → IfSome (cond x (Some (c - 48)) (cond y (Some (c - 65 + 10)) (cond z (Some (c - 97 + 10)) None))) (λ n. n < 16)
digit_in c true y z e f g = grind (arith, nat_tests)
digit_in c false true z e f g = grind (arith, nat_tests)
digit_in c false false true e f g = grind (arith, nat_tests)
digit_in c false false false e f g = tt

digit_small : (c n : ℕ) → hex_digit c ≡ Some n → n < 16
digit_small c n e = subst (λ o. IfSome o (λ m. m < 16)) e (digit_in c _ _ _ refl refl refl)

same_some : (a b : ℕ) → Some a ≡ Some b → a ≡ b
same_some a b e = cc

byte_small : (t : List ℕ) (n : ℕ) → hex_byte t ≡ Some n → n < 2 ^ 8
byte_small [] n e = absurd (cc)
byte_small (a ∷ []) n e = absurd (cc)
byte_small (a ∷ b ∷ []) n e =
    let high = unbind (hex_digit a) _ n e in
    let low = unbind (hex_digit b) _ n high.2 in
    let x = digit_small a high.0 high.1 in
    let y = digit_small b low.0 low.1 in
    let s = same_some (high.0 * 16 + low.0) n low.2 in
    omega (x, y, s, arith)
byte_small (a ∷ b ∷ c ∷ t) n e = absurd (cc)

each_small : (ts : List (List ℕ)) (bs : List ℕ) → each hex_byte ts ≡ Some bs → AreBelow (2 ^ 8) bs
each_small [] bs e = subst (AreBelow (2 ^ 8)) (same_list [] bs e) tt
  where
    same_list : (xs ys : List ℕ) → Some xs ≡ Some ys → xs ≡ ys
    same_list xs ys e = cc
each_small (t ∷ ts) bs e =
    let one = unbind (hex_byte t) _ bs e in
    let more = unbind (each hex_byte ts) _ bs one.2 in
    subst (AreBelow (2 ^ 8)) (same_list (one.0 ∷ more.0) bs more.2)
    (byte_small t one.0 one.1, each_small ts more.0 more.1)
  where
    same_list : (xs ys : List ℕ) → Some xs ≡ Some ys → xs ≡ ys
    same_list xs ys e = cc

each_there : (ts : List (List ℕ)) (bs : List ℕ) → ts ≢ [] → each hex_byte ts ≡ Some bs → bs ≢ []
each_there [] bs some e n = absurd (some refl)
each_there (t ∷ ts) bs some e n =
    let one = unbind (hex_byte t) _ bs e in
    let more = unbind (each hex_byte ts) _ bs one.2 in
    apart (one.0) more.0 bs more.2 n
  where
    apart : (x : ℕ) (xs ys : List ℕ) → Some (x ∷ xs) ≡ Some ys → ys ≡ [] → ⊥
    apart x xs ys e n = cc

some_digest : (bs : List ℕ) → bs ≢ [] → AreBelow (2 ^ 8) bs → IsDigest bs
some_digest [] some h = absurd (some refl)
some_digest (b ∷ bs) some h = h

pub read_named : ReadFingerprintsAreNamed
read_named t f e =
    let x = made_of _ f e in
    let p = unbind (split_first 32 t) _ x.0 x.1 in
    let name = unbind (some_text p.0.0) _ x.0 p.2 in
    let digest = unbind (each hex_byte (parts 58 p.0.1)) _ x.0 name.2 in
    let word = some_of p.0.0 name.0 name.1 in
    let lacks = (split_first-cuts 32 t p.0.0 p.0.1 p.1).1 in
    let both : IsNamedDigest (make_fingerprint (name.0, digest.0)) = (
      subst IsOneWord word.0 (word.1, lacks),
      some_digest digest.0 (each_there (parts 58 p.0.1) digest.0 (split_some 58 p.0.1) digest.1)
          (each_small (parts 58 p.0.1) digest.0 digest.1),
    ) in
    subst IsNamedDigest x.2 (subst (λ y. IsNamedDigest (make_fingerprint y)) (same_pair (name.0, digest.0) x.0 digest.2)
    both)
  where
    same_pair : (a b : List ℕ × List ℕ) → Some a ≡ Some b → a ≡ b
    same_pair a b e = cc

pub fingerprints_back : PrintedFingerprintsComeBack
fingerprints_back f = (
  λ h. print_reads f.hash_func f.bytes h.0 h.1,
  λ e. read_named (fingerprint_text f) f e,
)
