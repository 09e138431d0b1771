-- Fingerprints are read as they are printed (RFC 8122 5).
use Rattle.std.proofs.Common.{◌≡◌, ◌≢◌, ◌<◌, ◌≤◌, ◌/◌, ◌%◌, ◌+◌, ◌*◌, ℕ, true, List, [], ◌∷◌, ◌++◌}
use Rattle.std.proofs.Common.{Some, codes, map, refl, sym, ◌∙◌, ap, arith, subst, inl, inr, ⊎_elim, ◌⊎◌}
use Rattle.std.specs.Fmt.{digit_glyph}
use Rattle.std.specs.Option.{option_map}
use Rattle.std.proofs.lemmas.Bool.Decides.{nat_tests}
use Rattle.std.proofs.lemmas.Fmt.{hex_one_digit}
use Rattle.sdp_formats_grammar.specs.Bind.{◌>>=◌}
use Rattle.sdp_formats_grammar.specs.Form.{any_text, separated, told}
use Rattle.sdp_formats_grammar.specs.Joined.{joined, octet_text}
use Rattle.sdp_formats_grammar.specs.Split.{Lacks}
use Rattle.sdp_formats_reader.specs.Digest.{hex_digit, hex_byte, fingerprint}
use Rattle.sdp_formats_values.specs.Fingerprints.{make_fingerprint}
use Rattle.sdp_formats_laws.proofs.PlainKinds.{lacks_two}
use Rattle.sdp_formats_laws.proofs.Printed.{lacks_both, text_some}
use Rattle.sdp_formats_laws.proofs.Readings.{cut_reads, AreRead, list_reads}
use Rattle.sdp_formats_laws.specs.Printable.{IsWord, AreBelow}

-- two hexadecimal digits
pub octet_shape : (b : ℕ) → b < 256 → octet_text b ≡ digit_glyph true (b / 16) ∷ digit_glyph true (b % 16) ∷ []
octet_shape b small = (λ i. hex_one_digit true (b / 16) (omega arith) i ++ hex_one_digit true (b % 16) (omega arith) i)

glyph_read : (n : ℕ) → n < 16 → hex_digit (digit_glyph true n) ≡ Some n
glyph_read n small = grind (arith, nat_tests)

glyph_range : (n : ℕ) → n < 16 → (48 ≤ digit_glyph true n) × (digit_glyph true n ≢ 58)
glyph_range n small = (grind (arith, nat_tests), λ e. grind (arith, nat_tests))

octet_read : (b : ℕ) → b < 256 → hex_byte (octet_text b) ≡ Some b
octet_read b small = ap hex_byte (octet_shape b small)
    ∙ ap (λ o. o >>= λ high. hex_digit (digit_glyph true (b % 16)) >>= λ low. Some (high * 16 + low))
    (glyph_read (b / 16) (omega arith))
    ∙ ap (λ o. o >>= λ low. Some (b / 16 * 16 + low)) (glyph_read (b % 16) (omega arith))
    ∙ ap Some (omega arith)

pub lacks_octet : (c b : ℕ) → b < 256 → (c < 48) ⊎ (c ≡ 58) → Lacks c (octet_text b)
lacks_octet c b small low = subst (Lacks c) (sym (octet_shape b small)) (
  other (b / 16) (omega arith),
  (
    other (b % 16)
        (omega arith),
    tt,
  ),
)
  where
    other : (n : ℕ) → n < 16 → digit_glyph true n ≢ c
    other n h e = ⊎_elim (λ l. let r = glyph_range n h in omega (r.0, e, l, arith))
        (λ s. let r = glyph_range n h in r.1 (e ∙ s)) low

pub octets_read : (bytes : List ℕ) → AreBelow 256 bytes → AreRead 58 hex_byte octet_text bytes
octets_read [] h = tt
octets_read (b ∷ bs) h = (lacks_octet 58 b h.0 (inr refl), octet_read b h.0, octets_read bs h.1)

-- the digest, bytes with colons between
abbrev pub digest_text : List ℕ → List ℕ
digest_text bytes = joined (codes ":") (map octet_text bytes)

pub lacks_digest : (c b : ℕ) (bs : List ℕ) → c < 48 → AreBelow 256 (b ∷ bs) → Lacks c (digest_text (b ∷ bs))
lacks_digest c b [] low h = lacks_both c (octet_text b) [] (lacks_octet c b h.0 (inl low)) tt
lacks_digest c b (n ∷ bs) low h = lacks_two c 58 (octet_text b) (digest_text (n ∷ bs)) (lacks_octet c b h.0 (inl low))
    (λ e. omega (e, low, arith)) (lacks_digest c n bs low h.1)

pub fingerprint_reads : (name : List ℕ) (b : ℕ) (bs : List ℕ) → IsWord name → AreBelow 256 (b ∷ bs)
    → fingerprint.reads (name ++ 32 ∷ digest_text (b ∷ bs)) ≡ Some (make_fingerprint (name, b ∷ bs))
fingerprint_reads name b bs h below = ap (option_map make_fingerprint)
    (cut_reads 32 any_text (separated 58 (told hex_byte)) name (digest_text (b ∷ bs)) name (b ∷ bs) h.1
    (text_some name h.0.0) (list_reads 58 hex_byte octet_text b bs (octets_read (b ∷ bs) below)))
