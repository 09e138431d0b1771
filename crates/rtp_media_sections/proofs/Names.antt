-- Names of sections are words.
use Rattle.std.proofs.Common.{◌≡◌, ◌≢◌, ◌<◌, ℕ, Bool, true, false, List, [], ◌∷◌, map, take, refl, subst}
use Rattle.std.proofs.Common.{arith, if◌then◌else◌}
use Rattle.std.proofs.lemmas.Bool.Decides.{nat_tests}
use Rattle.rtp_media_sections.specs.Sections.{Section}
use Rattle.rtp_wire.specs.Name.{is_name_byte, name_byte, name_of}
use Rattle.sdp_formats_grammar.specs.Split.{Lacks}
use Rattle.sdp_formats_laws.specs.Printable.{IsText, IsWord}
use Rattle.sdp_formats_laws.specs.PrintableSession.{AreMids}
use Rattle.sdp_formats_rounds.specs.Members.{IsEach}
use Rattle.rtp_media_sections.specs.PrintedSections.{IsPrintable}

low_byte : (b : ℕ) → b < 48 → is_name_byte b ≡ false
low_byte b low = grind (arith, nat_tests)

byte_lacks : (b c : ℕ) → c < 48 → name_byte b ≢ c
byte_lacks b c low = at (is_name_byte b) refl
  where
    at : (named : Bool) → is_name_byte b ≡ named → (if named then b else 95) ≢ c
    at true is same = let no : is_name_byte b ≡ false = low_byte b (rw same low) in absurd (cc)
    at false is same = absurd (omega arith)

names_lack : (c : ℕ) (t : List ℕ) → c < 48 → Lacks c (map name_byte t)
names_lack c [] low = tt
names_lack c (b ∷ t) low = (byte_lacks b c low, names_lack c t low)

name_lacks : (c : ℕ) (m : List ℕ) → c < 48 → name_of 16 m ≡ m → Lacks c m
name_lacks c m low e = subst (Lacks c) e (names_lack c (take 16 m) low)

pub name_text : (m : List ℕ) → m ≢ [] → name_of 16 m ≡ m → IsText m
name_text m some e = (some, name_lacks 10 m (omega arith) e, name_lacks 13 m (omega arith) e)

name_word : (m : List ℕ) → m ≢ [] → name_of 16 m ≡ m → IsWord m
name_word m some e = (name_text m some e, name_lacks 32 m (omega arith) e)

pub are_mids : (ss : List Section) → IsEach IsPrintable ss → AreMids (map (λ s. s.mid) ss)
are_mids [] h = tt
are_mids (s ∷ ss) h = (name_word s.mid h.0.some_name h.0.name, h.0.name, are_mids ss h.1)
