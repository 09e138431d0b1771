-- The header extensions that sections list are printable.
use Rattle.std.proofs.Common.{◌≡◌, ◌≢◌, ◌⊎◌, ◌<◌, ◌≤◌, ◌+◌, ◌^◌, ◌==◌, ℕ, zero, suc, Bool, true, false, not, cond}
use Rattle.std.proofs.Common.{List, [], ◌∷◌, length, get_or, Option, Some, None, refl, ◌∙◌, ap, subst, arith, inl, inr}
use Rattle.std.specs.Prelude.{filter, is_some}
use Rattle.std.specs.List.{list_all, position}
use Rattle.std.specs.Option.{option_map}
use Rattle.std.proofs.lemmas.Bool.{false≢true}
use Rattle.std.proofs.lemmas.Bool.Decides.{nat_tests}
use Rattle.std.proofs.lemmas.Slice.Eq.{bytes_eq-Decides}
use Rattle.std.proofs.lemmas.List.Quantifiers.{position-Some}
use Rattle.rtp_media_sections.specs.Extensions.{answered_extmaps, entries_of, is_answered, is_numbered, is_word}
use Rattle.rtp_media_sections.specs.Extensions.{is_word_byte, is_writable_map}
use Rattle.rtp_wire.specs.Elements.{lookup, slot_is}
use Rattle.rtp_wire.specs.Iteration.{entry_before, numbered}
use Rattle.rtp_wire.specs.Kinds.{same, uri_of}
use Rattle.rtp_wire.specs.Maps.{id_of}
use Rattle.rtp_wire.specs.Values.{Numbering}
use Rattle.rtp_wire.specs.declared.extension.Extension.{Extension}
use Rattle.rtp_wire.specs.declared.extension.Extension.TheVariants.{AbsoluteSendTime, AbsoluteCaptureTime}
use Rattle.rtp_wire.specs.declared.extension.Extension.TheVariants.{AudioLevel}
use Rattle.rtp_wire.specs.declared.extension.Extension.TheVariants.{VideoOrientation}
use Rattle.rtp_wire.specs.declared.extension.Extension.TheVariants.{TransportSequenceNumber, PlayoutDelay}
use Rattle.rtp_wire.specs.declared.extension.Extension.TheVariants.{VideoContentType, RtpStreamId}
use Rattle.rtp_wire.specs.declared.extension.Extension.TheVariants.{RepairedRtpStreamId, RtpMid}
use Rattle.rtp_wire.specs.declared.extension.Extension.TheVariants.{UnknownUri}
use Rattle.sdp_formats_grammar.specs.Cuts.{same_or_not}
use Rattle.sdp_formats_grammar.specs.Split.{Lacks}
use Rattle.sdp_formats_grammar.specs.Steps.{none_some, some_same}
use Rattle.sdp_formats_laws.proofs.AnyMember.{both}
use Rattle.sdp_formats_laws.specs.Printable.{IsWord}
use Rattle.sdp_formats_rounds.specs.Members.{IsEach}
use Rattle.rtp_media_sections.specs.PrintedSections.{IsPrintableEntry}

-- texts that can be in a line
byte_no_feed : (b : ℕ) → is_word_byte b ≡ true → b ≢ 10
byte_no_feed b e = λ same. grind (arith, nat_tests)

byte_no_return : (b : ℕ) → is_word_byte b ≡ true → b ≢ 13
byte_no_return b e = λ same. grind (arith, nat_tests)

byte_no_blank : (b : ℕ) → is_word_byte b ≡ true → b ≢ 32
byte_no_blank b e = λ same. grind (arith, nat_tests)

lacks : (c : ℕ) → ((b : ℕ) → is_word_byte b ≡ true → b ≢ c) → (t : List ℕ) → list_all is_word_byte t ≡ true → Lacks c t
lacks c h [] e = tt
lacks c h (b ∷ t) e = let two = both (is_word_byte b) (list_all is_word_byte t) e in (h b two.0, lacks c h t two.1)

word : (t : List ℕ) → is_word t ≡ true → IsWord t
word [] e = absurd (cc)
word (b ∷ t) e =
    let bytes = (both (not (length (b ∷ t) == 0)) (list_all is_word_byte (b ∷ t)) e).1 in (
      ((λ s. cc), lacks 10 byte_no_feed (b ∷ t) bytes, lacks 13 byte_no_return (b ∷ t) bytes),
      lacks 32 byte_no_blank (b ∷ t) bytes,
    )

-- the entries of a map
abbrev has_word : ℕ × Extension → Bool
has_word entry = is_word (uri_of entry.1)

numbered_printable : (exts : Numbering) (id n : ℕ) → id + n ≤ 17 → list_all has_word (numbered exts id n) ≡ true
    → IsEach IsPrintableEntry (numbered exts id n)
numbered_printable exts id zero low e = tt
numbered_printable exts id (suc n) low e = at (lookup exts id) e (numbered_printable exts (suc id) n (omega arith))
  where
    at : (o : Option Extension) → list_all has_word (entry_before id o (numbered exts (suc id) n)) ≡ true
        → (list_all has_word (numbered exts (suc id) n) ≡ true → IsEach IsPrintableEntry (numbered exts (suc id) n))
        → IsEach IsPrintableEntry (entry_before id o (numbered exts (suc id) n))
    at None f later = later f
    at (Some ext) f later =
        let two = both (is_word (uri_of ext)) (list_all has_word (numbered exts (suc id) n)) f in
        ((omega arith, word (uri_of ext) two.0), later two.1)

pub entries_printable : (exts : Numbering) → is_writable_map exts ≡ true → IsEach IsPrintableEntry (entries_of exts)
entries_printable exts e = numbered_printable exts 1 16 (omega arith) e

-- an extension of the map
head_of : (id : ℕ) (o : Option Extension) (x : Extension) (rest : List (ℕ × Extension)) → o ≡ Some x
    → list_all has_word (entry_before id o rest) ≡ true → is_word (uri_of x) ≡ true
head_of id None x rest is e = absurd (none_some x is)
head_of id (Some ext) x rest is e = subst (λ (y : Extension). is_word (uri_of y) ≡ true) (some_same ext x is)
    (both (is_word (uri_of ext)) (list_all has_word rest) e).0

rest_of : (id : ℕ) (o : Option Extension) (rest : List (ℕ × Extension))
    → list_all has_word (entry_before id o rest) ≡ true → list_all has_word rest ≡ true
rest_of id None rest e = e
rest_of id (Some ext) rest e = (both (is_word (uri_of ext)) (list_all has_word rest) e).1

word_at : (exts : Numbering) (id n : ℕ) → list_all has_word (numbered exts id n) ≡ true → (k : ℕ) → id ≤ k
    → k < id + n → (x : Extension) → lookup exts k ≡ Some x → is_word (uri_of x) ≡ true
word_at exts id zero e k low high x is = absurd (omega arith)
word_at exts id (suc n) e k low high x is = at (same_or_not id k)
    (λ more. word_at exts (suc id) n (rest_of id (lookup exts id) (numbered exts (suc id) n) e) k more (omega arith) x
    is)
  where
    at : (id ≡ k) ⊎ (id ≢ k) → (suc id ≤ k → is_word (uri_of x) ≡ true) → is_word (uri_of x) ≡ true
    at (inl same) later =
        head_of id (lookup exts id) x (numbered exts (suc id) n) (ap (lookup exts) same ∙ is) e
    at (inr other) later = later (omega arith)

same_uri : (a b : Extension) → same a b ≡ true → uri_of a ≡ uri_of b
same_uri AbsoluteSendTime AbsoluteSendTime e = refl
same_uri AbsoluteCaptureTime AbsoluteCaptureTime e = refl
same_uri AudioLevel AudioLevel e = refl
same_uri VideoOrientation VideoOrientation e = refl
same_uri TransportSequenceNumber TransportSequenceNumber e = refl
same_uri PlayoutDelay PlayoutDelay e = refl
same_uri VideoContentType VideoContentType e = refl
same_uri RtpStreamId RtpStreamId e = refl
same_uri RepairedRtpStreamId RepairedRtpStreamId e = refl
same_uri RtpMid RtpMid e = refl
same_uri (UnknownUri u) (UnknownUri v) e = (bytes_eq-Decides u v).0 e
same_uri a b e = absurd (false≢true e)

found_word : (exts : Numbering) (ext : Extension) → length exts ≡ 16 → is_writable_map exts ≡ true
    → is_some (id_of exts ext) ≡ true → IsWord (uri_of ext)
found_word exts ext long writable e = at (position (λ o. slot_is o ext) exts) refl e
  where
    slotted : (i : ℕ) (o : Option Extension) → i < 16 → lookup exts (suc i) ≡ o → slot_is o ext ≡ true
        → IsWord (uri_of ext)
    slotted i None low is s = absurd (false≢true s)
    slotted i (Some x) low is s = subst IsWord (same_uri x ext s)
        (word (uri_of x) (word_at exts 1 16 writable (suc i) (omega arith) (omega arith) x is))

    at : (o : Option ℕ) → position (λ o. slot_is o ext) exts ≡ o → is_some (option_map suc o) ≡ true
        → IsWord (uri_of ext)
    at None is f = absurd (false≢true f)
    at (Some i) is f =
        let p = position-Some (λ o. slot_is o ext) exts i None is in
        slotted i (get_or exts i None) (omega (arith, p.0, long)) refl p.1

entry_printable : (exts : Numbering) (entry : ℕ × Extension) → length exts ≡ 16 → is_writable_map exts ≡ true
    → is_answered exts entry ≡ true → IsPrintableEntry entry
entry_printable exts entry long writable e =
    let two = both (is_numbered entry.0) (is_some (id_of exts entry.1)) e in
    (low entry.0 two.0, found_word exts entry.1 long writable two.1)
  where
    low : (n : ℕ) → is_numbered n ≡ true → n < 2 ^ 8
    low n f = grind (arith, nat_tests)

pub answered_printable : (exts : Numbering) (offered : List (ℕ × Extension)) → length exts ≡ 16
    → is_writable_map exts ≡ true → IsEach IsPrintableEntry (answered_extmaps exts offered)
answered_printable exts [] long writable = tt
answered_printable exts (x ∷ offered) long writable =
    at (is_answered exts x) refl (answered_printable exts offered long writable)
  where
    at : (b : Bool) → is_answered exts x ≡ b → IsEach IsPrintableEntry (filter (is_answered exts) offered)
        → IsEach IsPrintableEntry
        (cond b (x ∷ filter (is_answered exts) offered) (filter (is_answered exts) offered))
    at true is later = (entry_printable exts x long writable is, later)
    at false is later = later
