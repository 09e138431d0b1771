-- Each kind of line of a session is read as it is printed.
use Rattle.std.proofs.Common.{◌≡◌, ◌≢◌, ℕ, false, cond, List, [], ◌∷◌, ◌++◌, Some, codes}
use Rattle.std.proofs.Common.{subst, refl, sym, ◌∙◌, ap, map, append_assoc, arith}
use Rattle.std.specs.Option.{option_map}
use Rattle.std.proofs.lemmas.Bool.Decides.{nat_tests}
use Rattle.std.proofs.lemmas.List.{append-nil}
use Rattle.rtp_wire.specs.Name.{name_of}
use Rattle.sdp_formats_grammar.specs.Cuts.{other_byte}
use Rattle.sdp_formats_grammar.specs.Form.{any_text, some_text, cut_maybe, separated, told}
use Rattle.sdp_formats_grammar.specs.Joined.{joined, spelled}
use Rattle.sdp_formats_grammar.specs.Split.{Lacks}
use Rattle.sdp_formats_reader.specs.Transport.{in_session}
use Rattle.sdp_formats_reader.specs.declared.transport.TransportAttribute.TheVariants as transport
use Rattle.sdp_formats_reader.specs.ReaderChoice.{attribute_line, session_attribute}
use Rattle.sdp_formats_reader.specs.Groups.{without_last, mid_word, mids_of}
use Rattle.sdp_formats_values.specs.PrintedValues.{line_end, is_empty}
use Rattle.sdp_formats_values.specs.Lists.{words_text, named}
use Rattle.sdp_formats_data.specs.PrintedSession.{attribute_text}
use Rattle.sdp_formats_values.specs.declared.setup.Setup as setup
use Rattle.sdp_formats_values.specs.declared.setup.Setup.TheVariants as way
use Rattle.sdp_formats_data.specs.declared.session.SessionAttribute.TheVariants.{AllowMixedExts, Group}
use Rattle.sdp_formats_data.specs.declared.session.SessionAttribute.TheVariants.{MsidSemantic}
use Rattle.sdp_formats_data.specs.declared.session.SessionAttribute.TheVariants.{IceLite}
use Rattle.sdp_formats_data.specs.declared.session.SessionAttribute.TheVariants.{IceUfrag}
use Rattle.sdp_formats_data.specs.declared.session.SessionAttribute.TheVariants.{IcePwd, IceOptions, Setup}
use Rattle.sdp_formats_data.specs.declared.session.SessionAttribute.TheVariants.{EndOfCandidates, Unused}
use Rattle.sdp_formats_values.specs.Fingerprints.{make_fingerprint}
use Rattle.sdp_formats_values.specs.declared.fingerprint.Fingerprint as print_of
use Rattle.sdp_formats_data.specs.declared.session.SessionAttribute.TheVariants.{Fingerprint}
use Rattle.sdp_formats_laws.proofs.Fingerprints.{digest_text, lacks_digest, fingerprint_reads}
use Rattle.std.proofs.Common.{lit<}
use Rattle.sdp_formats_laws.proofs.Printed.{IsPrintedAs, named_line, named_by, fixed_line, two_parts, at_text}
use Rattle.sdp_formats_laws.proofs.Printed.{text_some}
use Rattle.sdp_formats_laws.proofs.Printed.{lacks_both}
use Rattle.sdp_formats_laws.proofs.PlainKinds.{first_fits, lacks_two}
use Rattle.sdp_formats_laws.proofs.Readings.{cut_reads, cut_nowhere, cut_somewhere, AreRead, list_reads}
use Rattle.sdp_formats_laws.specs.Printable.{IsPrintableDigest, IsText, IsWord}
use Rattle.sdp_formats_laws.specs.PrintableSession.{AreWords, AreMids}

pub ice_lite : IsPrintedAs attribute_line (attribute_text IceLite) IceLite
unfolding session_attribute attribute_text
ice_lite = fixed_line attribute_line (codes "a=ice-lite") IceLite refl refl

pub end_of_candidates : IsPrintedAs attribute_line (attribute_text EndOfCandidates) EndOfCandidates
unfolding session_attribute attribute_text
end_of_candidates = fixed_line attribute_line (codes "a=end-of-candidates") EndOfCandidates refl refl

-- a line that is read as one of no known kind
pub allow_mixed : IsPrintedAs attribute_line (attribute_text AllowMixedExts) (Unused (codes "extmap-allow-mixed"))
unfolding session_attribute attribute_text
allow_mixed = fixed_line attribute_line (codes "a=extmap-allow-mixed") (Unused (codes "extmap-allow-mixed")) refl refl

pub ice_ufrag : (v : List ℕ) → IsText v → IsPrintedAs attribute_line (named (codes "a=ice-ufrag:") v) (IceUfrag v)
unfolding session_attribute
ice_ufrag v h = named_line attribute_line (codes "a=ice-ufrag:") v (IceUfrag v) (named_by (codes "a=ice-ufrag:") refl)
    h.1 h.2 (first_fits _ _ _ (ap (λ o. option_map in_session (option_map transport.IceUfrag o)) (text_some v h.0)))

pub ice_pwd : (v : List ℕ) → IsText v → IsPrintedAs attribute_line (named (codes "a=ice-pwd:") v) (IcePwd v)
unfolding session_attribute
ice_pwd v h = named_line attribute_line (codes "a=ice-pwd:") v (IcePwd v) (named_by (codes "a=ice-pwd:") refl) h.1 h.2
    (first_fits _ _ _ (ap (λ o. option_map in_session (option_map transport.IcePwd o)) (text_some v h.0)))

pub ice_options : (v : List ℕ) → IsText v
    → IsPrintedAs attribute_line (named (codes "a=ice-options:") v) (IceOptions v)
unfolding session_attribute
ice_options v h = named_line attribute_line (codes "a=ice-options:") v (IceOptions v)
    (named_by (codes "a=ice-options:") refl) h.1 h.2
    (first_fits _ _ _ (ap (λ o. option_map in_session (option_map transport.IceOptions o)) (text_some v h.0)))

pub setup_line : (s : setup.Setup) → IsPrintedAs attribute_line (attribute_text (Setup s)) (Setup s)
unfolding session_attribute attribute_text
setup_line way.ActPass = fixed_line attribute_line (codes "a=setup:actpass") (Setup way.ActPass) refl refl
setup_line way.Active = fixed_line attribute_line (codes "a=setup:active") (Setup way.Active) refl refl
setup_line way.Passive = fixed_line attribute_line (codes "a=setup:passive") (Setup way.Passive) refl refl

pub unused : (v : List ℕ) → IsText v → session_attribute.reads v ≡ Some (Unused v)
    → IsPrintedAs attribute_line (named (codes "a=") v) (Unused v)
unused v h reads = named_line attribute_line (codes "a=") v (Unused v) (named_by (codes "a=") refl) h.1 h.2 reads

-- a text that ends with a word has no blank at its end
last_stays : (b : ℕ) → b ≢ 32 → without_last (b ∷ []) ≡ b ∷ []
last_stays b h = other_byte b 32 _ _ h

word_stays : (w : List ℕ) → Lacks 32 w → without_last w ≡ w
word_stays [] h = refl
word_stays (b ∷ []) h = last_stays b h.0
word_stays (b ∷ c ∷ t) h = ap (λ x. b ∷ x) (word_stays (c ∷ t) h.1)

longer : (b : ℕ) (t : List ℕ) → t ≢ [] → without_last t ≡ t → without_last (b ∷ t) ≡ b ∷ t
longer b [] some h = absurd (some refl)
longer b (c ∷ t) some h = ap (λ x. b ∷ x) h

ends_with : (front w : List ℕ) → w ≢ [] → Lacks 32 w → without_last (front ++ w) ≡ front ++ w
ends_with [] w some h = word_stays w h
ends_with (b ∷ front) w some h = longer b (front ++ w) (some_behind front w some) (ends_with front w some h)
  where
    some_behind : (front w : List ℕ) → w ≢ [] → front ++ w ≢ []
    some_behind [] w some = some
    some_behind (x ∷ xs) w some = λ e. cc

-- what is before the last of some words, and the last
abbrev pub EndsInWord : List ℕ → Type 0
EndsInWord t = (front w : List ℕ) × (t ≡ front ++ w) × (w ≢ []) × Lacks 32 w

words_end : (w : List ℕ) (ws : List (List ℕ)) → AreWords (w ∷ ws) → EndsInWord (words_text (w ∷ ws))
words_end w [] h = ([], w, append-nil w, h.0.0.0, h.0.1)
words_end w (v ∷ vs) h =
    let last = words_end v vs h.1 in (
      w ++ 32 ∷ last.0,
      last.1,
      ap (λ t. w ++ 32 ∷ t) last.2 ∙ sym (append_assoc w (32 ∷ last.0) last.1),
      last.3,
      last.4,
    )

ended_stays : (front t : List ℕ) → EndsInWord t → without_last (front ++ t) ≡ front ++ t
ended_stays front t h =
    let same : front ++ t ≡ (front ++ h.0) ++ h.1 = ap (λ x. front ++ x) h.2 ∙ sym (append_assoc front h.0 h.1) in
    ap without_last same ∙ ends_with (front ++ h.0) h.1 h.3 h.4 ∙ sym same

words_of_mids : (mids : List (List ℕ)) → AreMids mids → AreWords mids
words_of_mids [] h = tt
words_of_mids (m ∷ ms) h = (h.0, words_of_mids ms h.2)

mids_read : (mids : List (List ℕ)) → AreMids mids → AreRead 32 mid_word (λ m. m) mids
mids_read [] h = tt
mids_read (m ∷ ms) h =
    (h.0.1, ap (option_map (name_of 16)) (text_some m h.0.0.0) ∙ ap Some h.1, mids_read ms h.2)

words_read : (ws : List (List ℕ)) → AreWords ws → AreRead 32 some_text (λ w. w) ws
words_read [] h = tt
words_read (w ∷ ws) h = (h.0.1, text_some w h.0.0.0, words_read ws h.1)

same_map : (xs : List (List ℕ)) → map (λ x. x) xs ≡ xs
same_map [] = refl
same_map (x ∷ xs) = ap (λ t. x ∷ t) (same_map xs)

pub lacks_words : (c : ℕ) (w : List ℕ) (ws : List (List ℕ)) → (32 ≡ c → ⊥)
    → ((x : List ℕ) → IsWord x → Lacks c x) → AreWords (w ∷ ws) → Lacks c (words_text (w ∷ ws))
lacks_words c w [] other each h = lacks_both c w [] (each w h.0) tt
lacks_words c w (v ∷ vs) other each h =
    lacks_two c 32 w (words_text (v ∷ vs)) (each w h.0) other (lacks_words c v vs other each h.1)

some_there : {A : Type 0} (x : A) (xs : List A) → is_empty (x ∷ xs) ≡ false
some_there x xs = grind (arith, nat_tests)

abbrev pub named_group : List ℕ → List ℕ → List ℕ
named_group typ words = spelled (codes "a=group:" ∷ typ ∷ codes " " ∷ words ∷ line_end ∷ [])

pub group_line : (typ : List ℕ) (mids : List (List ℕ)) → IsWord typ → AreMids mids
    → IsPrintedAs attribute_line (attribute_text (Group typ mids)) (Group typ mids)
unfolding session_attribute attribute_text
group_line typ [] h k = named_line attribute_line (codes "a=group:") typ (Group typ [])
    (named_by (codes "a=group:") refl)
    h.0.1 h.0.2 (first_fits _ _ _ (
    ap (λ t. option_map (λ x. Group x.0 (mids_of x.1))
    ((cut_maybe 32 any_text (separated 32 (told mid_word))).reads t)) (word_stays typ h.1)
    ∙ ap (option_map (λ x. Group x.0 (mids_of x.1)))
    (cut_nowhere 32 any_text (separated 32 (told mid_word)) typ typ h.1 (text_some typ h.0.0))))
group_line typ (m ∷ ms) h k =
    let words = words_text (m ∷ ms) in
    let ws = words_of_mids (m ∷ ms) k in
    at_text attribute_line _ _ _
    (ap (λ b. cond b (named (codes "a=group:") typ) (named_group typ words)) (some_there m ms)
    ∙ two_parts (codes "a=group:") typ words 32)
    (named_line attribute_line (codes "a=group:") (typ ++ 32 ∷ words) (Group typ (m ∷ ms))
    (named_by (codes "a=group:") refl)
    (lacks_two 10 32 typ words h.0.1 (λ e. cc) (lacks_words 10 m ms (λ e. cc) (λ x w. w.0.1) ws))
    (lacks_two 13 32 typ words h.0.2 (λ e. cc) (lacks_words 13 m ms (λ e. cc) (λ x w. w.0.2) ws))
    (first_fits _ _ _ (
    ap (λ t. option_map (λ x. Group x.0 (mids_of x.1))
    ((cut_maybe 32 any_text (separated 32 (told mid_word))).reads t))
    (ap without_last (append_blank typ words) ∙ ended_stays (typ ++ 32 ∷ []) words (words_end m ms ws)
    ∙ sym (append_blank typ words))
    ∙ ap (option_map (λ x. Group x.0 (mids_of x.1)))
    (cut_somewhere 32 any_text (separated 32 (told mid_word)) typ words typ (m ∷ ms) h.1 (text_some typ h.0.0)
    (ap (λ xs. (separated 32 (told mid_word)).reads (joined (32 ∷ []) xs)) (sym (same_map (m ∷ ms)))
    ∙ list_reads 32 mid_word (λ x. x) m ms (mids_read (m ∷ ms) k))))))
  where
    append_blank : (t w : List ℕ) → t ++ 32 ∷ w ≡ (t ++ 32 ∷ []) ++ w
    append_blank t w = sym (append_assoc t (32 ∷ []) w)

pub msid_semantic_line : (semantic s : List ℕ) (ss : List (List ℕ)) → IsWord semantic → AreWords (s ∷ ss)
    → IsPrintedAs attribute_line (attribute_text (MsidSemantic semantic (s ∷ ss))) (MsidSemantic semantic (s ∷ ss))
unfolding session_attribute attribute_text
msid_semantic_line semantic s ss h k =
    let words = words_text (s ∷ ss) in
    at_text attribute_line _ _ _ (two_parts (codes "a=msid-semantic: ") semantic words 32)
    (named_line attribute_line (codes "a=msid-semantic: ") (semantic ++ 32 ∷ words) (MsidSemantic semantic (s ∷ ss))
    (named_by (codes "a=msid-semantic: ") refl)
    (lacks_two 10 32 semantic words h.0.1 (λ e. cc) (lacks_words 10 s ss (λ e. cc) (λ x w. w.0.1) k))
    (lacks_two 13 32 semantic words h.0.2 (λ e. cc) (lacks_words 13 s ss (λ e. cc) (λ x w. w.0.2) k))
    (first_fits _ _ _ (ap (option_map (λ x. MsidSemantic x.0 x.1))
    (cut_reads 32 any_text (separated 32 any_text) semantic words semantic (s ∷ ss) h.1 (text_some semantic h.0.0)
    (ap (λ xs. (separated 32 any_text).reads (joined (32 ∷ []) xs)) (sym (same_map (s ∷ ss)))
    ∙ list_reads 32 some_text (λ x. x) s ss (words_read (s ∷ ss) k))))))

pub fingerprint_line : (f : print_of.Fingerprint) → IsPrintableDigest f.hash_func f.bytes
    → IsPrintedAs attribute_line (attribute_text (Fingerprint f)) (Fingerprint f)
unfolding session_attribute attribute_text
fingerprint_line f h = by_bytes f f.bytes refl h
  where
    by_bytes : (f : print_of.Fingerprint) (bytes : List ℕ) → f.bytes ≡ bytes → IsPrintableDigest f.hash_func bytes
        → IsPrintedAs attribute_line (named (codes "a=fingerprint:") (f.hash_func ++ 32 ∷ digest_text f.bytes))
        (Fingerprint f)
    by_bytes f [] same h = absurd h
    by_bytes f (b ∷ bs) same h = subst (λ p. IsPrintedAs attribute_line
        (named (codes "a=fingerprint:") (f.hash_func ++ 32 ∷ digest_text p))
        (Fingerprint (make_fingerprint (f.hash_func, p)))) (sym same)
        (named_line attribute_line (codes "a=fingerprint:") (f.hash_func ++ 32 ∷ digest_text (b ∷ bs))
        (Fingerprint (make_fingerprint (f.hash_func, b ∷ bs))) (named_by (codes "a=fingerprint:") refl)
        (lacks_two 10 32 f.hash_func (digest_text (b ∷ bs)) h.0.0.1 (λ e. cc) (lacks_digest 10 b bs (lit< tt) h.1))
        (lacks_two 13 32 f.hash_func (digest_text (b ∷ bs)) h.0.0.2 (λ e. cc) (lacks_digest 13 b bs (lit< tt) h.1))
        (first_fits _ _ _ (ap (λ o. option_map in_session (option_map transport.Fingerprint o))
        (fingerprint_reads f.hash_func b bs h.0 h.1))))
