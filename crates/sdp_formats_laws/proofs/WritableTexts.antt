-- What is read of a session that can be written.
use Rattle.std.proofs.Common.{◌≡◌, ℕ, Bool, true, false, List, [], ◌∷◌, ◌++◌, Option, Some, None, codes, map, refl, sym}
use Rattle.std.proofs.Common.{subst, append_assoc, append-nil, cond, inl, inr, ⊎_elim}
use Rattle.sdp_formats_grammar.specs.LineLemmas.{line-functional}
use Rattle.std.specs.Prelude.{All, IfSome}
use Rattle.std.proofs.lemmas.List.Elements.{All-head, All-tail}
use Rattle.std.specs.Option.{option_map}
use Rattle.sdp_formats_grammar.specs.Form.{IsExact}
use Rattle.sdp_formats_grammar.specs.Joined.{each_behind, maybe_text}
use Rattle.sdp_formats_grammar.specs.Line.{LineOf}
use Rattle.sdp_formats_grammar.specs.Step.{Begins, Perhaps}
use Rattle.sdp_formats_reader.specs.AttributesChoice.{attribute_line as media_attribute_line}
use Rattle.sdp_formats_reader.specs.Writable.{ComesBack, IsWritableAttribute, IsWritableBandwidth}
use Rattle.sdp_formats_reader.specs.ReaderChoice.{attribute_line}
use Rattle.sdp_formats_reader.specs.Lines.{bandwidth_line}
use Rattle.sdp_formats_values.specs.Lists.{bandwidth_text, named, words_text}
use Rattle.sdp_formats_data.specs.PrintedSession.{attribute_text, sections_text}
use Rattle.sdp_formats_values.specs.declared.bandwidth.Bandwidth.{Bandwidth}
use Rattle.sdp_formats_data.specs.declared.session.SessionAttribute.{SessionAttribute}
use Rattle.sdp_formats_data.specs.declared.session.SessionAttribute.TheVariants as session
use Rattle.sdp_formats_values.specs.PrintedValues.{line_end, fingerprint_text, is_empty}
use Rattle.sdp_formats_values.specs.PrintedCandidates.{candidate_text}
use Rattle.sdp_formats_values.specs.Setup.{setup_text}
use Rattle.sdp_formats_laws.proofs.Whole.{ListsComeBack}
use Rattle.sdp_formats_laws.proofs.MoreBehind.{forth}
use Rattle.sdp_formats_laws.proofs.RowTexts.{sections_back, sections_print}
use Rattle.sdp_formats_laws.proofs.Printed.{lacks, printed_line}
use Rattle.sdp_formats_laws.proofs.SectionsLemmas.{no_bandwidth, perhaps_bandwidth, sections_printed}
use Rattle.sdp_formats_laws.proofs.SessionKinds.{allow_mixed}
use Rattle.sdp_formats_laws.proofs.Stopping.{first, joined_behind}
use Rattle.sdp_formats_laws.proofs.WholeTexts.{session_reads, text_reads}
use Rattle.sdp_formats_laws.proofs.WholeSession.{printed}
use Rattle.sdp_formats_laws.specs.LineEnds.{is_ended}
use Rattle.sdp_formats_laws.specs.Printable.{IsWord}
use Rattle.sdp_formats_laws.specs.PrintableSession.{AreMids, IsPrintable}
use Rattle.sdp_formats_rounds.specs.Members.{IsEach}
use Rattle.sdp_formats_laws.specs.PrintableTexts.{IsPrintableBandwidth}
use Rattle.sdp_formats_laws.specs.WrittenSession.{AllReadAs, GroupedRowTextsComeBack, IsReadAs, IsWritten}
use Rattle.sdp_formats_laws.specs.WrittenSession.{PrintableIsWritable}
use Rattle.sdp_formats_laws.specs.WrittenSession.{grouped}
use Rattle.sdp_formats_reader.specs.Grammar.{SdpSays}
use Rattle.sdp_formats_data.specs.PrintedSession.{sdp_text}
use Rattle.sdp_formats_data.specs.declared.session.Sdp.{Sdp}
use Rattle.sdp_formats_laws.specs.ReadTexts.{text_read}
use Rattle.sdp_formats_laws.specs.WrittenSession.{UsualAttributesAreWritten, WrittenRowTextsComeBack}
use Rattle.sdp_formats_laws.proofs.Faultless.{none_at_fault}
use Rattle.sdp_formats_laws.specs.Rows.{AllComeBack, ListedRowsHaveNoFault, ReadRowsAreRows, RowsArePrintable}
use Rattle.sdp_formats_laws.specs.Rows.{WritableRowTextsComeBack}
use Rattle.sdp_formats_laws.specs.RowsBack.{PlainRowsComeBack}

-- a printed line has its end
ended_behind : (xs : List ℕ) → is_ended (xs ++ line_end) ≡ true
ended_behind [] = refl
ended_behind (x ∷ []) = refl
ended_behind (x ∷ y ∷ xs) = ended_behind (y ∷ xs)

ended_named : (name value : List ℕ) → is_ended (named name value) ≡ true
ended_named name value =
    subst (λ t. is_ended t ≡ true) (append_assoc name value line_end) (ended_behind (name ++ value))

four_parts : (a b c d e : List ℕ) → (a ++ (b ++ (c ++ d))) ++ e ≡ a ++ (b ++ (c ++ (d ++ e)))
four_parts a b c d e = simp append_assoc

ended_parts : (a b c d : List ℕ) → is_ended (a ++ (b ++ (c ++ (d ++ line_end)))) ≡ true
ended_parts a b c d = subst (λ t. is_ended t ≡ true) (four_parts a b c d line_end) (ended_behind (a ++ (b ++ (c ++ d))))

ended_either : (b : Bool) (x y : List ℕ) → is_ended x ≡ true → is_ended y ≡ true → is_ended (cond b x y) ≡ true
ended_either true x y h k = h
ended_either false x y h k = k

ended : (a : SessionAttribute) → is_ended (attribute_text a) ≡ true
unfolding attribute_text
ended (session.Group typ mids) = ended_either (is_empty mids) _ _ (ended_named (codes "a=group:") typ)
    (ended_parts (codes "a=group:") typ (codes " ") (words_text mids))
ended (session.MsidSemantic semantic streams) =
    ended_parts (codes "a=msid-semantic: ") semantic (codes " ") (words_text streams)
ended session.AllowMixedExts = refl
ended session.IceLite = refl
ended (session.IceUfrag value) = ended_named (codes "a=ice-ufrag:") value
ended (session.IcePwd value) = ended_named (codes "a=ice-pwd:") value
ended (session.IceOptions value) = ended_named (codes "a=ice-options:") value
ended (session.Fingerprint value) = ended_named (codes "a=fingerprint:") (fingerprint_text value)
ended (session.Setup value) = ended_named (codes "a=setup:") (setup_text value)
ended (session.Candidate value) = ended_named (codes "a=") (candidate_text value)
ended session.EndOfCandidates = refl
ended (session.Unused value) = ended_named (codes "a=") value

-- so it is read as it is alone, whatever follows it
writable_reads : (a : SessionAttribute) → IsWritableAttribute a → (rest : List ℕ)
    → (b : SessionAttribute) × LineOf attribute_line.Says (attribute_text a ++ rest) b rest × ComesBack a b
unfolding IsWritableAttribute
writable_reads a h rest =
    let line = h.1.1 in
    (h.1.0, (line.0, (forth rest (attribute_text a) line.0 [] (ended a) line.1).0, line.2), h.1.2)

-- a printable one as itself
printed_reads : IsExact attribute_line → (a : SessionAttribute) → IsPrintable a → (rest : List ℕ)
    → LineOf attribute_line.Says (attribute_text a ++ rest) a rest
printed_reads exact a h rest = printed_line attribute_line exact a (attribute_text a) rest (printed a h)

attribute_reads : IsExact attribute_line → (a : SessionAttribute) → IsWritten a → (rest : List ℕ)
    → (b : SessionAttribute) × LineOf attribute_line.Says (attribute_text a ++ rest) b rest × IsReadAs a b
attribute_reads exact a h rest = ⊎_elim
    (λ (k : IsWritableAttribute a).
    let one = writable_reads a k rest in (
      one.0,
      one.1,
      (
        one.2,
        λ p. (line-functional attribute_line exact (attribute_text a ++ rest) one.0 a rest rest one.1
            (printed_reads exact a p rest)).0,
      ),
    ))
    (λ (k : IsPrintable a). (a, printed_reads exact a k rest, (inr refl, λ p. refl))) h

attributes_read : IsExact attribute_line → (attrs : List SessionAttribute) → IsEach IsWritten attrs → (rest : List ℕ)
    → (bs : List SessionAttribute)
    × Begins (LineOf attribute_line.Says) (each_behind [] (map attribute_text attrs) ++ rest) bs rest
    × AllReadAs attrs bs
attributes_read exact [] h rest = ([], refl, tt)
attributes_read exact (a ∷ attrs) h rest =
    let more = attributes_read exact attrs h.1 rest in
    let behind = each_behind [] (map attribute_text attrs) ++ rest in
    let one = attribute_reads exact a h.0 behind in (
      one.0 ∷ more.0,
      (
        behind,
        subst (λ t. LineOf attribute_line.Says t one.0 behind)
            (sym (append_assoc (attribute_text a) (each_behind [] (map attribute_text attrs)) rest)) one.1,
        more.1,
      ),
      (one.2, more.2),
    )

bandwidth_reads : (bw : Option Bandwidth) → IfSome bw IsWritableBandwidth → (t : List ℕ) → (first t ≡ Some 98 → ⊥)
    → Perhaps (LineOf bandwidth_line.Says) (maybe_text [] (option_map bandwidth_text bw) ++ t) bw t
unfolding IsWritableBandwidth
bandwidth_reads None h t other = (refl, no_bandwidth t other)
bandwidth_reads (Some b) h t other =
    let line = h.1 in
    subst (λ c. LineOf bandwidth_line.Says (bandwidth_text b ++ t) c t) h.2 (
      line.0,
      (forth t (bandwidth_text b) line.0 []
          (ended_parts (codes "b=") b.typ (codes ":") b.val) line.1).0,
      line.2,
    )

pub written_texts_back : ListsComeBack → IsExact attribute_line → IsExact media_attribute_line → PlainRowsComeBack
    → RowsArePrintable → ListedRowsHaveNoFault → ReadRowsAreRows → WrittenRowTextsComeBack
written_texts_back back exact media_exact come print fine read sdp lists written each one =
    let attrs = attributes_read exact sdp.session.attrs written.2 (sections_text sdp.media_lines) in
    let begins = subst (λ t. Begins (LineOf attribute_line.Says) (t ++ sections_text sdp.media_lines) attrs.0
    (sections_text sdp.media_lines)) (sym (joined_behind (map attribute_text sdp.session.attrs))) attrs.1 in (
      attrs.0,
      text_reads sdp (record sdp.session { attrs = attrs.0 })
          (λ tail. session_reads sdp.session attrs.0 (sections_text sdp.media_lines) written.0
          (λ t other. ⊎_elim (λ (k : IfSome sdp.session.bw IsWritableBandwidth).
          bandwidth_reads sdp.session.bw k t other) (λ (k : IsPrintableBandwidth sdp.session.bw).
          perhaps_bandwidth sdp.session.bw t k other) written.1) begins tail)
          (sections_printed back media_exact sdp.media_lines (sections_print print sdp.media_lines lists each))
          (none_at_fault fine sdp.media_lines lists each one),
      attrs.2,
      sections_back come read sdp.media_lines lists each,
    )

-- a session of which each attribute can be written
all_written : (attrs : List SessionAttribute) → All IsWritableAttribute attrs → IsEach IsWritten attrs
all_written [] h = tt
all_written (a ∷ attrs) h = (
  inl (All-head IsWritableAttribute a attrs h),
  all_written attrs (All-tail IsWritableAttribute a attrs h),
)

all_come : (attrs bs : List SessionAttribute) → AllReadAs attrs bs → AllComeBack attrs bs
all_come [] [] h = tt
all_come (a ∷ attrs) (b ∷ bs) h = (h.0.0, all_come attrs bs h.1)
all_come [] (b ∷ bs) h = absurd h
all_come (a ∷ attrs) [] h = absurd h

pub writable_texts_back : WrittenRowTextsComeBack → WritableRowTextsComeBack
writable_texts_back back sdp lists id writable each one =
    let whole = back sdp lists (id, inl writable.0, all_written sdp.session.attrs writable.1) each one in
    (whole.0, whole.1, all_come sdp.session.attrs whole.0 whole.2, whole.3)

-- a group in front of them
one_more : (sdp : Sdp) (typ : List ℕ) (mids : List (List ℕ)) (attrs bs : List SessionAttribute)
    → AllReadAs (session.Group typ mids ∷ attrs) bs → IsWord typ → AreMids mids
    → SdpSays (sdp_text (grouped typ mids sdp)) (text_read (grouped typ mids sdp) bs) []
    → (more : List SessionAttribute)
    × SdpSays (sdp_text (grouped typ mids sdp)) (text_read (grouped typ mids sdp) (session.Group typ mids ∷ more)) []
    × AllComeBack attrs more
one_more sdp typ mids attrs [] h word names says = absurd h
one_more sdp typ mids attrs (b ∷ bs) h word names says = (
  bs,
  subst (λ x. SdpSays (sdp_text (grouped typ mids sdp)) (text_read (grouped typ mids sdp) (x ∷ bs)) [])
      (h.0.1 (word, names)) says,
  all_come attrs bs h.1,
)

pub grouped_texts_back : WrittenRowTextsComeBack → GroupedRowTextsComeBack
grouped_texts_back back sdp lists typ mids id writable word names each one =
    let whole = back (grouped typ mids sdp) lists
    (id, inl writable.0, (inr (word, names), all_written sdp.session.attrs writable.1)) each one in
    let more = one_more sdp typ mids sdp.session.attrs whole.0 whole.2 word names whole.1 in
    (more.0, more.1, more.2, whole.3)

-- printable ones that are no groups
pub printable_writable : IsExact attribute_line → PrintableIsWritable
unfolding IsWritableAttribute
printable_writable exact a h none = (
  none,
  (
    a,
    subst (λ t. LineOf attribute_line.Says t a []) (append-nil (attribute_text a)) (printed_reads exact a h []),
    inr refl,
  ),
)

mixed_writable : IsExact attribute_line → IsWritableAttribute session.AllowMixedExts
unfolding IsWritableAttribute
mixed_writable exact = (
  refl,
  (
    session.Unused (codes "extmap-allow-mixed"),
    subst (λ t. LineOf attribute_line.Says t (session.Unused (codes "extmap-allow-mixed")) [])
        (append-nil (attribute_text session.AllowMixedExts))
        (printed_line attribute_line exact (session.Unused (codes "extmap-allow-mixed"))
        (attribute_text session.AllowMixedExts) [] allow_mixed),
    inl refl,
  ),
)

bundle : IsWord (codes "BUNDLE")
bundle = (
  ((λ e. cc), lacks 10 (codes "BUNDLE") refl, lacks 13 (codes "BUNDLE") refl),
  lacks 32 (codes "BUNDLE") refl,
)

pub usual_written : IsExact attribute_line → UsualAttributesAreWritten
usual_written exact mids h = (inr (bundle, h), (inl (mixed_writable exact), tt))
