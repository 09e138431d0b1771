-- Whole session texts are read as they are printed.
use Rattle.std.proofs.Common.{◌≡◌, ℕ, ◌<◌, ◌^◌, IsTrue, List, [], ◌∷◌, ◌++◌, Option, Some, None, codes, decimal, map}
use Rattle.std.proofs.Common.{refl, sym, ◌∙◌, ap, subst, append_assoc, append-nil, ⊎_elim, arith}
use Rattle.std.specs.List.{list_all}
use Rattle.std.specs.Option.{option_map}
use Rattle.sdp_formats_grammar.specs.Form.{IsExact}
use Rattle.sdp_formats_grammar.specs.Joined.{each_behind, maybe_text}
use Rattle.sdp_formats_grammar.specs.Split.{Lacks}
use Rattle.sdp_formats_data.specs.Consistency.{is_consistent}
use Rattle.sdp_formats_reader.specs.Lines.{version_line, origin_line, name_line, other_line, times_line}
use Rattle.sdp_formats_reader.specs.Lines.{bandwidth_line}
use Rattle.sdp_formats_reader.specs.Lines.{something, passed}
use Rattle.sdp_formats_reader.specs.Heads.{media_line}
use Rattle.sdp_formats_reader.specs.AttributesChoice.{attribute_line as media_attribute_line}
use Rattle.sdp_formats_reader.specs.Grammar.{OpeningSays, TimesSay, SessionSays, SectionSays, SdpSays}
use Rattle.sdp_formats_reader.specs.ReaderChoice.{attribute_line, session_attribute}
use Rattle.sdp_formats_grammar.specs.Line.{LineOf}
use Rattle.sdp_formats_grammar.specs.Step.{Stops, Begins, Perhaps}
use Rattle.sdp_formats_values.specs.PrintedValues.{line_end}
use Rattle.sdp_formats_data.specs.PrintedMedia.{section_text}
use Rattle.sdp_formats_values.specs.Lists.{bandwidth_text, named}
use Rattle.sdp_formats_data.specs.PrintedSession.{attribute_text, attributes_text, session_text, sections_text}
use Rattle.sdp_formats_data.specs.PrintedSession.{sdp_text}
use Rattle.sdp_formats_data.specs.declared.media.MediaLine.{MediaLine}
use Rattle.sdp_formats_values.specs.declared.bandwidth.Bandwidth.{Bandwidth}
use Rattle.sdp_formats_data.specs.declared.session.Sdp.{Sdp}
use Rattle.sdp_formats_data.specs.declared.session.Session.{Session}
use Rattle.sdp_formats_data.specs.declared.session.SessionAttribute.{SessionAttribute}
use Rattle.sdp_formats_laws.proofs.Whole.{ListsComeBack}
use Rattle.sdp_formats_laws.proofs.Heads.{version, version-exact, originator, origin-exact, name, name-exact, times}
use Rattle.sdp_formats_laws.proofs.Heads.{times-exact, after_number}
use Rattle.sdp_formats_laws.proofs.Printed.{printed_line, lacks}
use Rattle.sdp_formats_laws.proofs.SectionsLemmas.{IsTail, perhaps_bandwidth, section_says, sections_printed}
use Rattle.sdp_formats_laws.proofs.Stopping.{first, stops, other_start, first_of, begins_all, joined_behind}
use Rattle.sdp_formats_laws.proofs.WholeSession.{printed}
use Rattle.sdp_formats_laws.proofs.Consistent.{all_consistent}
use Rattle.sdp_formats_laws.specs.PrintableSession.{IsPrintable}
use Rattle.sdp_formats_laws.specs.ReadTexts.{section_as_read, text_as_read}
use Rattle.sdp_formats_rounds.specs.Members.{IsEach}
use Rattle.sdp_formats_laws.specs.PrintableTexts.{IsPrintableSession, HasLinesThatComeBack}
use Rattle.sdp_formats_laws.specs.PrintableTexts.{IsPrintableText}

-- none of these letters comes first
abbrev pub LacksFirst : List ℕ → List ℕ → Type 0
LacksFirst [] t = Unit {0}
LacksFirst (c ∷ cs) t = (first t ≡ Some c → ⊥) × LacksFirst cs t

pub no_other : (t : List ℕ) → LacksFirst (codes "iuepczk") t → Stops (LineOf other_line.Says) t
no_other t h = stops _ t (λ content a s same. ⊎_elim (λ x. h.0 (sym same ∙ ap first x.1))
    (λ x. ⊎_elim (λ y. h.1.0 (sym same ∙ ap first y.1))
    (λ y. ⊎_elim (λ z. h.1.1.0 (sym same ∙ ap first z.1))
    (λ z. ⊎_elim (λ u. h.1.1.1.0 (sym same ∙ ap first u.1))
    (λ u. ⊎_elim (λ v. h.1.1.1.1.0 (sym same ∙ ap first v.1))
    (λ v. ⊎_elim (λ w. h.1.1.1.1.1.0 (sym same ∙ ap first w.1))
    (λ w. h.1.1.1.1.1.1.0 (sym same ∙ ap first w.1.1)) v.1) u.1) z.1) y.1) x.1) s)

apart : (a b : ℕ) → (a ≡ b → ⊥) → Some a ≡ Some b → ⊥
apart a b other e = other (cc)

-- another letter comes first
lacks_by : (t : List ℕ) (a : ℕ) → first t ≡ Some a → (cs : List ℕ) → Lacks a cs → LacksFirst cs t
lacks_by t a e [] h = tt
lacks_by t a e (c ∷ cs) h = ((λ f. apart a c (λ n. h.0 (sym n)) (sym e ∙ f)), lacks_by t a e cs h.1)

-- a bandwidth or the time comes
bandwidth_first : (b : Option Bandwidth) (t : List ℕ)
    → LacksFirst (codes "iuepczk") (maybe_text [] (option_map bandwidth_text b) ++ (codes "t=0 0\r\n" ++ t))
bandwidth_first None t = lacks_by (codes "t=0 0\r\n" ++ t) 116 refl (codes "iuepczk") (lacks 116 (codes "iuepczk") refl)
bandwidth_first (Some b) t = lacks_by (bandwidth_text b ++ (codes "t=0 0\r\n" ++ t)) 98 refl (codes "iuepczk")
    (lacks 98 (codes "iuepczk") refl)

session_shape : (number bw attrs rest : List ℕ)
    → (codes "v=0\r\no=str0m-0.25.0 " ++ (number ++ (codes " 2 IN IP4 0.0.0.0\r\ns=-\r\n" ++ (bw
    ++ (codes "t=0 0\r\n" ++ attrs))))) ++ rest
    ≡ (codes "v=0" ++ line_end) ++ (named (codes "o=str0m-0.25.0 ") (number ++ 32 ∷ after_number)
    ++ ((codes "s=-" ++ line_end) ++ (bw ++ ((codes "t=0 0" ++ line_end) ++ (attrs ++ rest)))))
session_shape number bw attrs rest = simp append_assoc

-- a letter that comes neither first among attributes nor after them
not_first : (c : ℕ) (attrs : List SessionAttribute) (t rest : List ℕ) → (97 ≡ c → ⊥) → (109 ≡ c → ⊥)
    → Begins (LineOf attribute_line.Says) t attrs rest → IsTail rest → first t ≡ Some c → ⊥
not_first c attrs t rest a m begins tail e = ⊎_elim (λ (x : first t ≡ Some 97). apart 97 c a (sym x ∙ e))
    (λ (r : rest ≡ t). tail c m (ap first r ∙ e)) (first_of 97 (61 ∷ []) session_attribute t attrs rest begins)

-- what is read of a printed session, whose bandwidth is read as it is and whose attributes are read as these
pub session_reads : (s : Session) (bs : List SessionAttribute) (rest : List ℕ) → (s.id < 2 ^ 64)
    → ((t : List ℕ) → (first t ≡ Some 98 → ⊥)
    → Perhaps (LineOf bandwidth_line.Says) (maybe_text [] (option_map bandwidth_text s.bw) ++ t) s.bw t)
    → Begins (LineOf attribute_line.Says) (attributes_text s.attrs ++ rest) bs rest → IsTail rest
    → SessionSays (session_text s ++ rest) (record s { attrs = bs }) rest
unfolding SessionSays OpeningSays TimesSay session_text
session_reads s bs rest id bandwidth begins tail =
    let five = attributes_text s.attrs ++ rest in
    let four = (codes "t=0 0" ++ line_end) ++ five in
    let bw = maybe_text [] (option_map bandwidth_text s.bw) in
    let three = bw ++ four in
    let two = (codes "s=-" ++ line_end) ++ three in
    let one = named (codes "o=str0m-0.25.0 ") (decimal s.id ++ 32 ∷ after_number) ++ two in
    subst (λ t. SessionSays t (record s { attrs = bs }) rest)
    (sym (session_shape (decimal s.id) bw (attributes_text s.attrs) rest)) (
      three,
      (
        passed,
        one,
        printed_line version_line version-exact passed (codes "v=0" ++ line_end) one version,
        two,
        printed_line origin_line origin-exact s.id _ two (originator s.id id),
        passed,
        printed_line name_line name-exact passed (codes "s=-" ++ line_end) three name,
      ),
      [],
      three,
      (refl, no_other three (bandwidth_first s.bw five)),
      four,
      bandwidth four (λ e. apart 116 98 (λ n. omega (n, arith)) e),
      passed,
      five,
      (
        five,
        printed_line times_line times-exact passed (codes "t=0 0" ++ line_end) five times,
        [],
        (
          refl,
          other_start 114 (61 ∷ []) something five
              (not_first 114 bs five rest (λ e. omega (e, arith)) (λ e. omega (e, arith)) begins tail),
        ),
      ),
      (begins, other_start 97 (61 ∷ []) session_attribute rest (tail 97 (λ e. omega (e, arith)))),
    )

session_says : IsExact attribute_line → (s : Session) (rest : List ℕ) → IsPrintableSession s → IsTail rest
    → SessionSays (session_text s ++ rest) s rest
session_says exact s rest h tail = session_reads s s.attrs rest h.0 (λ t other. perhaps_bandwidth s.bw t h.1 other)
    (begins_all (LineOf attribute_line.Says) attribute_text IsPrintable
    (λ x r p. printed_line attribute_line exact x (attribute_text x) r (printed x p)) s.attrs rest h.2) tail

nothing_left : IsTail []
nothing_left = λ c other e. cc

-- a session alone
pub session_alone : IsExact attribute_line → (s : Session) → IsPrintableSession s → SessionSays (session_text s) s []
session_alone exact s h =
    subst (λ t. SessionSays t s []) (append-nil (session_text s)) (session_says exact s [] h nothing_left)

-- sections, one after the other
no_section : Stops SectionSays []
unfolding SectionSays
no_section = λ m r s. other_start 109 (61 ∷ []) media_line [] (λ e. cc) s.0 s.1 s.2

-- what begins with a section begins with its letter
section_tail : (m : MediaLine) (rest : List ℕ) → IsTail (section_text m ++ rest)
unfolding section_text
section_tail m rest = λ c other e. other (cc)

-- sections, one after the other
sections_begin : (ms : List MediaLine) → IsEach HasLinesThatComeBack ms
    → Begins SectionSays (each_behind [] (map section_text ms)) (map section_as_read ms) []
    × IsTail (each_behind [] (map section_text ms))
sections_begin [] h = (refl, nothing_left)
sections_begin (m ∷ ms) h =
    let more = sections_begin ms h.1 in (
      (
        each_behind [] (map section_text ms),
        section_says m (each_behind [] (map section_text ms)) h.0 more.1,
        more.0,
      ),
      section_tail m (each_behind [] (map section_text ms)),
    )

-- a text whose session is read so
pub text_reads : (sdp : Sdp) (read : Session)
    → (IsTail (sections_text sdp.media_lines)
    → SessionSays (session_text sdp.session ++ sections_text sdp.media_lines) read (sections_text sdp.media_lines))
    → IsEach HasLinesThatComeBack sdp.media_lines → IsTrue (list_all is_consistent sdp.media_lines)
    → SdpSays (sdp_text sdp) (record { session = read; media_lines = map section_as_read sdp.media_lines }) []
unfolding SdpSays
text_reads sdp read says each consistent =
    let sections = sections_begin sdp.media_lines each in
    let same = joined_behind (map section_text sdp.media_lines) in
    let tail = subst IsTail (sym same) sections.1 in (
      sections_text sdp.media_lines,
      says tail,
      (subst (λ t. Begins SectionSays t (map section_as_read sdp.media_lines) []) (sym same) sections.0, no_section),
      all_consistent sdp.media_lines consistent,
    )

pub lines_say : IsExact attribute_line → (sdp : Sdp) → IsPrintableSession sdp.session
    → IsEach HasLinesThatComeBack sdp.media_lines → IsTrue (list_all is_consistent sdp.media_lines)
    → SdpSays (sdp_text sdp) (text_as_read sdp) []
lines_say exact sdp session lines consistent = text_reads sdp sdp.session
    (λ tail. session_says exact sdp.session (sections_text sdp.media_lines) session tail) lines consistent

pub text_says : ListsComeBack → IsExact attribute_line → IsExact media_attribute_line → (sdp : Sdp)
    → IsPrintableText sdp → SdpSays (sdp_text sdp) (text_as_read sdp) []
text_says back exact media_exact sdp h =
    lines_say exact sdp h.0 (sections_printed back media_exact sdp.media_lines h.1) h.2
