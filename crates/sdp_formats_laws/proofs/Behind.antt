-- What is read of a text, and of it with another after it.
use Rattle.std.proofs.Common.{◌≡◌, ◌≢◌, ℕ, Bool, true, false, ◌&&◌, List, [], ◌∷◌, ◌++◌, Option, Some, None, IsTrue}
use Rattle.std.proofs.Common.{refl, sym, ◌∙◌, ap, subst}
use Rattle.std.specs.List.{list_all}
use Rattle.sdp_formats_grammar.specs.Cuts.{IsCut, somewhere, nowhere, cut_of}
use Rattle.sdp_formats_grammar.specs.Form.{IsExact}
use Rattle.sdp_formats_grammar.specs.Line.{LineOf}
use Rattle.sdp_formats_grammar.specs.Step.{Stops, Begins, Many, Perhaps}
use Rattle.sdp_formats_reader.specs.AttributesChoice.{attribute_line as media_line}
use Rattle.sdp_formats_reader.specs.ReaderChoice.{attribute_line as session_line}
use Rattle.sdp_formats_reader.specs.declared.media.MediaHead.{MediaHead}
use Rattle.sdp_formats_reader.specs.Lines.{version_line, origin_line, name_line, other_line, bandwidth_line}
use Rattle.sdp_formats_reader.specs.Lines.{times_line, repeat_line, connection_line, head_line}
use Rattle.sdp_formats_data.specs.Consistency.{is_consistent}
use Rattle.sdp_formats_reader.specs.Grammar.{OpeningSays, TimesSay, SessionSays, SectionSays, SdpSays}
use Rattle.sdp_formats_data.specs.declared.media.MediaLine.{MediaLine}
use Rattle.sdp_formats_data.specs.declared.session.Session.{Session}
use Rattle.sdp_formats_data.specs.declared.session.SessionAttribute.{SessionAttribute}
use Rattle.sdp_formats_laws.proofs.MoreBehind.{at_cut, forth, never_ended}
use Rattle.sdp_formats_laws.specs.LineEnds.{is_ended}
use Rattle.sdp_formats_laws.proofs.Found.{as_many, perhaps_one}
use Rattle.sdp_formats_laws.proofs.Heads.{bandwidth-exact, connection-exact}
use Rattle.sdp_formats_laws.proofs.Stopping.{first, line_first}
use Rattle.sdp_formats_laws.specs.Behind.{GoesOnWithNothing, SessionStaysWithWhatFitsNowhere}
use Rattle.sdp_formats_laws.specs.Behind.{StaysWithWhatFitsNowhere}

abbrev IsEnded : List ℕ → Type 0
IsEnded t = is_ended t ≡ true

not_both : false ≡ true → ⊥
not_both h = cc

both_of : (a b : Bool) → IsTrue (a && b) → IsTrue a × IsTrue b
both_of true b h = (refl, h)
both_of false b h = absurd (not_both h)

-- if a line begins there is some text
some_first : (c : List ℕ) → c ≢ [] → first c ≡ None → ⊥
some_first [] some e = some refl
some_first (b ∷ c) some e = cc

line_starts : {A : Type 0} (F : List ℕ → A → Type 0) (t : List ℕ) (a : A) (r : List ℕ) → LineOf F t a r → t ≢ []
line_starts F t a r h e = some_first h.0 h.1.3 (line_first t h.0 r h.1 ∙ ap first e)

some_starts : {A : Type 0} (F : List ℕ → A → Type 0) (t : List ℕ) (as' : List A) (r : List ℕ)
    → Begins (LineOf F) t as' r → as' ≢ [] → t ≢ []
some_starts F t [] r h some = absurd (some refl)
some_starts F t (a ∷ as') r h some = line_starts F t a h.0 h.1

perhaps_starts : {A : Type 0} (F : List ℕ → A → Type 0) (t : List ℕ) (o : Option A) (r : List ℕ)
    → Perhaps (LineOf F) t o r → r ≢ [] → t ≢ []
perhaps_starts F t None r h some = λ e. some (h.0 ∙ e)
perhaps_starts F t (Some a) r h some = line_starts F t a r h

none_left : {A : Type 0} {a : A} {as' : List A} → [] ≡ a ∷ as' → ⊥
none_left e = cc

-- a section has an attribute, its `a=mid` at least
has_attribute : (m : MediaLine) → IsTrue (is_consistent m) → m.attrs ≢ []
has_attribute m h e = not_both (subst (λ attrs. IsTrue (is_consistent (record m { attrs = attrs }))) e h)

module _ (more : List ℕ) where
  -- a line that isn't there isn't there with the text after it
  still_stops : {A : Type 0} (F : List ℕ → A → Type 0) (t : List ℕ) → IsCut 10 t → IsEnded t
      → (t ≡ [] → Stops (LineOf F) more) → Stops (LineOf F) t → Stops (LineOf F) (t ++ more)
  still_stops F t (somewhere front rest whole lacks) ok last h = λ a r s.
      let one = at_cut more t front rest s.0 r whole lacks ok s.1 in h a one.0 (s.0, one.2, s.2)
  still_stops F [] (nowhere lacks) ok last h = last refl
  still_stops F (b ∷ t) (nowhere lacks) ok last h = absurd (never_ended (b ∷ t) (λ e. cc) lacks ok)

  line : {A : Type 0} (F : List ℕ → A → Type 0) (t : List ℕ) (a : A) (r : List ℕ) → IsEnded t → LineOf F t a r
      → LineOf F (t ++ more) a (r ++ more) × IsEnded r
  line F t a r ok h = let one = forth more t h.0 r ok h.1 in ((h.0, one.0, h.2), one.1)

  lines : {A : Type 0} (F : List ℕ → A → Type 0) (t : List ℕ) (as' : List A) (r : List ℕ) → IsEnded t
      → Begins (LineOf F) t as' r → Begins (LineOf F) (t ++ more) as' (r ++ more) × IsEnded r
  lines F t [] r ok h = (ap (λ x. x ++ more) h, subst IsEnded (sym h) ok)
  lines F t (a ∷ as') r ok h =
      let one = line F t a h.0 ok h.1 in
      let others = lines F h.0 as' r one.1 h.2 in ((h.0 ++ more, one.0, others.0), others.1)

  many : {A : Type 0} (F : List ℕ → A → Type 0) (t : List ℕ) (as' : List A) (r : List ℕ) → IsEnded t
      → (r ≡ [] → Stops (LineOf F) more) → Many (LineOf F) t as' r
      → Many (LineOf F) (t ++ more) as' (r ++ more) × IsEnded r
  many F t as' r ok last h =
      let b = lines F t as' r ok h.0 in ((b.0, still_stops F r (cut_of 10 r) b.1 last h.1), b.1)

  perhaps : {A : Type 0} (F : List ℕ → A → Type 0) (t : List ℕ) (o : Option A) (r : List ℕ) → IsEnded t → t ≢ []
      → Perhaps (LineOf F) t o r → Perhaps (LineOf F) (t ++ more) o (r ++ more) × IsEnded r
  perhaps F t None r ok some h = (
    (ap (λ x. x ++ more) h.0, still_stops F t (cut_of 10 t) ok (λ e. absurd (some e)) h.1),
    subst IsEnded (sym h.0) ok,
  )
  perhaps F t (Some a) r ok some h = line F t a r ok h

  opening : (t : List ℕ) (id : ℕ) (r : List ℕ) → IsEnded t → OpeningSays t id r
      → OpeningSays (t ++ more) id (r ++ more) × IsEnded r
  unfolding OpeningSays
  opening t id r ok h =
      let v = line version_line.Says t h.0 h.1 ok h.2 in
      let o = line origin_line.Says h.1 id h.3 v.1 h.4 in
      let s = line name_line.Says h.3 h.5 r o.1 h.6 in
      ((h.0, h.1 ++ more, v.0, h.3 ++ more, o.0, h.5, s.0), s.1)

  times_start : (t : List ℕ) (p : _) (r : List ℕ) → TimesSay t p r → t ≢ []
  unfolding TimesSay
  times_start t p r h = line_starts times_line.Says t p h.0 h.1

  times : (t : List ℕ) (p : _) (r : List ℕ) → IsEnded t → (r ≡ [] → Stops (LineOf repeat_line.Says) more)
      → TimesSay t p r → TimesSay (t ++ more) p (r ++ more) × IsEnded r
  unfolding TimesSay
  times t p r ok last h =
      let one = line times_line.Says t p h.0 ok h.1 in
      let rs = many repeat_line.Says h.0 h.2 r one.1 last h.3 in
      ((h.0 ++ more, one.0, h.2, rs.0), rs.1)

  -- after the line `t=` and its lines `r=` there is nothing if no attribute and no section follow
  nothing_left : (t : List ℕ) (attrs : List SessionAttribute) (r : List ℕ)
      → (attrs ≡ [] → r ≡ [] → Stops (LineOf repeat_line.Says) more) → Begins (LineOf session_line.Says) t attrs r
      → t ≡ [] → Stops (LineOf repeat_line.Says) more
  nothing_left t [] r last h = λ e. last refl (h ∙ e)
  nothing_left t (a ∷ as') r last h = λ e. absurd (line_starts session_line.Says t a h.0 h.1 e)

  session : (t : List ℕ) (s : Session) (r : List ℕ) → IsEnded t
      → (s.attrs ≡ [] → r ≡ [] → Stops (LineOf repeat_line.Says) more)
      → (r ≡ [] → Stops (LineOf session_line.Says) more) → SessionSays t s r
      → SessionSays (t ++ more) s (r ++ more) × IsEnded r
  unfolding SessionSays
  session t s r ok repeats last h =
      let start = times_start h.5 h.7 h.8 h.9 in
      let before = perhaps_starts bandwidth_line.Says h.3 s.bw h.5 h.6 start in
      let one = opening t s.id h.0 ok h.1 in
      let two = many other_line.Says h.0 h.2 h.3 one.1 (λ e. absurd (before e)) h.4 in
      let three = perhaps bandwidth_line.Says h.3 s.bw h.5 two.1 before h.6 in
      let four = times h.5 h.7 h.8 three.1 (nothing_left h.8 s.attrs r repeats h.10.0) h.9 in
      let five = many session_line.Says h.8 s.attrs r four.1 last h.10 in
      ((h.0 ++ more, one.0, h.2, h.3 ++ more, two.0, h.5 ++ more, three.0, h.7, h.8 ++ more, four.0, five.0), five.1)

  section : (t : List ℕ) (m : MediaLine) (r : List ℕ) → IsEnded t → IsTrue (is_consistent m)
      → (r ≡ [] → Stops (LineOf media_line.Says) more) → SectionSays t m r
      → SectionSays (t ++ more) m (r ++ more) × IsEnded r
  unfolding SectionSays
  section t m r ok fine last h =
      let three_starts = some_starts media_line.Says h.7 m.attrs r h.9.0 (has_attribute m fine) in
      let two_starts = perhaps_starts bandwidth_line.Says h.5 m.bw h.7 h.8 three_starts in
      let one_starts = perhaps_starts connection_line.Says h.1 h.4 h.5 h.6 two_starts in
      let one = line head_line.Says t h.0 h.1 ok h.2 in
      let two = perhaps connection_line.Says h.1 h.4 h.5 one.1 one_starts h.6 in
      let three = perhaps bandwidth_line.Says h.5 m.bw h.7 two.1 two_starts h.8 in
      let four = many media_line.Says h.7 m.attrs r three.1 last h.9 in
      ((h.0, h.1 ++ more, one.0, h.3, h.4, h.5 ++ more, two.0, h.7 ++ more, three.0, four.0), four.1)

  sections_start : (t : List ℕ) (m : MediaLine) (r : List ℕ) → SectionSays t m r → t ≢ []
  unfolding SectionSays
  sections_start t m r h = line_starts head_line.Says t h.0 h.1 h.2

  -- of several sections only the last one can end with the text
  last_only : (t : List ℕ) (ms : List MediaLine) (r : List ℕ) → (r ≡ [] → Stops (LineOf media_line.Says) more)
      → Begins SectionSays t ms r → t ≡ [] → Stops (LineOf media_line.Says) more
  last_only t [] r last h = λ e. last (h ∙ e)
  last_only t (m ∷ ms) r last h = λ e. absurd (sections_start t m h.0 h.1 e)

  sections : (t : List ℕ) (ms : List MediaLine) (r : List ℕ) → IsEnded t → IsTrue (list_all is_consistent ms)
      → (r ≡ [] → Stops (LineOf media_line.Says) more) → Begins SectionSays t ms r
      → Begins SectionSays (t ++ more) ms (r ++ more) × IsEnded r
  sections t [] r ok fine last h = (ap (λ x. x ++ more) h, subst IsEnded (sym h) ok)
  sections t (m ∷ ms) r ok fine last h =
      let each = both_of (is_consistent m) (list_all is_consistent ms) fine in
      let one = section t m h.0 ok each.0 (last_only h.0 ms r last h.2) h.1 in
      let others = sections h.0 ms r one.1 each.1 last h.2 in
      ((h.0 ++ more, one.0, others.0), others.1)

  session_alone : (t : List ℕ) (s : Session) (r : List ℕ) (attrs : List SessionAttribute) → s.attrs ≡ attrs
      → IsEnded t → (r ≡ [] → GoesOnWithNothing attrs [] more) → SessionSays t s r
      → SessionSays (t ++ more) s (r ++ more) × IsEnded r
  session_alone t s r [] e ok last h = session t s r ok (λ a b. (last b).1) (λ b. (last b).0) h
  session_alone t s r (a ∷ as') e ok last h = session t s r ok (λ n. absurd (none_left (sym n ∙ e))) last h

  both : (t one r : List ℕ) (s : Session) (ms : List MediaLine) → IsEnded t → IsTrue (list_all is_consistent ms)
      → (r ≡ [] → GoesOnWithNothing s.attrs ms more) → SessionSays t s one → Begins SectionSays one ms r
      → SessionSays (t ++ more) s (one ++ more) × Begins SectionSays (one ++ more) ms (r ++ more) × IsEnded r
  both t one r s [] ok fine last h b =
      let said = session_alone t s one s.attrs refl ok (λ e. last (b ∙ e)) h in
      (said.0, ap (λ x. x ++ more) b, subst IsEnded (sym b) said.1)
  both t one r s (m ∷ ms) ok fine last h b =
      let start = sections_start one m b.0 b.1 in
      let said = session t s one ok (λ a e. absurd (start e)) (λ e. absurd (start e)) h in
      let parts = sections one (m ∷ ms) r said.1 fine last b in
      (said.0, parts.0, parts.1)

  -- no section begins where something is left unread, whatever follows it
  begun : IsExact media_line → (t : List ℕ) (head : MediaHead) (r : List ℕ) → LineOf head_line.Says t head r
      → (m : MediaLine) × (s : List ℕ) × SectionSays t m s
  unfolding SectionSays
  begun exact t head r h =
      let c = perhaps_one connection_line connection-exact r in
      let b = perhaps_one bandwidth_line bandwidth-exact c.1 in
      let attrs = as_many media_line exact b.1 in (
        record {
          typ = head.typ;
          disabled = head.disabled;
          proto = head.proto;
          pts = head.pts;
          bw = b.0;
          attrs = attrs.0;
        },
        attrs.1,
        (head, r, h, (refl, refl, refl, refl), c.0, c.1, c.2, b.1, b.2, attrs.2),
      )

  pub headed : (t : List ℕ) (m : MediaLine) (r : List ℕ) → SectionSays t m r
      → (head : MediaHead) × (s : List ℕ) × LineOf head_line.Says t head s
  unfolding SectionSays
  headed t m r h = (h.0, h.1, h.2)

  still_unread : IsExact media_line → (t : List ℕ) → IsCut 10 t → t ≢ [] → IsEnded t → Stops SectionSays t
      → Stops SectionSays (t ++ more)
  still_unread exact t (somewhere front rest whole lacks) some ok h = λ m r s.
      let head = headed (t ++ more) m r s in
      let one = at_cut more t front rest head.2.0 head.1 whole lacks ok head.2.1 in
      let section = begun exact t head.0 one.0 (head.2.0, one.2, head.2.2) in
      h section.0 section.1 section.2
  still_unread exact [] (nowhere lacks) some ok h = absurd (some refl)
  still_unread exact (b ∷ t) (nowhere lacks) some ok h = absurd (never_ended (b ∷ t) (λ e. cc) lacks ok)

  no_section : IsExact media_line → (r : List ℕ) → IsEnded r → (r ≡ [] → Stops SectionSays more)
      → Stops SectionSays r → Stops SectionSays (r ++ more)
  no_section exact [] ok last h = last refl
  no_section exact (b ∷ r) ok last h = still_unread exact (b ∷ r) (cut_of 10 (b ∷ r)) (λ e. cc) ok h

  -- what is left after the text begins with none of what would go on with it
  last_section : (t : List ℕ) (m : MediaLine) (ms : List MediaLine) (r : List ℕ) → Begins SectionSays t (m ∷ ms) r
      → Stops (LineOf media_line.Says) r
  unfolding SectionSays
  last_section t m [] r h = subst (Stops (LineOf media_line.Says)) (sym h.2) h.1.9.1
  last_section t m (other ∷ ms) r h = last_section h.0 other ms r h.2

  no_repeat : (t : List ℕ) (p : _) (r : List ℕ) → TimesSay t p r → Stops (LineOf repeat_line.Says) r
  unfolding TimesSay
  no_repeat t p r h = h.3.1

  last_of_session : (t : List ℕ) (s : Session) (r : List ℕ) (attrs : List SessionAttribute) → s.attrs ≡ attrs
      → SessionSays t s r → GoesOnWithNothing attrs [] r
  unfolding SessionSays
  last_of_session t s r [] e h =
      let same : r ≡ h.8 = subst (λ as'. Begins (LineOf session_line.Says) h.8 as' r) e h.10.0 in
      (h.10.1, subst (Stops (LineOf repeat_line.Says)) (sym same) (no_repeat h.5 h.7 h.8 h.9))
  last_of_session t s r (a ∷ as') e h = h.10.1

  last_part : (t one : List ℕ) (s : Session) (ms : List MediaLine) (r : List ℕ) → SessionSays t s one
      → Begins SectionSays one ms r → GoesOnWithNothing s.attrs ms r
  last_part t one s [] r h b =
      subst (GoesOnWithNothing s.attrs []) (sym b) (last_of_session t s one s.attrs refl h)
  last_part t one s (m ∷ ms) r h b = last_section one m ms r b

pub stays_with_what_fits_nowhere : IsExact media_line → StaysWithWhatFitsNowhere
unfolding SdpSays
stays_with_what_fits_nowhere exact text more rest sdp ok h = (
  λ fits.
      let b = both more text h.0 rest sdp.session sdp.media_lines ok h.3 (λ e. (fits e).0) h.1 h.2.0 in
      (h.0 ++ more, b.0, (b.1, no_section more exact rest b.2 (λ e. (fits e).1) h.2.1), h.3),
  λ said e.
      let left : rest ++ more ≡ more = ap (λ r. r ++ more) e in (
        subst (GoesOnWithNothing sdp.session.attrs sdp.media_lines) left
            (last_part more (text ++ more) said.0 sdp.session sdp.media_lines (rest ++ more) said.1 said.2.0),
        subst (Stops SectionSays) left said.2.1,
      ),
)

pub session_stays_with_what_fits_nowhere : SessionStaysWithWhatFitsNowhere
session_stays_with_what_fits_nowhere text more rest session ok h = (
  λ fits. (session_alone more text session rest session.attrs refl ok fits h).0,
  λ said e.
      subst (GoesOnWithNothing session.attrs []) (ap (λ r. r ++ more) e)
      (last_of_session more (text ++ more) session (rest ++ more) session.attrs refl said),
)
