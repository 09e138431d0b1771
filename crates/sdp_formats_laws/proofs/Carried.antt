-- What a text says carries over to another text, line by line.
use Rattle.std.proofs.Common.{◌≡◌, ℕ, List, [], ◌∷◌, Option, Some, None, refl, sym, ap, subst}
use Rattle.sdp_formats_reader.specs.Lines.{version_line, origin_line, name_line, other_line, bandwidth_line}
use Rattle.sdp_formats_reader.specs.Lines.{times_line, repeat_line, connection_line, head_line}
use Rattle.sdp_formats_reader.specs.AttributesChoice.{attribute_line as media_line}
use Rattle.sdp_formats_reader.specs.Grammar.{OpeningSays, TimesSay, SessionSays, SectionSays, SdpSays}
use Rattle.sdp_formats_reader.specs.ReaderChoice.{attribute_line as session_line}
use Rattle.sdp_formats_grammar.specs.Line.{LineOf}
use Rattle.sdp_formats_grammar.specs.Step.{Stops, Begins, Many, Perhaps}

-- A step from a text is one from what stands for it, and the other way round, and the rests stand for each other.
pub record Carries {A : Type 0} (f : List ℕ → List ℕ) (OK : List ℕ → Type 0) (S : List ℕ → A → List ℕ
    → Type 0) : Type 0 where
  pub forth : (t : List ℕ) (a : A) (r : List ℕ) → OK t → S t a r → S (f t) a (f r) × OK r
  pub back : (t : List ℕ) (a : A) (r : List ℕ) → OK t → S (f t) a r → (s : List ℕ) × (r ≡ f s) × S t a s × OK s

module _ (f : List ℕ → List ℕ) (OK : List ℕ → Type 0) where
  pub stops_forth : {A : Type 0} (S : List ℕ → A → List ℕ → Type 0) → Carries f OK S → (t : List ℕ) → OK t
      → Stops S t → Stops S (f t)
  stops_forth S c t ok h = λ a r s. let b = c.back t a r ok s in h a b.0 b.2

  pub stops_back : {A : Type 0} (S : List ℕ → A → List ℕ → Type 0) → Carries f OK S → (t : List ℕ) → OK t
      → Stops S (f t) → Stops S t
  stops_back S c t ok h = λ a r s. h a (f r) (c.forth t a r ok s).0

  begins_forth : {A : Type 0} (S : List ℕ → A → List ℕ → Type 0) → Carries f OK S → (t : List ℕ) (as' : List A)
      (r : List ℕ) → OK t → Begins S t as' r → Begins S (f t) as' (f r) × OK r
  begins_forth S c t [] r ok h = (ap f h, subst OK (sym h) ok)
  begins_forth S c t (a ∷ as') r ok h =
      let one = c.forth t a h.0 ok h.1 in
      let more = begins_forth S c h.0 as' r one.1 h.2 in
      ((f h.0, one.0, more.0), more.1)

  begins_back : {A : Type 0} (S : List ℕ → A → List ℕ → Type 0) → Carries f OK S → (t : List ℕ) (as' : List A)
      (r : List ℕ) → OK t → Begins S (f t) as' r → (s : List ℕ) × (r ≡ f s) × Begins S t as' s × OK s
  begins_back S c t [] r ok h = (t, h, refl, ok)
  begins_back S c t (a ∷ as') r ok h =
      let one = c.back t a h.0 ok h.1 in
      let more = begins_back S c one.0 as' r one.3 (subst (λ m. Begins S m as' r) one.1 h.2) in
      (more.0, more.1, (one.0, one.2, more.2), more.3)

  pub many : {A : Type 0} (S : List ℕ → A → List ℕ → Type 0) → Carries f OK S → Carries f OK (Many S)
  many S c = record {
    forth = λ t as' r ok h. let b = begins_forth S c t as' r ok h.0 in ((b.0, stops_forth S c r b.1 h.1), b.1);
    back = λ t as' r ok h.
        let b = begins_back S c t as' r ok h.0 in
        (b.0, b.1, (b.2, stops_back S c b.0 b.3 (subst (Stops S) b.1 h.1)), b.3);
  }

  perhaps_forth : {A : Type 0} (S : List ℕ → A → List ℕ → Type 0) → Carries f OK S → (t : List ℕ) (o : Option A)
      (r : List ℕ) → OK t → Perhaps S t o r → Perhaps S (f t) o (f r) × OK r
  perhaps_forth S c t None r ok h = ((ap f h.0, stops_forth S c t ok h.1), subst OK (sym h.0) ok)
  perhaps_forth S c t (Some a) r ok h = c.forth t a r ok h

  perhaps_back : {A : Type 0} (S : List ℕ → A → List ℕ → Type 0) → Carries f OK S → (t : List ℕ) (o : Option A)
      (r : List ℕ) → OK t → Perhaps S (f t) o r → (s : List ℕ) × (r ≡ f s) × Perhaps S t o s × OK s
  perhaps_back S c t None r ok h = (t, h.0, (refl, stops_back S c t ok h.1), ok)
  perhaps_back S c t (Some a) r ok h = c.back t a r ok h

  pub perhaps : {A : Type 0} (S : List ℕ → A → List ℕ → Type 0) → Carries f OK S → Carries f OK (Perhaps S)
  perhaps S c = record { forth = perhaps_forth S c; back = perhaps_back S c }

  -- each kind of line of a text
  pub record CarriesLines : Type 0 where
    pub version : Carries f OK (LineOf version_line.Says)
    pub origin : Carries f OK (LineOf origin_line.Says)
    pub name : Carries f OK (LineOf name_line.Says)
    pub others : Carries f OK (LineOf other_line.Says)
    pub bandwidth : Carries f OK (LineOf bandwidth_line.Says)
    pub times : Carries f OK (LineOf times_line.Says)
    pub repeats : Carries f OK (LineOf repeat_line.Says)
    pub attribute : Carries f OK (LineOf session_line.Says)
    pub head : Carries f OK (LineOf head_line.Says)
    pub connection : Carries f OK (LineOf connection_line.Says)
    pub media : Carries f OK (LineOf media_line.Says)

  opening : CarriesLines → Carries f OK OpeningSays
  unfolding OpeningSays
  opening c = record {
    forth = λ t id r ok h.
        let v = c.version.forth t h.0 h.1 ok h.2 in
        let o = c.origin.forth h.1 id h.3 v.1 h.4 in
        let s = c.name.forth h.3 h.5 r o.1 h.6 in
        ((h.0, f h.1, v.0, f h.3, o.0, h.5, s.0), s.1);
    back = λ t id r ok h.
        let v = c.version.back t h.0 h.1 ok h.2 in
        let o = c.origin.back v.0 id h.3 v.3 (subst (λ x. LineOf origin_line.Says x id h.3) v.1 h.4) in
        let s = c.name.back o.0 h.5 r o.3 (subst (λ x. LineOf name_line.Says x h.5 r) o.1 h.6) in
        (s.0, s.1, (h.0, v.0, v.2, o.0, o.2, h.5, s.2), s.3);
  }

  timed : CarriesLines → Carries f OK TimesSay
  unfolding TimesSay
  timed c = record {
    forth = λ t p r ok h.
        let one = c.times.forth t p h.0 ok h.1 in
        let rs = (many (LineOf repeat_line.Says) c.repeats).forth h.0 h.2 r one.1 h.3 in
        ((f h.0, one.0, h.2, rs.0), rs.1);
    back = λ t p r ok h.
        let one = c.times.back t p h.0 ok h.1 in
        let rs = (many (LineOf repeat_line.Says) c.repeats).back one.0 h.2 r one.3
        (subst (λ x. Many (LineOf repeat_line.Says) x h.2 r) one.1 h.3) in
        (rs.0, rs.1, (one.0, one.2, h.2, rs.2), rs.3);
  }

  pub session : CarriesLines → Carries f OK SessionSays
  unfolding SessionSays
  session c = record {
    forth = λ t s r ok h.
        let one = (opening c).forth t s.id h.0 ok h.1 in
        let two = (many (LineOf other_line.Says) c.others).forth h.0 h.2 h.3 one.1 h.4 in
        let three = (perhaps (LineOf bandwidth_line.Says) c.bandwidth).forth h.3 s.bw h.5 two.1 h.6 in
        let four = (timed c).forth h.5 h.7 h.8 three.1 h.9 in
        let five = (many (LineOf session_line.Says) c.attribute).forth h.8 s.attrs r four.1 h.10 in
        ((f h.0, one.0, h.2, f h.3, two.0, f h.5, three.0, h.7, f h.8, four.0, five.0), five.1);
    back = λ t s r ok h.
        let one = (opening c).back t s.id h.0 ok h.1 in
        let two = (many (LineOf other_line.Says) c.others).back one.0 h.2 h.3 one.3
        (subst (λ x. Many (LineOf other_line.Says) x h.2 h.3) one.1 h.4) in
        let three = (perhaps (LineOf bandwidth_line.Says) c.bandwidth).back two.0 s.bw h.5 two.3
        (subst (λ x. Perhaps (LineOf bandwidth_line.Says) x s.bw h.5) two.1 h.6) in
        let four = (timed c).back three.0 h.7 h.8 three.3 (subst (λ x. TimesSay x h.7 h.8) three.1 h.9) in
        let five = (many (LineOf session_line.Says) c.attribute).back four.0 s.attrs r four.3
        (subst (λ x. Many (LineOf session_line.Says) x s.attrs r) four.1 h.10) in
        (five.0, five.1, (one.0, one.2, h.2, two.0, two.2, three.0, three.2, h.7, four.0, four.2, five.2), five.3);
  }

  section : CarriesLines → Carries f OK SectionSays
  unfolding SectionSays
  section c = record {
    forth = λ t m r ok h.
        let one = c.head.forth t h.0 h.1 ok h.2 in
        let two = (perhaps (LineOf connection_line.Says) c.connection).forth h.1 h.4 h.5 one.1 h.6 in
        let three = (perhaps (LineOf bandwidth_line.Says) c.bandwidth).forth h.5 m.bw h.7 two.1 h.8 in
        let four = (many (LineOf media_line.Says) c.media).forth h.7 m.attrs r three.1 h.9 in
        ((h.0, f h.1, one.0, h.3, h.4, f h.5, two.0, f h.7, three.0, four.0), four.1);
    back = λ t m r ok h.
        let one = c.head.back t h.0 h.1 ok h.2 in
        let two = (perhaps (LineOf connection_line.Says) c.connection).back one.0 h.4 h.5 one.3
        (subst (λ x. Perhaps (LineOf connection_line.Says) x h.4 h.5) one.1 h.6) in
        let three = (perhaps (LineOf bandwidth_line.Says) c.bandwidth).back two.0 m.bw h.7 two.3
        (subst (λ x. Perhaps (LineOf bandwidth_line.Says) x m.bw h.7) two.1 h.8) in
        let four = (many (LineOf media_line.Says) c.media).back three.0 m.attrs r three.3
        (subst (λ x. Many (LineOf media_line.Says) x m.attrs r) three.1 h.9) in
        (four.0, four.1, (h.0, one.0, one.2, h.3, h.4, two.0, two.2, three.0, three.2, four.2), four.3);
  }

  pub texts : CarriesLines → Carries f OK SdpSays
  unfolding SdpSays
  texts c = record {
    forth = λ t sdp r ok h.
        let one = (session c).forth t sdp.session h.0 ok h.1 in
        let two = (many SectionSays (section c)).forth h.0 sdp.media_lines r one.1 h.2 in
        ((f h.0, one.0, two.0, h.3), two.1);
    back = λ t sdp r ok h.
        let one = (session c).back t sdp.session h.0 ok h.1 in
        let two = (many SectionSays (section c)).back one.0 sdp.media_lines r one.3
        (subst (λ x. Many SectionSays x sdp.media_lines r) one.1 h.2) in
        (two.0, two.1, (one.0, one.2, two.2, h.3), two.3);
  }
