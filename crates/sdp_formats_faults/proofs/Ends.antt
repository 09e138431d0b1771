-- What is left of a text is its end.
use Rattle.std.proofs.Common.{◌≡◌, ◌++◌, ℕ, List, [], ◌∷◌, Option, Some, None, sym, ◌∙◌, ap}
use Rattle.std.proofs.Common.{append_assoc, inl, inr}
use Rattle.std.proofs.lemmas.List.{append-nil}
use Rattle.sdp_formats_grammar.specs.Line.{IsEnded, LineOf}
use Rattle.sdp_formats_grammar.specs.Step.{Step, Begins, Perhaps}
use Rattle.sdp_formats_reader.specs.AttributesChoice.{attribute_line as media_line}
use Rattle.sdp_formats_reader.specs.ReaderChoice.{attribute_line as session_line}
use Rattle.sdp_formats_reader.specs.Lines.{version_line, origin_line, name_line, other_line, bandwidth_line}
use Rattle.sdp_formats_reader.specs.Lines.{times_line, repeat_line, connection_line, head_line}
use Rattle.sdp_formats_reader.specs.Grammar.{OpeningSays, TimesSay, SessionSays, SectionSays, SdpSays}
use Rattle.sdp_formats_data.specs.declared.session.Sdp.{Sdp}
use Rattle.sdp_formats_faults.specs.Faults.{FailsAt, BeforeTimes}
use Rattle.sdp_formats_faults.specs.Walking.{EndsWith}
use Rattle.sdp_formats_faults.specs.declared.fault.LineFault.{LineFault}
use Rattle.sdp_formats_faults.specs.declared.fault.LineFault.TheVariants.{Version, Origin, Name, Times, Section, Stray}

-- Each step of a kind leaves an end of the text.
abbrev Leaves : {A : Type 0} → Step A → Type 0
Leaves S = (t : List ℕ) (a : _) (r : List ℕ) → S t a r → EndsWith t r

same_end : (t r : List ℕ) → r ≡ t → EndsWith t r
same_end t r h = ([], sym h)

then-end : (t m r : List ℕ) → EndsWith t m → EndsWith m r → EndsWith t r
then-end t m r h k =
    (h.0 ++ k.0, h.1 ∙ ap (λ x. h.0 ++ x) k.1 ∙ sym (append_assoc h.0 k.0 r))

ended-end : (t c r : List ℕ) → IsEnded t c r → EndsWith t r
ended-end t c r (inl e) = (c ++ 10 ∷ [], e ∙ sym (append_assoc c (10 ∷ []) r))
ended-end t c r (inr (inl e)) = (c ++ 13 ∷ 10 ∷ [], e ∙ sym (append_assoc c (13 ∷ 10 ∷ []) r))
ended-end t c r (inr (inr e)) = (t, sym (append-nil t) ∙ ap (λ x. t ++ x) (sym e.1))

line-end : {A : Type 0} (F : List ℕ → A → Type 0) → Leaves (LineOf F)
line-end F t a r h = ended-end t h.0 r h.1.0

begins-end : {A : Type 0} (S : Step A) → Leaves S → (t : List ℕ) (as' : List A) (r : List ℕ) → Begins S t as' r
    → EndsWith t r
begins-end S f t [] r h = same_end t r h
begins-end S f t (a ∷ as') r h = then-end t h.0 r (f t a h.0 h.1) (begins-end S f h.0 as' r h.2)

perhaps-end : {A : Type 0} (S : Step A) → Leaves S → (t : List ℕ) (a : Option A) (r : List ℕ) → Perhaps S t a r
    → EndsWith t r
perhaps-end S f t None r h = same_end t r h.0
perhaps-end S f t (Some a) r h = f t a r h

opening-end : Leaves OpeningSays
unfolding OpeningSays
opening-end t a r h = then-end t h.1 r (line-end version_line.Says t h.0 h.1 h.2)
    (then-end h.1 h.3 r (line-end origin_line.Says h.1 a h.3 h.4) (line-end name_line.Says h.3 h.5 r h.6))

times-end : Leaves TimesSay
unfolding TimesSay
times-end t a r h = then-end t h.0 r (line-end times_line.Says t a h.0 h.1)
    (begins-end (LineOf repeat_line.Says) (line-end repeat_line.Says) h.0 h.2 r h.3.0)

session-end : Leaves SessionSays
unfolding SessionSays
session-end t a r h = then-end t h.0 r (opening-end t a.id h.0 h.1)
    (then-end h.0 h.3 r (begins-end (LineOf other_line.Says) (line-end other_line.Says) h.0 h.2 h.3 h.4.0)
    (then-end h.3 h.5 r (perhaps-end (LineOf bandwidth_line.Says) (line-end bandwidth_line.Says) h.3 a.bw h.5 h.6)
    (then-end h.5 h.8 r (times-end h.5 h.7 h.8 h.9)
    (begins-end (LineOf session_line.Says) (line-end session_line.Says) h.8 a.attrs r h.10.0))))

section-end : Leaves SectionSays
unfolding SectionSays
section-end t a r h = then-end t h.1 r (line-end head_line.Says t h.0 h.1 h.2)
    (then-end h.1 h.5 r (perhaps-end (LineOf connection_line.Says) (line-end connection_line.Says) h.1 h.4 h.5 h.6)
    (then-end h.5 h.7 r (perhaps-end (LineOf bandwidth_line.Says) (line-end bandwidth_line.Says) h.5 a.bw h.7 h.8)
    (begins-end (LineOf media_line.Says) (line-end media_line.Says) h.7 a.attrs r h.9.0)))

sdp-end : Leaves SdpSays
unfolding SdpSays
sdp-end t a r h = then-end t h.0 r (session-end t a.session h.0 h.1)
    (begins-end SectionSays section-end h.0 a.media_lines r h.2.0)

before-end : (t r : List ℕ) → BeforeTimes t r → EndsWith t r
before-end t r h = then-end t h.1 r (opening-end t h.0 h.1 h.2)
    (then-end h.1 h.4 r (begins-end (LineOf other_line.Says) (line-end other_line.Says) h.1 h.3 h.4 h.5.0)
    (perhaps-end (LineOf bandwidth_line.Says) (line-end bandwidth_line.Says) h.4 h.6 r h.7))

-- Where reading fails is an end of the text.
pub fails-end : (t r : List ℕ) (fault : LineFault) → FailsAt t r fault → EndsWith t r
fails-end t r Version h = same_end t r h.0
fails-end t r Origin h = line-end version_line.Says t h.0 r h.1
fails-end t r Name h = then-end t h.1 r (line-end version_line.Says t h.0 h.1 h.2)
    (line-end origin_line.Says h.1 h.3 r h.4)
fails-end t r Times h = before-end t r h.0
fails-end t r (Section fault) h = then-end t h.1 r (session-end t h.0 h.1 h.2)
    (begins-end SectionSays section-end h.1 h.3.0 r h.3.1)
fails-end t r Stray h = sdp-end t h.0 r h.1

pub read-end : (t : List ℕ) (sdp : Sdp) (r : List ℕ) → SdpSays t sdp r → EndsWith t r
read-end t sdp r h = sdp-end t sdp r h
