-- Walks over a text, line by line and section by section.
use Rattle.std.proofs.Common.{◌≡◌, ◌&&◌, ℕ, Bool, true, false, List, [], ◌∷◌, ◌++◌, Option, Some, None, Err}
use Rattle.std.proofs.Common.{Bor, IsTrue, arith, refl, sym, subst, ap, is_none}
use Rattle.std.specs.List.{list_all}
use Rattle.sdp_formats_grammar.specs.declared.refusal.Refusal.{Refusal}
use Rattle.sdp_formats_grammar.specs.declared.refusal.Refusal.TheVariants.{Unfit, Memory}
use Rattle.sdp_formats_grammar.specs.Line.{LineOf}
use Rattle.sdp_formats_grammar.specs.LineLemmas.{line-shorter}
use Rattle.sdp_formats_grammar.specs.Step.{Step, Steps, Stops, Begins, Many, Perhaps, IsShortening}
use Rattle.sdp_formats_grammar.specs.StepLemmas.{begins-more, many-shorter, perhaps-shorter}
use Rattle.sdp_formats_reader.specs.Grammar.{OpeningSays, TimesSay, SessionSays, SectionSays, SdpSays}
use Rattle.sdp_formats_reader.specs.Lines.{version_line, origin_line, name_line, other_line, bandwidth_line}
use Rattle.sdp_formats_reader.specs.Lines.{times_line, repeat_line, connection_line, head_line}
use Rattle.sdp_formats_reader.specs.AttributesChoice.{attribute_line as media_line}
use Rattle.sdp_formats_reader.specs.ReaderChoice.{attribute_line as session_line}
use Rattle.sdp_formats_reader.specs.declared.passed.Passed as kept
use Rattle.sdp_formats_data.specs.Consistency.{fault_of, is_consistent}
use Rattle.sdp_formats_data.specs.declared.Inconsistency.{Inconsistency}
use Rattle.sdp_formats_data.specs.declared.media.MediaLine.{MediaLine}
use Rattle.sdp_formats_data.specs.declared.session.Sdp.{Sdp}
use Rattle.sdp_formats_data.specs.declared.session.Session.{Session}
use Rattle.sdp_formats_data.specs.declared.session.SessionAttribute.{SessionAttribute}
use Rattle.sdp_formats_values.specs.declared.bandwidth.Bandwidth.{Bandwidth}
use Rattle.sdp_formats_faults.specs.Faults.{FailsAt, IsFaultySection}
use Rattle.sdp_formats_faults.specs.Walking.{AreSections, SectionFails, TakesLine}
use Rattle.sdp_formats_faults.specs.declared.fault.LineFault.TheVariants.{Section}

-- a line that is there
abbrev pub HasLine : {A : Type 0} → (List ℕ → A → Type 0) → List ℕ → List ℕ → Type 0
HasLine F text rest = (a : _) × LineOf F text a rest

pub taken : {A : Type 0} (F : List ℕ → A → Type 0) (t : List ℕ) (o : Option (Bor (List ℕ))) (r : Bor (List ℕ))
    → TakesLine F t o → o ≡ Some r → HasLine F t r.now
taken F t o r h is = subst (TakesLine F t) is h

pub opens : (t one two rest : List ℕ) → HasLine version_line.Says t one → HasLine origin_line.Says one two
    → HasLine name_line.Says two rest → (id : ℕ) × OpeningSays t id rest
unfolding OpeningSays
opens t one two rest v o n = (o.0, (v.0, one, v.1, two, o.1, n.0, n.1))

pub heads : (t one two three four five rest : List ℕ) → (id : ℕ) × OpeningSays t id one
    → (others : List kept.Passed) → Many (LineOf other_line.Says) one others two
    → (bw : Option Bandwidth) → Perhaps (LineOf bandwidth_line.Says) two bw three → HasLine times_line.Says three four
    → (rs : List kept.Passed) → Many (LineOf repeat_line.Says) four rs five
    → (attrs : List SessionAttribute) → Many (LineOf session_line.Says) five attrs rest
    → (session : Session) × SessionSays t session rest
unfolding SessionSays TimesSay
heads t one two three four five rest o others m bw p times rs r attrs a = (
  record { id = o.0; bw = bw; attrs = attrs },
  (one, o.1, others, two, m, three, p, times.0, five, (four, times.1, rs, r), a),
)

-- a section that isn't there
pub no-section : (t : List ℕ) → Stops (LineOf head_line.Says) t → Stops SectionFails t
unfolding SectionSays
no-section t stops = λ fault r h. stops h.1.0 h.1.1 h.1.2

pub err-as : {A B : Type 0} (S : Step A) (W : Step B) (t u : List ℕ) (e : Refusal) → Steps {A = A} S t (Err e)
    → (Stops S t → Stops W u) → Steps {A = B} W u (Err e)
err-as S W t u Unfit h f = f h
err-as S W t u Memory h f = tt

pub section-shorter : IsShortening SectionSays
unfolding SectionSays
section-shorter t a r h =
    omega (
      arith,
      line-shorter head_line.Says t h.0 h.1 h.2,
      perhaps-shorter _ (line-shorter connection_line.Says) h.1 h.4 h.5 h.6,
      perhaps-shorter _ (line-shorter bandwidth_line.Says) h.5 a.bw h.7 h.8,
      many-shorter _ (line-shorter media_line.Says) h.7 a.attrs r h.9.0,
    )

-- consistent sections up to what is left
abbrev pub Passed : List ℕ → List ℕ → Type 0
Passed text left = (before : List MediaLine) × Begins SectionSays text before left
    × IsTrue (list_all is_consistent before)

pub none-passed : (t : List ℕ) → Passed t t
none-passed t = ([], refl, refl)

and_more : (a b c : Bool) → (a && b) ≡ true → (b ≡ true → c ≡ true) → (a && c) ≡ true
and_more true b c h f = f h
and_more false b c h f = absurd (cc)

all_more : {A : Type 0} (p : A → Bool) (xs : List A) (x : A) → list_all p xs ≡ true → p x ≡ true
    → list_all p (xs ++ x ∷ []) ≡ true
all_more p [] x h k = rw k refl
all_more p (y ∷ xs) x h k = and_more (p y) (list_all p xs) (list_all p (xs ++ x ∷ [])) h (λ e. all_more p xs x e k)

pub one-passed : (t left rest : List ℕ) → Passed t left → SectionFails left None rest → Passed t rest
one-passed t left rest p h = (
  p.0 ++ h.0 ∷ [],
  begins-more SectionSays t p.0 left h.0 rest p.1 h.1,
  all_more is_consistent p.0 h.0 p.2 (ap is_none (sym h.2)),
)

pub faulty-here : (t left rest : List ℕ) (fault : Inconsistency) → Passed t left → SectionFails left (Some fault) rest
    → IsFaultySection t left fault
faulty-here t left rest fault p h = (p.0, p.1, p.2, h.0, rest, h.1, sym h.2)

pub none-faulty : (t left : List ℕ) → Passed t left → Stops SectionFails left
    → (sections : List MediaLine) × (rest : List ℕ) × Many SectionSays t sections rest
    × IsTrue (list_all is_consistent sections)
none-faulty t left p stops = (p.0, left, (p.1, λ s r says. stops (fault_of s) r (s, says, refl)), p.2)

-- the first section with a fault, in a text
pub section-fails : (t one rest : List ℕ) (fault : Inconsistency) → (session : Session) × SessionSays t session one
    → IsFaultySection one rest fault → FailsAt t rest (Section fault)
section-fails t one rest fault s h = (s.0, one, s.1, h)

pub all-read : (t one : List ℕ) → (session : Session) × SessionSays t session one → AreSections one None
    → (sdp : Sdp) × (rest : List ℕ) × SdpSays t sdp rest
unfolding SdpSays
all-read t one s h = (record { session = s.0; media_lines = h.0 }, h.1, (one, s.1, h.2, h.3))
