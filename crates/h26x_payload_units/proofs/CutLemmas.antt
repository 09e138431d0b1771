-- Each text is put together in just one way.
use Rattle.std.proofs.Common.{◌≡◌, ◌≢◌, ℕ, zero, suc, ◌<◌, ◌≤◌, Bool, true, false, eqb, List, [], ◌∷◌, ◌++◌}
use Rattle.std.proofs.Common.{replicate, refl, sym, ap, ◌∙◌, arith, eqb-true, eq-eqb, length, length-append}
use Rattle.std.specs.Prelude.{if◌then◌else◌}
use Rattle.std.proofs.lemmas.Bool.{false≢true}
use Rattle.h26x_payload_units.specs.Cut.{ArePieces, EndsInNoZero, HoldsNoCode, IsLaidOut, IsStretch, Layout, Piece}
use Rattle.h26x_payload_units.specs.Cut.{joined, units_of_layout}
use Rattle.h26x_payload_units.specs.Units.{CutLaw, is_code, layout_of, units_of, with_byte}
use Rattle.h26x_payload_units.proofs.LayoutLemmas.{code_bytes, no_code, not_zero}

abbrev pub layout : List ℕ → List Piece → Layout
layout first pieces = record { first = first; pieces = pieces }

abbrev pub piece : ℕ → List ℕ → Piece
piece zeros stretch = record { zeros = zeros; stretch = stretch }

-- a byte before a layout
abbrev pub added : ℕ → Layout → Layout
added a l = with_byte a l.first l.pieces

no_code_in : (a b c : ℕ) (more : List ℕ) → HoldsNoCode (a ∷ b ∷ c ∷ more) → is_code a b c ≡ false
no_code_in a b c more none = no_code a b c
    (λ e f g. none [] more (ap (λ x. x ∷ b ∷ c ∷ more) e ∙ ap (λ x. 0 ∷ x ∷ c ∷ more) f ∙ ap (λ x. 0 ∷ 0 ∷ x ∷ more) g))

no_code_behind : (a : ℕ) (s : List ℕ) → HoldsNoCode (a ∷ s) → HoldsNoCode s
no_code_behind a s none before behind e = none (a ∷ before) behind (ap (λ t. a ∷ t) e)

no_zero_behind : (a : ℕ) (s : List ℕ) → EndsInNoZero (a ∷ s) → EndsInNoZero s
no_zero_behind a s none before e = none (a ∷ before) (ap (λ t. a ∷ t) e)

stretch_behind : (a : ℕ) (s : List ℕ) (ps : List Piece) → IsStretch (a ∷ s) ps → IsStretch s ps
stretch_behind a s [] is = no_code_behind a s is
stretch_behind a s (p ∷ ps) is = (no_code_behind a s is.0, no_zero_behind a s is.1)

holds_none : (s : List ℕ) (ps : List Piece) → IsStretch s ps → HoldsNoCode s
holds_none s [] is = is
holds_none s (p ∷ ps) is = is.0

-- a byte of a stretch
byte_added : (a : ℕ) (s : List ℕ) (ps : List Piece) → IsStretch (a ∷ s) ps → with_byte a s ps ≡ layout (a ∷ s) ps
byte_added a [] [] is = refl
byte_added a [] (p ∷ ps) is =
    let other : eqb a 0 ≡ false = not_zero a (λ e. is.1 [] (ap (λ x. x ∷ []) e)) in
    ap (λ t. if t then layout [] (piece (suc p.zeros) p.stretch ∷ ps) else layout (a ∷ []) (p ∷ ps)) other
byte_added a (b ∷ []) ps is = refl
byte_added a (b ∷ c ∷ more) ps is =
    ap (λ t. if t then layout [] (piece 2 more ∷ ps) else layout (a ∷ b ∷ c ∷ more) ps)
    (no_code_in a b c more (holds_none _ ps is))

-- the 01 of a start code, and a zero before it
one_added : (s : List ℕ) (ps : List Piece) → with_byte 1 s ps ≡ layout (1 ∷ s) ps
one_added [] [] = refl
one_added [] (p ∷ ps) = refl
one_added (b ∷ []) ps = refl
one_added (b ∷ c ∷ more) ps = refl

zero_added : (s : List ℕ) (ps : List Piece) → with_byte 0 (1 ∷ s) ps ≡ layout (0 ∷ 1 ∷ s) ps
zero_added [] ps = refl
zero_added (c ∷ more) ps = refl

-- a start code before a text
pub layout_of-code : (z : ℕ) (text s : List ℕ) (ps : List Piece) → 2 ≤ z → layout_of text ≡ layout s ps
    → layout_of (replicate z 0 ++ (1 ∷ text)) ≡ layout [] (piece z s ∷ ps)
layout_of-code zero text s ps few e = absurd (omega arith)
layout_of-code (suc zero) text s ps few e = absurd (omega arith)
layout_of-code (suc (suc zero)) text s ps few e =
    let one : layout_of (1 ∷ text) ≡ layout (1 ∷ s) ps = ap (added 1) e ∙ one_added s ps in
    let two : layout_of (0 ∷ 1 ∷ text) ≡ layout (0 ∷ 1 ∷ s) ps = ap (added 0) one ∙ zero_added s ps in
    ap (added 0) two
layout_of-code (suc (suc (suc z))) text s ps few e =
    ap (added 0) (layout_of-code (suc (suc z)) text s ps (omega arith) e)

-- a stretch before pieces
pub layout_of-stretch : (s : List ℕ) (ps : List Piece) → IsStretch s ps → layout_of (joined ps) ≡ layout [] ps
    → layout_of (s ++ joined ps) ≡ layout s ps
layout_of-stretch [] ps is e = e
layout_of-stretch (a ∷ s) ps is e = ap (added a) (layout_of-stretch s ps (stretch_behind a s ps is) e)
    ∙ byte_added a s ps is

pub layout_of-joined : (ps : List Piece) → ArePieces ps → layout_of (joined ps) ≡ layout [] ps
layout_of-joined [] are = refl
layout_of-joined (p ∷ ps) are = layout_of-code p.zeros (p.stretch ++ joined ps) p.stretch ps are.0
    (layout_of-stretch p.stretch ps are.1.0 (layout_of-joined ps are.1.1))

-- a layout's text has that layout
pub only_layout : (text : List ℕ) (l : Layout) → IsLaidOut text l → layout_of text ≡ l
only_layout text l is = ap layout_of is.put_together
    ∙ layout_of-stretch l.first l.pieces is.is_first (layout_of-joined l.pieces is.are_pieces)

short_holds_none : (s : List ℕ) → length s < 3 → HoldsNoCode s
short_holds_none s short before behind e =
    absurd (omega (arith, ap length e, length-append before (0 ∷ 0 ∷ 1 ∷ behind)))

empty_ends : EndsInNoZero []
empty_ends before e = absurd (omega (arith, ap length e, length-append before (0 ∷ [])))

one_ends : (a : ℕ) → a ≢ 0 → EndsInNoZero (a ∷ [])
one_ends a other [] e = other cc
one_ends a other (x ∷ before) e = let f : [] ≡ before ++ 0 ∷ [] = cc in empty_ends before f

ends_added : (a b : ℕ) (s : List ℕ) → EndsInNoZero (b ∷ s) → EndsInNoZero (a ∷ b ∷ s)
ends_added a b s ends [] e = cc
ends_added a b s ends (x ∷ before) e = let f : b ∷ s ≡ before ++ 0 ∷ [] = cc in ends before f

none_added : (a b c : ℕ) (more : List ℕ) → is_code a b c ≡ false → HoldsNoCode (b ∷ c ∷ more)
    → HoldsNoCode (a ∷ b ∷ c ∷ more)
none_added a b c more other none [] behind e =
    let same : is_code a b c ≡ is_code 0 0 1 = cc in false≢true (sym other ∙ same)
none_added a b c more other none (x ∷ before) behind e = let f : b ∷ c ∷ more ≡ before ++ (0 ∷ 0 ∷ 1 ∷ behind) =
    cc in none before behind f

stretch_added : (a b c : ℕ) (more : List ℕ) (ps : List Piece) → is_code a b c ≡ false → IsStretch (b ∷ c ∷ more) ps
    → IsStretch (a ∷ b ∷ c ∷ more) ps
stretch_added a b c more [] other is = none_added a b c more other is
stretch_added a b c more (p ∷ ps) other is = (none_added a b c more other is.0, ends_added a b (c ∷ more) is.1)

pair_added : (a b : ℕ) (ps : List Piece) → IsStretch (b ∷ []) ps → IsStretch (a ∷ b ∷ []) ps
pair_added a b [] is = short_holds_none (a ∷ b ∷ []) (omega arith)
pair_added a b (p ∷ ps) is = (short_holds_none (a ∷ b ∷ []) (omega arith), ends_added a b [] is.1)

-- before a start code is one more zero, or another byte
before_code : (t : Bool) (a z : ℕ) (st : List ℕ) (ps : List Piece) → eqb a 0 ≡ t → ArePieces (piece z st ∷ ps)
    → IsLaidOut (a ∷ joined (piece z st ∷ ps))
    (if t then layout [] (piece (suc z) st ∷ ps) else layout (a ∷ []) (piece z st ∷ ps))
before_code true a z st ps e are = record {
  put_together = ap (λ x. x ∷ joined (piece z st ∷ ps)) (eqb-true a 0 e);
  is_first = (short_holds_none [] (omega arith), empty_ends);
  are_pieces = (omega (arith, are.0), are.1);
}
before_code false a z st ps e are = record {
  put_together = refl;
  is_first = (short_holds_none (a ∷ []) (omega arith), one_ends a (λ f. false≢true (sym e ∙ eq-eqb a 0 f)));
  are_pieces = are;
}

-- a start code is completed, or a stretch has one more byte
before_stretch : (t : Bool) (a b c : ℕ) (more : List ℕ) (ps : List Piece) → is_code a b c ≡ t
    → IsStretch (b ∷ c ∷ more) ps → ArePieces ps
    → IsLaidOut (a ∷ b ∷ c ∷ (more ++ joined ps))
    (if t then layout [] (piece 2 more ∷ ps) else layout (a ∷ b ∷ c ∷ more) ps)
before_stretch true a b c more ps e is are =
    let bytes = code_bytes a b c e in
    record {
      put_together = ap (λ x. x ∷ b ∷ c ∷ (more ++ joined ps)) bytes.0
          ∙ ap (λ x. 0 ∷ x ∷ c ∷ (more ++ joined ps)) bytes.1.0 ∙ ap (λ x. 0 ∷ 0 ∷ x ∷ (more ++ joined ps)) bytes.1.1;
      is_first = (short_holds_none [] (omega arith), empty_ends);
      are_pieces = (omega arith, (stretch_behind c more ps (stretch_behind b (c ∷ more) ps is), are));
    }
before_stretch false a b c more ps e is are =
    record { put_together = refl; is_first = stretch_added a b c more ps e is; are_pieces = are }

byte_laid_out : (a : ℕ) (s : List ℕ) (ps : List Piece) → IsStretch s ps → ArePieces ps
    → IsLaidOut (a ∷ (s ++ joined ps)) (with_byte a s ps)
byte_laid_out a [] [] is are = record {
  put_together = refl;
  is_first =
      short_holds_none (a ∷ []) (omega arith);
  are_pieces = tt;
}
byte_laid_out a [] (p ∷ ps) is are = before_code (eqb a 0) a p.zeros p.stretch ps refl are
byte_laid_out a (b ∷ []) ps is are = record { put_together = refl; is_first = pair_added a b ps is; are_pieces = are }
byte_laid_out a (b ∷ c ∷ more) ps is are = before_stretch (is_code a b c) a b c more ps refl is are

-- each text is put together
pub laid_out : (text : List ℕ) → IsLaidOut text (layout_of text)
laid_out [] = record { put_together = refl; is_first = short_holds_none [] (omega arith); are_pieces = tt }
laid_out (a ∷ text) =
    let is = laid_out text in
    let l = layout_of text in
    let put : IsLaidOut (a ∷ (l.first ++ joined l.pieces)) (with_byte a l.first l.pieces) =
    byte_laid_out a l.first l.pieces is.is_first is.are_pieces in
    record {
      put_together = ap (λ t. a ∷ t) is.put_together ∙ put.put_together;
      is_first = put.is_first;
      are_pieces =
          put.are_pieces;
    }

pub cut_law : CutLaw
unfolding units_of
cut_law text units = (
  λ cut. cut.are_units ∙ ap (λ l. units_of_layout l.first l.pieces) (sym (only_layout text cut.layout cut.is_laid_out)),
  λ e. record { layout = layout_of text; is_laid_out = laid_out text; are_units = e },
)
