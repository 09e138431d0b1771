-- What a part of a line gives.
use Rattle.std.proofs.Common.{◌≡◌, ◌⊎◌, inl, inr, ℕ, Bool, true, false, List, [], ◌∷◌, Some, None}
use Rattle.std.proofs.Common.{if◌then◌else◌, refl, sym, ◌∙◌, ap, subst}
use Rattle.std.specs.Str.{trim}
use Rattle.std.proofs.lemmas.Bool.{cases_Bool}
use Rattle.sdp_formats_grammar.specs.Bind.{◌>>=◌}
use Rattle.sdp_formats_grammar.specs.Exact.{separated-exact}
use Rattle.sdp_formats_grammar.specs.Form.{Each, Form, IsExact, each}
use Rattle.sdp_formats_grammar.specs.Split.{IsJoined, Lacks, parts}
use Rattle.sdp_formats_values.specs.Keys.{is_name_of}
use Rattle.sdp_formats_values.specs.Numbers.{range_of}
use Rattle.sdp_formats_values.specs.declared.key.Key.{Key}
use Rattle.sdp_formats_laws.proofs.FormatKeys.{name_in_lower}
use Rattle.sdp_formats_laws.proofs.Options.{none_some, some_same}
use Rattle.sdp_formats_laws.specs.FormatParts.{IsValueOf, PiecesAreJoined, RangesStandAlone, ValuesAreOfKeys}
use Rattle.sdp_formats_laws.specs.FormatParts.{range_of_pieces, value_of_pieces}

-- a piece is any text
abbrev piece : Form (List ℕ)
piece = record { reads = λ t. Some t; Says = λ t a. t ≡ a }

piece_exact : IsExact piece
piece_exact = record { sound = λ t a e. some_same e; complete = λ t a s. ap Some s }

all_read : (ts : List (List ℕ)) → each piece.reads ts ≡ Some ts
all_read [] = refl
all_read (t ∷ ts) = ap (λ o. o >>= λ us. Some (t ∷ us)) (all_read ts)

all_same : (ts us : List (List ℕ)) → Each piece.Says ts us → ts ≡ us
all_same [] [] h = refl
all_same [] (u ∷ us) h = absurd h
all_same (t ∷ ts) [] h = absurd h
all_same (t ∷ ts) (u ∷ us) h = λ i. h.0 i ∷ all_same ts us h.1 i

each_itself : (ts : List (List ℕ)) → Each piece.Says ts ts
each_itself [] = tt
each_itself (t ∷ ts) = (refl, each_itself ts)

pub pieces_joined : PiecesAreJoined
pieces_joined byte text pieces =
    let exact = separated-exact byte piece piece_exact in (
      (λ e. let s = exact.sound text (parts byte text) (all_read (parts byte text)) in
          subst (λ ps. IsJoined byte ps text) (all_same s.0 (parts byte text) s.2 ∙ sym e) s.1),
      λ h. some_same
          (sym (exact.complete text pieces (pieces, h, each_itself pieces)) ∙ all_read (parts byte text)),
    )

module _ (part : List ℕ) where
  joined : (pieces : List (List ℕ)) → parts 61 part ≡ pieces → IsJoined 61 pieces part
  joined pieces e = (pieces_joined 61 part pieces).0 (sym e)

  value_told : (k : Key) (value : List ℕ) (pieces : List (List ℕ)) → parts 61 part ≡ pieces
      → value_of_pieces k pieces ≡ Some value → IsValueOf k part value
  value_told k value [] e h = absurd (none_some h)
  value_told k value (word ∷ []) e h = absurd (none_some h)
  value_told k value (name ∷ text ∷ others) e h = at (cases_Bool (is_name_of k (trim name)))
    where
      at : (is_name_of k (trim name) ≡ true) ⊎ (is_name_of k (trim name) ≡ false) → IsValueOf k part value
      at (inl t) = (
        name,
        text,
        others,
        joined (name ∷ text ∷ others) e,
        (name_in_lower k (trim name)).0 t,
        some_same (sym (ap (λ (b : Bool). if b then Some (trim text) else None) t) ∙ h),
      )
      at (inr n) = absurd (none_some (sym (ap (λ (b : Bool). if b then Some (trim text) else None) n) ∙ h))

  range_told : (event : ℕ) (pieces : List (List ℕ)) → parts 61 part ≡ pieces → range_of_pieces pieces ≡ Some event
      → Lacks 61 part × (range_of (trim part) ≡ Some event)
  range_told event [] e h = absurd (none_some h)
  range_told event (word ∷ []) e h =
      let j = joined (word ∷ []) e in
      subst (λ (w : List ℕ). Lacks 61 w × (range_of (trim w) ≡ Some event)) (sym j.0) (j.1, h)
  range_told event (name ∷ text ∷ others) e h = absurd (none_some h)

pub of_keys : ValuesAreOfKeys
of_keys k part value = (
  value_told part k value (parts 61 part) refl,
  λ h. ap (value_of_pieces k) (sym ((pieces_joined 61 part (h.0 ∷ h.1 ∷ h.2)).1 h.3))
      ∙ ap (λ (b : Bool). if b then Some (trim h.1) else None) ((name_in_lower k (trim h.0)).1 h.4)
      ∙ ap Some h.5,
)

pub ranges_alone : RangesStandAlone
ranges_alone part event = (
  range_told part event (parts 61 part) refl,
  λ h. ap range_of_pieces (sym ((pieces_joined 61 part (part ∷ [])).1 (refl, h.0))) ∙ h.1,
)
