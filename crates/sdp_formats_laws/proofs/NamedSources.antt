-- Which attributes name a source.
use Rattle.std.proofs.Common.{◌≡◌, inl, inr, ℕ, Bool, true, false, List, [], ◌∷◌, ◌++◌, Option, Some, None}
use Rattle.std.proofs.Common.{codes, filter_map, if◌then◌else◌, option_map, refl, sym, ◌∙◌, ap, subst}
use Rattle.std.specs.List.{cons_option}
use Rattle.std.specs.Str.{str_eq_ignore_ascii_case}
use Rattle.std.proofs.lemmas.Slice.Eq.{bytes_eq-Decides}
use Rattle.sdp_formats_data.specs.Sources.{pair_of, repair_in, repairing_in, source_in}
use Rattle.sdp_formats_data.specs.declared.media.MediaAttribute.{MediaAttribute}
use Rattle.sdp_formats_data.specs.declared.media.MediaAttribute.TheVariants as attribute
use Rattle.sdp_formats_laws.proofs.DistinctSources.{distinct_once}
use Rattle.sdp_formats_laws.proofs.EachOnce.{in_back, in_either, in_front}
use Rattle.sdp_formats_laws.proofs.Options.{none_some, some_same}
use Rattle.sdp_formats_rounds.specs.Members.{IsIn}
use Rattle.sdp_formats_laws.specs.RepeatedKeys.{lower}
use Rattle.sdp_formats_laws.specs.Sources.{IsLineOf, LetsRepair, SourcesAreNamed}

-- what some attribute gives
abbrev IsGiven : (MediaAttribute → Option ℕ) → ℕ → List MediaAttribute → Type 0
IsGiven given source attrs = (line : MediaAttribute) × IsIn line attrs × (given line ≡ Some source)

module _ (given : MediaAttribute → Option ℕ) (source : ℕ) where
  given_by : (attrs : List MediaAttribute) → IsIn source (filter_map given attrs) → IsGiven given source attrs
  given_by [] i = absurd i
  given_by (line ∷ attrs) i = at (given line) refl i (λ j. let g = given_by attrs j in (g.0, inr g.1, g.2))
    where
      at : (o : Option ℕ) → given line ≡ o → IsIn source (cons_option o (filter_map given attrs))
          → (IsIn source (filter_map given attrs) → IsGiven given source (line ∷ attrs))
          → IsGiven given source (line ∷ attrs)
      at None e i further = further i
      at (Some other) e (inl s) further = (line, inl refl, e ∙ ap Some s)
      at (Some other) e (inr i) further = further i

  gives : (attrs : List MediaAttribute) → IsGiven given source attrs → IsIn source (filter_map given attrs)
  gives [] g = absurd g.1
  gives (line ∷ attrs) g = elim g.1 [
    | inl s ↦ subst (λ o. IsIn source (cons_option o (filter_map given attrs))) (sym (ap given s ∙ g.2)) (inl refl)
    | inr i ↦ further (given line) (gives attrs (g.0, i, g.2))
  ]
    where
      further : (o : Option ℕ) → IsIn source (filter_map given attrs)
          → IsIn source (cons_option o (filter_map given attrs))
      further None i = i
      further (Some other) i = inr i

line_of : (source : ℕ) (line : MediaAttribute) → source_in line ≡ Some source → IsLineOf source line
unfolding source_in
line_of source (attribute.Ssrc ssrc name value) e =
    (name, value, λ i. attribute.Ssrc (some_same e i) name value)
line_of source _ e = absurd (none_some e)

of_line : (source : ℕ) (line : MediaAttribute) → IsLineOf source line → source_in line ≡ Some source
unfolding source_in
of_line source line h = ap source_in h.2

repairs : (source : ℕ) (line : MediaAttribute) → repairing_in line ≡ Some source → LetsRepair source line
unfolding repair_in
repairs source (attribute.SsrcGroup semantics ssrcs) e =
    at (str_eq_ignore_ascii_case semantics (codes "fid")) refl ssrcs e
  where
    at : (b : Bool) → str_eq_ignore_ascii_case semantics (codes "fid") ≡ b → (ssrcs : List ℕ)
        → option_map (λ (p : ℕ × ℕ). p.1) (if b then pair_of ssrcs else None) ≡ Some source
        → LetsRepair source (attribute.SsrcGroup semantics ssrcs)
    at true n [] e = absurd (none_some e)
    at true n (repaired ∷ []) e = absurd (none_some e)
    at true n (repaired ∷ repairing ∷ []) e = (
      semantics,
      repaired,
      (λ i. attribute.SsrcGroup semantics (repaired ∷ some_same e i ∷ [])),
      (bytes_eq-Decides (lower semantics) (codes "fid")).0 n,
    )
    at true n (repaired ∷ repairing ∷ more ∷ others) e = absurd (none_some e)
    at false n ssrcs e = absurd (none_some e)
repairs source _ e = absurd (none_some e)

repairing : (source : ℕ) (line : MediaAttribute) → LetsRepair source line → repairing_in line ≡ Some source
unfolding repair_in
repairing source line h =
    ap repairing_in h.2
    ∙ ap (λ (b : Bool). option_map (λ (p : ℕ × ℕ). p.1) (if b then Some (h.1, source) else None))
    ((bytes_eq-Decides (lower h.0) (codes "fid")).1 h.3)

pub sources_named : SourcesAreNamed
sources_named attrs source =
    let lines : List ℕ = filter_map source_in attrs in
    let groups : List ℕ = filter_map repairing_in attrs in
    let members = (distinct_once (lines ++ groups)).members source in (
      (λ i. elim (in_either source lines groups (members.0 i)) [
        | inl j ↦ (let g = given_by source_in source attrs j in (g.0, g.1, inl (line_of source g.0 g.2)))
        | inr j ↦ (let g = given_by repairing_in source attrs j in (g.0, g.1, inr (repairs source g.0 g.2)))
      ]),
      λ h. members.1 (elim h.2 [
        | inl l ↦ in_front source lines groups (gives source_in source attrs (h.0, h.1, of_line source h.0 l))
        | inr r ↦ in_back source lines groups (gives repairing_in source attrs (h.0, h.1, repairing source h.0 r))
      ]),
    )
