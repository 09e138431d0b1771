-- The types that a section maps to codecs.
use Rattle.std.proofs.Common.{◌≡◌, ◌≢◌, inl, inr, ℕ, Bool, true, false, not, ◌&&◌, ◌||◌, ◌==◌, List, [], ◌∷◌}
use Rattle.std.proofs.Common.{◌++◌, filter, map, sym, ◌∙◌, ap, subst, append-nil, append_assoc, cond, if◌then◌else◌}
use Rattle.std.proofs.Common.{Option, Some, None, refl}
use Rattle.std.specs.Prelude.{fold, is_some}
use Rattle.std.specs.List.{FoldsTo, flat_map, list_any}
use Rattle.std.proofs.lemmas.Bool.{cases_Bool, eq-eqb, false≢true, ne_eqb, or_from, or_left, or_parts, or_right}
use Rattle.std.proofs.lemmas.Grind.{flat_map-append}
use Rattle.std.proofs.lemmas.List.{map-append}
use Rattle.std.proofs.lemmas.List.Elements.{filter-append}
use Rattle.std.proofs.lemmas.List.Folds.{list_any-append}
use Rattle.sdp_formats_rows.specs.Codecs.{static_spec}
use Rattle.sdp_formats_rows.specs.declared.spec.CodecSpec.{CodecSpec}
use Rattle.sdp_formats_section_rows.specs.Mapped.{is_mapped, mapping_in, mappings_in, static_mapping}
use Rattle.sdp_formats_section_rows.specs.Mapped.{mappings, with_static}
use Rattle.sdp_formats_data.specs.declared.media.MediaAttribute.{MediaAttribute}
use Rattle.sdp_formats_data.specs.declared.media.MediaAttribute.TheVariants as attribute
use Rattle.sdp_formats_laws.proofs.Decided.{numbers}
use Rattle.sdp_formats_laws.proofs.EachOnce.{Adds, each_once, in_decided, one_list}
use Rattle.sdp_formats_laws.proofs.Filtered.{filtered, let_through}
use Rattle.sdp_formats_laws.specs.EachOnce.{AreDistinct, IsEachOnce}
use Rattle.sdp_formats_rounds.specs.Members.{IsIn}
use Rattle.sdp_formats_laws.specs.Mapped.{EachTypeIsMapped, StaticTypesAreBehind, is_static_alone}
use Rattle.sdp_formats_laws.specs.Mapped.{map_of_codec, mapped_by_line, mapped_by_lines}

alone_parts : (a b : Bool) → (not a && b) ≡ true → (a ≡ false) × (b ≡ true)
alone_parts true b e = absurd (false≢true e)
alone_parts false b e = (refl, e)

-- items of a type of their own: of some types one, of the others none
pub record IsOwn {M : Type 0} (type_of : M → ℕ) (has_own : ℕ → Bool) (own : ℕ → List M) : Type 0 where
  pub none : (t : ℕ) → has_own t ≡ false → own t ≡ []
  pub one : (t : ℕ) → has_own t ≡ true → (m : M) × (own t ≡ m ∷ []) × (type_of m ≡ t)

module _ {M : Type 0} (type_of : M → ℕ) (has_own : ℕ → Bool) (own : ℕ → List M) (is_own : IsOwn type_of has_own own)
  where
    abbrev has : List M → ℕ → Bool
    has ms pt = list_any (λ m. type_of m == pt) ms

    abbrev of_type : ℕ → List M → List M
    of_type pt ms = filter (λ m. type_of m == pt) ms

    abbrev step : List M → ℕ → List M
    step ms pt = if has ms pt then ms else ms ++ own pt

    own_there : (t : ℕ) → has_own t ≡ true → has (own t) t ≡ true
    own_there t h = let o = is_own.one t h in
        ap (λ l. has l t) o.1 ∙ or_left _ _ (eq-eqb (type_of o.0) t o.2)

    own_other : (t pt : ℕ) → (t ≡ pt → ⊥) → has (own t) pt ≡ false
    own_other t pt n = elim (cases_Bool (has_own t)) [
      | inl h ↦ (let o = is_own.one t h in
          ap (λ l. has l pt) o.1 ∙ or_from _ _ (ne_eqb (type_of o.0) pt (λ e. n (sym o.2 ∙ e))) refl)
      | inr h ↦ ap (λ l. has l pt) (is_own.none t h)
    ]

    own_append : (t pt : ℕ) (ts : List ℕ)
        → has (flat_map own (t ∷ ts)) pt ≡ (has (own t) pt || has (flat_map own ts) pt)
    own_append t pt ts = list_any-append (λ m. type_of m == pt) (own t) (flat_map own ts)

    mapped_in : (pt : ℕ) → has_own pt ≡ true → (ts : List ℕ) → IsIn pt ts → has (flat_map own ts) pt ≡ true
    mapped_in pt h [] i = absurd i
    mapped_in pt h (t ∷ ts) (inl e) = own_append t pt ts
        ∙ or_left _ _ (ap (λ u. has (own u) pt) e ∙ own_there pt h)
    mapped_in pt h (t ∷ ts) (inr i) = own_append t pt ts ∙ or_right _ _ (mapped_in pt h ts i)

    not_mapped_in : (pt : ℕ) (ts : List ℕ) → (IsIn pt ts → ⊥) → has (flat_map own ts) pt ≡ false
    not_mapped_in pt [] n = refl
    not_mapped_in pt (t ∷ ts) n = own_append t pt ts
        ∙ or_from _ _ (own_other t pt (λ e. n (inl e))) (not_mapped_in pt ts (λ i. n (inr i)))

    -- what one type of the list adds to the lines and the types after them
    module _ (lines : List M) where
      abbrev alone : ℕ → Bool
      alone pt = not (has lines pt) && has_own pt

      abbrev with_types : List ℕ → List M
      with_types ts = lines ++ flat_map own ts

      stays : (ts : List ℕ) (pt : ℕ) → has (with_types ts) pt ≡ true → step (with_types ts) pt ≡ with_types ts
      stays ts pt e = ap (λ b. if b then with_types ts else (with_types ts ++ own pt)) e

      with_one : (ts : List ℕ) (pt : ℕ) → with_types ts ++ own pt ≡ with_types (ts ++ pt ∷ [])
      with_one ts pt = append_assoc lines (flat_map own ts) (own pt)
          ∙ ap (λ l. lines ++ l) (ap (λ l. flat_map own ts ++ l) (sym (append-nil (own pt)))
          ∙ sym (flat_map-append own ts (pt ∷ [])))

      adds : (ts : List ℕ) (pt : ℕ) → has (with_types ts) pt ≡ false
          → step (with_types ts) pt ≡ with_types (ts ++ pt ∷ [])
      adds ts pt e = ap (λ b. if b then with_types ts else (with_types ts ++ own pt)) e ∙ with_one ts pt

      mapped_with : (ts : List ℕ) (pt : ℕ) → has (with_types ts) pt ≡ (has lines pt || has (flat_map own ts) pt)
      mapped_with ts pt = list_any-append (λ m. type_of m == pt) lines (flat_map own ts)

      no_own : (ms : List M) (pt : ℕ) → has_own pt ≡ false → step ms pt ≡ ms
      no_own ms pt h = ap (λ l. if has ms pt then ms else (ms ++ l)) (is_own.none pt h) ∙ at (has ms pt)
        where
          at : (b : Bool) → (if b then ms else ms ++ []) ≡ ms
          at true = refl
          at false = append-nil ms

      abbrev Result : List ℕ → List ℕ → Type 0
      Result pts ts = (once : List ℕ) × FoldsTo Adds ts (filter alone pts) once
          × (fold step (with_types ts) pts ≡ with_types once)

      skip : (pt : ℕ) (pts ts : List ℕ) → alone pt ≡ false → step (with_types ts) pt ≡ with_types ts → Result pts ts
          → Result (pt ∷ pts) ts
      skip pt pts ts a s r = (
        r.0,
        subst (λ b. FoldsTo Adds ts (cond b (pt ∷ filter alone pts) (filter alone pts)) r.0) (sym a) r.1,
        ap (λ l. fold step l pts) s ∙ r.2,
      )

      one_more : (pt : ℕ) (pts ts now : List ℕ) → alone pt ≡ true → Adds ts pt now
          → step (with_types ts) pt ≡ with_types now → Result pts now → Result (pt ∷ pts) ts
      one_more pt pts ts now a add s r = (
        r.0,
        subst (λ b. FoldsTo Adds ts (cond b (pt ∷ filter alone pts) (filter alone pts)) r.0) (sym a) (now, add, r.1),
        ap (λ l. fold step l pts) s ∙ r.2,
      )

      behind : (pts ts : List ℕ) → Result pts ts
      behind [] ts = (ts, refl, refl)
      behind (pt ∷ pts) ts = elim (cases_Bool (has lines pt)) [
        | inl e ↦ skip pt pts ts (ap (λ b. not b && has_own pt) e)
            (stays ts pt (mapped_with ts pt ∙ or_left _ _ e)) (behind pts ts)
        | inr e ↦ elim (cases_Bool (has_own pt)) [
          | inr h ↦ skip pt pts ts (ap (λ b. not b && has_own pt) e ∙ h) (no_own (with_types ts) pt h) (behind pts ts)
          | inl h ↦ elim (in_decided numbers pt ts) [
            | inl i ↦ one_more pt pts ts ts (ap (λ b. not b && has_own pt) e ∙ h) (inl (i, refl))
                (stays ts pt (mapped_with ts pt ∙ or_right _ _ (mapped_in pt h ts i))) (behind pts ts)
            | inr n ↦ one_more pt pts ts (ts ++ pt ∷ []) (ap (λ b. not b && has_own pt) e ∙ h) (inr (n, refl))
                (adds ts pt (mapped_with ts pt ∙ or_from _ _ e (not_mapped_in pt ts n))) (behind pts (ts ++ pt ∷ []))
          ]
        ]
      ]

      pub folded : (pts : List ℕ) → (once : List ℕ) × IsEachOnce (filter alone pts) once
          × (fold step lines pts ≡ with_types once)
      folded pts = let r = behind pts [] in (
        r.0,
        each_once (filter alone pts) r.0 r.1,
        ap (λ l. fold step l pts) (sym (append-nil lines)) ∙ r.2,
      )

    -- the items of one type
    own_none : (t pt : ℕ) → (t ≡ pt → ⊥) → of_type pt (own t) ≡ []
    own_none t pt n = elim (cases_Bool (has_own t)) [
      | inl h ↦ (let o = is_own.one t h in
          ap (of_type pt) o.1 ∙ ap (λ b. cond b (o.0 ∷ []) []) (ne_eqb (type_of o.0) pt (λ e. n (sym o.2 ∙ e))))
      | inr h ↦ ap (of_type pt) (is_own.none t h)
    ]

    own_one : (t : ℕ) → of_type t (own t) ≡ own t
    own_one t = elim (cases_Bool (has_own t)) [
      | inl h ↦ (let o = is_own.one t h in
          ap (of_type t) o.1 ∙ ap (λ b. cond b (o.0 ∷ []) []) (eq-eqb (type_of o.0) t o.2) ∙ sym o.1)
      | inr h ↦ ap (of_type t) (is_own.none t h) ∙ sym (is_own.none t h)
    ]

    none_in : (pt : ℕ) (ts : List ℕ) → (IsIn pt ts → ⊥) → of_type pt (flat_map own ts) ≡ []
    none_in pt [] n = refl
    none_in pt (t ∷ ts) n = filter-append (λ m. type_of m == pt) (own t) (flat_map own ts)
        ∙ (λ i. own_none t pt (λ e. n (inl e)) i ++ none_in pt ts (λ h. n (inr h)) i)

    one_in : (pt : ℕ) (ts : List ℕ) → AreDistinct ts → IsIn pt ts → of_type pt (flat_map own ts) ≡ own pt
    one_in pt [] d i = absurd i
    one_in pt (t ∷ ts) d (inl e) = filter-append (λ m. type_of m == pt) (own t) (flat_map own ts)
        ∙ (λ i. of_type pt (own (e i)) ++ none_in pt ts (λ h. d.0 (subst (λ u. IsIn u ts) (sym e) h)) i)
        ∙ append-nil (of_type pt (own pt)) ∙ own_one pt
    one_in pt (t ∷ ts) d (inr h) = filter-append (λ m. type_of m == pt) (own t) (flat_map own ts)
        ∙ (λ i. own_none t pt (λ e. d.0 (subst (λ u. IsIn u ts) (sym e) h)) i ++ one_in pt ts d.1 h i)

    has_none : (pt : ℕ) (ms : List M) → has ms pt ≡ false → of_type pt ms ≡ []
    has_none pt [] e = refl
    has_none pt (m ∷ ms) e =
        let p = or_parts (type_of m == pt) (has ms pt) e in
        ap (λ b. cond b (m ∷ of_type pt ms) (of_type pt ms)) p.0 ∙ has_none pt ms p.1

    some_there : {A : Type 0} (f : M → A) (pt : ℕ) (ms : List M) → has ms pt ≡ true → map f (of_type pt ms) ≡ [] → ⊥
    some_there f pt [] e h = false≢true e
    some_there f pt (m ∷ ms) e h = at (type_of m == pt) refl (some_there f pt ms)
      where
        at : (b : Bool) → (type_of m == pt) ≡ b → (has ms pt ≡ true → map f (of_type pt ms) ≡ [] → ⊥) → ⊥
        at true g later = let k : f m ∷ map f (of_type pt ms) ≡ [] = subst (λ b. map f (cond b (m ∷ of_type pt ms)
            (of_type pt ms)) ≡ []) g h in cc
        at false g later = later (ap (λ b. b || has ms pt) (sym g) ∙ e)
            (subst (λ b. map f (cond b (m ∷ of_type pt ms) (of_type pt ms)) ≡ []) g h)

    -- what a section's items of a type are
    module _ (lines : List M) (pts ts : List ℕ) (once : IsEachOnce (filter (alone lines) pts) ts) (pt : ℕ) where
      split : of_type pt (lines ++ flat_map own ts) ≡ of_type pt lines ++ of_type pt (flat_map own ts)
      split = filter-append (λ m. type_of m == pt) lines (flat_map own ts)

      pub mapped_already : has lines pt ≡ true → of_type pt (lines ++ flat_map own ts) ≡ of_type pt lines
      mapped_already e = split ∙ ap (λ l. of_type pt lines ++ l) (none_in pt ts (λ i.
          let a = filtered (alone lines) pt pts ((once.members pt).0 i) in
          false≢true (sym (alone_parts _ _ a.1).0 ∙ e))) ∙ append-nil (of_type pt lines)

      pub mapped_alone : has lines pt ≡ false → IsIn pt pts → of_type pt (lines ++ flat_map own ts) ≡ own pt
      mapped_alone e i = split ∙ ap (λ l. l ++ of_type pt (flat_map own ts)) (has_none pt lines e)
          ∙ elim (cases_Bool (has_own pt)) [
            | inl s ↦ one_in pt ts once.distinct ((once.members pt).1
                (let_through (alone lines) pt pts i (ap (λ b. not b && has_own pt) e ∙ s)))
            | inr n ↦ none_in pt ts (λ j.
                let a = filtered (alone lines) pt pts ((once.members pt).0 j) in
                false≢true (sym n ∙ (alone_parts _ _ a.1).1)) ∙ sym (is_own.none pt n)
          ]

      pub mapped_not : has lines pt ≡ false → (IsIn pt pts → ⊥) → of_type pt (lines ++ flat_map own ts) ≡ []
      mapped_not e n = split ∙ ap (λ l. l ++ of_type pt (flat_map own ts)) (has_none pt lines e)
          ∙ none_in pt ts (λ j. n (filtered (alone lines) pt pts ((once.members pt).0 j)).0)

-- static types
static_own : IsOwn (λ m. m.pt) (λ pt. is_some (static_spec pt)) (λ pt. static_mapping pt (static_spec pt))
static_own = record { none = λ t. none t (static_spec t); one = λ t. one t (static_spec t) }
  where
    none : (t : ℕ) (o : Option CodecSpec) → is_some o ≡ false → static_mapping t o ≡ []
    none t None e = refl
    none t (Some s) e = absurd (false≢true (sym e))

    one : (t : ℕ) (o : Option CodecSpec) → is_some o ≡ true → (m : _) × (static_mapping t o ≡ m ∷ []) × (m.pt ≡ t)
    one t None e = absurd (false≢true e)
    one t (Some s) e = (_, refl, refl)

static_found : (pts : List ℕ) (attrs : List MediaAttribute) → (alone : List ℕ)
    × IsEachOnce (filter (is_static_alone attrs) pts) alone
    × (mappings pts attrs ≡ mappings_in attrs ++ flat_map (λ pt. static_mapping pt (static_spec pt)) alone)
unfolding with_static
static_found pts attrs = folded _ _ _ static_own (mappings_in attrs) pts

pub static_behind : StaticTypesAreBehind
static_behind pts attrs maps =
    let r = static_found pts attrs in (
      (λ e. (r.0, r.1, e ∙ r.2)),
      λ h. h.2 ∙ ap (λ alone. mappings_in attrs ++ flat_map (λ pt. static_mapping pt (static_spec pt)) alone)
          (one_list (filter (is_static_alone attrs) pts) h.0 r.0 h.1 r.1) ∙ sym r.2,
    )

-- what the lines map a type to
line_maps : (pt : ℕ) (a : MediaAttribute)
    → mapped_by_line pt a ≡ map (λ m. m.map) (filter (λ m. m.pt == pt) (mapping_in a))
line_maps pt (attribute.RtpMap other value) = at (other == pt)
  where
    at : (b : Bool) → (if b then value ∷ [] else [])
        ≡ map (λ m. m.map) (cond b (mappings_in (attribute.RtpMap other value ∷ [])) [])
    at true = refl
    at false = refl
line_maps pt _ = refl

lines_map : (pt : ℕ) (attrs : List MediaAttribute)
    → mapped_by_lines pt attrs ≡ map (λ m. m.map) (filter (λ m. m.pt == pt) (mappings_in attrs))
lines_map pt [] = refl
lines_map pt (a ∷ attrs) =
    (λ i. line_maps pt a i ++ lines_map pt attrs i)
    ∙ sym (map-append (λ m. m.map) (filter (λ m. m.pt == pt) (mapping_in a))
    (filter (λ m. m.pt == pt) (mappings_in attrs)))
    ∙ ap (map (λ m. m.map)) (sym (filter-append (λ m. m.pt == pt) (mapping_in a) (mappings_in attrs)))

some_line : (pt : ℕ) (attrs : List MediaAttribute) → mapped_by_lines pt attrs ≢ []
    → is_mapped (mappings_in attrs) pt ≡ true
some_line pt attrs n = elim (cases_Bool (is_mapped (mappings_in attrs) pt)) [
  | inl e ↦ e
  | inr e ↦ absurd (n (lines_map pt attrs
      ∙ ap (map (λ m. m.map)) (has_none _ _ _ static_own pt (mappings_in attrs) e)))
]

no_line : (pt : ℕ) (attrs : List MediaAttribute) → mapped_by_lines pt attrs ≡ []
    → is_mapped (mappings_in attrs) pt ≡ false
no_line pt attrs n = elim (cases_Bool (is_mapped (mappings_in attrs) pt)) [
  | inl e ↦ absurd (some_there _ _ _ static_own (λ m. m.map) pt (mappings_in attrs) e (sym (lines_map pt attrs) ∙ n))
  | inr e ↦ e
]

own_map : (pt : ℕ) (o : Option CodecSpec) → map (λ m. m.map) (static_mapping pt o) ≡ map_of_codec o
own_map pt None = refl
own_map pt (Some s) = refl

pub each_type : EachTypeIsMapped
each_type pt pts attrs =
    let r = static_found pts attrs in
    let lines = mappings_in attrs in
    let whole = ap (λ maps. map (λ m. m.map) (filter (λ m. m.pt == pt) maps)) r.2 in
    record {
      by_lines = λ n. whole
          ∙ ap (map (λ m. m.map)) (mapped_already _ _ _ static_own lines pts r.0 r.1 pt (some_line pt attrs n))
          ∙ sym (lines_map pt attrs);
      by_itself = λ e i. whole
          ∙ ap (map (λ m. m.map)) (mapped_alone _ _ _ static_own lines pts r.0 r.1 pt (no_line pt attrs e) i)
          ∙ own_map pt (static_spec pt);
      otherwise = λ e n. whole
          ∙ ap (map (λ m. m.map)) (mapped_not _ _ _ static_own lines pts r.0 r.1 pt (no_line pt attrs e) n);
    }
