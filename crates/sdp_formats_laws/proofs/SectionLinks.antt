-- The last line that links a type.
use Rattle.std.proofs.Common.{◌≡◌, inl, inr, ◌↔◌, ℕ, Bool, true, false, ◌&&◌, ◌||◌, ◌==◌, List, [], ◌∷◌, cond}
use Rattle.std.proofs.Common.{Option, Some, None, arith, filter, filter_map, map, if◌then◌else◌, refl, sym, ◌∙◌, ap}
use Rattle.std.proofs.Common.{subst}
use Rattle.std.specs.Prelude.{fold}
use Rattle.std.specs.List.{cons_option, last_or, list_any}
use Rattle.std.proofs.lemmas.Bool.{cases_Bool, eqb-true, false≢true}
use Rattle.std.proofs.lemmas.Bool.Decides.{nat_tests}
use Rattle.media_types.specs.declared.codec.Codec.{Codec}
use Rattle.media_types.specs.declared.codec.Codec.TheVariants as codec
use Rattle.sdp_formats_values.specs.declared.param.FormatParam.{FormatParam}
use Rattle.sdp_formats_values.specs.declared.param.FormatParam.TheVariants as param
use Rattle.sdp_formats_rows.specs.Codecs.{codec_number, is_codec}
use Rattle.sdp_formats_section_rows.specs.Mapped.{is_mapped_to, mappings}
use Rattle.sdp_formats_section_rows.specs.SectionRows.{linked, linked_after, names}
use Rattle.sdp_formats_data.specs.declared.media.MediaAttribute.{MediaAttribute}
use Rattle.sdp_formats_data.specs.declared.media.MediaAttribute.TheVariants as attribute
use Rattle.sdp_formats_data.specs.declared.media.RtpMap.{RtpMap}
use Rattle.sdp_formats_laws.proofs.AnyMember.{any_in, both, in_any}
use Rattle.sdp_formats_laws.proofs.LastGiven.{last_exact}
use Rattle.sdp_formats_laws.proofs.Options.{none_some, some_same}
use Rattle.sdp_formats_rounds.specs.Members.{IsIn}
use Rattle.sdp_formats_laws.specs.SectionLinks.{IsMappedTo, LastLinksCount, Links, Names}

-- numbers that a test finds equal
eq_itself : (n : ℕ) → (n == n) ≡ true
eq_itself n = grind (arith, nat_tests)

-- what a parameter names
named : (role : Codec) (pt : ℕ) (p : FormatParam) → names role pt p ≡ true → Names role pt p
named codec.Rtx pt (param.Apt other) e = inl (refl, ap param.Apt (eqb-true other pt e))
named codec.Red pt (param.BarePtList other) e = inr (refl, inl (ap param.BarePtList (eqb-true other pt e)))
named codec.Red pt (param.Red other) e = inr (refl, inr (ap param.Red (eqb-true other pt e)))
named _ pt _ e = absurd (false≢true e)

names_it : (role : Codec) (pt : ℕ) (p : FormatParam) → Names role pt p → names role pt p ≡ true
names_it role pt p (inl n) = (λ i. names (n.0 i) pt (n.1 i)) ∙ eq_itself pt
names_it role pt p (inr n) = elim n.1 [
  | inl e ↦ (λ i. names (n.0 i) pt (e i)) ∙ eq_itself pt
  | inr e ↦ (λ i. names (n.0 i) pt (e i)) ∙ eq_itself pt
]

-- the codecs of the two roles
is_rtx : (c : Codec) → is_codec c codec.Rtx ≡ true → c ≡ codec.Rtx
is_rtx codec.Rtx e = refl
is_rtx _ e = cc

is_red : (c : Codec) → is_codec c codec.Red ≡ true → c ≡ codec.Red
is_red codec.Red e = refl
is_red _ e = cc

in_role : (role : Codec) (pt : ℕ) (p : FormatParam) → Names role pt p → (c : Codec) → is_codec c role ≡ true → c ≡ role
in_role role pt p (inl n) c e = is_rtx c (ap (is_codec c) (sym n.0) ∙ e) ∙ sym n.0
in_role role pt p (inr n) c e = is_red c (ap (is_codec c) (sym n.0) ∙ e) ∙ sym n.0

-- what a type is mapped to
module _ {M : Type 0} (number : M → ℕ) (told : M → RtpMap) (by : ℕ) (role : Codec) where
  abbrev is_here : M → Bool
  is_here m = number m == by && is_codec (told m).codec role

  abbrev of_type : List M → List M
  of_type ms = filter (λ m. number m == by) ms

  abbrev maps_in : List M → List RtpMap
  maps_in ms = map told (of_type ms)

  first : (m : M) (rest : List M) (b : Bool) → b ≡ true → IsIn (told m) (map told (cond b (m ∷ rest) rest))
  first m rest true e = inl refl
  first m rest false e = absurd (false≢true e)

  later : (m : M) (rest : List M) (r : RtpMap) (b : Bool) → IsIn r (map told rest)
      → IsIn r (map told (cond b (m ∷ rest) rest))
  later m rest r true i = inr i
  later m rest r false i = i

  map_found : (ms : List M) → list_any is_here ms ≡ true
      → (r : RtpMap) × IsIn r (maps_in ms) × (is_codec r.codec role ≡ true)
  map_found [] e = absurd (false≢true e)
  map_found (m ∷ ms) e = elim (cases_Bool (is_here m)) [
    | inl h ↦ (let b = both (number m == by) (is_codec (told m).codec role) h in
        (told m, first m (of_type ms) (number m == by) b.0, b.1))
    | inr h ↦ (let r = map_found ms (sym (ap (λ b. b || list_any is_here ms) h) ∙ e) in
        (r.0, later m (of_type ms) r.0 (number m == by) r.1, r.2))
  ]

  or_true : (b : Bool) → (b || true) ≡ true
  or_true true = refl
  or_true false = refl

  map_there : (ms : List M) (r : RtpMap) → IsIn r (maps_in ms) → is_codec r.codec role ≡ true
      → list_any is_here ms ≡ true
  map_there [] r i e = absurd i
  map_there (m ∷ ms) r i e = at (number m == by) i (λ j. map_there ms r j e)
    where
      at : (b : Bool) → IsIn r (map told (cond b (m ∷ filter (λ m. number m == by) ms) (of_type ms)))
          → (IsIn r (maps_in ms) → list_any is_here ms ≡ true)
          → ((b && is_codec (told m).codec role) || list_any is_here ms) ≡ true
      at true (inl s) h = ap (λ (t : RtpMap). is_codec t.codec role || list_any is_here ms) s
          ∙ ap (λ b. b || list_any is_here ms) e
      at true (inr j) h = ap (λ b. is_codec (told m).codec role || b) (h j) ∙ or_true (is_codec (told m).codec role)
      at false j h = h j

-- what a line gives
abbrev link_in : Codec → List ℕ → List MediaAttribute → ℕ → MediaAttribute → Option ℕ
link_in role pts attrs pt (attribute.Fmtp by values) =
    if is_mapped_to role (mappings pts attrs) by && list_any (names role pt) values then Some by else None
link_in role pts attrs pt _ = None

if_some : {A : Type 0} (b : Bool) (x : A) (before : Option A) (rest : List A)
    → last_or (if b then Some x else before) rest ≡ last_or before (cons_option (if b then Some x else None) rest)
if_some true x before rest = refl
if_some false x before rest = refl

module _ (role : Codec) (pts : List ℕ) (attrs : List MediaAttribute) (pt : ℕ) where
  one_line : (found : Option ℕ) (a : MediaAttribute) (rest : List ℕ)
      → last_or (linked_after role (mappings pts attrs) pt found a) rest
      ≡ last_or found (cons_option (link_in role pts attrs pt a) rest)
  unfolding linked_after
  one_line found (attribute.Fmtp by values) rest =
      if_some (is_mapped_to role (mappings pts attrs) by && list_any (names role pt) values) by found rest
  one_line found _ rest = refl

  all_lines : (found : Option ℕ) (lines : List MediaAttribute)
      → fold (linked_after role (mappings pts attrs) pt) found lines
      ≡ last_or found (filter_map (link_in role pts attrs pt) lines)
  all_lines found [] = refl
  all_lines found (a ∷ lines) =
      all_lines (linked_after role (mappings pts attrs) pt found a) lines
      ∙ one_line found a (filter_map (link_in role pts attrs pt) lines)

  abbrev is_mapped : ℕ → Bool
  is_mapped by = is_mapped_to role (mappings pts attrs) by

  mapped_told : (by : ℕ) (p : FormatParam) → Names role pt p → is_mapped by ≡ true → IsMappedTo role pts attrs by
  mapped_told by p n e =
      let r = map_found (λ m. m.pt) (λ m. m.map) by role (mappings pts attrs) e in
      (r.0, r.1, in_role role pt p n r.0.codec r.2)

  mapped_back : (by : ℕ) → IsMappedTo role pts attrs by → is_mapped by ≡ true
  mapped_back by h =
      map_there (λ m. m.pt) (λ m. m.map) by role (mappings pts attrs) h.0 h.1
      (ap (λ c. is_codec c role) h.2 ∙ eq_itself (codec_number role))

  if_told : (b : Bool) (x y : ℕ) → (if b then Some x else None) ≡ Some y → (b ≡ true) × (x ≡ y)
  if_told true x y e = (refl, some_same e)
  if_told false x y e = absurd (none_some e)

  told : (a : MediaAttribute) (by : ℕ) → (link_in role pts attrs pt a ≡ Some by) ↔ Links role pts attrs pt a by
  told a by = (forth a, back)
    where
      forth : (a : MediaAttribute) → link_in role pts attrs pt a ≡ Some by → Links role pts attrs pt a by
      forth (attribute.Fmtp other values) e =
          let t = if_told (is_mapped other && list_any (names role pt) values) other by e in
          let b = both (is_mapped other) (list_any (names role pt) values) t.0 in
          let m = any_in (names role pt) values b.1 in
          let n = named role pt m.0 m.2 in (
            values,
            ap (λ x. attribute.Fmtp x values) t.1,
            subst (IsMappedTo role pts attrs) t.1 (mapped_told other m.0 n b.0),
            (m.0, m.1, n),
          )
      forth _ e = absurd (none_some e)

      back : Links role pts attrs pt a by → link_in role pts attrs pt a ≡ Some by
      back l =
          ap (link_in role pts attrs pt) l.1
          ∙ (λ i. if mapped_back by l.2 i && list_any (names role pt) l.0 then Some by else None)
          ∙ ap (λ (b : Bool). if b then Some by else None)
          (in_any (names role pt) l.0 l.3.0 l.3.1 (names_it role pt l.3.0 l.3.2))

pub last_links : LastLinksCount
last_links role pts attrs pt found =
    let e : linked role attrs (mappings pts attrs) pt ≡ last_or None (filter_map (link_in role pts attrs pt) attrs)
    = all_lines role pts attrs pt None attrs in
    let exact = last_exact (link_in role pts attrs pt) (Links role pts attrs pt) (told role pts attrs pt) attrs
    found in
    ((λ h. exact.0 (h ∙ e)), λ h. exact.1 h ∙ sym e)
