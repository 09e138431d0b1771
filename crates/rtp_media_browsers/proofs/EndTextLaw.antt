-- What an end's offer or answer says is a text as ends write it.
use Rattle.std.proofs.Common.{◌≡◌, ◌∙◌, ap, sym, refl, ℕ, Bool, true, false, not, List, [], ◌∷◌, ◌++◌, map}
use Rattle.std.specs.Prelude.{◌||◌, Option, None, Some, if◌then◌else◌}
use Rattle.std.specs.List.{flat_map, list_all}
use Rattle.std.specs.Cmp.Lexicographic.{nat_list_eq_equiv}
use Rattle.std.proofs.lemmas.Bool.{and_from, or_right}
use Rattle.std.proofs.lemmas.List.Folds.{list_all-append}
use Rattle.media_types.specs.declared.codec.MediaKind.{MediaKind}
use Rattle.media_types.specs.declared.codec.MediaKind.TheVariants.{Audio, Video}
use Rattle.rtp_media_sections.specs.Extensions.{extmap_line}
use Rattle.rtp_media_sections.specs.Lines.{line_of, mid_of, pair_line, row_lines, section_lines, source_line}
use Rattle.rtp_media_sections.specs.Lines.{source_lines, type_of}
use Rattle.rtp_media_sections.specs.Repairs.{repairs_in}
use Rattle.rtp_media_sections.specs.Sections.{Section}
use Rattle.rtp_wire.specs.declared.direction.Direction.{Direction}
use Rattle.rtp_wire.specs.declared.direction.Direction.TheVariants as way
use Rattle.sdp_formats_data.specs.Lookups.{mid_in}
use Rattle.sdp_formats_data.specs.Media.{direction_attribute}
use Rattle.sdp_formats_data.specs.WholeTexts.{is_name}
use Rattle.sdp_formats_data.specs.declared.media.MediaAttribute.{MediaAttribute}
use Rattle.sdp_formats_data.specs.declared.media.MediaAttribute.TheVariants.{RtcpFb, RtpMap}
use Rattle.sdp_formats_rows.specs.Rows.{Row}
use Rattle.sdp_formats_section_rows.specs.Attributes.{all_feedback, attributes_of, feedback_line, feedback_lines}
use Rattle.sdp_formats_section_rows.specs.Attributes.{fmtp_of, is_used, words_of}
use Rattle.sdp_formats_section_rows.specs.Attributes.{params_in, red_lines, resend_lines}
use Rattle.sdp_formats_section_rows.specs.Maps.{map_of}
use Rattle.sdp_formats_values.specs.MediaTypes.{is_media}
use Rattle.sdp_formats_values.specs.declared.param.FormatParam.{FormatParam}
use Rattle.rtp_media_browsers.specs.Laws.{AreBundlesOf, IsBundleOf, has_no_transport, is_end_section, names_only}
use Rattle.rtp_media_browsers.specs.Lines.{is_bundle, is_session_transport, is_transport, stays_in_session}
use Rattle.rtp_media_browsers.specs.Names.{is_among, mids_of}
use Rattle.rtp_media_browsers.specs.StandardLaws.{EndsWriteEndTexts, is_own_line}
use Rattle.rtp_media_browsers.proofs.Returning.{off}
use Rattle.rtp_media_browsers.proofs.WithTransport.{both_of}
use Rattle.sdp_formats_data.specs.declared.session.SessionAttribute.{SessionAttribute}
use Rattle.sdp_formats_data.specs.declared.session.SessionAttribute.TheVariants.{Group}

-- lines of which none is of the transport
abbrev AreNone : List MediaAttribute → Type 0
AreNone ls = has_no_transport ls ≡ true

with_more : (xs ys : List MediaAttribute) → AreNone xs → AreNone ys → AreNone (xs ++ ys)
with_more xs ys a b = list_all-append (λ l. not (is_transport l)) xs ys
    ∙ and_from (has_no_transport xs) (has_no_transport ys) a b

all_of : {A : Type 0} (f : A → MediaAttribute) → ((x : A) → is_transport (f x) ≡ false) → (xs : List A)
    → AreNone (map f xs)
all_of f none [] = refl
all_of f none (x ∷ xs) = rw (none x) (all_of f none xs)

each_of : {A : Type 0} (f : A → List MediaAttribute) → ((x : A) → AreNone (f x)) → (xs : List A)
    → AreNone (flat_map f xs)
each_of f none [] = refl
each_of f none (x ∷ xs) = with_more (f x) (flat_map f xs) (none x) (each_of f none xs)

line_if : (b : Bool) (l : MediaAttribute) → is_transport l ≡ false → AreNone (if b then l ∷ [] else [])
line_if true l is = rw is refl
line_if false l is = refl

feedback_none : (row : Row) → AreNone (feedback_lines row)
unfolding feedback_line is_transport
feedback_none row =
    each_of (feedback_line row) (λ f. line_if (is_used row f) (RtcpFb row.pt (words_of f)) refl) all_feedback

fmtp_none : (pt : ℕ) (ps : List FormatParam) → AreNone (fmtp_of pt ps)
unfolding fmtp_of is_transport
fmtp_none pt [] = refl
fmtp_none pt (p ∷ ps) = refl

resend_none : (row : Row) (pt : Option ℕ) → AreNone (resend_lines row pt)
unfolding resend_lines is_transport
resend_none row None = refl
resend_none row (Some pt) = refl

red_none : (row : Row) (pt : Option ℕ) → AreNone (red_lines row pt)
unfolding red_lines is_transport
red_none row None = refl
red_none row (Some pt) = refl

module _ (row : Row) where
  abbrev map_line : List MediaAttribute
  map_line = RtpMap row.pt (map_of row.spec) ∷ []

  abbrev with_feedback : List MediaAttribute
  with_feedback = map_line ++ feedback_lines row

  abbrev with_format : List MediaAttribute
  with_format = with_feedback ++ fmtp_of row.pt (params_in row.spec)

  row_none : AreNone (attributes_of row)
  unfolding is_transport
  row_none =
      with_more (with_format ++ resend_lines row row.resend) (red_lines row row.red)
      (with_more with_format (resend_lines row row.resend)
      (with_more with_feedback (fmtp_of row.pt (params_in row.spec))
      (with_more map_line (feedback_lines row) refl (feedback_none row)) (fmtp_none row.pt (params_in row.spec)))
      (resend_none row row.resend)) (red_none row row.red)

way_none : (dir : Direction) → is_transport (direction_attribute dir) ≡ false
unfolding is_transport
way_none way.SendRecv = refl
way_none way.SendOnly = refl
way_none way.RecvOnly = refl
way_none way.Inactive = refl

lines_none : (s : Section) → AreNone (section_lines s)
unfolding is_transport
lines_none s =
    rw (way_none s.dir)
    (with_more (map extmap_line s.extmaps) (row_lines s.rows ++ source_lines s.sources)
    (all_of extmap_line (λ e. refl) s.extmaps)
    (with_more (row_lines s.rows) (source_lines s.sources) (each_of attributes_of row_none s.rows)
    (with_more (map pair_line (repairs_in s.sources)) (map source_line s.sources)
    (all_of pair_line (λ p. refl) (repairs_in s.sources)) (all_of source_line (λ p. refl) s.sources))))

kind_is : (kind : MediaKind) → is_media (type_of kind) ≡ true
kind_is Audio = refl
kind_is Video = refl

is_end : (s : Section) → is_end_section (line_of s) ≡ true
unfolding line_of
is_end s = rw (kind_is s.kind) (lines_none s)

are_end : (all : List Section) → list_all is_end_section (map line_of all) ≡ true
are_end [] = refl
are_end (s ∷ all) = and_from (is_end_section (line_of s)) (list_all is_end_section (map line_of all)) (is_end s)
    (are_end all)

name_of_line : (s : Section) → mid_of (line_of s) ≡ s.mid
unfolding line_of mid_in
name_of_line s = refl

names_are : (all : List Section) → mids_of (map line_of all) ≡ map (λ (s : Section). s.mid) all
names_are [] = refl
names_are (s ∷ all) = λ i. name_of_line s i ∷ names_are all i

among_all : (names all : List (List ℕ)) → ((name : List ℕ) → is_among names name ≡ true → is_among all name ≡ true)
    → list_all (is_among all) names ≡ true
among_all [] all within = refl
among_all (n ∷ names) all within =
    and_from (is_among all n) (list_all (is_among all) names)
    (within n (ap (λ b. b || is_among names n) (nat_list_eq_equiv.refl n)))
    (among_all names all (λ m there. within m (or_right (is_name m n) (is_among names m) there)))

-- lines of an end's own are in no bundle
no_group : (names : List (List ℕ)) (a : SessionAttribute) → is_bundle a ≡ false → names_only names a ≡ true
unfolding is_bundle names_only
no_group names (Group typ mids) h = rw h refl
no_group names _ h = refl

no_bundle : (names : List (List ℕ)) (a : SessionAttribute) → is_bundle a ≡ false → IsBundleOf names a
unfolding is_bundle IsBundleOf
no_bundle names (Group typ mids) h = λ is. absurd (off_on (sym h ∙ is)) where
  off_on : false ≡ true → ⊥
  off_on e = cc
no_bundle names _ h = tt

record AreOwn (names : List (List ℕ)) (as' : List SessionAttribute) : Type 0 where
  session : list_all stays_in_session as' ≡ true
  groups : list_all (names_only names) as' ≡ true
  bundles : AreBundlesOf names as'

own_lines : (names : List (List ℕ)) (as' : List SessionAttribute) → list_all is_own_line as' ≡ true → AreOwn names as'
own_lines names [] h = record { session = refl; groups = refl; bundles = tt }
own_lines names (a ∷ as') h =
    let here = both_of (is_own_line a) (list_all is_own_line as') h in
    let one = both_of (stays_in_session a) (not (is_bundle a)) here.0 in
    let rest = own_lines names as' here.1 in
    record {
      session = and_from (stays_in_session a) (list_all stays_in_session as') one.0 rest.session;
      groups = and_from (names_only names a) (list_all (names_only names) as')
          (no_group names a (off (is_bundle a) one.1))
          rest.groups;
      bundles = (no_bundle names a (off (is_bundle a) one.1), rest.bundles);
    }

pub ends_write_end_texts : EndsWriteEndTexts
unfolding is_session_transport names_only IsBundleOf
ends_write_end_texts s all h =
    let names = map (λ (x : Section). x.mid) all in
    let rest = own_lines (mids_of (map line_of all)) s.attrs h in
    record {
      sections = are_end all;
      session = rest.session;
      groups = and_from (list_all (is_among (mids_of (map line_of all))) names)
          (list_all (names_only (mids_of (map line_of all))) s.attrs)
          (ap (λ (ns : List (List ℕ)). list_all (is_among ns) names) (names_are all)
          ∙ among_all names names (λ name there. there)) rest.groups;
      bundles = ((λ is. sym (names_are all)), rest.bundles);
    }
