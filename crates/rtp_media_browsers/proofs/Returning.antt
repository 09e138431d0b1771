-- Sections for a browser, as an end reads them again.
use Rattle.std.proofs.Common.{◌≡◌, ◌∙◌, ap, sym, refl, ℕ, Bool, true, false, not, ◌&&◌, List, [], ◌∷◌}
use Rattle.std.proofs.Common.{map, filter, Option, None}
use Rattle.std.specs.List.{list_all}
use Rattle.std.specs.Option.{unwrap_or}
use Rattle.rtp_wire.specs.declared.direction.Direction.{Direction}
use Rattle.rtp_wire.specs.declared.direction.Direction.TheVariants as way
use Rattle.rtp_media_sections.specs.Lines.{mid_of}
use Rattle.sdp_formats_data.specs.Lookups.{direction_in, mid_in}
use Rattle.sdp_formats_values.specs.MediaTypes.{is_media}
use Rattle.sdp_formats_data.specs.declared.media.MediaAttribute.{MediaAttribute}
use Rattle.sdp_formats_data.specs.declared.media.MediaAttribute.TheVariants as line
use Rattle.sdp_formats_data.specs.declared.media.MediaLine.{MediaLine}
use Rattle.sdp_formats_data.specs.Sections.{extmap_in}
use Rattle.rtp_media_browsers.specs.ForBrowsers.{section_with_transport}
use Rattle.rtp_media_browsers.specs.ForEnds.{end_section}
use Rattle.rtp_media_browsers.specs.Laws.{LinesStay, has_no_transport, is_end_section}
use Rattle.rtp_media_browsers.specs.Lines.{is_bundle_only, is_transport, stays}
use Rattle.rtp_media_browsers.specs.Names.{mids_of}
use Rattle.rtp_media_browsers.specs.declared.transport.Transport.{Transport}
use Rattle.rtp_media_browsers.proofs.WithTransport.{both_of, first_same, kept_same, listed_same}

-- a list all of whose elements pass is not shortened
pub all_kept : {A : Type 0} (p : A → Bool) (xs : List A) → list_all p xs ≡ true → filter p xs ≡ xs
all_kept p [] h = refl
all_kept p (x ∷ xs) h =
    let here = both_of (p x) (list_all p xs) h in
    rw (here.0, all_kept p xs here.1) refl

pub off : (b : Bool) → not b ≡ true → b ≡ false
off true h = sym h
off false h = refl

not_staying : (b : Bool) (a : MediaAttribute) → is_transport a ≡ true → stays b a ≡ false
not_staying b a h = rw h refl

staying : (t b : Bool) → not t ≡ true → (not t && not (false && b)) ≡ true
staying t b h = rw h refl

all_stay : (as' : List MediaAttribute) → has_no_transport as' ≡ true → list_all (stays false) as' ≡ true
all_stay [] h = refl
all_stay (a ∷ as') h =
    let here = both_of (not (is_transport a)) (has_no_transport as') h in
    rw (staying (is_transport a) (is_bundle_only a) here.0) (all_stay as' here.1)

-- what is asked of a section that an end writes
pub media : (m : MediaLine) → is_end_section m ≡ true → is_media m.typ ≡ true
media m h = (both_of (is_media m.typ) (not m.disabled && has_no_transport m.attrs) h).0

plain : (m : MediaLine) → is_end_section m ≡ true → (not m.disabled && has_no_transport m.attrs) ≡ true
plain m h = (both_of (is_media m.typ) (not m.disabled && has_no_transport m.attrs) h).1

pub in_use : (m : MediaLine) → is_end_section m ≡ true → m.disabled ≡ false
in_use m h = off m.disabled (both_of (not m.disabled) (has_no_transport m.attrs) (plain m h)).0

no_transport : (m : MediaLine) → is_end_section m ≡ true → has_no_transport m.attrs ≡ true
no_transport m h = (both_of (not m.disabled) (has_no_transport m.attrs) (plain m h)).1

attributes_same : (m : MediaLine) → is_end_section m ≡ true → filter (stays m.disabled) m.attrs ≡ m.attrs
attributes_same m h =
    ap (λ (b : Bool). filter (stays b) m.attrs) (in_use m h)
    ∙ all_kept (stays false) m.attrs (all_stay m.attrs (no_transport m h))

pub section_same : (m : MediaLine) → is_end_section m ≡ true → end_section m ≡ m
unfolding end_section
section_same m h = λ i. record m { disabled = sym (in_use m h) i; attrs = attributes_same m h i }

pub section_back : (t : Transport) (m : MediaLine) → is_end_section m ≡ true → end_section (section_with_transport t m)
    ≡ m
unfolding end_section section_with_transport
section_back t m h =
    let attrs = kept_same (stays m.disabled) (λ a. not_staying m.disabled a) t m.attrs ∙ attributes_same m h in
    λ i. record m { disabled = sym (in_use m h) i; attrs = attrs i }

pub sections_same : (ms : List MediaLine) → list_all is_end_section ms ≡ true → map end_section ms ≡ ms
sections_same [] h = refl
sections_same (m ∷ ms) h =
    let here = both_of (is_end_section m) (list_all is_end_section ms) h in
    λ i. section_same m here.0 i ∷ sections_same ms here.1 i

pub sections_back : (t : Transport) (ms : List MediaLine) → list_all is_end_section ms ≡ true
    → map end_section (map (section_with_transport t) ms) ≡ ms
sections_back t [] h = refl
sections_back t (m ∷ ms) h =
    let here = both_of (is_end_section m) (list_all is_end_section ms) h in
    λ i. section_back t m here.0 i ∷ sections_back t ms here.1 i

-- a line of the transport is no name
no_mid : (a : MediaAttribute) → is_transport a ≡ true → mid_in a ≡ None
unfolding is_transport mid_in
no_mid (line.Mid mid) h = cc
no_mid _ h = refl

pub mid_same : (t : Transport) (m : MediaLine) → mid_of (section_with_transport t m) ≡ mid_of m
unfolding section_with_transport
mid_same t m = ap (λ (o : Option (List ℕ)). unwrap_or o []) (first_same mid_in no_mid t m.attrs)

pub mids_same : (t : Transport) (ms : List MediaLine) → mids_of (map (section_with_transport t) ms) ≡ mids_of ms
mids_same t [] = refl
mids_same t (m ∷ ms) = λ i. mid_same t m i ∷ mids_same t ms i

no_direction : (a : MediaAttribute) → is_transport a ≡ true → direction_in a ≡ None
unfolding is_transport direction_in
no_direction line.SendRecv h = cc
no_direction line.SendOnly h = cc
no_direction line.RecvOnly h = cc
no_direction line.Inactive h = cc
no_direction _ h = refl

no_extension : (a : MediaAttribute) → is_transport a ≡ true → extmap_in a ≡ []
unfolding is_transport extmap_in
no_extension (line.ExtMap id ext) h = cc
no_extension _ h = refl

-- lines of other kinds stay
pub lines_stay : (t : Transport) (m : MediaLine) → LinesStay t m
unfolding section_with_transport
lines_stay t m = record {
  lines = λ p silent. kept_same p silent t m.attrs;
  direction = ap (λ (o : Option Direction). unwrap_or o way.Inactive) (first_same direction_in no_direction t m.attrs);
  extensions = listed_same extmap_in no_extension t m.attrs;
  name = mid_same t m;
  types = refl;
  kind = refl;
}
