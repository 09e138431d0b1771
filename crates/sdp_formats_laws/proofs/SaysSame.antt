-- What a section is read as says the same by its other lines.
use Rattle.std.proofs.Common.{◌≡◌, cond, List, [], ◌∷◌, ◌++◌, map, filter, Option, refl, ap}
use Rattle.std.specs.List.{flat_map}
use Rattle.std.specs.Option.{option_or, unwrap_or}
use Rattle.rtp_wire.specs.declared.direction.Direction.TheVariants as way
use Rattle.sdp_formats_data.specs.Sections.{extmap_in}
use Rattle.sdp_formats_reader.specs.AsRead.{as_read}
use Rattle.sdp_formats_laws.specs.Rows.{ReadSectionsSayTheSame, is_other_line}
use Rattle.sdp_formats_data.specs.Lookups.{direction_in, first_of, mid_in, msid_in, setup_in}
use Rattle.sdp_formats_data.specs.declared.MediaAttribute.{MediaAttribute}
use Rattle.sdp_formats_data.specs.declared.MediaAttribute.TheVariants.{Fmtp}

first_same : {B : Type 0} (f : MediaAttribute → Option B) → ((a : MediaAttribute) → f (as_read a) ≡ f a)
    → (attrs : List MediaAttribute) → first_of f (map as_read attrs) ≡ first_of f attrs
first_same f e [] = refl
first_same f e (a ∷ attrs) = (λ i. option_or (e a i) (first_same f e attrs i))

mid_line : (a : MediaAttribute) → mid_in (as_read a) ≡ mid_in a
unfolding mid_in
mid_line (Fmtp pt values) = refl
mid_line _ = refl

direction_line : (a : MediaAttribute) → direction_in (as_read a) ≡ direction_in a
unfolding direction_in
direction_line (Fmtp pt values) = refl
direction_line _ = refl

msid_line : (a : MediaAttribute) → msid_in (as_read a) ≡ msid_in a
unfolding msid_in
msid_line (Fmtp pt values) = refl
msid_line _ = refl

setup_line : (a : MediaAttribute) → setup_in (as_read a) ≡ setup_in a
unfolding setup_in
setup_line (Fmtp pt values) = refl
setup_line _ = refl

extmap_line : (a : MediaAttribute) → extmap_in (as_read a) ≡ extmap_in a
unfolding extmap_in
extmap_line (Fmtp pt values) = refl
extmap_line _ = refl

extmaps_same : (attrs : List MediaAttribute) → flat_map extmap_in (map as_read attrs) ≡ flat_map extmap_in attrs
extmaps_same [] = refl
extmaps_same (a ∷ attrs) = (λ i. extmap_line a i ++ extmaps_same attrs i)

one_line : (a : MediaAttribute) (xs ys : List MediaAttribute) → xs ≡ ys
    → cond (is_other_line (as_read a)) (as_read a ∷ xs) xs ≡ cond (is_other_line a) (a ∷ ys) ys
one_line (Fmtp pt values) xs ys e = e
one_line a xs ys e = ap (λ t. a ∷ t) e

others_same : (attrs : List MediaAttribute)
    → filter is_other_line (map as_read attrs) ≡ filter is_other_line attrs
others_same [] = refl
others_same (a ∷ attrs) =
    one_line a (filter is_other_line (map as_read attrs)) (filter is_other_line attrs) (others_same attrs)

pub says_same : ReadSectionsSayTheSame
says_same m = (
  others_same m.attrs,
  first_same mid_in mid_line m.attrs,
  ap (λ o. unwrap_or o way.Inactive) (first_same direction_in direction_line m.attrs),
  first_same msid_in msid_line m.attrs,
  first_same setup_in setup_line m.attrs,
  extmaps_same m.attrs,
)
