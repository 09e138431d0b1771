-- A section as it is read has the faults of the section.
use Rattle.std.proofs.Common.{◌≡◌, ◌==◌, ℕ, Bool, not, ◌&&◌, ◌||◌, List, [], ◌∷◌, map, nat_lt, length}
use Rattle.std.proofs.Common.{if◌then◌else◌, Option, Some, None, IsTrue, refl, sym, ap, subst}
use Rattle.std.specs.List.{count_by, list_all}
use Rattle.std.specs.Prelude.{is_none}
use Rattle.sdp_formats_values.specs.declared.param.FormatParam.{FormatParam}
use Rattle.sdp_formats_values.specs.declared.param.FormatParam.TheVariants as param
use Rattle.sdp_formats_reader.specs.AsRead.{as_read, spelled_as}
use Rattle.sdp_formats_data.specs.Consistency.{apt_differs, apts_agree, apts_agree_with, are_mapped}
use Rattle.sdp_formats_data.specs.Consistency.{attribute_agrees, fault_of, gives_apt, is_consistent}
use Rattle.sdp_formats_data.specs.Consistency.{is_direction_of, is_mapped, is_setup, is_static, maps_type}
use Rattle.sdp_formats_data.specs.Consistency.{values_agree}
use Rattle.sdp_formats_data.specs.Media.{is_mid}
use Rattle.sdp_formats_values.specs.MediaTypes.{is_rtp}
use Rattle.sdp_formats_data.specs.declared.Inconsistency.{Inconsistency}
use Rattle.sdp_formats_data.specs.declared.Inconsistency.TheVariants as fault
use Rattle.sdp_formats_data.specs.declared.media.MediaAttribute.{MediaAttribute}
use Rattle.sdp_formats_data.specs.declared.media.MediaAttribute.TheVariants.{Fmtp}
use Rattle.sdp_formats_data.specs.declared.media.MediaLine.{MediaLine}
use Rattle.sdp_formats_laws.specs.AsReadLemmas.{all_as_read, all_map, any_as_read, count_map}
use Rattle.sdp_formats_laws.specs.ReadTexts.{section_as_read}

mid_same : (a : MediaAttribute) → is_mid (as_read a) ≡ is_mid a
unfolding is_mid
mid_same (Fmtp pt values) = refl
mid_same _ = refl

setup_same : (a : MediaAttribute) → is_setup (as_read a) ≡ is_setup a
unfolding is_setup
setup_same (Fmtp pt values) = refl
setup_same _ = refl

direction_same : (a : MediaAttribute) → is_direction_of (as_read a) ≡ is_direction_of a
unfolding is_direction_of
direction_same (Fmtp pt values) = refl
direction_same _ = refl

maps_same : (pt : ℕ) (a : MediaAttribute) → maps_type pt (as_read a) ≡ maps_type pt a
maps_same pt (Fmtp other values) = refl
maps_same pt _ = refl

differs_same : (apt : ℕ) (p : FormatParam) → apt_differs apt (spelled_as p) ≡ apt_differs apt p
differs_same apt (param.TelephoneEvents most) = refl
differs_same apt (param.Red pt) = refl
differs_same apt _ = refl

agrees_same : (pt apt : ℕ) (a : MediaAttribute) → attribute_agrees pt apt (as_read a) ≡ attribute_agrees pt apt a
agrees_same pt apt (Fmtp other values) =
    ap (λ b. not (other == pt) || not b) (any_as_read (apt_differs apt) (apt_differs apt) (differs_same apt) values)
agrees_same pt apt _ = refl

with_same : (attrs : List MediaAttribute) (pt apt : ℕ)
    → apts_agree_with (map as_read attrs) pt apt ≡ apts_agree_with attrs pt apt
with_same attrs pt apt = all_map as_read (attribute_agrees pt apt) (attribute_agrees pt apt) (agrees_same pt apt) attrs

values_same : (attrs : List MediaAttribute) (pt : ℕ) (p : FormatParam)
    → values_agree (map as_read attrs) pt (spelled_as p) ≡ values_agree attrs pt p
values_same attrs pt (param.Apt apt) = with_same attrs pt apt
values_same attrs pt (param.TelephoneEvents most) = refl
values_same attrs pt (param.Red other) = refl
values_same attrs pt _ = refl

gives_same : (attrs : List MediaAttribute) (a : MediaAttribute)
    → gives_apt (map as_read attrs) (as_read a) ≡ gives_apt attrs a
gives_same attrs (Fmtp pt values) =
    all_as_read (values_agree (map as_read attrs) pt) (values_agree attrs pt) (values_same attrs pt) values
gives_same attrs _ = refl

apts_same : (attrs : List MediaAttribute) → apts_agree (map as_read attrs) ≡ apts_agree attrs
apts_same attrs = all_map as_read (gives_apt (map as_read attrs)) (gives_apt attrs) (gives_same attrs) attrs

count_same : (p : MediaAttribute → Bool) → ((a : MediaAttribute) → p (as_read a) ≡ p a)
    → (attrs : List MediaAttribute) → count_by p (map as_read attrs) ≡ count_by p attrs
count_same p e attrs = count_map as_read p p e attrs

mapped_same : (attrs : List MediaAttribute) (pt : ℕ) → is_mapped (map as_read attrs) pt ≡ is_mapped attrs pt
mapped_same attrs pt = ap (λ n. (n == 1) || ((n == 0) && is_static pt))
    (count_map as_read (maps_type pt) (maps_type pt) (maps_same pt) attrs)

all_mapped_same : (attrs : List MediaAttribute) (pts : List ℕ)
    → are_mapped (map as_read attrs) pts ≡ are_mapped attrs pts
all_mapped_same attrs [] = refl
all_mapped_same attrs (pt ∷ pts) = (λ i. mapped_same attrs pt i && all_mapped_same attrs pts i)

-- the first fault by what is counted and agreed
abbrev pub faults : MediaLine → ℕ → ℕ → ℕ → Bool → Bool → Option Inconsistency
faults m mids setups directions mapped apts =
    if mids == 0 then Some fault.MissingMid
    else if nat_lt 1 mids then Some fault.SeveralMids
    else if nat_lt 1 setups then Some fault.SeveralSetups
    else if is_rtp m.proto && not (directions == 1) then Some fault.Directions
    else if (is_rtp m.proto && (length m.pts == 0)) && not m.disabled then Some fault.NoPayloadType
    else if not mapped then Some fault.RtpMaps
    else if not apts then Some fault.ConflictingApts
    else None

fault_same : (m : MediaLine) → fault_of (section_as_read m) ≡ fault_of m
fault_same m = (λ i. faults m (count_same is_mid mid_same m.attrs i) (count_same is_setup setup_same m.attrs i)
    (count_same is_direction_of direction_same m.attrs i) (all_mapped_same m.attrs m.pts i) (apts_same m.attrs i))

consistent_same : (m : MediaLine) → is_consistent (section_as_read m) ≡ is_consistent m
consistent_same m = ap is_none (fault_same m)

pub all_consistent : (ms : List MediaLine) → IsTrue (list_all is_consistent ms)
    → IsTrue (list_all is_consistent (map section_as_read ms))
all_consistent ms h =
    subst IsTrue (sym (all_map section_as_read is_consistent is_consistent consistent_same ms)) h
