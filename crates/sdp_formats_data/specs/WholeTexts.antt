-- SDPs whose parts are consistent.
use Rattle.std.specs.Prelude.{◌≡◌, ℕ, Bool, true, false, not, ◌&&◌, ◌||◌, IsTrue, List, [], ◌∷◌}
use Rattle.std.specs.Prelude.{Option, Some, None, nat_eq, if◌then◌else◌}
use Rattle.std.specs.Cmp.Lexicographic.{pointwise}
use Rattle.std.specs.List.{filter_map, list_all, list_any}
use Rattle.sdp_formats_data.specs.Consistency.{is_consistent}
use Rattle.sdp_formats_data.specs.Lookups.{first_of, mid_in}
use Rattle.sdp_formats_data.specs.declared.media.MediaLine.{MediaLine}
use Rattle.sdp_formats_data.specs.declared.session.Sdp.{Sdp}
use Rattle.sdp_formats_data.specs.declared.session.SessionAttribute.{SessionAttribute}
use Rattle.sdp_formats_data.specs.declared.session.SessionAttribute.TheVariants as a

abbrev pub is_name : List ℕ → List ℕ → Bool
is_name name other = pointwise nat_eq name other

-- No mid occurs twice.
abbrev pub are_apart : List (List ℕ) → Bool
are_apart [] = true
are_apart (name ∷ names) = not (list_any (is_name name) names) && are_apart names

abbrev pub mid_of : MediaLine → Option (List ℕ)
mid_of m = first_of mid_in m.attrs

-- The mids of a group, whatever its semantics.
unfoldable pub group_in : SessionAttribute → Option (List (List ℕ))
group_in (a.Group typ mids) = Some mids
group_in _ = None

abbrev pub lists : List (List ℕ) → Option (List ℕ) → Bool
lists mids None = false
lists mids (Some name) = list_any (is_name name) mids

-- A section belongs to the group if it isn't rejected, or if the group names it.
abbrev pub belongs : List (List ℕ) → MediaLine → Bool
belongs mids m = not m.disabled || lists mids (mid_of m)

abbrev pub grouped_mid : List (List ℕ) → MediaLine → Option (List ℕ)
grouped_mid mids m = if belongs mids m then mid_of m else None

-- Its sections have no inconsistency, their mids are distinct, and its first group lists exactly the sections that
-- belong to it, in order (RFC 9143 7).
pub record IsWhole (sdp : Sdp) : Type 0 where
  pub sections : IsTrue (list_all is_consistent sdp.media_lines)
  pub names : IsTrue (are_apart (filter_map mid_of sdp.media_lines))
  pub mids : List (List ℕ)
  pub group : first_of group_in sdp.session.attrs ≡ Some mids
  pub grouped : mids ≡ filter_map (grouped_mid mids) sdp.media_lines
