-- The sections of a browser's text: those an end sees, and those it doesn't (RFC 8829 5.2.2, 5.3.1).
use Rattle.std.specs.Prelude.{ℕ, suc, Bool, true, false, not, ◌&&◌, ◌||◌, ◌==◌, length, List, [], ◌∷◌, ◌++◌, filter}
use Rattle.std.specs.Prelude.{map, Option}
use Rattle.std.specs.Prelude.{Some}
use Rattle.std.specs.Prelude.{None}
use Rattle.std.specs.Prelude.{slice_get, if◌then◌else◌}
use Rattle.std.specs.List.{list_any}
use Rattle.rtp_media_sections.specs.Lines.{mid_of}
use Rattle.sdp_formats_values.specs.MediaTypes.{is_media}
use Rattle.sdp_formats_data.specs.declared.media.MediaAttribute.{MediaAttribute}
use Rattle.sdp_formats_data.specs.declared.media.MediaAttribute.TheVariants as line
use Rattle.sdp_formats_data.specs.WholeTexts.{is_name}
use Rattle.sdp_formats_data.specs.declared.media.MediaLine.{MediaLine}
use Rattle.rtp_media_browsers.specs.Following.{has_name, is_new, section_named}
use Rattle.rtp_media_browsers.specs.Lines.{is_bundle_only}
use Rattle.rtp_media_browsers.specs.Names.{is_among}
use Rattle.rtp_media_browsers.specs.declared.state.Place.{Place}
use Rattle.rtp_media_browsers.specs.declared.state.Place.TheVariants.{Free, Kept, Taken}
use Rattle.rtp_media_browsers.specs.declared.request.SectionRequest.{SectionRequest}
use Rattle.rtp_media_browsers.specs.declared.request.SectionRequest.TheVariants.{Accept, Receive}

abbrev pub is_accepted : Option SectionRequest → Bool
is_accepted (Some (Accept direction ssrcs repairs)) = true
is_accepted (Some Receive) = true
is_accepted _ = false

-- Whether port 0 only means that the section has no transport of its own: it is marked bundle-only and is in the bundle
-- (RFC 9143 6).
abbrev pub is_bundled_only : List (List ℕ) → MediaLine → Bool
is_bundled_only bundle m = list_any is_bundle_only m.attrs && is_among bundle (mid_of m)

-- Whether a section is outside of the bundle that there is, and so has a transport of its own, which an end hasn't (RFC
-- 9143 7.3).
abbrev pub is_outside : List (List ℕ) → MediaLine → Bool
is_outside bundle m = not (length bundle == 0) && not (is_among bundle (mid_of m))

-- Whether a section of an offer is removed: it is neither audio nor video, or port 0 rejects it, or it is outside of
-- the bundle, or the request rejects it.
abbrev pub is_taken : List (List ℕ) → Option SectionRequest → MediaLine → Bool
is_taken bundle request m =
    not (is_media m.typ)
    || ((m.disabled && not (is_bundled_only bundle m)) || (is_outside bundle m || not (is_accepted request)))

unfoldable pub is_map : MediaAttribute → Bool
is_map (line.RtpMap pt value) = true
is_map _ = false

-- For audio and video: `a=inactive`, and the lines that map payload types.
abbrev pub rejected_media : MediaLine → List MediaAttribute
rejected_media m = if is_media m.typ then line.Inactive ∷ filter is_map m.attrs else []

-- The answer's section for a rejected one: port 0, its formats and its mid (RFC 8829 5.3.1). It is in no bundle and has
-- no transport (RFC 9143 7.3.3).
abbrev pub rejected : MediaLine → MediaLine
rejected m = record m {
  disabled = true;
  bw = None;
  attrs = line.Mid (mid_of m) ∷ rejected_media m;
}

abbrev pub place_of : List (List ℕ) → Option SectionRequest → MediaLine → Place
place_of bundle request m = if is_taken bundle request m then Taken (rejected m) else Kept (mid_of m)

-- What happens to each section of an offer, from the n-th on.
abbrev pub places_from : List (List ℕ) → List SectionRequest → ℕ → List MediaLine → List Place
places_from bundle requests n [] = []
places_from bundle requests n (m ∷ ms) =
    place_of bundle (slice_get requests n) m ∷ places_from bundle requests (suc n) ms

-- The section, unless it is removed.
abbrev pub left_at : Option Place → MediaLine → List MediaLine
left_at (Some (Taken r)) m = []
left_at (Some (Free r)) m = []
left_at _ m = m ∷ []

-- The sections that aren't removed; sections beyond the state are kept.
abbrev pub left : List Place → List MediaLine → List MediaLine
left [] ms = ms
left (p ∷ ps) [] = []
left (Kept name ∷ ps) (m ∷ ms) = m ∷ left ps ms
left (Taken r ∷ ps) (m ∷ ms) = left ps ms
left (Free r ∷ ps) (m ∷ ms) = left ps ms

-- The place after the browser's answer. Where its port is 0 the place is free from then on: the current descriptions
-- have port 0 there (RFC 8829 5.2.2). A free place is used again if the answer has another name or port there than what
-- was rejected.
abbrev pub answered_place : Place → MediaLine → Place
answered_place (Kept name) m = if m.disabled then Free (rejected m) else Kept name
answered_place (Taken r) m = if m.disabled then Free r else Taken r
answered_place (Free r) m = if m.disabled && has_name (mid_of r) m then Free r else Kept (mid_of m)

-- The same if the state has a place, and of a section that the end's offer added.
abbrev pub answered_or_new : Option Place → MediaLine → Place
answered_or_new (Some p) m = answered_place p m
answered_or_new None m = Kept (mid_of m)

-- The places after the browser's answer; those of further sections, which the end's offer added, follow.
abbrev pub answered_places : List Place → List MediaLine → List Place
answered_places [] ms = map (λ m. Kept (mid_of m)) ms
answered_places (p ∷ ps) [] = []
answered_places (p ∷ ps) (m ∷ ms) = answered_place p m ∷ answered_places ps ms

-- The place after an answer to the browser, which says port 0 of what isn't answered.
abbrev pub freed : Place → Place
freed (Kept name) = Kept name
freed (Taken r) = Free r
freed (Free r) = Free r

-- The place of the section of a name, if the end stops it.
unfoldable pub stopped_place : Option MediaLine → List ℕ → Place → Place
stopped_place (Some m) mid (Kept name) = if is_name mid name then Taken (rejected m) else Kept name
stopped_place found mid p = p

unfoldable pub is_place_of : List ℕ → Place → Bool
is_place_of mid (Kept name) = is_name mid name
is_place_of mid _ = false

abbrev pub if_any : Option MediaLine → List MediaLine
if_any None = []
if_any (Some m) = m ∷ []

-- What a browser gets at a place, given the new sections that have no place yet: what was taken out, the end's section
-- of that name, or at a free place the first of the new ones, if there is one (RFC 8829 5.2.2, RFC 3264 8.1).
unfoldable pub at_place : List MediaLine → List MediaLine → Place → List MediaLine
at_place ms news (Taken r) = r ∷ []
at_place ms news (Kept name) = if_any (section_named ms name)
at_place ms [] (Free r) = r ∷ []
at_place ms (m ∷ news) (Free r) = m ∷ []

-- The new sections that have no place after this one.
unfoldable pub after_place : Place → List MediaLine → List MediaLine
after_place (Taken r) news = news
after_place (Kept name) news = news
after_place (Free r) [] = []
after_place (Free r) (m ∷ news) = news

-- The sections place by place, and after them the new ones that got none.
abbrev pub placed_from : List MediaLine → List Place → List MediaLine → List MediaLine
placed_from ms [] news = news
placed_from ms (p ∷ ps) news = at_place ms news p ++ placed_from ms ps (after_place p news)

-- The sections that a browser gets: place by place, with those that are new to it at the free ones and after them. What
-- the end has beyond these is stopped.
abbrev pub placed : List Place → List MediaLine → List MediaLine → List MediaLine
placed places olds ms = placed_from ms places (filter (is_new olds) ms)
