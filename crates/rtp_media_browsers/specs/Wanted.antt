-- The sections an end should answer with.
use Rattle.std.specs.Prelude.{ℕ, suc, List, [], ◌∷◌, map, slice_get, Option, Some, None, if◌then◌else◌}
use Rattle.rtp_media_sections.specs.Lines.{kind_of, mid_of}
use Rattle.rtp_media_sections.specs.Sections.{Wanted}
use Rattle.rtp_wire.specs.declared.direction.Direction.TheVariants.{Inactive, RecvOnly}
use Rattle.sdp_formats_data.specs.declared.media.MediaLine.{MediaLine}
use Rattle.rtp_media_browsers.specs.Places.{is_place_of}
use Rattle.rtp_media_browsers.specs.declared.state.Place.{Place}
use Rattle.rtp_media_browsers.specs.declared.state.BrowserState.{BrowserState}
use Rattle.rtp_media_browsers.specs.declared.request.SectionRequest.{SectionRequest}
use Rattle.rtp_media_browsers.specs.declared.request.SectionRequest.TheVariants.{Accept, Receive}

-- The place of the section of a name, counted from n on, if it has one.
abbrev pub number_from : List ℕ → ℕ → List Place → Option ℕ
number_from mid n [] = None
number_from mid n (p ∷ ps) = if is_place_of mid p then Some n else number_from mid (suc n) ps

-- The request for a place.
abbrev pub request_at : List SectionRequest → Option ℕ → Option SectionRequest
request_at requests None = None
request_at requests (Some n) = slice_get requests n

-- A section of an end as its request says; without one that accepts it is inactive, without SSRCs.
abbrev pub wanted : Option SectionRequest → MediaLine → Wanted
wanted (Some (Accept direction ssrcs repairs)) m = record {
  mid = mid_of m;
  kind = kind_of m.typ;
  dir = direction;
  ssrcs = ssrcs.items;
  repairs = repairs.items;
}
wanted (Some Receive) m = record { mid = mid_of m; kind = kind_of m.typ; dir = RecvOnly; ssrcs = []; repairs = [] }
wanted _ m = record { mid = mid_of m; kind = kind_of m.typ; dir = Inactive; ssrcs = []; repairs = [] }

abbrev pub wanted_in : BrowserState → List SectionRequest → MediaLine → Wanted
wanted_in state requests m = wanted (request_at requests (number_from (mid_of m) 0 state.places)) m

-- The sections of an end, in its order, each as its request says.
abbrev pub wanted_of : BrowserState → List SectionRequest → List Wanted
wanted_of state requests = map (wanted_in state requests) state.sections
