-- Sections in which an end only receives: the end reads them as those in which the browser only sends, and whose types
-- are suggestions (RFC 3264 6.1: what is received may come under the types of the offer).
use Rattle.std.specs.Prelude.{ℕ, suc, Bool, true, false, List, [], ◌∷◌, map, slice_get, Option, Some}
use Rattle.sdp_formats_data.specs.declared.media.MediaAttribute.{MediaAttribute}
use Rattle.sdp_formats_data.specs.declared.media.MediaAttribute.TheVariants as line
use Rattle.sdp_formats_data.specs.declared.media.MediaLine.{MediaLine}
use Rattle.sdp_formats_data.specs.declared.session.Sdp.{Sdp}
use Rattle.rtp_media_browsers.specs.declared.request.SectionRequest.{SectionRequest}
use Rattle.rtp_media_browsers.specs.declared.request.SectionRequest.TheVariants.{Receive}

abbrev pub is_received : Option SectionRequest → Bool
is_received (Some Receive) = true
is_received _ = false

-- A direction without what the browser receives.
unfoldable pub only_sent : MediaAttribute → MediaAttribute
only_sent line.SendRecv = line.SendOnly
only_sent line.RecvOnly = line.Inactive
only_sent attribute = attribute

abbrev pub as_asked : Option SectionRequest → MediaLine → MediaLine
as_asked (Some Receive) m = record m { attrs = map only_sent m.attrs }
as_asked _ m = m

-- The sections of an offer from the n-th on, each as its request has it.
abbrev pub all_as_asked : List SectionRequest → ℕ → List MediaLine → List MediaLine
all_as_asked requests n [] = []
all_as_asked requests n (m ∷ ms) = as_asked (slice_get requests n) m ∷ all_as_asked requests (suc n) ms

abbrev pub asked_of : List SectionRequest → Sdp → Sdp
asked_of requests sdp = record sdp { media_lines = all_as_asked requests 0 sdp.media_lines }
