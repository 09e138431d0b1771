-- The candidates of a session and of a section (RFC 8839 5.1).
use Rattle.std.specs.Prelude.{List, map, Option, Some, None}
use Rattle.std.specs.Borrow.{Bor}
use Rattle.std.specs.List.{filter_map}
use Rattle.sdp_formats_values.specs.declared.candidate.Candidate.{Candidate}
use Rattle.sdp_formats_data.specs.declared.media.MediaAttribute.{MediaAttribute}
use Rattle.sdp_formats_data.specs.declared.media.MediaAttribute.TheVariants as media
use Rattle.sdp_formats_data.specs.declared.media.MediaLine.{MediaLine}
use Rattle.sdp_formats_data.specs.declared.session.Session.{Session}
use Rattle.sdp_formats_data.specs.declared.session.SessionAttribute.{SessionAttribute}
use Rattle.sdp_formats_data.specs.declared.session.SessionAttribute.TheVariants as session

unfoldable pub session_candidate : SessionAttribute → Option Candidate
session_candidate (session.Candidate candidate) = Some candidate
session_candidate _ = None

unfoldable pub section_candidate : MediaAttribute → Option Candidate
section_candidate (media.Candidate candidate) = Some candidate
section_candidate _ = None

abbrev pub session_candidates : Session → List Candidate
session_candidates s = filter_map session_candidate s.attrs

abbrev pub section_candidates : MediaLine → List Candidate
section_candidates m = filter_map section_candidate m.attrs

abbrev pub borrowed : List (Bor Candidate) → List Candidate
borrowed candidates = map (λ c. c.now) candidates
