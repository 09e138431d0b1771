-- Lines of unknown kinds (RFC 8866 5.13).
use Rattle.std.specs.Prelude.{◌≡◌, ◌≢◌, ◌++◌, ℕ, List, [], ◌∷◌, Some, codes}
use Rattle.sdp_formats_reader.specs.AttributesChoice.{media_attribute}
use Rattle.sdp_formats_reader.specs.ReaderChoice.{session_attribute}
use Rattle.sdp_formats_data.specs.declared.media.MediaAttribute.TheVariants.{Unused as UnusedInSection}
use Rattle.sdp_formats_data.specs.declared.session.SessionAttribute.TheVariants.{Unused as UnusedInSession}

-- The prefixes of the known media-level attributes after `a=`, and those that are single words.
abbrev pub section_names : List (List ℕ)
section_names =
    codes "ice-ufrag:" ∷ codes "ice-pwd:" ∷ codes "ice-options:" ∷ codes "fingerprint:" ∷ codes "setup:"
    ∷ codes "mid:" ∷ codes "sctp-port:" ∷ codes "max-message-size:" ∷ codes "sctp-init:" ∷ codes "extmap:"
    ∷ codes "msid:" ∷ codes "rtcp:" ∷ codes "candidate:" ∷ codes "rtpmap:" ∷ codes "rtcp-fb:" ∷ codes "fmtp:"
    ∷ codes "rid:" ∷ codes "simulcast:" ∷ codes "ssrc-group:" ∷ codes "ssrc:" ∷ []

abbrev pub section_words : List (List ℕ)
section_words =
    codes "recvonly" ∷ codes "sendrecv" ∷ codes "sendonly" ∷ codes "inactive" ∷ codes "rtcp-mux"
    ∷ codes "rtcp-mux-only" ∷ codes "rtcp-rsize" ∷ codes "end-of-candidates" ∷ []

-- The same of a session.
abbrev pub session_names : List (List ℕ)
session_names =
    codes "group:" ∷ codes "msid-semantic:" ∷ codes "ice-ufrag:" ∷ codes "ice-pwd:" ∷ codes "ice-options:"
    ∷ codes "fingerprint:" ∷ codes "setup:" ∷ codes "candidate:" ∷ []

abbrev pub session_words : List (List ℕ)
session_words =
    codes "ice-lite" ∷ codes "end-of-candidates" ∷ []

-- The text begins with none of these.
abbrev pub BeginsWithNone : List (List ℕ) → List ℕ → Type 0
BeginsWithNone [] t = Unit {0}
BeginsWithNone (name ∷ names) t = ((rest : List ℕ) → t ≢ name ++ rest) × BeginsWithNone names t

-- It is none of these.
abbrev pub IsNoneOf : List (List ℕ) → List ℕ → Type 0
IsNoneOf [] t = Unit {0}
IsNoneOf (word ∷ words) t = (t ≢ word) × IsNoneOf words t

-- A text that is no known media-level attribute is read unchanged.
abbrev pub OtherLinesStayInSections : Type 0
OtherLinesStayInSections = (t : List ℕ) → t ≢ [] → BeginsWithNone section_names t → IsNoneOf section_words t
    → media_attribute.reads t ≡ Some (UnusedInSection t)

-- The same of a session.
abbrev pub OtherLinesStayInSessions : Type 0
OtherLinesStayInSessions = (t : List ℕ) → t ≢ [] → BeginsWithNone session_names t → IsNoneOf session_words t
    → session_attribute.reads t ≡ Some (UnusedInSession t)
