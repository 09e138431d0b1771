-- What a browser's texts say of its transport, as C sees it.
use Rattle.std.specs.Prelude.{ℕ, ◌≡◌, ◌≢◌, ◌==◌, List, length, Option, Some, None, is_some, slice_get}
use Rattle.std.specs.Prelude.{if◌then◌else◌}
use Rattle.std.specs.Option.{option_map}
use Rattle.rtp_media_browsers.specs.declared.state.BrowserState.{BrowserState}
use Rattle.rtp_media_browsers.specs.declared.state.Remote.{Remote}
use Rattle.sdp_formats_values.specs.declared.candidate.IceCreds.{IceCreds}
use Rattle.sdp_formats_values.specs.declared.setup.Setup.{Setup}
use Rattle.sdp_formats_values.specs.declared.setup.Setup.TheVariants.{ActPass, Active, Passive}
use Rattle.sdp_formats_values.specs.PrintedCandidates.{candidate_text}
use Rattle.sdp_formats_values.specs.PrintedValues.{fingerprint_text}
use Rattle.jilqamur.specs.Codes.{memory}
use Rattle.jilqamur.specs.Copies.{IsFetched}
use Rattle.jilqamur.specs.declared.remote.WireRemote.{WireRemote}

-- The number of a DTLS role; 0 if none is known.
abbrev pub setup_told : Option Setup → ℕ
setup_told None = 0
setup_told (Some ActPass) = 0
setup_told (Some Active) = 1
setup_told (Some Passive) = 2

abbrev pub remote_told : BrowserState → WireRemote
remote_told state = record {
  has_setup = is_some state.remote.setup;
  setup = setup_told state.remote.setup;
  has_own_setup = is_some state.setup;
  own_setup = setup_told state.setup;
  is_trickling = state.remote.is_trickling;
  is_lite = state.remote.is_lite;
  candidates = length state.remote.candidates;
}

abbrev pub ufrag_of : Option IceCreds → Option (List ℕ)
ufrag_of None = None
ufrag_of (Some creds) = Some creds.ufrag

abbrev pub password_of : Option IceCreds → Option (List ℕ)
password_of None = None
password_of (Some creds) = Some creds.pass

-- A text of the transport: 0 is the ICE ufrag, 1 the ICE password, 2 the fingerprint.
abbrev pub part_of : Remote → ℕ → Option (List ℕ)
part_of r n =
    if n == 0 then ufrag_of r.creds
    else if n == 1 then password_of r.creds
    else if n == 2 then option_map fingerprint_text r.fingerprint
    else None

-- The text of the ICE candidate with this index.
abbrev pub candidate_of : Remote → ℕ → Option (List ℕ)
candidate_of r n = option_map candidate_text (slice_get r.candidates n)

-- The printed text is copied to the front of a buffer; if memory runs out, the buffer doesn't change.
pub record IsPrinted (text : Option (List ℕ)) (before : List ℕ) (result needed_before needed : ℕ) (buffer : List ℕ)
    : Type 0 where
  pub printed : result ≢ memory → IsFetched text before result needed buffer
  pub stays : result ≡ memory → (buffer ≡ before) × (needed ≡ needed_before)
