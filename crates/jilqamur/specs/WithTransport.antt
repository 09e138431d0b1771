-- What a text of an end answers that is made one for a browser.
use Rattle.std.specs.Prelude.{ℕ, ◌≡◌, ◌⊎◌, ◌&&◌, ◌==◌, Bool, List, Option, Some, None, if◌then◌else◌}
use Rattle.std.specs.Str.{is_utf8}
use Rattle.rtp_media_browsers.specs.Calls.{HasTransport, HasNoTransport}
use Rattle.rtp_media_browsers.specs.declared.error.BrowserError.{BrowserError}
use Rattle.rtp_media_browsers.specs.declared.state.BrowserState.{BrowserState}
use Rattle.rtp_media_browsers.specs.declared.transport.Gathering.TheVariants.{Trickling}
use Rattle.rtp_media_browsers.specs.declared.transport.Transport.{Transport}
use Rattle.rtp_media_ends.specs.Stops.{Where}
use Rattle.sdp_formats_values.specs.declared.setup.Setup.{Setup}
use Rattle.sdp_formats_values.specs.declared.setup.Setup.TheVariants.{ActPass, Active, Passive}
use Rattle.jilqamur.specs.Codes.{ok, not_text, out_of_range}
use Rattle.jilqamur.specs.Browsers.{browser_code}

-- The DTLS role of a number: 0 is `actpass`, 1 `active`, 2 `passive`.
abbrev pub setup_of : ℕ → Option Setup
setup_of n =
    if n == 0 then Some ActPass
    else if n == 1 then Some Active
    else if n == 2 then Some Passive
    else None

-- The transport with these parts; its ICE candidates come later (trickle).
abbrev pub transport_of : Setup → Bool → List ℕ → List ℕ → List ℕ → List ℕ → Transport
transport_of setup lite ufrag password hash digest = record {
  creds = record { ufrag = ufrag; pass = password };
  gathering = Trickling;
  fingerprint = record { hash_func = hash; bytes = digest };
  setup = setup;
  is_lite = lite;
}

abbrev pub are_texts : List ℕ → List ℕ → List ℕ → List ℕ → Bool
are_texts text ufrag password hash = is_utf8 text && (is_utf8 ufrag && (is_utf8 password && is_utf8 hash))

-- The text isn't one for a browser.
pub record StaysBare (text : List ℕ) (state : BrowserState) (t : Transport) (result : ℕ) : Type 0 where
  pub error : BrowserError
  pub refused : HasNoTransport text state t error
  pub number : result ≡ browser_code error

-- The result for a transport; for a number that is no DTLS role; and for bytes that aren't UTF-8.
abbrev pub AddsTransport : List ℕ → BrowserState → Transport → ℕ → List ℕ → BrowserState → Type 0
AddsTransport text state t result out after = ((result ≡ ok) × HasTransport text state t after out)
    ⊎ StaysBare text state t result

abbrev pub AtSetup : Option Setup → ℕ → (Setup → Type 0) → Type 0
AtSetup None result answers = result ≡ out_of_range
AtSetup (Some setup) result answers = answers setup

abbrev pub WithTexts : Bool → ℕ → Type 0 → Type 0
WithTexts are result answers = Where are answers (result ≡ not_text)
