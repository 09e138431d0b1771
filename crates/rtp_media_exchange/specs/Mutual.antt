-- What two ends agree on by the two texts that they exchange (RFC 3264 6).
use Rattle.std.specs.Prelude.{◌≡◌, ◌&&◌, ℕ, List, find, Option, Some, None}
use Rattle.rtp_media_exchange.specs.Exchanges.{Exchanged}
use Rattle.rtp_media_exchange.specs.Offers.{Accepts, Answers}
use Rattle.rtp_media_exchange.specs.Says.{SaysSections}
use Rattle.rtp_media_exchange.specs.Requests.{SaysOffer}
use Rattle.rtp_media_sections.specs.Agreement.{Agreed, is_named, own_repairs_of, remote_repairs_of, said_of, section_of}
use Rattle.rtp_media_sections.specs.Answered.{answered_direction}
use Rattle.rtp_media_sections.specs.Lines.{repairs_of, ssrcs_of}
use Rattle.rtp_media_sections.specs.Sections.{Section, Wanted, has_mid}
use Rattle.rtp_wire.specs.Direction.{receives, sends}

-- What an end agreed on in a section follows from its own text and the other's: media flows from it if its own text
-- sends and the other's receives, and to it the other way round; each SSRC and each RTX pair is named by the text of
-- the end that sends it.
pub record StandsBy (own other : Section) (a : Agreed) : Type 0 where
  pub flows_out : a.sends ≡ (sends own.dir && receives other.dir)
  pub flows_in : a.receives ≡ (receives own.dir && sends other.dir)
  pub own_ssrcs : (ssrc : ℕ) → is_named a.own_ssrcs ssrc ≡ is_named (ssrcs_of own) ssrc
  pub remote_ssrcs : (ssrc : ℕ) → is_named a.remote_ssrcs ssrc ≡ is_named (ssrcs_of other) ssrc
  pub own_repairs : a.own_repairs ≡ repairs_of own
  pub remote_repairs : a.remote_repairs ≡ repairs_of other

-- A section that was offered and answered: each text states its end's request (the answer's as far as the offer
-- allows), and each end agreed on what these two texts say.
pub record IsMutual (offered answered : Section) (request_x request_y : Wanted) (x y : Agreed) : Type 0 where
  pub offered_is : offered.dir ≡ request_x.dir
  pub answered_is : answered.dir ≡ answered_direction offered.dir request_y.dir
  pub offering : StandsBy offered answered x
  pub answering : StandsBy answered offered y

-- The sections with one mid; or none.
abbrev pub AreMutual : Option Section → Option Section → Option Wanted → Option Wanted → Option Agreed → Option Agreed
    → Type 0
AreMutual (Some offered) (Some answered) (Some request_x) (Some request_y) (Some x) (Some y) =
    IsMutual offered answered request_x request_y x y
AreMutual None None None None None None = Unit {0}
AreMutual _ _ _ _ _ _ = ⊥

-- The wanted section of a name.
abbrev pub wanted_of : List Wanted → List ℕ → Option Wanted
wanted_of wanted mid = find (has_mid mid) wanted

-- One end offered wanted sections, the other one answered that text, and the first accepted the answer's.
pub record HaveExchanged (offer answer : List ℕ) (wanted_x wanted_y : List Wanted) (x y after_x after_y : Exchanged)
    : Type 0 where
  pub offers : SaysOffer offer wanted_x
  pub pending : x.pending ≡ Some wanted_x
  pub answers : Answers y offer wanted_y answer after_y
  pub accepts : Accepts x answer after_x

-- In the two texts of an exchange, sections with the same mid are mutual.
abbrev pub ExchangesAreMutual : Type 0
ExchangesAreMutual = (offer answer : List ℕ) (wanted_x wanted_y : List Wanted) (x y after_x after_y : Exchanged)
    → HaveExchanged offer answer wanted_x wanted_y x y after_x after_y → (offered answered : List Section)
    → SaysSections offer offered → SaysSections answer answered → (mid : List ℕ)
    → AreMutual (said_of offered mid) (said_of answered mid) (wanted_of wanted_x mid) (wanted_of wanted_y mid)
    (section_of after_x.agreed mid) (section_of after_y.agreed mid)

-- Each end takes exactly the RTX pairs that the other names.
abbrev pub RepairsAreMutual : Type 0
RepairsAreMutual = (offer answer : List ℕ) (wanted_x wanted_y : List Wanted) (x y after_x after_y : Exchanged)
    → HaveExchanged offer answer wanted_x wanted_y x y after_x after_y → (mid : List ℕ)
    → (own_repairs_of after_x.agreed mid ≡ remote_repairs_of after_y.agreed mid)
    × (own_repairs_of after_y.agreed mid ≡ remote_repairs_of after_x.agreed mid)
