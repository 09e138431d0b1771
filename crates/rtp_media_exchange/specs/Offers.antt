-- What offers and answers say.
use Rattle.std.specs.Prelude.{◌≡◌, ℕ, IsTrue, List, ◌∷◌, map, zip, codes, Some, Ok}
use Rattle.rtp_wire.specs.Values.{Numbering}
use Rattle.sdp_formats_rounds.specs.Laws.{rounds}
use Rattle.sdp_formats_rows.specs.Rows.{Row}
use Rattle.sdp_formats_data.specs.PrintedSession.{sdp_text}
use Rattle.sdp_formats_data.specs.declared.session.Sdp.{Sdp}
use Rattle.sdp_formats_data.specs.declared.session.Session.{Session}
use Rattle.sdp_formats_data.specs.declared.session.SessionAttribute.{SessionAttribute}
use Rattle.sdp_formats_data.specs.declared.session.SessionAttribute.TheVariants.{Group}
use Rattle.rtp_media_exchange.specs.Exchanges.{Exchanged, accepted_agreement, answered_agreement, with_agreement}
use Rattle.rtp_media_exchange.specs.Says.{SaysSections}
use Rattle.rtp_media_exchange.specs.Requests.{AreAnswers}
use Rattle.rtp_media_sections.specs.PrintedSections.{as_read}
use Rattle.rtp_media_sections.specs.Answered.{answered_section}
use Rattle.rtp_media_sections.specs.Lines.{line_of, remote_of}
use Rattle.rtp_media_sections.specs.Offered.{offered_section}
use Rattle.rtp_media_sections.specs.Sections.{Section, Wanted, corresponds}

-- These sections in one BUNDLE group (RFC 9143 7.2).
abbrev pub bundle_of : List Section → SessionAttribute
bundle_of sections = Group (codes "BUNDLE") (map (λ s. s.mid) sections)

-- An end's session with a bundle of these sections before its own attributes.
abbrev pub bundled : Session → List Section → Session
bundled s sections = record s { attrs = bundle_of sections ∷ s.attrs }

-- What the text of these sections says.
abbrev pub sdp_of : Session → List Section → Sdp
sdp_of session sections = record { session = bundled session sections; media_lines = map line_of sections }

abbrev pub offered_sections : Numbering → List Row → List Wanted → List Section
offered_sections exts rows wanted = map (offered_section exts rows) wanted

-- What an offer of sections says.
unfoldable pub offer_of : Exchanged → List Wanted → Sdp
offer_of x wanted = sdp_of x.session (offered_sections x.wanted x.config.rows wanted)

abbrev pub answered_sections : Numbering → List Row → List Wanted → List Section → List Section
answered_sections exts rows wanted offer = map (λ s. answered_section exts rows s.0 s.1) (zip wanted offer)

-- The answer to sections, given the rows after the rounds.
unfoldable pub answer_of : Exchanged → List Row → List Wanted → List Section → Sdp
answer_of x rows wanted offer = sdp_of x.session (answered_sections x.wanted rows wanted offer)

-- An offer was answered: the rounds ran; the answer's text says the sections that were printed, with the wanted mids
-- and kinds; and what was agreed is what it says.
pub record Answers (x : Exchanged) (text : List ℕ) (wanted : List Wanted) (answer : List ℕ) (after : Exchanged)
    : Type 0 where
  pub offer : List Section
  pub offer_is : SaysSections text offer
  pub rows : List Row
  pub rounds_are : rounds (map remote_of offer) x.config.rows ≡ Ok rows
  pub text_is : answer ≡ sdp_text (answer_of x rows wanted offer)
  pub said : List Section
  pub printed : said ≡ map as_read (answered_sections x.wanted rows wanted offer)
  pub said_is : SaysSections answer said
  pub said_corresponds : IsTrue (corresponds said wanted)
  pub are_answers : AreAnswers said wanted offer
  pub after_is : after ≡ with_agreement x rows (answered_agreement wanted offer said)

-- The answer of a text was accepted for the pending offer.
pub record Accepts (x : Exchanged) (text : List ℕ) (after : Exchanged) : Type 0 where
  pub wanted : List Wanted
  pub pending : x.pending ≡ Some wanted
  pub answer : List Section
  pub answer_is : SaysSections text answer
  pub rows : List Row
  pub rounds_are : rounds (map remote_of answer) x.config.rows ≡ Ok rows
  pub after_is : after ≡ with_agreement x rows (accepted_agreement wanted answer)
