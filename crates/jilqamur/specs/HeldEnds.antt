use Rattle.std.specs.Prelude.{ℕ, List, [], false, Option, None}
use Rattle.rtp_media_browsers.specs.Remotes.{silent}
use Rattle.rtp_media_browsers.specs.declared.state.BrowserState.{BrowserState}
use Rattle.payload_core_buffer.specs.Steps.{MediaUnit}
use Rattle.rtp_media_ends.specs.Ends.{EndState}
use Rattle.jilqamur.specs.Drafts.{DraftState, empty_draft, without_sections, without_requests}

-- What an end's handle holds: the end, once made; the state remembered from a browser's texts; the draft of the next
-- end, offer or answer; and what calls left to be fetched.
pub record HeldEndState : Type 0 where
  pub end : Option EndState
  pub state : BrowserState
  pub draft : DraftState
  pub text : List ℕ
  pub datagrams : List (List ℕ)
  pub unit : Option MediaUnit

-- Nothing is remembered of a browser.
abbrev pub new_state : BrowserState
new_state = record {
  places = [];
  sections = [];
  allows_mixed = false;
  remote = silent;
  setup = None;
  is_answering = false;
  identity = None;
  said = None;
}

-- One that is empty.
abbrev pub empty_held_end : HeldEndState
empty_held_end = record {
  end = None;
  state = new_state;
  draft = empty_draft;
  text = [];
  datagrams = [];
  unit = None;
}

-- One whose draft became this.
abbrev pub with_draft : HeldEndState → DraftState → HeldEndState
with_draft p draft = record p { draft = draft }

-- What calls leave: only the end changes; or the sections are used up and a text is left; or the requests are used up
-- and the state is remembered; or datagrams or a unit are left.
abbrev pub behind_end : HeldEndState → Option EndState → HeldEndState
behind_end p end = record p { end = end }

abbrev pub behind_text : HeldEndState → Option EndState → List ℕ → HeldEndState
behind_text p end text = record p { end = end; draft = without_sections p.draft; text = text }

abbrev pub behind_offer : HeldEndState → Option EndState → BrowserState → List ℕ → HeldEndState
behind_offer p end state text =
    record p { end = end; state = state; draft = without_requests p.draft; text = text }

abbrev pub behind_answer : HeldEndState → Option EndState → BrowserState → HeldEndState
behind_answer p end state = record p { end = end; state = state }

abbrev pub after_transport : HeldEndState → BrowserState → List ℕ → HeldEndState
after_transport p state text = record p { state = state; text = text }

abbrev pub behind_sample : HeldEndState → Option EndState → List (List ℕ) → HeldEndState
behind_sample p end datagrams = record p { end = end; datagrams = datagrams }

abbrev pub behind_poll : HeldEndState → Option EndState → Option MediaUnit → HeldEndState
behind_poll p end unit = record p { end = end; unit = unit }
