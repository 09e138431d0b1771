-- Requests for the sections of a browser's offer, built from the fields that C passes.
use Rattle.std.specs.Prelude.{ℕ, ◌≡◌, Bool, true, false, List}
use Rattle.rtp_wire.specs.declared.direction.Direction.{Direction}
use Rattle.rtp_media_browsers.specs.declared.request.SectionRequest.{SectionRequest}
use Rattle.rtp_media_browsers.specs.declared.request.SectionRequest.TheVariants.{Accept, Receive, Reject}
use Rattle.jilqamur.specs.Drafts.{DraftState, with_request}

-- The request to accept a section with this direction, SSRCs and RTX pairs, or to reject it.
abbrev pub IsRequest : Bool → Direction → List ℕ → List (ℕ × ℕ) → SectionRequest → Type 0
IsRequest true direction ssrcs repairs (Accept d ss rs) = (d ≡ direction) × (ss.items ≡ ssrcs) × (rs.items ≡ repairs)
IsRequest true direction ssrcs repairs Receive = ⊥
IsRequest true direction ssrcs repairs Reject = ⊥
IsRequest false direction ssrcs repairs request = request ≡ Reject

-- A draft with such a request more, which uses the repairs up.
pub record HasRequest (d : DraftState) (is_accepted : Bool) (direction : Direction) (ssrcs : List ℕ)
    (after : DraftState)
    : Type 0 where
  pub request : SectionRequest
  pub is_request : IsRequest is_accepted direction ssrcs d.repairs request
  pub added : after ≡ with_request d request
