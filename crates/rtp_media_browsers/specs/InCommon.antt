-- Sections of an offer that have no row in common with the end: the answer rejects them, and no others (RFC 3264 6).
-- Those whose codecs the end has under types of other sections it answers to receive in them.
use Rattle.std.specs.Prelude.{◌≡◌, ◌⊎◌, ℕ, suc, zero, Bool, true, false, List, [], ◌∷◌, filter, length, map, slice_get}
use Rattle.std.specs.Prelude.{None, Some, is_some, Result, Ok, Err, if◌then◌else◌}
use Rattle.std.specs.List.{list_any}
use Rattle.rtp_media_exchange.specs.Exchanges.{Exchanged}
use Rattle.rtp_media_exchange.specs.Refusals.{RefusesAnswer, answers_none}
use Rattle.rtp_media_exchange.specs.Says.{SaysSections}
use Rattle.rtp_media_exchange.specs.declared.errors.ExchangeError.TheVariants as refusal
use Rattle.rtp_media_sections.specs.Answered.{locked_row}
use Rattle.rtp_media_sections.specs.Lines.{remote_of}
use Rattle.rtp_media_sections.specs.Sections.{Section, Wanted}
use Rattle.rtp_wire.specs.Direction.{receives}
use Rattle.sdp_formats_reader.specs.ReaderErrors.{SaysNothing}
use Rattle.sdp_formats_rounds.specs.Best.{best_row}
use Rattle.sdp_formats_rounds.specs.Laws.{rounds}
use Rattle.sdp_formats_rounds.specs.Matching.{type_for}
use Rattle.sdp_formats_rounds.specs.declared.error.RoundError.{RoundError}
use Rattle.sdp_formats_rows.specs.Rows.{Row}
use Rattle.rtp_media_browsers.specs.Calls.{OfferPasses, RefusesOffer}
use Rattle.rtp_media_browsers.specs.Names.{is_among}
use Rattle.rtp_media_browsers.specs.Wanted.{number_from}
use Rattle.rtp_media_browsers.specs.declared.error.BrowserError.{BrowserError}
use Rattle.rtp_media_browsers.specs.declared.state.Place.{Place}
use Rattle.rtp_media_browsers.specs.declared.state.Place.TheVariants.{Kept}
use Rattle.rtp_media_browsers.specs.declared.state.BrowserState.{BrowserState}
use Rattle.rtp_media_browsers.specs.declared.request.SectionRequest.{SectionRequest}
use Rattle.rtp_media_browsers.specs.declared.request.SectionRequest.TheVariants.{Accept, Receive, Reject}

-- Whether the answer lists a row for an offered one.
unfoldable pub is_answered : List Row → Bool → Row → Bool
is_answered rows dictated offered =
    is_some (locked_row rows (type_for dictated offered (best_row offered.spec rows)))

-- The names of the sections to which the answer would list no row, if the rounds leave these rows. A round that is
-- refused is a refusal of its own.
abbrev pub names_none : Result (List Row) RoundError → List Section → List (List ℕ)
names_none (Ok rows) sections = map (λ s. s.mid) (filter (answers_none rows) sections)
names_none (Err e) sections = []

abbrev pub names_without : List Row → List Section → List (List ℕ)
names_without rows sections = names_none (rounds (map remote_of sections) rows) sections

-- What the sections of a text say to an end; nothing, if it can't read the text.
abbrev pub SaysToEnd : List ℕ → List Section → Type 0
SaysToEnd text sections = SaysSections text sections ⊎ (SaysNothing text × (sections ≡ []))

-- What an end with these rows is handed of an offer by these requests, the state afterwards, and the names of the
-- sections that have no row in common with it.
pub record Lacks (offer : List ℕ) (rows : List Row) (requests : List SectionRequest) (state planned : BrowserState)
    (names : List (List ℕ)) : Type 0 where
  pub handed : List ℕ
  pub passes : OfferPasses offer requests state planned handed
  pub sections : List Section
  pub says : SaysToEnd handed sections
  pub named : names ≡ names_without rows sections

-- Whether it is the place of the section of one of these names.
unfoldable pub has_named : List (List ℕ) → Place → Bool
has_named names (Kept name) = is_among names name
has_named names _ = false

abbrev pub begins_with_named : List (List ℕ) → List Place → Bool
begins_with_named names [] = false
begins_with_named names (p ∷ ps) = has_named names p

abbrev pub after_first : List Place → List Place
after_first [] = []
after_first (p ∷ ps) = ps

-- The request for a section without a row in common: only to receive in it, if the end would receive, and then to
-- reject it.
abbrev pub less_of : SectionRequest → SectionRequest
less_of (Accept direction ssrcs repairs) = if receives direction then Receive else Reject
less_of _ = Reject

-- The request for a place, which is less if it is that of one of these names.
abbrev pub left_of : Bool → SectionRequest → SectionRequest
left_of is_named request = if is_named then less_of request else request

-- The requests, place by place.
abbrev pub without_named : List (List ℕ) → List Place → List SectionRequest → List SectionRequest
without_named names ps [] = []
without_named names ps (w ∷ ws) = left_of (begins_with_named names ps) w ∷ without_named names (after_first ps) ws

-- Sections without a row in common have a place, and their requests are less.
pub record Rejects (offer : List ℕ) (state : BrowserState) (rows : List Row)
    (before after : List SectionRequest) : Type 0 where
  pub planned : BrowserState
  pub names : List (List ℕ)
  pub lacks : Lacks offer rows before state planned names
  pub some : list_any (has_named names) planned.places ≡ true
  pub rejected : after ≡ without_named names planned.places before

-- The same so many times, since the rounds then go without what was rejected, and without dictated types.
abbrev pub RejectsInTurn : List ℕ → BrowserState → List Row → ℕ → List SectionRequest → List SectionRequest → Type 0
RejectsInTurn offer state rows zero before after = before ≡ after
RejectsInTurn offer state rows (suc n) before after =
    (between : List SectionRequest) × RejectsInTurn offer state rows n before between
    × Rejects offer state rows between after

-- No section that has a place is without a row in common.
pub record HasRows (offer : List ℕ) (state : BrowserState) (rows : List Row)
    (requests : List SectionRequest) : Type 0 where
  pub planned : BrowserState
  pub names : List (List ℕ)
  pub lacks : Lacks offer rows requests state planned names
  pub none : list_any (has_named names) planned.places ≡ false

-- The requests, with those less whose sections have no row in common.
pub record AreInCommon (offer : List ℕ) (state : BrowserState) (rows : List Row)
    (before after : List SectionRequest) : Type 0 where
  pub times : ℕ
  pub rejects : RejectsInTurn offer state rows times before after
  pub left : HasRows offer state rows after

-- Why there are none: the offer is refused, by these requests or with the sections rejected that have no row in
-- common.
pub record RefusesInCommon (offer : List ℕ) (state : BrowserState) (rows : List Row) (requests : List SectionRequest)
    (e : BrowserError)
    : Type 0 where
  pub times : ℕ
  pub left : List SectionRequest
  pub rejects : RejectsInTurn offer state rows times requests left
  pub refused : RefusesOffer offer state left e

-- All other requests stay, in their places; those that don't only receive, or reject.
pub record OthersStay (before after : List SectionRequest) : Type 0 where
  pub length : length after ≡ length before
  pub requests : (n : ℕ) → (slice_get after n ≡ slice_get before n)
      ⊎ (slice_get after n ≡ Some Receive) ⊎ (slice_get after n ≡ Some Reject)

abbrev pub OnlyRejects : Type 0
OnlyRejects = (offer : List ℕ) (state : BrowserState) (rows : List Row) (times : ℕ) (before after : List SectionRequest)
    → RejectsInTurn offer state rows times before after → OthersStay before after

-- An end with these rows then refuses what it is handed for want of a row in common only if that is a section without a
-- place in the browser's texts: one that was stopped.
abbrev pub AnswersInCommon : Type 0
AnswersInCommon = (offer : List ℕ) (state planned : BrowserState) (requests : List SectionRequest) (handed : List ℕ)
    (x : Exchanged)
    (wanted : List Wanted) (mid : List ℕ) → HasRows offer state x.config.rows requests
    → OfferPasses offer requests state planned handed → RefusesAnswer x handed wanted (refusal.NoCommonRow mid)
    → number_from mid 0 planned.places ≡ None
