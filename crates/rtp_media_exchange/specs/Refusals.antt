-- Why calls are refused, not counting lack of memory: the first reason that holds.
use Rattle.std.specs.Prelude.{◌≡◌, ◌≢◌, ◌⊎◌, ℕ, Bool, true, not, ◌&&◌, ◌==◌, length, Result, Ok, Err}
use Rattle.std.specs.Prelude.{if◌then◌else◌, List, []}
use Rattle.std.specs.Prelude.{◌∷◌, ◌++◌, Option, Some, None, is_some, map, find, suc}
use Rattle.std.specs.List.{list_any}
use Rattle.std.specs.Option.{option_map}
use Rattle.rtp_wire.specs.Values.{Numbering}
use Rattle.sdp_formats_rows.specs.Kinds.{rows_of_kind}
use Rattle.sdp_formats_rounds.specs.Laws.{rounds}
use Rattle.sdp_formats_rounds.specs.declared.error.RoundError.{RoundError}
use Rattle.sdp_formats_rows.specs.Plain.{is_plain}
use Rattle.sdp_formats_rows.specs.Rows.{Row}
use Rattle.sdp_formats_data.specs.declared.media.MediaLine.{MediaLine}
use Rattle.sdp_formats_data.specs.declared.session.Session.{Session}
use Rattle.sdp_formats_reader.specs.Writable.{IsWritableSession}
use Rattle.rtp_media_exchange.specs.Exchanges.{Exchanged}
use Rattle.rtp_media_exchange.specs.Reading.{IsUnread}
use Rattle.rtp_media_exchange.specs.Says.{Says, SaysSections}
use Rattle.rtp_media_exchange.specs.declared.errors.EndError.{EndError}
use Rattle.rtp_media_exchange.specs.declared.errors.EndError.TheVariants as fault
use Rattle.rtp_media_exchange.specs.declared.errors.ExchangeError.{ExchangeError}
use Rattle.rtp_media_exchange.specs.declared.errors.ExchangeError.TheVariants as error
use Rattle.rtp_media_sections.specs.Agreement.{may_follow}
use Rattle.rtp_media_sections.specs.Answered.{answered_rows}
use Rattle.rtp_media_sections.specs.Extensions.{is_writable_map}
use Rattle.rtp_media_sections.specs.Lines.{remote_of, section_of, types_listed}
use Rattle.rtp_media_sections.specs.Sections.{Section, Wanted, corresponds}

-- What is refused next, if nothing was refused yet.
abbrev pub else_refused : {A : Type 0} → Option A → Option A → Option A
else_refused (Some why) next = Some why
else_refused None next = next

-- The index of the first row that isn't plain.
abbrev pub row_refusal : ℕ → List Row → Option EndError
row_refusal place [] = None
row_refusal place (row ∷ rows) = if is_plain row then row_refusal (suc place) rows else Some (fault.RowNotPlain place)

abbrev pub is_among : List ℕ → ℕ → Bool
is_among types t = list_any (λ u. u == t) types

-- The first payload type that repeats an earlier one, taking each row's type, RTX type and RED type in turn.
abbrev pub first_repeated : List ℕ → List ℕ → Option ℕ
first_repeated before [] = None
first_repeated before (t ∷ rest) = if is_among before t then Some t else first_repeated (before ++ t ∷ []) rest

abbrev pub types_refusal : List Row → Option EndError
types_refusal rows = option_map fault.TypesNotDistinct (first_repeated [] (types_listed rows))

-- Why an end can't be made, apart from its session: a row isn't plain, a type is repeated, or a header extension's URI
-- can't be written.
abbrev pub refusal_of_new : List Row → Numbering → Option EndError
refusal_of_new rows exts =
    else_refused (row_refusal 0 rows)
    (else_refused (types_refusal rows)
    (if is_writable_map exts then None else Some fault.NotWritable))

-- Why an end isn't made: the first reason that holds, or its session can't be written.
abbrev pub RefusesNew : List Row → Session → Numbering → EndError → Type 0
RefusesNew rows session exts e = (refusal_of_new rows exts ≡ Some e)
    ⊎ ((refusal_of_new rows exts ≡ None) × (e ≡ fault.NotWritable) × (IsWritableSession session → ⊥))

-- The first wanted section that would list no row, and the first without a mid.
abbrev pub lists_none : List Row → Wanted → Bool
lists_none rows w = length (rows_of_kind w.kind true rows) == 0

abbrev pub no_row_of : Option Wanted → Option ExchangeError
no_row_of None = None
no_row_of (Some w) = Some (error.NoCommonRow w.mid)

abbrev pub is_nameless : Wanted → Bool
is_nameless w = length w.mid == 0

-- Why sections as they are wanted can't be written: one has no name.
abbrev pub not_written : List Wanted → Option ExchangeError
not_written wanted = if list_any is_nameless wanted then Some error.NotWritable else None

-- While an offer is pending, everything is refused; otherwise the next check decides.
abbrev pub in_turn : Bool → Option ExchangeError → Option ExchangeError
in_turn is_pending next = if is_pending then Some error.OutOfTurn else next

-- Why `offer` is refused.
unfoldable pub refusal_of_offer : Exchanged → List Wanted → Option ExchangeError
refusal_of_offer x wanted = in_turn (is_some x.pending)
    (if not (may_follow x.agreed wanted) then Some error.NotCorresponding
    else else_refused (no_row_of (find (lists_none x.config.rows) wanted)) (not_written wanted))

-- The first section of a text that isn't media, or whose list of rows would be empty.
abbrev pub not_media_of : Option Section → Option ExchangeError
not_media_of None = None
not_media_of (Some s) = Some (error.NotMedia s.mid)

abbrev pub no_common_row_of : Option Section → Option ExchangeError
no_common_row_of None = None
no_common_row_of (Some s) = Some (error.NoCommonRow s.mid)

-- Why the rounds with these sections are refused.
abbrev pub round_refusal : Result (List Row) RoundError → Option ExchangeError
round_refusal (Ok rows) = None
round_refusal (Err e) = Some (error.Round e)

abbrev pub after_rounds : Result (List Row) RoundError → (List Row → Option ExchangeError) → Option ExchangeError
after_rounds (Ok rows) next = next rows
after_rounds (Err e) next = None

-- Why the sections of a text don't fit the wanted ones: one isn't media, they don't correspond, or a round is refused.
unfoldable pub refusal_of_sections : Exchanged → List Section → List Wanted → Option ExchangeError
refusal_of_sections x sections wanted =
    else_refused (not_media_of (find (λ s. not s.is_media) sections))
    (if corresponds sections wanted && may_follow x.agreed wanted
    then round_refusal (rounds (map remote_of sections) x.config.rows) else Some error.NotCorresponding)

-- A section of an offer to which an answer would list no row.
abbrev pub answers_none : List Row → Section → Bool
answers_none rows s = length (answered_rows rows s) == 0

-- Why no answer is given after the rounds, given the rows they left.
abbrev pub no_answer : List Row → List Section → Option ExchangeError
no_answer rows sections = no_common_row_of (find (answers_none rows) sections)

-- Why `answer` is refused, given what the text says.
unfoldable pub refusal_of_answer : Exchanged → List Section → List Wanted → Option ExchangeError
refusal_of_answer x sections wanted = in_turn (is_some x.pending)
    (else_refused (refusal_of_sections x sections wanted)
    (after_rounds (rounds (map remote_of sections) x.config.rows) (λ after.
    else_refused (no_answer after sections) (not_written wanted))))

-- A section of an answer none of whose rows has the payload type of a locked row.
abbrev pub is_locked_at : List Row → Row → Bool
is_locked_at rows row = list_any (λ own. own.locked && own.pt == row.pt) rows

abbrev pub shares_none : List Row → Section → Bool
shares_none rows s = not (list_any (is_locked_at rows) s.rows)

abbrev pub no_acceptance : List Row → List Section → Option ExchangeError
no_acceptance rows sections = no_common_row_of (find (shares_none rows) sections)

-- Why `accept` is refused, of what the text says.
abbrev pub refusal_by_offer : Exchanged → List Section → Option (List Wanted) → Option ExchangeError
refusal_by_offer x sections None = Some error.OutOfTurn
refusal_by_offer x sections (Some wanted) = else_refused (refusal_of_sections x sections wanted)
    (after_rounds (rounds (map remote_of sections) x.config.rows) (λ after. no_acceptance after sections))

unfoldable pub refusal_of_accept : Exchanged → List Section → Option ExchangeError
refusal_of_accept x sections = refusal_by_offer x sections x.pending

-- An error is the reason, unless memory ran out.
abbrev pub Refuses : ExchangeError → Option ExchangeError → Type 0
Refuses e why = e ≢ error.Memory → why ≡ Some e

-- Nothing that the text says makes `answer`, or `accept`, refuse it.
abbrev pub MayAnswer : Exchanged → List ℕ → List Wanted → Type 0
MayAnswer x text wanted =
    (lines : List MediaLine) → Says text lines → refusal_of_answer x (map section_of lines) wanted ≡ None

abbrev pub MayAccept : Exchanged → List ℕ → Type 0
MayAccept x text = (lines : List MediaLine) → Says text lines → refusal_of_accept x (map section_of lines) ≡ None

-- An error of `answer`: the text says nothing, memory runs out, or what the text says is refused for this reason.
abbrev pub RefusesAnswer : Exchanged → List ℕ → List Wanted → ExchangeError → Type 0
RefusesAnswer x text wanted e = IsUnread text e
    ⊎ ((sections : List Section) × SaysSections text sections × (refusal_of_answer x sections wanted ≡ Some e))

-- The same of `accept`.
abbrev pub RefusesAccept : Exchanged → List ℕ → ExchangeError → Type 0
RefusesAccept x text e = IsUnread text e
    ⊎ ((sections : List Section) × SaysSections text sections × (refusal_of_accept x sections ≡ Some e))
