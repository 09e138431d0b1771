-- A round: an end's rows are matched with the other end's.
use Rattle.std.specs.Prelude.{ℕ, Bool, true, not, ◌&&◌, nat_lt, List, [], ◌∷◌, ◌++◌, filter, find, Option, Some, None}
use Rattle.std.specs.Prelude.{Result, Ok, Err, if◌then◌else◌}
use Rattle.media_types.specs.declared.codec.Codec.TheVariants.{AmrWb}
use Rattle.media_types.specs.Codecs.{is_audio_codec}
use Rattle.sdp_formats_rows.specs.Rows.{Row}
use Rattle.sdp_formats_rows.specs.Codecs.{is_codec}
use Rattle.sdp_formats_rounds.specs.Best.{best_row}
use Rattle.sdp_formats_rounds.specs.Negotiated.{negotiated}
use Rattle.sdp_formats_rounds.specs.declared.error.RoundError.{RoundError}
use Rattle.sdp_formats_rounds.specs.declared.error.RoundError.TheVariants.{TypeTaken, ResendTaken, NoFreeType}
use Rattle.sdp_formats_rounds.specs.declared.claims.Own.{Own}
use Rattle.sdp_formats_rounds.specs.declared.claims.Role.{Role}
use Rattle.sdp_formats_rounds.specs.declared.claims.Role.TheVariants.{Main, Resend}
use Rattle.sdp_formats_rounds.specs.Types.{is_claimed, is_locked_type, free_type}
use Rattle.sdp_formats_rounds.specs.Turns.{and_then, in_turn}

-- The refusal of a payload type, by its role.
abbrev pub taken : Role → ℕ → RoundError
taken Main t = TypeTaken t
taken Resend t = ResendTaken t

-- Nothing given yet, one type, two types.
abbrev pub none_given : Own
none_given = record { first = None; second = None }

abbrev pub given : ℕ → Option ℕ → Own
given first second = record { first = Some first; second = second }

-- Whether a type is claimed; a number above 127 is refused.
abbrev pub tested : Role → List Row → Own → ℕ → Result Bool RoundError
tested role rows own t = if nat_lt 127 t then Err (taken role t) else Ok (is_claimed rows own t)

-- A type that must not be claimed.
abbrev pub unless_claimed : Role → ℕ → Bool → Result ℕ RoundError
unless_claimed role t claimed = if claimed then Err (taken role t) else Ok t

abbrev pub unclaimed : Role → List Row → Own → ℕ → Result ℕ RoundError
unclaimed role rows own t = and_then (tested role rows own t) (unless_claimed role t)

abbrev pub unclaimed_if_given : Role → List Row → Own → Option ℕ → Result (Option ℕ) RoundError
unclaimed_if_given role rows own None = Ok None
unclaimed_if_given role rows own (Some t) = and_then (unclaimed role rows own t) (λ u. Ok (Some u))

-- A free type, if there is one.
abbrev pub found : Option ℕ → Result ℕ RoundError
found None = Err NoFreeType
found (Some t) = Ok t

-- FIRST: the rows locked before the round. None of their types may repeat one of an earlier locked row or of the row
-- itself.
abbrev pub standing_types : List Row → Row → Result (Option ℕ) RoundError
standing_types done row =
    and_then (unclaimed Main done none_given row.pt)
    (λ t. and_then (unclaimed_if_given Resend done (given row.pt None) row.resend)
    (λ r. unclaimed_if_given Main done (given row.pt row.resend) row.red))

abbrev pub standing_row : List Row → Row → Result Row RoundError
standing_row done row = if row.locked then and_then (standing_types done row) (λ t. Ok row) else Ok row

-- SECOND: each row with its best remote row; `now` holds all rows as they are at this point. If types are dictated, a
-- claimed remote type is refused; otherwise the row falls back to its own type, and then to a free one.
abbrev pub kept_or_free : List Row → List Row → Own → ℕ → Bool → Result ℕ RoundError
kept_or_free before now own t claimed = if claimed then found (free_type before now own) else Ok t

abbrev pub fallback : Role → List Row → List Row → Own → Option ℕ → Result ℕ RoundError
fallback role before now own None = found (free_type before now own)
fallback role before now own (Some t) = and_then (tested role now own t) (kept_or_free before now own t)

abbrev pub instead_of : Role → Bool → List Row → List Row → Own → Option ℕ → ℕ → Bool → Result ℕ RoundError
instead_of role dictated before now own ours theirs claimed =
    if claimed then (if dictated then Err (taken role theirs) else fallback role before now own ours) else Ok theirs

abbrev pub agreed_type : Role → Bool → List Row → List Row → Own → Option ℕ → ℕ → Result ℕ RoundError
agreed_type role dictated before now own ours theirs =
    and_then (tested role now own theirs) (instead_of role dictated before now own ours theirs)

-- The RTX type: the other end's, if it has one (RFC 4588).
abbrev pub agreed_resend : Bool → List Row → List Row → Own → Option ℕ → Option ℕ → Result (Option ℕ) RoundError
agreed_resend dictated before now own ours None = Ok None
agreed_resend dictated before now own ours (Some theirs) =
    and_then (agreed_type Resend dictated before now own ours theirs) (λ t. Ok (Some t))

-- The RED type: the other end's, if both have one and the codec is audio. If it is claimed: with dictated types it is
-- dropped; otherwise a free one is taken, if there is one (RFC 2198).
abbrev pub red_instead_of : Bool → List Row → List Row → Own → ℕ → Bool → Result (Option ℕ) RoundError
red_instead_of dictated before now own theirs claimed =
    Ok (if claimed then (if dictated then None else free_type before now own) else Some theirs)

abbrev pub agreed_red : Bool → List Row → List Row → Own → Bool → Option ℕ → Option ℕ → Result (Option ℕ) RoundError
agreed_red dictated before now own true (Some ours) (Some theirs) =
    and_then (tested Main now own theirs) (red_instead_of dictated before now own theirs)
agreed_red dictated before now own audio ours theirs = Ok None

-- The row locked with these types, with the negotiated settings, and with transport-wide feedback if both use it.
unfoldable pub locked_as : Row → Row → ℕ → Option ℕ → Option ℕ → Row
locked_as row best pt resend red = record row {
  pt = pt;
  resend = resend;
  red = red;
  spec = negotiated row.spec best.spec;
  transport_cc = row.transport_cc && best.transport_cc;
  locked = true;
}

abbrev pub matched_row : Bool → List Row → List Row → Row → Row → Result Row RoundError
matched_row dictated before now row best =
    and_then (agreed_type Main dictated before now none_given (Some row.pt) best.pt)
    (λ pt. and_then (agreed_resend dictated before now (given pt None) row.resend best.resend)
    (λ resend. and_then (agreed_red dictated before now (given pt resend)
    (is_audio_codec row.spec.codec) row.red best.red)
    (λ red. Ok (locked_as row best pt resend red))))

abbrev pub matched_if : Bool → List Row → List Row → Row → Option Row → Result Row RoundError
matched_if dictated before now row None = Ok row
matched_if dictated before now row (Some best) = matched_row dictated before now row best

-- The best remote row for an unlocked row; with dictated types, AMR-WB skips remote rows whose types are claimed.
abbrev pub best_open : List Row → List Row → Row → Option Row
best_open remote now row = best_row row.spec (filter (λ r. not (is_locked_type now r.pt)) remote)

abbrev pub first_above : List Row → Option Row
first_above remote = find (λ r. nat_lt 127 r.pt) remote

abbrev pub unless_above : Option Row → Option Row → Result (Option Row) RoundError
unless_above None best = Ok best
unless_above (Some row) best = Err (TypeTaken row.pt)

abbrev pub open_best : Bool → List Row → List Row → Row → Result (Option Row) RoundError
open_best dictated remote now row =
    if dictated && is_codec row.spec.codec AmrWb
    then unless_above (first_above remote) (best_open remote now row)
    else Ok (best_row row.spec remote)

-- A locked row keeps its types and takes the negotiated settings.
abbrev pub renegotiated : Row → Option Row → Row
renegotiated row None = row
renegotiated row (Some best) = record row { spec = negotiated row.spec best.spec }

abbrev pub agreed_row : Bool → List Row → List Row → List Row → Row → Result Row RoundError
agreed_row dictated remote before now row =
    if row.locked then Ok (renegotiated row (best_row row.spec remote))
    else and_then (open_best dictated remote now row) (matched_if dictated before now row)

-- THIRD: rows left unlocked move away from types of locked rows: first the payload type, then RED, then RTX.
abbrev pub moved_type : Role → List Row → List Row → Own → ℕ → Result ℕ RoundError
moved_type role before now own t = and_then (tested role now none_given t) (kept_or_free before now own t)

abbrev pub moved_resend : List Row → List Row → Own → Option ℕ → Result (Option ℕ) RoundError
moved_resend before now own None = Ok None
moved_resend before now own (Some t) = and_then (moved_type Resend before now own t) (λ u. Ok (Some u))

abbrev pub red_or_free : List Row → List Row → Own → ℕ → Bool → Result (Option ℕ) RoundError
red_or_free before now own t claimed = Ok (if claimed then free_type before now own else Some t)

abbrev pub moved_red : List Row → List Row → Own → Option ℕ → Result (Option ℕ) RoundError
moved_red before now own None = Ok None
moved_red before now own (Some t) = and_then (tested Main now none_given t) (red_or_free before now own t)

abbrev pub moved_row : List Row → List Row → Row → Result Row RoundError
moved_row before now row =
    and_then (moved_type Main before now none_given row.pt)
    (λ pt. and_then (moved_red before now (given pt None) row.red)
    (λ red. and_then (moved_resend before now (given pt red) row.resend)
    (λ resend. Ok (record row { pt = pt; resend = resend; red = red }))))

abbrev pub settled_row : List Row → List Row → Row → Result Row RoundError
settled_row before now row = if row.locked then Ok row else moved_row before now row

-- The rows after a round, or the first refusal that is met.
abbrev pub standing_rows : List Row → Result (List Row) RoundError
standing_rows rows = in_turn (λ done row rest. standing_row done row) [] rows

abbrev pub agreed_rows : Bool → List Row → List Row → List Row → Result (List Row) RoundError
agreed_rows dictated remote before rows = in_turn (λ done row rest. agreed_row dictated remote before
    (done ++ row ∷ rest) row) [] rows

abbrev pub settled_rows : List Row → List Row → Result (List Row) RoundError
settled_rows before rows = in_turn (λ done row rest. settled_row before (done ++ row ∷ rest) row) [] rows

unfoldable pub round : Bool → List Row → List Row → Result (List Row) RoundError
round dictated remote rows =
    and_then (standing_rows rows) (λ same. and_then (agreed_rows dictated remote rows rows)
    (λ agreed. settled_rows rows agreed))
