-- What a round makes of each row, and where it is refused, given the claimed types.
use Rattle.std.specs.Prelude.{◌≡◌, ◌⊎◌, ℕ, Bool, true, false, not, ◌&&◌, List, [], ◌∷◌, ◌++◌, Option, Some, None, Ok}
use Rattle.std.specs.Prelude.{Err}
use Rattle.std.specs.Prelude.{⊤, filter, if◌then◌else◌}
use Rattle.media_types.specs.Codecs.{is_audio_codec}
use Rattle.media_types.specs.declared.codec.Codec.TheVariants.{AmrWb}
use Rattle.sdp_formats_rows.specs.Codecs.{is_codec}
use Rattle.sdp_formats_rows.specs.Rows.{Row}
use Rattle.sdp_formats_rounds.specs.Best.{best_row}
use Rattle.sdp_formats_rounds.specs.declared.error.RoundError.{RoundError}
use Rattle.sdp_formats_rounds.specs.declared.error.RoundError.TheVariants.{TypeTaken}
use Rattle.sdp_formats_rounds.specs.Laws.{is_among}
use Rattle.sdp_formats_rounds.specs.Rounds.{first_above, locked_as, renegotiated, round}
use Rattle.sdp_formats_rounds.specs.TypeLaws.{types_in}
use Rattle.sdp_formats_rounds.specs.Types.{listed, locked_types}
use Rattle.sdp_formats_rounds.specs.Named.{Claims, IsAgreed, AgreedRefused, IsKept, KeptRefused, IsRed}
use Rattle.sdp_formats_rounds.specs.Named.{RedRefused, IsResend}
use Rattle.sdp_formats_rounds.specs.Named.{IsResendKept, ResendKeptRefused, ResendRefused, red_met, with_own}
use Rattle.sdp_formats_rounds.specs.Named.{with_used}
use Rattle.sdp_formats_rounds.specs.Standing.{FirstTaken, Held, are_apart, held}

-- For an unlocked row that is matched. Claimed: the types of the rows locked before the round, and of earlier rows that
-- are locked by now. Used (never taken as free): these, and all types that any row had when the round began.
abbrev pub claims_matched : List Row → List Row → Claims
claims_matched rows done = record {
  claimed = locked_types rows ++ locked_types done;
  used = types_in rows ++ locked_types done;
}

-- For a row that stays unlocked. Claimed: the types of all rows locked once every row was matched. Used: these, the
-- types of the rows before it as they are now, and all types that any row had when the round began. So it never takes a
-- type that an earlier row moved to.
abbrev pub claims_left : List Row → List Row → List Row → Claims
claims_left rows matched done = record {
  claimed = locked_types matched;
  used = types_in rows ++ (locked_types matched ++ types_in done);
}

-- The row is locked with these types by its match; each type given also counts as claimed for the next.
pub record IsLocked (dictated : Bool) (c : Claims) (row best new : Row) : Type 0 where
  pub pt : ℕ
  pub resend : Option ℕ
  pub red : Option ℕ
  pub pt_given : IsAgreed dictated c (Some row.pt) best.pt pt
  pub resend_given : IsResend dictated (with_own (pt ∷ []) c) row.resend best.resend resend
  pub red_given : IsRed dictated (with_own (pt ∷ listed resend) c)
      (red_met (is_audio_codec row.spec.codec) row.red best.red) red
  pub becomes : new ≡ locked_as row best pt resend red

-- It is refused at the first of its types that is refused.
abbrev pub LockedRefused : Bool → Claims → Row → Row → RoundError → Type 0
LockedRefused dictated c row best e = AgreedRefused TypeTaken dictated c (Some row.pt) best.pt e
    ⊎ ((pt : ℕ) × IsAgreed dictated c (Some row.pt) best.pt pt
    × (ResendRefused dictated (with_own (pt ∷ []) c) row.resend best.resend e
    ⊎ ((resend : Option ℕ) × IsResend dictated (with_own (pt ∷ []) c) row.resend best.resend resend
    × RedRefused (red_met (is_audio_codec row.spec.codec) row.red best.red) e)))

-- Whether a row skips remote rows whose types are claimed.
abbrev pub is_choosy : Bool → Row → Bool
is_choosy dictated row = dictated && is_codec row.spec.codec AmrWb

-- Its best match among the rows it may match.
abbrev pub best_met : Bool → Claims → List Row → Row → Option Row
best_met dictated c remote row = best_row row.spec
    (if is_choosy dictated row then filter (λ r. not (is_among c.claimed r.pt)) remote else remote)

-- The first row of the other end with a type above 127, if all their types are tested.
abbrev pub above_met : Bool → List Row → Row → Option Row
above_met dictated remote row = if is_choosy dictated row then first_above remote else None

-- A locked row keeps everything except the settings that its match negotiates. An unlocked row is locked with the types
-- its match gives, or stays as it is without a match.
abbrev pub IsMatched : Bool → List Row → Claims → Row → Row → Type 0
IsMatched dictated remote c row new = ((row.locked ≡ true) × (new ≡ renegotiated row (best_row row.spec remote)))
    ⊎ ((row.locked ≡ false) × (above_met dictated remote row ≡ None)
    × (((best_met dictated c remote row ≡ None) × (new ≡ row))
    ⊎ ((best : Row) × (best_met dictated c remote row ≡ Some best) × IsLocked dictated c row best new)))

abbrev pub MatchedRefused : Bool → List Row → Claims → Row → RoundError → Type 0
MatchedRefused dictated remote c row e = (row.locked ≡ false)
    × (((above : Row) × (above_met dictated remote row ≡ Some above) × (e ≡ TypeTaken above.pt))
    ⊎ ((above_met dictated remote row ≡ None)
    × ((best : Row) × (best_met dictated c remote row ≡ Some best) × LockedRefused dictated c row best e)))

-- A row that stays unlocked keeps its types, except that free ones replace those claimed.
pub record IsMoved (c : Claims) (row new : Row) : Type 0 where
  pub pt : ℕ
  pub red : Option ℕ
  pub resend : Option ℕ
  pub pt_given : IsKept c (Some row.pt) pt
  pub red_given : IsRed false (with_used (pt ∷ []) c) row.red red
  pub resend_given : IsResendKept (with_used (pt ∷ listed red) c) row.resend resend
  pub becomes : new ≡ record row { pt = pt; resend = resend; red = red }

abbrev pub MovedRefused : Claims → Row → RoundError → Type 0
MovedRefused c row e = KeptRefused TypeTaken c (Some row.pt) e
    ⊎ ((pt : ℕ) × IsKept c (Some row.pt) pt × (RedRefused row.red e
    ⊎ ((red : Option ℕ) × IsRed false (with_used (pt ∷ []) c) row.red red
    × ResendKeptRefused (with_used (pt ∷ listed red) c) row.resend e)))

abbrev pub IsSettled : Claims → Row → Row → Type 0
IsSettled c row new = ((row.locked ≡ true) × (new ≡ row)) ⊎ ((row.locked ≡ false) × IsMoved c row new)

abbrev pub SettledRefused : Claims → Row → RoundError → Type 0
SettledRefused c row e = (row.locked ≡ false) × MovedRefused c row e

-- Row by row, given the rows before it as they are now.
abbrev pub Follows : (List Row → Row → Row → Type 0) → List Row → List Row → List Row → Type 0
Follows R done [] [] = ⊤
Follows R done (x ∷ xs) (y ∷ ys) = R done x y × Follows R (done ++ y ∷ []) xs ys
Follows R done [] (y ∷ ys) = ⊥
Follows R done (x ∷ xs) [] = ⊥

-- The first row that is refused; the rows before it have changed as they would.
pub record StopsAt (R : List Row → Row → Row → Type 0) (F : List Row → Row → RoundError → Type 0) (rows : List Row)
    (e : RoundError) : Type 0 where
  pub before : List Row
  pub row : Row
  pub behind : List Row
  pub made : List Row
  pub placed : rows ≡ before ++ row ∷ behind
  pub follows : Follows R [] before made
  pub refused : F made row e

-- All rows once each was matched; then as the round leaves them.
abbrev pub AreMatched : Bool → List Row → List Row → List Row → Type 0
AreMatched dictated remote rows matched =
    Follows (λ done row new. IsMatched dictated remote (claims_matched rows done) row new) [] rows matched

abbrev pub AreSettled : List Row → List Row → List Row → Type 0
AreSettled rows matched after =
    Follows (λ done row new. IsSettled (claims_left rows matched done) row new) [] matched after

-- A round succeeds with exactly this result.
abbrev pub IsRound : Bool → List Row → List Row → List Row → Type 0
IsRound dictated remote rows after = (are_apart (held rows) ≡ true)
    × ((matched : List Row) × AreMatched dictated remote rows matched × AreSettled rows matched after)

-- A round is refused with exactly this error: for the first locked row's type that is taken; or else for the first row
-- refused while matching; or else for the first refused among those left unlocked.
abbrev pub IsRefused : Bool → List Row → List Row → RoundError → Type 0
IsRefused dictated remote rows e = ((h : Held) × FirstTaken (held rows) h × (e ≡ h.refusal))
    ⊎ ((are_apart (held rows) ≡ true)
    × (StopsAt (λ done row new. IsMatched dictated remote (claims_matched rows done) row new)
    (λ done row d. MatchedRefused dictated remote (claims_matched rows done) row d) rows e
    ⊎ ((matched : List Row) × AreMatched dictated remote rows matched
    × StopsAt (λ done row new. IsSettled (claims_left rows matched done) row new)
    (λ done row d. SettledRefused (claims_left rows matched done) row d) matched e)))

abbrev pub RoundsAnswer : Type 0
RoundsAnswer = (dictated : Bool) (remote rows after : List Row) → round dictated remote rows ≡ Ok after
    → IsRound dictated remote rows after

abbrev pub AnswersAreRounds : Type 0
AnswersAreRounds = (dictated : Bool) (remote rows after : List Row) → IsRound dictated remote rows after
    → round dictated remote rows ≡ Ok after

abbrev pub RoundsRefuse : Type 0
RoundsRefuse = (dictated : Bool) (remote rows : List Row) (e : RoundError) → round dictated remote rows ≡ Err e
    → IsRefused dictated remote rows e

abbrev pub RefusalsAreRounds : Type 0
RefusalsAreRounds = (dictated : Bool) (remote rows : List Row) (e : RoundError) → IsRefused dictated remote rows e
    → round dictated remote rows ≡ Err e
