-- Units that are handed out and passed on as samples.
use Rattle.std.proofs.Common.{◌≡◌, ℕ, zero, suc, ◌*◌, ◌/◌, ◌%◌, ◌^◌, ◌<◌, List, [], ◌∷◌, map, refl, sym, ap, ap₂}
use Rattle.std.proofs.Common.{◌∙◌, arith}
use Rattle.std.specs.Prelude.{All, None, Some, Ok, Err, Result}
use Rattle.std.proofs.Math.Nat.{div-zero, mul-div_cancel, zero-div}
use Rattle.std.proofs.lemmas.List.Elements.{All-cons, All-head, All-nil, All-tail}
use Rattle.payload_core_base.specs.declared.error.PacketError.{PacketError}
use Rattle.rtp_wire.specs.Carried.{AreValues}
use Rattle.rtp_wire.specs.Time.{Time, rebased_ticks}
use Rattle.rtp_wire.specs.Values.{Numbering}
use Rattle.rtp_wire.specs.declared.values.ExtensionValues.{ExtensionValues}
use Rattle.payload_core_buffer.specs.Steps.{Answer, MediaUnit}
use Rattle.rtp_media_schedules.specs.Hearing.{handed_out}
use Rattle.rtp_media_schedules.specs.SentSamples.{Timed, timed, timed_unit}
use Rattle.rtp_media_streams.specs.Rows.{rtp_rate}
use Rattle.rtp_media_streams.specs.Sending.{Sample, Sending, carried, samples_of, timestamp}
use Rattle.rtp_media_streams.specs.declared.row_format.RowFormat.{RowFormat}
use Rattle.rtp_media_runs.specs.Units.{arriving, arriving_values}
use Rattle.rtp_media_runs.specs.Again.{IsKeptBy}
use Rattle.rtp_media_runs.specs.Hops.{as_samples, carried_again, unstamped, without_send_time}
use Rattle.rtp_media_runs.proofs.Units.{EachKept, EachTimed}
use Rattle.rtp_media_runs.proofs.Values.{arriving-are-values, arriving-twice}

-- a unit as a sample
abbrev pub timed_sample : ℕ → Timed → Sample
timed_sample rate u = record { time = record { ticks = u.time; rate = rate }; values = u.values; bytes = u.bytes }

pub samples-are : (rate : ℕ) (os : List Answer) (us : List Timed) → map timed_unit (handed_out os) ≡ map Ok us
    → as_samples rate os ≡ map (timed_sample rate) us
samples-are rate [] [] e = refl
samples-are rate [] (u ∷ us) e = absurd (cc)
samples-are rate (Ok None ∷ os) us e = samples-are rate os us e
samples-are rate (Ok (Some v) ∷ os) [] e = absurd (cc)
samples-are rate (Ok (Some v) ∷ os) (u ∷ us) e =
    let head : timed v.time v.values v.bytes ≡ u = cc in
    let tail : map timed_unit (handed_out os) ≡ map Ok us = cc in
    ap₂ (λ (t : Timed) (xs : List Sample). timed_sample rate t ∷ xs) head (samples-are rate os us tail)
samples-are rate (Err x ∷ os) [] e = absurd (cc)
samples-are rate (Err x ∷ os) (u ∷ us) e = absurd (cc)

-- a unit without the time at which it left
abbrev pub unstamp : Timed → Timed
unstamp u = timed u.time (without_send_time u.values) u.bytes

abbrev unstamp_ok : Result Timed PacketError → Result Timed PacketError
unstamp_ok (Ok u) = Ok (unstamp u)
unstamp_ok (Err e) = Err e

unstamped-is : (rs : List (Result MediaUnit PacketError)) → map unstamped rs ≡ map unstamp_ok (map timed_unit rs)
unstamped-is [] = refl
unstamped-is (Ok u ∷ rs) = ap (λ (ts : List (Result Timed PacketError)). unstamped (Ok u) ∷ ts) (unstamped-is rs)
unstamped-is (Err e ∷ rs) = ap (λ (ts : List (Result Timed PacketError)). Err e ∷ ts) (unstamped-is rs)

unstamped-ok : (us : List Timed) → map unstamp_ok (map Ok us) ≡ map Ok (map unstamp us)
unstamped-ok [] = refl
unstamped-ok (u ∷ us) = ap (λ (ts : List (Result Timed PacketError)). Ok (unstamp u) ∷ ts) (unstamped-ok us)

pub unstamped-are : (rs : List (Result MediaUnit PacketError)) (us : List Timed) → map timed_unit rs ≡ map Ok us
    → map unstamped rs ≡ map Ok (map unstamp us)
unstamped-are rs us e = unstamped-is rs ∙ ap (map unstamp_ok) e ∙ unstamped-ok us

-- A time word and values as they arrive: read at the RTP clock the word is itself, and the values are in range, and
-- those of a header that carries them again.
pub record HasArrived (row : RowFormat) (m : Numbering) (time : ℕ) (values : ExtensionValues) : Type 0 where
  pub word : time * rtp_rate row / rtp_rate row % 2 ^ 32 ≡ time
  pub range : AreValues values
  pub again : without_send_time (arriving_values m values) ≡ without_send_time values

word-again : (t : Time) (r : ℕ) → rebased_ticks t r % 2 ^ 32 * r / r % 2 ^ 32 ≡ rebased_ticks t r % 2 ^ 32
word-again t zero =
    let none : t.ticks * 0 ≡ 0 = omega arith in
    let word : rebased_ticks t 0 ≡ 0 = ap (λ n. n / t.rate) none ∙ zero-div t.rate in
    ap (λ n. n % 2 ^ 32) (div-zero (rebased_ticks t 0 % 2 ^ 32 * 0)) ∙ ap (λ n. n % 2 ^ 32) (sym word)
word-again t (suc r) =
    let some : 0 < suc r = omega arith in
    let small : rebased_ticks t (suc r) % 2 ^ 32 < 2 ^ 32 = omega arith in
    let same : rebased_ticks t (suc r) % 2 ^ 32 * suc r / suc r ≡ rebased_ticks t (suc r) % 2 ^ 32 =
    mul-div_cancel (rebased_ticks t (suc r) % 2 ^ 32) some in
    ap (λ n. n % 2 ^ 32) same ∙ omega (arith, small)

pub have-arrived : (row : RowFormat) (m : Numbering) (xs : List Sample) → All (λ x. AreValues x.values) xs
    → EachTimed (HasArrived row m) (arriving row m xs)
have-arrived row m [] are = tt
have-arrived row m (x ∷ xs) are =
    let here : AreValues x.values = All-head (λ (x : Sample). AreValues x.values) x xs are in (
      record {
        word = word-again x.time (rtp_rate row);
        range = arriving-are-values m x.values here;
        again = arriving-twice m x.values;
      },
      have-arrived row m xs (All-tail (λ (x : Sample). AreValues x.values) x xs are),
    )

-- units that are sent as samples arrive with their values carried again
pub arriving-again : (row : RowFormat) (m : Numbering) (us : List Timed) → EachTimed (HasArrived row m) us
    → arriving row m (map (timed_sample (rtp_rate row)) us) ≡ map (carried_again m) us
arriving-again row m [] all = refl
arriving-again row m (u ∷ us) all =
    ap₂ (λ (n : ℕ) (ts : List Timed). timed n (arriving_values m u.values) u.bytes ∷ ts) all.0.word
    (arriving-again row m us all.1)

pub same-unstamped : (row : RowFormat) (m : Numbering) (us : List Timed) → EachTimed (HasArrived row m) us
    → map unstamp (map (carried_again m) us) ≡ map unstamp us
same-unstamped row m [] all = refl
same-unstamped row m (u ∷ us) all =
    ap₂ (λ (v : ExtensionValues) (ts : List Timed). timed u.time v u.bytes ∷ ts) all.0.again
    (same-unstamped row m us all.1)

pub samples-in-range : (row : RowFormat) (m : Numbering) (rate : ℕ) (us : List Timed)
    → EachTimed (HasArrived row m) us → All (λ x. AreValues x.values) (map (timed_sample rate) us)
samples-in-range row m rate [] all = All-nil _
samples-in-range row m rate (u ∷ us) all =
    All-cons (λ (x : Sample). AreValues x.values) (timed_sample rate u) (map (timed_sample rate) us) all.0.range
    (samples-in-range row m rate us all.1)

pub samples-arrive : (s : Sending) (xs : List Sample) → samples_of s xs ≡ arriving s.row s.map xs
samples-arrive s [] = refl
samples-arrive s (x ∷ xs) = ap (λ (ts : List Timed). timed (timestamp s x.time) (carried s x.values) x.bytes ∷ ts)
    (samples-arrive s xs)

-- samples that are kept are kept as they arrive
pub each-kept : (IsKept : IsKeptBy) (limit : ℕ) (row : RowFormat) (m : Numbering) (xs : List Sample)
    → All (λ x. IsKept limit x.bytes) xs → EachKept IsKept limit (arriving row m xs)
each-kept IsKept limit row m [] all = tt
each-kept IsKept limit row m (x ∷ xs) all = (
  All-head (λ (x : Sample). IsKept limit x.bytes) x xs all,
  each-kept IsKept limit row m xs (All-tail (λ (x : Sample). IsKept limit x.bytes) x xs all),
)
