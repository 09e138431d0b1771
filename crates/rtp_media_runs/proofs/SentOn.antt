-- One sample of Opus that is sent on over a second stream.
use Rattle.std.proofs.Common.{◌≡◌, ℕ, ◌+◌, ◌<◌, ◌≤◌, ◌%◌, ◌^◌, refl, sym, ◌∙◌, ap, subst, arith, Bool, List, []}
use Rattle.std.proofs.Common.{◌∷◌, ◌++◌}
use Rattle.std.proofs.Common.{length, map, append-nil, Option, Ok, Err, Result}
use Rattle.std.specs.Prelude.{is_some}
use Rattle.std.proofs.lemmas.List.Elements.{All-cons, All-nil}
use Rattle.payload_core_base.specs.Law.{joined}
use Rattle.media_types.specs.declared.codec.Codec.{Codec}
use Rattle.media_types.specs.declared.codec.Codec.TheVariants.{Opus}
use Rattle.payload_core_base.specs.declared.error.PacketError.{PacketError}
use Rattle.payload_core_base.specs.Stateless.{unit_of_piece}
use Rattle.h26x_payload.specs.Codings as codings
use Rattle.h26x_payload.specs.Dispatch.{FirstIsReached, KeepCodecLawInForms}
use Rattle.rtp_media_runs.specs.Codecs.{is_kept_in}
use Rattle.rtp_wire.specs.Time.{rebased_ticks}
use Rattle.rtp_wire.specs.Values.{Numbering}
use Rattle.payload_core_buffer.specs.Steps.{MediaUnit}
use Rattle.rtp_media_schedules.specs.Hearing.{handed_out}
use Rattle.rtp_media_schedules.specs.SentSamples.{Timed, timed}
use Rattle.h26x_payload.specs.Codings.{forms_for}
use Rattle.rtp_media_streams.specs.Rows.{first_state, rtp_rate, settings_in}
use Rattle.rtp_media_streams.specs.Sending.{Sample}
use Rattle.rtp_media_streams.specs.declared.row_format.RowFormat.{RowFormat}
use Rattle.rtp_media_ends.specs.FullArrival.{count_of}
use Rattle.rtp_media_runs.specs.Units.{arriving_values, units_for}
use Rattle.rtp_media_runs.specs.Hops.{Hop, IsAlike, IsTame, SendsOn, answers_over, limit_over, map_over}
use Rattle.rtp_media_runs.specs.Hops.{passed_on, row_over, sender_over, units_over, unstamped}
use Rattle.rtp_media_runs.specs.OpusHops.{CarriesOpus, FitsPacket, bytes_out, one_arrival}
use Rattle.rtp_media_runs.proofs.OneSample.{carries-one, counted, is-tame, one-piece}
use Rattle.rtp_media_runs.proofs.Passed.{samples-are, timed_sample, unstamped-are}
use Rattle.rtp_media_runs.proofs.SecondHop.{IsExact}
use Rattle.rtp_media_runs.proofs.Values.{arriving-are-values}

abbrev only_unit : RowFormat → Numbering → Sample → Timed
only_unit row m x = timed (rebased_ticks x.time (rtp_rate row) % 2 ^ 32) (arriving_values m x.values) x.bytes

units-one : (row : RowFormat) (m : Numbering) (limit : ℕ) (id : Option ℕ) (b : Bool) (x : Sample) → row.codec ≡ Opus
    → 0 < length x.bytes → length x.bytes ≤ limit → units_for row m limit id b (x ∷ []) ≡ only_unit row m x ∷ []
units-one row m limit id b x is some fits =
    let u : List ℕ → Timed =
    λ bytes. timed (rebased_ticks x.time (rtp_rate row) % 2 ^ 32) (arriving_values m x.values) bytes in
    ap (λ (c : Codec). map (λ parts. u (joined parts))
    ((codings.coding_in (forms_for b) (settings_in row) (is_some id) c).units (first_state row id) limit x.bytes)
    ++ []) is
    ∙ ap (λ (ps : List (List ℕ)). map (λ parts. u (joined parts)) (map unit_of_piece ps) ++ [])
    (one-piece limit x.bytes some fits)
    ∙ ap (λ (bytes : List ℕ). u bytes ∷ []) (append-nil x.bytes)

abbrev bytes_of : Result Timed PacketError → Result (List ℕ) PacketError
bytes_of (Ok u) = Ok u.bytes
bytes_of (Err e) = Err e

bytes-are : (rs : List (Result MediaUnit PacketError)) → map bytes_out rs ≡ map bytes_of (map unstamped rs)
bytes-are [] = refl
bytes-are (Ok u ∷ rs) = ap (λ (ts : List (Result (List ℕ) PacketError)). Ok u.bytes ∷ ts) (bytes-are rs)
bytes-are (Err e ∷ rs) = ap (λ (ts : List (Result (List ℕ) PacketError)). Err e ∷ ts) (bytes-are rs)

-- units of a tame run that are sent on come out unchanged
abbrev pub IsUnchanged : Hop → Hop → Sample → Type 0
IsUnchanged first second x = SendsOn first second (x ∷ []) one_arrival
    → IsTame second (passed_on first (x ∷ []) one_arrival) one_arrival
    → map unstamped (handed_out (answers_over second (passed_on first (x ∷ []) one_arrival) one_arrival))
    ≡ map unstamped (handed_out (answers_over first (x ∷ []) one_arrival))

module _ (law : KeepCodecLawInForms) (reached : FirstIsReached) (exact : IsExact) (first second : Hop) (x : Sample)
    (from : CarriesOpus first) (to : CarriesOpus second) (alike : IsAlike first second) (fits : FitsPacket first x)
  where
    abbrev u : Timed
    u = only_unit (row_over first) (map_over first) x

    abbrev y : Sample
    y = timed_sample (rtp_rate (row_over first)) u

    units-are : units_over first (x ∷ []) ≡ u ∷ []
    units-are = units-one (row_over first) (map_over first) (limit_over first) first.params.picture_id
        first.params.for_browsers x from.opus fits.some fits.fits

    is-passed : passed_on first (x ∷ []) one_arrival ≡ y ∷ []
    is-passed = samples-are (rtp_rate (row_over first)) (answers_over first (x ∷ []) one_arrival) (u ∷ [])
        (exact first (x ∷ []) one_arrival (carries-one law reached first x from fits)
        (is-tame law reached first x from fits)
        ∙ ap (λ (us : List Timed). map Ok us) units-are)

    still-fits : FitsPacket second y
    still-fits = record {
      some = fits.some;
      fits = omega (arith, fits.fits, alike.limit);
      values = arriving-are-values (map_over first) x.values fits.values;
    }

    abbrev IsKept : Sample → Type 0
    IsKept z = is_kept_in (settings_in (row_over first)) (row_over first).codec (limit_over first) z.bytes

    pub sent-on : SendsOn first second (x ∷ []) one_arrival
    sent-on =
        let few : second.params.first + count_of (sender_over second) (y ∷ []) ≤ 2 ^ 62 =
        omega (arith, to.first, counted law reached second y to still-fits) in
        record {
          carries = carries-one law reached first x from fits;
          kept = All-cons IsKept x [] (subst (λ (c : Codec). is_kept_in (settings_in (row_over first)) c
              (limit_over first) x.bytes) (sym from.opus) tt) (All-nil IsKept);
          tame = is-tame law reached first x from fits;
          opened = to.opened;
          alike = alike;
          numbers =
              subst (λ (xs : List Sample). second.params.first + count_of (sender_over second) xs ≤ 2 ^ 62)
              (sym is-passed) few;
        }

    pub tame-again : IsTame second (passed_on first (x ∷ []) one_arrival) one_arrival
    tame-again =
        subst (λ (xs : List Sample). IsTame second xs one_arrival) (sym is-passed)
        (is-tame law reached second y to still-fits)

    pub bytes-again : IsUnchanged first second x
        → map bytes_out (handed_out (answers_over second (passed_on first (x ∷ []) one_arrival) one_arrival))
        ≡ Ok x.bytes ∷ []
    bytes-again unchanged =
        bytes-are (handed_out (answers_over second (passed_on first (x ∷ []) one_arrival) one_arrival))
        ∙ ap (map bytes_of) (unchanged sent-on tame-again)
        ∙ ap (map bytes_of) (unstamped-are (handed_out (answers_over first (x ∷ []) one_arrival)) (u ∷ [])
        (exact first (x ∷ []) one_arrival sent-on.carries sent-on.tame ∙ ap (λ (us : List Timed). map Ok us) units-are))
