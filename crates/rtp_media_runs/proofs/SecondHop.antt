-- Units of a tame run that are sent on over a second stream.
use Rattle.std.proofs.Common.{◌≡◌, ℕ, List, [], map, sym, ap, ap₂, subst, ◌∙◌, Bool, Option}
use Rattle.std.specs.Prelude.{All, Ok, is_some, unwrap_or}
use Rattle.payload_core_base.specs.Law.{Coding}
use Rattle.payload_core_base.specs.Packing.{Sender}
use Rattle.h26x_payload.specs.Dispatch.{FirstIsReached, KeepCodecLawInForms}
use Rattle.rtp_media_runs.specs.Codecs.{AllGiveAgain, FirstFollow, follows_in, is_kept_in}
use Rattle.rtp_wire.specs.Carried.{AreValues}
use Rattle.rtp_wire.specs.Values.{Numbering}
use Rattle.rtp_media_schedules.specs.Hearing.{handed_out}
use Rattle.rtp_media_schedules.specs.SentSamples.{Timed, timed_unit}
use Rattle.rtp_media_schedules.specs.Samples.{AreWellFormed}
use Rattle.h26x_payload.specs.Codings.{forms_for}
use Rattle.rtp_media_streams.specs.Rows.{coding_in, first_state, rtp_rate, settings_in}
use Rattle.rtp_media_streams.specs.Sending.{Sample, Sending, opened_sender, packet_limit, samples_of}
use Rattle.rtp_media_streams.specs.declared.row_format.RowFormat.{RowFormat}
use Rattle.rtp_media_ends.specs.Ends.{sender_types}
use Rattle.rtp_media_ends.specs.FullArrival.{coding_of}
use Rattle.rtp_media_runs.specs.Units.{arriving, units_by, units_for}
use Rattle.rtp_media_runs.specs.declared.schedule.Event.{Event}
use Rattle.rtp_media_runs.proofs.Exchanged.{IsPlain, plain}
use Rattle.rtp_media_runs.specs.Hops.{Carries, Hop, IsTame, SendsOn, answers_over, carried_again}
use Rattle.rtp_media_runs.specs.Hops.{limit_over, map_over, passed_on, row_over, sender_over, units_over}
use Rattle.rtp_media_runs.specs.Hops.{unstamped}
use Rattle.rtp_media_runs.proofs.Passed.{HasArrived, arriving-again, each-kept, have-arrived, same-unstamped}
use Rattle.rtp_media_runs.proofs.Passed.{samples-are, samples-arrive, samples-in-range, timed_sample, unstamp}
use Rattle.rtp_media_runs.proofs.Passed.{unstamped-are}
use Rattle.rtp_media_runs.proofs.Units.{AreOwnUnits, EachTimed, each-unit, own-units, units-carried}
use Rattle.rtp_media_runs.proofs.Units.{well-formed-carried}

-- under a tame schedule the answers are the canonical units
abbrev pub IsExact : Type 0
IsExact = (h : Hop) (samples : List Sample) (schedule : List Event) → Carries h samples → IsTame h samples schedule
    → map timed_unit (handed_out (answers_over h samples schedule)) ≡ map Ok (units_over h samples)

-- a packetizer of a row before the first sample
states-follow : FirstFollow → (row : RowFormat) (id : Option ℕ) → follows_in (settings_in row) row.codec
    (first_state row id) (first_state row id)
unfolding first_state
states-follow first row id = first (settings_in row) row.codec (unwrap_or id 0)

module _ (law : KeepCodecLawInForms) (reached : FirstIsReached) (gives : AllGiveAgain) (follow : FirstFollow)
    (exact : IsExact) (first second : Hop) (samples : List Sample) (schedule : List Event)
    (on : SendsOn first second samples schedule) where
  abbrev row : RowFormat
  row = row_over first

  abbrev m : Numbering
  m = map_over first

  abbrev limit : ℕ
  limit = limit_over first

  abbrev has_id : Bool
  has_id = is_some first.params.picture_id

  abbrev for_browsers : Bool
  for_browsers = first.params.for_browsers

  abbrev coding : Coding
  coding = coding_in row has_id for_browsers

  abbrev state : Sender
  state = first_state row first.params.picture_id

  abbrev units : List Timed
  units = units_over first samples

  abbrev again : List Sample
  again = passed_on first samples schedule

  abbrev opened : Hop → Sending
  opened h = opened_sender h.ssrc (sender_types h.sender h.mid h.ssrc h.pt) (map_over h)
      (row_over h) h.params.picture_id
      h.params.for_browsers h.params.first h.params.mtu h.params.limit

  first-plain : IsPlain (opened first) (sender_over first) limit
  first-plain = plain law reached first.answer first.sender first.receiver first.mid first.ssrc first.pt first.params
      samples on.carries

  second-plain : IsPlain (opened second) (sender_over second) (limit_over second)
  second-plain = plain law reached second.answer second.sender second.receiver second.mid second.ssrc second.pt
      second.params [] on.opened

  -- the first samples are well-formed, by the row, the map and the limit
  well-formed : AreWellFormed coding limit (arriving row m samples)
  well-formed =
      let s : Sending = sender_over first in
      let W : RowFormat → Bool → Bool → ℕ → Numbering → Type 0 =
      λ r i b n k. AreWellFormed (coding_in r i b) n (arriving r k samples) in
      let a : W s.row s.has_id s.for_browsers (packet_limit s) s.map =
      subst (λ (xs : List Timed). AreWellFormed (coding_of s) (packet_limit s) xs) (samples-arrive s samples)
      on.carries.sound_samples.well_formed in
      let b : W row s.has_id s.for_browsers (packet_limit s) s.map =
      subst (λ (r : RowFormat). W r s.has_id s.for_browsers (packet_limit s) s.map) first-plain.row a in
      let c : W row has_id s.for_browsers (packet_limit s) s.map =
      subst (λ (i : Bool). W row i s.for_browsers (packet_limit s) s.map) first-plain.has_id b in
      let d : W row has_id for_browsers (packet_limit s) s.map =
      subst (λ (f : Bool). W row has_id f (packet_limit s) s.map) first-plain.for_browsers c in
      let e : W row has_id for_browsers limit s.map =
      subst (λ (n : ℕ). W row has_id for_browsers n s.map) first-plain.limit_is d in
      subst (λ (k : Numbering). W row has_id for_browsers limit k) first-plain.map e

  -- the units are their own units
  own : AreOwnUnits coding limit state units
  own = own-units coding (follows_in (settings_in row) row.codec) (is_kept_in (settings_in row) row.codec)
      (gives (forms_for for_browsers) (settings_in row) has_id row.codec) limit (arriving row m samples) state state
      (states-follow follow row first.params.picture_id) well-formed
      (each-kept (is_kept_in (settings_in row) row.codec) limit row m samples on.kept)

  arrived : EachTimed (HasArrived row m) units
  arrived = each-unit (HasArrived row m) coding limit state (arriving row m samples)
      (have-arrived row m samples on.carries.sound_samples.values)

  again-is : again ≡ map (timed_sample (rtp_rate row)) units
  again-is = samples-are (rtp_rate row) (answers_over first samples schedule) units
      (exact first samples schedule on.carries on.tame)

  arrive-again : arriving row m again ≡ map (carried_again m) units
  arrive-again = ap (arriving row m) again-is ∙ arriving-again row m units arrived

  pub units-again : units_over second again ≡ map (carried_again m) units
  units-again =
      ap₂ (λ (r : RowFormat) (k : Numbering). units_for r k (limit_over second) second.params.picture_id
      second.params.for_browsers again) on.alike.row on.alike.map
      ∙ ap₂ (λ (n : ℕ) (id : Option ℕ). units_for row m n id second.params.for_browsers again) on.alike.limit
      on.alike.picture_id
      ∙ ap (λ (b : Bool). units_for row m limit first.params.picture_id b again) on.alike.for_browsers
      ∙ ap (units_by coding limit state) arrive-again ∙ units-carried coding limit state m units
      ∙ ap (map (carried_again m)) own.own

  -- the units are well-formed for the second stream
  good : AreWellFormed (coding_of (sender_over second)) (packet_limit (sender_over second))
      (samples_of (sender_over second) again)
  good =
      let s : Sending = sender_over second in
      let W : RowFormat → Bool → Bool → ℕ → Numbering → Type 0 =
      λ r i b n k. AreWellFormed (coding_in r i b) n (arriving r k again) in
      let a : W row has_id for_browsers limit m =
      subst (λ (xs : List Timed). AreWellFormed coding limit xs) (sym arrive-again)
      (well-formed-carried coding limit m units own.good) in
      let b : W s.row has_id for_browsers limit m =
      subst (λ (r : RowFormat). W r has_id for_browsers limit m) (sym (second-plain.row ∙ on.alike.row)) a in
      let c : W s.row s.has_id for_browsers limit m =
      subst (λ (i : Bool). W s.row i for_browsers limit m)
      (sym (second-plain.has_id ∙ ap (λ (id : Option ℕ). is_some id) on.alike.picture_id)) b in
      let d : W s.row s.has_id s.for_browsers limit m =
      subst (λ (f : Bool). W s.row s.has_id f limit m) (sym (second-plain.for_browsers ∙ on.alike.for_browsers)) c in
      let e : W s.row s.has_id s.for_browsers (packet_limit s) m =
      subst (λ (n : ℕ). W s.row s.has_id s.for_browsers n m) (sym (second-plain.limit_is ∙ on.alike.limit)) d in
      let f : W s.row s.has_id s.for_browsers (packet_limit s) s.map =
      subst (λ (k : Numbering). W s.row s.has_id s.for_browsers (packet_limit s) k)
      (sym (second-plain.map ∙ on.alike.map)) e in
      subst (λ (xs : List Timed). AreWellFormed (coding_of s) (packet_limit s) xs) (sym (samples-arrive s again)) f

  pub carries-again : Carries second again
  carries-again = record {
    exchanged = on.opened.exchanged;
    sends = on.opened.sends;
    receives = on.opened.receives;
    ssrc_fits = on.opened.ssrc_fits;
    repair_fits = on.opened.repair_fits;
    sound_params = on.opened.sound_params;
    sound_samples = record {
      well_formed = good;
      values = subst (λ (xs : List Sample). All (λ x. AreValues x.values) xs) (sym again-is)
          (samples-in-range row m (rtp_rate row) units arrived);
    };
    numbers = on.numbers;
  }

  pub unchanged : (later : List Event) → IsTame second again later
      → map unstamped (handed_out (answers_over second again later))
      ≡ map unstamped (handed_out (answers_over first samples schedule))
  unchanged later tame =
      unstamped-are (handed_out (answers_over second again later)) (units_over second again)
      (exact second again later carries-again tame)
      ∙ ap (λ (us : List Timed). map Ok (map unstamp us)) units-again
      ∙ ap (λ (us : List Timed). map Ok us) (same-unstamped row m units arrived)
      ∙ sym (unstamped-are (handed_out (answers_over first samples schedule)) units
      (exact first samples schedule on.carries on.tame))
