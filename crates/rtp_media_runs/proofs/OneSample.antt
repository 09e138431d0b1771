-- One sample of Opus over a stream: one datagram, a tame schedule, and one unit.
use Rattle.std.proofs.Common.{◌≡◌, ℕ, zero, suc, ◌-◌, ◌<◌, ◌≤◌, refl, sym, ◌∙◌, ap, ap₂, subst, subst₂, arith}
use Rattle.std.proofs.Common.{Bool}
use Rattle.std.proofs.Common.{false, true, List, [], ◌∷◌, drop, length, map, Option, Some, None, inr}
use Rattle.std.specs.List.{cons_option}
use Rattle.std.specs.Prelude.{option_and_then, slice_get}
use Rattle.std.proofs.lemmas.Bool.Decides.{nat_tests}
use Rattle.std.proofs.lemmas.List.{drop_all, length-drop, take_all}
use Rattle.std.proofs.lemmas.List.Elements.{All-cons, All-nil}
use Rattle.payload_core_base.specs.Format.{Format}
use Rattle.payload_core_base.specs.Packing.{marked}
use Rattle.payload_core_base.specs.Pieces.{pieces}
use Rattle.media_types.specs.declared.codec.Codec.{Codec}
use Rattle.media_types.specs.declared.codec.Codec.TheVariants.{Opus}
use Rattle.payload_core_base.proofs.PieceLemmas.{pieces-empty, pieces-step}
use Rattle.payload_core_audio.specs.Plain.{pieces_packing, plain_format}
use Rattle.payload_core_base.specs.Stateless.{unit_of_piece}
use Rattle.h26x_payload.specs.Codings as codings
use Rattle.h26x_payload.specs.Dispatch.{FirstIsReached, KeepCodecLawInForms}
use Rattle.rtp_wire.specs.Carried.{AreValues}
use Rattle.rtp_media_schedules.specs.Hearing as hearing
use Rattle.rtp_media_schedules.specs.Hearing.{EndsSilent, fresh, heard, number_at, taken_by}
use Rattle.payload_core_buffer.specs.Buffered.{Holding, is_valid_capacity}
use Rattle.rtp_media_schedules.specs.Orders.{IsGoodPoll, IsTame, first_size}
use Rattle.rtp_media_schedules.specs.Samples.{SentSample, frame_sizes, packets_of, sent_by}
use Rattle.rtp_media_schedules.specs.Turns as turns
use Rattle.rtp_media_schedules.specs.Turns.{AllCame, Ask}
use Rattle.rtp_media_schedules.proofs.Polls.{polls-end}
use Rattle.h26x_payload.specs.Codings.{forms_for}
use Rattle.rtp_media_streams.specs.Rows.{format_of, settings_in}
use Rattle.rtp_media_streams.specs.Sending.{Sample, Sending, carried, opened_sender, packet_limit}
use Rattle.rtp_media_streams.specs.Sending.{samples_of, timestamp}
use Rattle.rtp_media_streams.specs.declared.row_format.RowFormat.{RowFormat}
use Rattle.rtp_media_ends.specs.Ends.{sender_types, new_receiver}
use Rattle.rtp_media_ends.specs.FullArrival.{AreSound, count_of, sent_samples}
use Rattle.rtp_media_ends.specs.OwnEvents.{event_in}
use Rattle.rtp_media_runs.specs.Runs.{sizes_at}
use Rattle.rtp_media_runs.specs.Schedules.{is_repaired, source_of, turns_of}
use Rattle.rtp_media_runs.specs.declared.schedule.Event.TheVariants.{Arrive, Poll}
use Rattle.rtp_media_runs.proofs.Exchanged.{IsPlain, alone, plain}
use Rattle.rtp_media_runs.specs.Hops as hops
use Rattle.rtp_media_runs.specs.Hops.{Carries, Hop, answers_over, limit_over, row_over, sender_over}
use Rattle.rtp_media_runs.specs.OpusHops.{CarriesOpus, FitsPacket, one_arrival}

pub one-piece : (limit : ℕ) (bytes : List ℕ) → 0 < length bytes → length bytes ≤ limit → pieces limit bytes ≡ bytes ∷ []
one-piece limit bytes some short =
    pieces-step limit bytes (omega arith) some
    ∙ ap₂ (λ (p : List ℕ) (ps : List (List ℕ)). p ∷ ps) (take_all limit bytes short)
    (ap (pieces limit) (drop_all limit bytes short) ∙ pieces-empty limit)

opus-format : (row : RowFormat) → row.codec ≡ Opus → format_of row ≡ plain_format
unfolding format_of
opus-format row is = ap (λ (c : Codec). (codings.coding_in (forms_for false) (settings_in row) false c).format) is

-- of one packet no more is held than one
one-at-most : {A : Type 0} (i : ℕ) (a : A) → length (drop i (a ∷ [])) ≤ 1
one-at-most i a = omega (arith, length-drop i (a ∷ []))

-- what is heard of a first own event and two polls ends by None
silent-end : (format : Format) (holding : Holding) (o : Option hearing.Event)
    → EndsSilent (heard format (fresh holding) (cons_option o (hearing.Poll ∷ hearing.Poll ∷ [])))
silent-end format holding None = polls-end format 1 (fresh holding) (omega arith)
silent-end format holding (Some (hearing.Comes low content)) =
    polls-end format 1 (taken_by (fresh holding) (number_at (fresh holding) low) content)
    (one-at-most (1 - holding.held) _)
silent-end format holding (Some hearing.Poll) = polls-end format 2 (fresh holding) (omega arith)

module _ (s : Sending) (x : Sample) (is : s.row.codec ≡ Opus) (some : 0 < length x.bytes)
    (fits : length x.bytes ≤ packet_limit s) where
  abbrev only : List SentSample
  only = record {
    time = timestamp s x.time;
    values = carried s x.values;
    packets = record { payload = x.bytes; marker = false } ∷ [];
    units = (x.bytes ∷ []) ∷ [];
  } ∷ []

  sent-one : sent_samples s (x ∷ []) ≡ only
  sent-one =
      ap (λ (c : Codec). sent_by (codings.coding_in (forms_for s.for_browsers) (settings_in s.row) s.has_id c)
      (packet_limit s) s.packetizer (samples_of s (x ∷ []))) is
      ∙ ap (λ (ps : List (List ℕ)). let ss : List SentSample = record {
        time = timestamp s x.time;
        values = carried s x.values;
        packets = marked pieces_packing ps;
        units = map unit_of_piece ps;
      } ∷ [] in ss) (one-piece (packet_limit s) x.bytes some fits)

  pub count-one : count_of s (x ∷ []) ≡ 1
  count-one = ap (λ (ss : List SentSample). length (packets_of ss)) sent-one

  sizes-one : sizes_at s (x ∷ []) ≡ 1 ∷ []
  sizes-one = ap₂ (λ (f : Format) (ss : List SentSample). frame_sizes f ss) (opus-format s.row is) sent-one

  pub sound-one : AreValues x.values → AreSound s (x ∷ [])
  sound-one values = record {
    well_formed = (
      subst (λ (c : Codec). (codings.coding_in (forms_for s.for_browsers) (settings_in s.row) s.has_id c).IsWellFormed
          (packet_limit s) x.bytes) (sym is) some,
      tt,
    );
    values = All-cons (λ (y : Sample). AreValues y.values) x [] values (All-nil _);
  }

all-came : AllCame 0 1 (0 ∷ [])
all-came zero low high = refl
all-came (suc y) low high = absurd (omega arith)

one-held : (held : ℕ) → is_valid_capacity held ≡ true → 1 ≤ held
one-held held may = grind (arith, nat_tests)

good-poll : (hold_back : ℕ) → IsGoodPoll 0 1 hold_back (0 ∷ []) 1
good-poll hold_back = record { begun = refl; held_back = inr all-came }

tame-one : (holding : Holding) → is_valid_capacity holding.held ≡ true
    → IsTame 0 1 holding 1 [] 0 (1 ∷ []) (turns.Arrive 0 ∷ Ask ∷ Ask ∷ [])
tame-one holding may = (
  record {
    from_first = omega arith;
    before_end = omega arith;
    near = omega arith;
    in_reach = λ y low far. absurd (omega arith);
  },
  one-held holding.held may,
  (good-poll holding.hold_back, (good-poll holding.hold_back, all-came)),
)

module _ (law : KeepCodecLawInForms) (reached : FirstIsReached) (h : Hop) (x : Sample) (opus : CarriesOpus h)
    (fits : FitsPacket h x) where
  abbrev s : Sending
  s = sender_over h

  abbrev opened : Sending
  opened = opened_sender h.ssrc (sender_types h.sender h.mid h.ssrc h.pt) (hops.map_over h)
      (row_over h) h.params.picture_id
      h.params.for_browsers h.params.first h.params.mtu h.params.limit

  same : IsPlain opened s (limit_over h)
  same = plain law reached h.answer h.sender h.receiver h.mid h.ssrc h.pt h.params [] opus.opened

  pub is-opus : s.row.codec ≡ Opus
  is-opus = ap (λ (r : RowFormat). r.codec) same.row ∙ opus.opus

  pub in-packet : length x.bytes ≤ packet_limit s
  in-packet = omega (arith, fits.fits, same.limit_is)

  pub counted : count_of s (x ∷ []) ≡ 1
  counted = count-one s x is-opus fits.some in-packet

  pub carries-one : Carries h (x ∷ [])
  carries-one = record {
    exchanged = opus.opened.exchanged;
    sends = opus.opened.sends;
    receives = opus.opened.receives;
    ssrc_fits = opus.opened.ssrc_fits;
    repair_fits = opus.opened.repair_fits;
    sound_params = opus.opened.sound_params;
    sound_samples = sound-one s x is-opus fits.some in-packet fits.values;
    numbers = omega (arith, opus.first, counted);
  }

  silent : EndsSilent (answers_over h (x ∷ []) one_arrival)
  silent =
      let r = new_receiver h.receiver h.mid h.ssrc h.pt h.holding in
      subst EndsSilent (sym (alone law reached h.answer h.sender h.receiver h.mid h.ssrc h.pt h.params (x ∷ [])
      carries-one h.holding one_arrival))
      (silent-end (format_of r.row) h.holding
      (option_and_then (event_in r) (slice_get (source_of s (x ∷ [])).datagrams 0)))

  pub is-tame : hops.IsTame h (x ∷ []) one_arrival
  is-tame =
      let next : s.next ≡ 0 = same.next ∙ opus.first in
      let made : ℕ → Bool = is_repaired (source_of s (x ∷ [])) in
      let order : IsTame 0 (count_of s (x ∷ [])) h.holding (first_size (sizes_at s (x ∷ []))) [] 0
      (sizes_at s (x ∷ [])) (turns_of 0 (count_of s (x ∷ [])) made one_arrival) =
      subst₂ (λ (n : ℕ) (zs : List ℕ). IsTame 0 n h.holding (first_size zs) [] 0 zs (turns_of 0 n made one_arrival))
      (sym counted) (sym (sizes-one s x is-opus fits.some in-packet)) (tame-one h.holding opus.held) in
      record {
        foreign = tt;
        order = subst (λ (n : ℕ). IsTame n (count_of s (x ∷ [])) h.holding (first_size (sizes_at s (x ∷ []))) [] n
            (sizes_at s (x ∷ [])) (turns_of n (count_of s (x ∷ [])) made one_arrival)) (sym next) order;
        before = Arrive 0 ∷ Poll ∷ [];
        last = refl;
        silent = silent;
      }
