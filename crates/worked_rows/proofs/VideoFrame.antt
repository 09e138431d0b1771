-- A frame of VP8 in two packets, of which the second comes first: the schedule is tame, and the unit is the frame.
use Rattle.std.proofs.Common.{◌≡◌, ℕ, zero, suc, ◌+◌, ◌-◌, ◌<◌, ◌≤◌, refl, sym, ◌∙◌, ap, ap₂, subst, subst₂, arith, inl}
use Rattle.std.proofs.Common.{Bool, true, false, ◌&&◌, true≢false, List, [], ◌∷◌, ◌++◌, length, map, take, drop}
use Rattle.std.proofs.Common.{append-nil}
use Rattle.std.proofs.Common.{Option, Some, None, Result, Ok, Err}
use Rattle.std.proofs.lemmas.Bool.Decides.{nat_tests}
use Rattle.std.proofs.lemmas.List.{length-drop}
use Rattle.std.proofs.lemmas.List.Elements.{All-cons, All-nil}
use Rattle.std.specs.Prelude.{◌==◌, IfSome, slice_get, if◌then◌else◌}
use Rattle.media_types.specs.declared.codec.Codec.{Codec}
use Rattle.media_types.specs.declared.codec.Codec.TheVariants.{Vp8}
use Rattle.h26x_payload.specs.Codings as codings
use Rattle.h26x_payload.specs.Codings.{forms_for}
use Rattle.payload_core_base.specs.Format.{Format}
use Rattle.payload_core_base.specs.Packing as packing
use Rattle.payload_core_base.specs.Packing.{marked}
use Rattle.payload_core_base.specs.Pieces.{pieces}
use Rattle.payload_core_base.proofs.PieceLemmas.{pieces-step}
use Rattle.payload_core_base.specs.declared.error.PacketError.{PacketError}
use Rattle.payload_core_buffer.specs.Steps.{Answer, MediaUnit}
use Rattle.payload_core_vpx.specs.Vp8.{described, vp8_coding, vp8_format, vp8_packing}
use Rattle.rtp_wire.specs.Carried.{AreValues}
use Rattle.rtp_wire.specs.declared.values.ExtensionValues.{ExtensionValues}
use Rattle.rtp_media_schedules.specs.Hearing.{EndsSilent}
use Rattle.rtp_media_schedules.specs.Orders.{IsGoodPoll, IsTame, first_size}
use Rattle.rtp_media_schedules.specs.SentSamples.{timed, timed_unit}
use Rattle.rtp_media_schedules.specs.Samples.{SentSample, canonical_units, frame_sizes, packets_of, sent_by, whole_unit}
use Rattle.rtp_media_schedules.specs.Turns as turns
use Rattle.rtp_media_schedules.specs.Turns.{AllCame, Ask, IsGoodArrival, Turn}
use Rattle.rtp_media_streams.specs.Rows.{format_of, settings_in}
use Rattle.rtp_media_streams.specs.Sending.{Sample, Sending, carried, packet_limit, samples_of, timestamp}
use Rattle.rtp_media_streams.specs.declared.errors.RepairError.{RepairError}
use Rattle.rtp_media_streams.specs.declared.row_format.RowFormat.{RowFormat}
use Rattle.sdp_formats_rows.specs.Rows.{Row}
use Rattle.rtp_media_sections.specs.Agreement.{agreed_row_of}
use Rattle.rtp_media_ends.specs.Ends.{EndState, new_sender, row_format_in}
use Rattle.rtp_media_ends.specs.FullArrival.{AreSound, count_of, sent_samples, units_of}
use Rattle.rtp_media_ends.specs.OpensAt.{SendsAt}
use Rattle.rtp_media_ends.specs.declared.StreamParams.{StreamParams}
use Rattle.rtp_media_runs.proofs.Exchanged.{agreed-is}
use Rattle.rtp_media_runs.proofs.OneSample.{one-piece}
use Rattle.rtp_media_runs.specs.OpusHops.{bytes_out}
use Rattle.rtp_media_runs.specs.Runs.{IsTameSchedule, sizes_at}
use Rattle.rtp_media_runs.specs.Schedules.{Source, after_event, answers_on, is_made, is_repaired, played, repair_at}
use Rattle.rtp_media_runs.specs.Schedules.{source_after, source_of, turns_of, verdicts_on}
use Rattle.rtp_media_runs.specs.declared.schedule.Event.{Event}
use Rattle.rtp_media_runs.specs.declared.schedule.Event.TheVariants.{Arrive, Poll, Repair}
use Rattle.rtp_media_runs.specs.declared.schedule.Played.{Played}
use Rattle.worked_rows.specs.Call.{opened_to_hold}
use Rattle.worked_rows.specs.VideoCall.{IsTwoPacketFrame, IsVp8, SendsFrames, frame_params, is_received}
use Rattle.worked_rows.proofs.Streams.{no-values}
use Rattle.worked_rows.proofs.Three.{bytes-are, timed_bytes}

-- the second is repaired and comes, then the first, and the stream is polled twice
abbrev pub repair_first : List Event
repair_first = Repair 1 ∷ Arrive 0 ∷ Poll ∷ Poll ∷ []

abbrev repair_turns : List Turn
repair_turns = turns.Arrive 1 ∷ turns.Arrive 0 ∷ Ask ∷ Ask ∷ []

two-pieces : (bytes : List ℕ) → 2 < length bytes → length bytes ≤ 4
    → pieces 2 bytes ≡ take 2 bytes ∷ drop 2 bytes ∷ []
two-pieces bytes some fits =
    pieces-step 2 bytes (omega arith) (omega (arith, some))
    ∙ ap (λ (ps : List (List ℕ)). take 2 bytes ∷ ps)
    (one-piece 2 (drop 2 bytes) (omega (arith, length-drop 2 bytes, some)) (omega (arith, length-drop 2 bytes, fits)))

-- a frame in two packets
abbrev pub sent_two : ℕ → ExtensionValues → List ℕ → SentSample
sent_two time values bytes = record {
  time = time;
  values = values;
  packets = record { payload = 16 ∷ take 2 bytes; marker = false }
      ∷ record { payload = 0 ∷ drop 2 bytes; marker = true }
      ∷ [];
  units = (bytes ∷ []) ∷ [];
}

two-sent : (zero_id : Bool) (state : packing.Sender) (time : ℕ) (values : ExtensionValues) (bytes : List ℕ)
    → 2 < length bytes → length bytes ≤ 4
    → sent_by (vp8_coding false zero_id) 3 state (timed time values bytes ∷ []) ≡ sent_two time values bytes ∷ []
two-sent zero_id state time values [] some fits = absurd (omega arith)
two-sent zero_id state time values (b ∷ bs) some fits =
    ap (λ (ps : List (List ℕ)). let ss : List SentSample = record {
      time = time;
      values = values;
      packets = marked (vp8_packing false zero_id) (described false state.number true ps);
      units = ((b ∷ bs) ∷ []) ∷ [];
    } ∷ [] in ss) (two-pieces (b ∷ bs) some fits)

vp8-is : (row : RowFormat) → row.codec ≡ Vp8 → format_of row ≡ vp8_format
unfolding format_of
vp8-is row is = ap (λ (c : Codec). (codings.coding_in (forms_for false) (settings_in row) false c).format) is

all-came : AllCame 0 2 (0 ∷ 1 ∷ [])
all-came zero low high = refl
all-came (suc zero) low high = refl
all-came (suc (suc y)) low high = absurd (omega arith)

good-poll : IsGoodPoll 0 2 1023 (0 ∷ 1 ∷ []) 2
good-poll = record { begun = refl; held_back = inl (omega arith) }

arrival : (past : List ℕ) (x : ℕ) → x < 2 → turns.IsNear past x → IsGoodArrival 0 2 past x
arrival past x lt near = record {
  from_first = omega arith;
  before_end = omega arith;
  near = near;
  in_reach = λ y low far. absurd (omega arith);
}

tame : IsTame 0 2 opened_to_hold 2 [] 0 (2 ∷ []) repair_turns
tame = (
  arrival [] 1 (omega arith) (omega arith),
  omega arith,
  (
    arrival (1 ∷ []) 0 (omega arith) (omega arith, omega arith),
    omega arith,
    (good-poll, (good-poll, all-came)),
  ),
)

-- the first answer tells that the repair was made
made-by : (e : EndState) (o : Option (Result (List ℕ) RepairError)) (rest : List Played) → length rest ≤ 3
    → length (answers_on e o ++ rest) ≡ 4 → is_received (slice_get (answers_on e o ++ rest) 0) ≡ true
    → is_made o ≡ true
made-by e None rest short four first = absurd (omega (arith, short, four))
made-by e (Some (Err refusal)) rest short four first = absurd (true≢false (sym first))
made-by e (Some (Ok bytes)) rest short four first = refl

three-at-most : (e : EndState) (o : Option (List ℕ)) (p q : Played) → length (verdicts_on e o ++ p ∷ q ∷ []) ≤ 3
three-at-most e None p q = omega arith
three-at-most e (Some bytes) p q = omega arith

repair-made : (sent : Source) (rx : ℕ) (e : EndState) → length (played sent rx e repair_first) ≡ 4
    → is_received (slice_get (played sent rx e repair_first) 0) ≡ true → is_repaired sent 1 ≡ true
repair-made sent rx e four first =
    made-by e (repair_at sent 1)
    (played (source_after sent (Repair 1)) rx (after_event sent rx e (Repair 1)) (Arrive 0 ∷ Poll ∷ Poll ∷ []))
    (three-at-most (after_event sent rx e (Repair 1)) (slice_get sent.datagrams 0) _ _) four first

left-true : (a b : Bool) → (a && b) ≡ true → a ≡ true
left-true true b both = refl
left-true false b both = absurd (true≢false (sym both))

right-true : (a b : Bool) → (a && b) ≡ true → b ≡ true
right-true true b both = both
right-true false b both = absurd (true≢false (sym both))

four-of : (n : ℕ) → (n == 4) ≡ true → n ≡ 4
four-of n is = grind (arith, nat_tests)

pub answered-made : (sent : Source) (rx : ℕ) (e : EndState) (all : List Played)
    → all ≡ played sent rx e repair_first → ((length all == 4) && is_received (slice_get all 0)) ≡ true
    → is_repaired sent 1 ≡ true
answered-made sent rx e all is both =
    repair-made sent rx e
    (ap length (sym is) ∙ four-of (length all) (left-true (length all == 4) (is_received (slice_get all 0)) both))
    (ap (λ (ps : List Played). is_received (slice_get ps 0)) (sym is)
    ∙ right-true (length all == 4) (is_received (slice_get all 0)) both)

module _ (s : Sending) (x : Sample) (sends : SendsFrames s) (frame : IsTwoPacketFrame x) where
  sent-is : sent_samples s (x ∷ []) ≡ sent_two (timestamp s x.time) (carried s x.values) x.bytes ∷ []
  sent-is =
      ap (λ (c : Codec). sent_by (codings.coding_in (forms_for s.for_browsers) (settings_in s.row) s.has_id c)
      (packet_limit s) s.packetizer (samples_of s (x ∷ []))) sends.codec
      ∙ ap₂ (λ (id : Bool) (limit : ℕ). sent_by (vp8_coding id s.for_browsers) limit s.packetizer
      (samples_of s (x ∷ []))) sends.no_id sends.limit
      ∙ two-sent s.for_browsers s.packetizer (timestamp s x.time) (carried s x.values) x.bytes frame.some frame.fits

  pub two-datagrams : count_of s (x ∷ []) ≡ 2
  two-datagrams = ap (λ (ss : List SentSample). length (packets_of ss)) sent-is

  sizes-are : sizes_at s (x ∷ []) ≡ 2 ∷ []
  sizes-are = ap₂ (λ (f : Format) (ss : List SentSample). frame_sizes f ss) (vp8-is s.row sends.codec) sent-is

  pub frame-sound : AreSound s (x ∷ [])
  frame-sound = record {
    well_formed = (
      subst (λ (c : Codec). (codings.coding_in (forms_for s.for_browsers) (settings_in s.row) s.has_id c).IsWellFormed
          (packet_limit s) x.bytes) (sym sends.codec) (omega (arith, frame.some)),
      tt,
    );
    values = All-cons (λ (y : Sample). AreValues y.values) x [] (subst AreValues (sym frame.values) no-values)
        (All-nil _);
  }

  turns-are : (made : ℕ → Bool) → made 1 ≡ true → turns_of 0 2 made repair_first ≡ repair_turns
  turns-are made is =
      ap (λ (b : Bool). if b then repair_turns else turns.Arrive 0 ∷ Ask ∷ Ask ∷ []) is

  pub frame-tame : is_repaired (source_of s (x ∷ [])) 1 ≡ true → (answers : List Answer) → EndsSilent answers
      → IsTameSchedule s (x ∷ []) opened_to_hold repair_first answers
  frame-tame is answers silent =
      let made : ℕ → Bool = is_repaired (source_of s (x ∷ [])) in
      let here : IsTame 0 2 opened_to_hold 2 [] 0 (2 ∷ []) (turns_of 0 2 made repair_first) =
      subst (λ (ts : List Turn). IsTame 0 2 opened_to_hold 2 [] 0 (2 ∷ []) ts) (sym (turns-are made is)) tame in
      let counted : IsTame 0 (count_of s (x ∷ [])) opened_to_hold (first_size (sizes_at s (x ∷ []))) [] 0
      (sizes_at s (x ∷ [])) (turns_of 0 (count_of s (x ∷ [])) made repair_first) =
      subst₂ (λ (n : ℕ) (zs : List ℕ). IsTame 0 n opened_to_hold (first_size zs) [] 0 zs
      (turns_of 0 n made repair_first)) (sym two-datagrams) (sym sizes-are) here in
      record {
        foreign = tt;
        order = subst (λ (n : ℕ). IsTame n (count_of s (x ∷ [])) opened_to_hold (first_size (sizes_at s (x ∷ []))) [] n
            (sizes_at s (x ∷ [])) (turns_of n (count_of s (x ∷ [])) made repair_first)) (sym sends.first) counted;
        before = Repair 1 ∷ Arrive 0 ∷ Poll ∷ [];
        last = refl;
        silent = silent;
      }

  pub frame-out : (rs : List (Result MediaUnit PacketError)) → map timed_unit rs ≡ map Ok (units_of s (x ∷ []))
      → map bytes_out rs ≡ Ok x.bytes ∷ []
  frame-out rs exact =
      bytes-are rs ∙ ap (map timed_bytes) exact
      ∙ ap (λ (ss : List SentSample). map timed_bytes (map Ok (map whole_unit (canonical_units s.next ss)))) sent-is
      ∙ ap (λ (bytes : List ℕ). let rs : List (Result (List ℕ) PacketError) = Ok bytes ∷ [] in rs) (append-nil x.bytes)

-- a new stream of an agreed row of VP8
pub sends-frames : (e : EndState) (mid : List ℕ) (ssrc pt : ℕ) (p : StreamParams) → p ≡ frame_params
    → IfSome (agreed_row_of e.exchange.agreed mid pt) IsVp8 → SendsAt e mid ssrc pt
    → SendsFrames (new_sender e mid ssrc pt p)
sends-frames e mid ssrc pt p is vp8 at =
    subst (λ (q : StreamParams). SendsFrames (new_sender e mid ssrc pt q)) (sym is) (record {
      codec = ap (λ (o : Option Row). (row_format_in o).codec) (agreed-is e mid ssrc pt at)
          ∙ subst (λ (o : Option Row). IfSome o IsVp8) (agreed-is e mid ssrc pt at) vp8;
      no_id = refl;
      limit = refl;
      first = refl;
    })
