-- Three samples, of which the second arrives last: the schedule is tame, and the units are the samples.
use Rattle.std.proofs.Common.{◌≡◌, ℕ, zero, suc, ◌+◌, ◌<◌, ◌≤◌, refl, sym, ◌∙◌, ap, ap₂, subst, subst₂, arith, inl}
use Rattle.std.proofs.Common.{Bool, true, ◌&&◌, List, [], ◌∷◌, length, map, append-nil, None, Ok, Err}
use Rattle.std.proofs.Common.{Option, Result, Some, ◌-◌, slice_get}
use Rattle.std.proofs.lemmas.Option.{none-some}
use Rattle.std.specs.Prelude.{All, IfSome}
use Rattle.payload_core_base.specs.declared.error.PacketError.{PacketError}
use Rattle.payload_core_buffer.specs.Steps.{Answer, MediaUnit}
use Rattle.rtp_media_schedules.specs.Hearing.{EndsSilent}
use Rattle.rtp_media_schedules.specs.SentSamples.{Timed, timed_unit}
use Rattle.payload_core_base.specs.Format.{Format}
use Rattle.rtp_media_schedules.specs.Orders.{IsGoodPoll, IsTame, first_size}
use Rattle.rtp_media_schedules.specs.Samples.{SentSample, canonical_units, frame_sizes, packets_of, whole_unit}
use Rattle.rtp_media_schedules.specs.Turns as turns
use Rattle.rtp_media_schedules.specs.Turns.{AllCame, Ask, IsGoodArrival, Turn, is_among}
use Rattle.rtp_media_streams.specs.Sending.{Sample, Sending, packet_limit, samples_of}
use Rattle.rtp_media_ends.specs.FullArrival.{count_of, units_of}
use Rattle.rtp_media_runs.specs.Runs.{IsTameSchedule, sizes_at}
use Rattle.rtp_media_runs.specs.Schedules.{is_repaired, poll_answers, source_of, turns_of}
use Rattle.rtp_media_runs.specs.declared.schedule.Event.{Event}
use Rattle.rtp_media_runs.specs.declared.schedule.Event.TheVariants.{Arrive, Poll}
use Rattle.rtp_media_runs.specs.declared.schedule.Played.{Played}
use Rattle.rtp_media_runs.specs.declared.schedule.Played.TheVariants.{NotRepaired, Received, Polled}
use Rattle.rtp_media_runs.specs.OpusHops.{bytes_out}
use Rattle.worked_rows.specs.Call.{sends_pieces, opened_to_hold, IsShortSample}
use Rattle.worked_rows.proofs.Whole.{AreShort, plain-format, sent-whole, sent_whole}

-- the first arrives and is polled, the third, and then the second
abbrev pub schedule : List Event
schedule = Arrive 0 ∷ Poll ∷ Arrive 2 ∷ Poll ∷ Arrive 1 ∷ Poll ∷ Poll ∷ Poll ∷ []

abbrev schedule_turns : List Turn
schedule_turns = turns.Arrive 0 ∷ Ask ∷ turns.Arrive 2 ∷ Ask ∷ turns.Arrive 1 ∷ Ask ∷ Ask ∷ Ask ∷ []

all-came : AllCame 0 3 (1 ∷ 2 ∷ 0 ∷ [])
all-came zero low high = refl
all-came (suc zero) low high = refl
all-came (suc (suc zero)) low high = refl
all-came (suc (suc (suc y))) low high = absurd (omega arith)

arrival : (past : List ℕ) (x : ℕ) → x < 3 → turns.IsNear past x → IsGoodArrival 0 3 past x
arrival past x lt near = record {
  from_first = omega arith;
  before_end = omega arith;
  near = near;
  in_reach = λ y low far. absurd (omega arith);
}

poll : (past : List ℕ) → is_among past 0 ≡ true → IsGoodPoll 0 3 1023 past 1
poll past begun = record {
  begun = ap (λ (b : Bool). b && true) begun;
  held_back = inl (omega arith);
}

tame : IsTame 0 3 opened_to_hold 1 [] 0 (1 ∷ 1 ∷ 1 ∷ []) schedule_turns
tame = (
  arrival [] 0 (omega arith) (omega arith),
  omega arith,
  (
    poll (0 ∷ []) refl,
    (
      arrival (0 ∷ []) 2 (omega arith) (omega arith, omega arith),
      omega arith,
      (
        poll (2 ∷ 0 ∷ []) refl,
        (
          arrival (2 ∷ 0 ∷ []) 1 (omega arith) (omega arith, omega arith),
          omega arith,
          (
            poll (1 ∷ 2 ∷ 0 ∷ []) refl,
            (poll (1 ∷ 2 ∷ 0 ∷ []) refl, (poll (1 ∷ 2 ∷ 0 ∷ []) refl, all-came)),
          ),
        ),
      ),
    ),
  ),
)

-- the samples as they arrive are short
still-short : (s : Sending) (samples : List Sample) → 1199 ≤ packet_limit s → All IsShortSample samples
    → AreShort (packet_limit s) (samples_of s samples)
still-short s [] room short = tt
still-short s (x ∷ xs) room short =
    let here : IsShortSample x = short 0 x (omega arith) in
    (here.some, omega (arith, here.short), still-short s xs room (λ k d lt. short (suc k) d (omega arith)))

-- three datagrams, each a unit
sizes-are : (s : Sending) (x y z : Sample) → sends_pieces s.row.codec ≡ true
    → AreShort (packet_limit s) (samples_of s (x ∷ y ∷ z ∷ [])) → sizes_at s (x ∷ y ∷ z ∷ []) ≡ 1 ∷ 1 ∷ 1 ∷ []
sizes-are s x y z is short =
    ap₂ (λ (f : Format) (ss : List SentSample). frame_sizes f ss) (plain-format s.row is)
    (sent-whole s (x ∷ y ∷ z ∷ []) is short)

count-is : (s : Sending) (x y z : Sample) → sends_pieces s.row.codec ≡ true
    → AreShort (packet_limit s) (samples_of s (x ∷ y ∷ z ∷ [])) → count_of s (x ∷ y ∷ z ∷ []) ≡ 3
count-is s x y z is short =
    ap (λ (ss : List SentSample). length (packets_of ss)) (sent-whole s (x ∷ y ∷ z ∷ []) is short)

pub tame-three : (s : Sending) (samples : List Sample) → length samples ≡ 3 → sends_pieces s.row.codec ≡ true
    → s.next ≡ 0 → 1199 ≤ packet_limit s → All IsShortSample samples → (answers : List Answer) → EndsSilent answers
    → IsTameSchedule s samples opened_to_hold schedule answers
tame-three s [] three is next room short answers silent = absurd (omega arith)
tame-three s (x ∷ []) three is next room short answers silent = absurd (omega arith)
tame-three s (x ∷ y ∷ []) three is next room short answers silent = absurd (omega arith)
tame-three s (x ∷ y ∷ z ∷ []) three is next room short answers silent =
    let here : AreShort (packet_limit s) (samples_of s (x ∷ y ∷ z ∷ [])) =
    still-short s (x ∷ y ∷ z ∷ []) room short in
    let made : ℕ → Bool = is_repaired (source_of s (x ∷ y ∷ z ∷ [])) in
    let counted : IsTame 0 (count_of s (x ∷ y ∷ z ∷ [])) opened_to_hold (first_size (sizes_at s (x ∷ y ∷ z ∷ []))) [] 0
    (sizes_at s (x ∷ y ∷ z ∷ [])) (turns_of 0 (count_of s (x ∷ y ∷ z ∷ [])) made schedule) =
    subst₂ (λ (n : ℕ) (zs : List ℕ). IsTame 0 n opened_to_hold (first_size zs) [] 0 zs (turns_of 0 n made schedule))
    (sym (count-is s x y z is here)) (sym (sizes-are s x y z is here)) tame in
    record {
      foreign = tt;
      order = subst (λ (n : ℕ). IsTame n (count_of s (x ∷ y ∷ z ∷ [])) opened_to_hold
          (first_size (sizes_at s (x ∷ y ∷ z ∷ []))) [] n (sizes_at s (x ∷ y ∷ z ∷ []))
          (turns_of n (count_of s (x ∷ y ∷ z ∷ [])) made schedule)) (sym next) counted;
      before = Arrive 0 ∷ Poll ∷ Arrive 2 ∷ Poll ∷ Arrive 1 ∷ Poll ∷ Poll ∷ [];
      last = refl;
      silent = silent;
    }
tame-three s (w ∷ x ∷ y ∷ z ∷ samples) three is next room short answers silent = absurd (omega arith)

abbrev pub timed_bytes : Result Timed PacketError → Result (List ℕ) PacketError
timed_bytes (Ok t) = Ok t.bytes
timed_bytes (Err e) = Err e

pub bytes-are : (rs : List (Result MediaUnit PacketError)) → map bytes_out rs ≡ map timed_bytes (map timed_unit rs)
bytes-are [] = refl
bytes-are (Ok u ∷ rs) = ap (λ (ts : List (Result (List ℕ) PacketError)). Ok u.bytes ∷ ts) (bytes-are rs)
bytes-are (Err e ∷ rs) = ap (λ (ts : List (Result (List ℕ) PacketError)). Err e ∷ ts) (bytes-are rs)

-- the bytes of samples that are sent whole
whole-bytes : (n : ℕ) (xs : List Timed)
    → map timed_bytes (map Ok (map whole_unit (canonical_units n (map sent_whole xs))))
    ≡ map (λ t. Ok t.bytes) xs
whole-bytes n [] = refl
whole-bytes n (x ∷ xs) =
    ap₂ (λ (b : List ℕ) (bs : List (Result (List ℕ) PacketError)). Ok b ∷ bs) (append-nil x.bytes)
    (whole-bytes (n + 1) xs)

arriving-bytes : (s : Sending) (samples : List Sample) → let bytes : List (Result (List ℕ) PacketError)
    = map (λ t. Ok t.bytes) (samples_of s samples) in bytes ≡ map (λ x. Ok x.bytes) samples
arriving-bytes s [] = refl
arriving-bytes s (x ∷ xs) =
    ap (λ (bs : List (Result (List ℕ) PacketError)). Ok x.bytes ∷ bs) (arriving-bytes s xs)

-- what is handed out is the samples
pub bytes-out : (s : Sending) (samples : List Sample) (rs : List (Result MediaUnit PacketError))
    → sends_pieces s.row.codec ≡ true → 1199 ≤ packet_limit s → All IsShortSample samples
    → map timed_unit rs ≡ map Ok (units_of s samples)
    → map bytes_out rs ≡ map (λ x. Ok x.bytes) samples
bytes-out s samples rs is room short exact =
    bytes-are rs ∙ ap (map timed_bytes) exact
    ∙ ap (λ (ss : List SentSample). map timed_bytes (map Ok (map whole_unit (canonical_units s.next ss))))
    (sent-whole s samples is (still-short s samples room short))
    ∙ whole-bytes s.next (samples_of s samples) ∙ arriving-bytes s samples

-- an answer in front
behind : (p : Played) (ps : List Played) → EndsSilent (poll_answers ps) → EndsSilent (poll_answers (p ∷ ps))
behind (Received verdict) ps silent = silent
behind (NotRepaired refusal) ps silent = silent
behind (Polled answer) ps silent = more (poll_answers ps) silent where
  more : (os : List Answer) → EndsSilent os → EndsSilent (answer ∷ os)
  more [] none = absurd none
  more (o ∷ os) silent = silent

-- the last event is a poll that answered None
silent-from : (p : Played) (ps : List Played) → slice_get (p ∷ ps) (length ps) ≡ Some (Polled (Ok None))
    → EndsSilent (poll_answers (p ∷ ps))
silent-from p [] last =
    subst (λ (o : Option Played). IfSome o (λ q. EndsSilent (poll_answers (q ∷ [])))) (sym last) refl
silent-from p (q ∷ ps) last = behind p (q ∷ ps) (silent-from q ps last)

pub ends-silent : (ps : List Played) → slice_get ps (length ps - 1) ≡ Some (Polled (Ok None))
    → EndsSilent (poll_answers ps)
ends-silent [] last = absurd (none-some (Polled (Ok None)) last)
ends-silent (p ∷ ps) last =
    let here : length (p ∷ ps) - 1 ≡ length ps = omega arith in
    silent-from p ps (subst (λ (k : ℕ). slice_get (p ∷ ps) k ≡ Some (Polled (Ok None))) here last)

-- three samples have three datagrams
pub count-three : (s : Sending) (samples : List Sample) → length samples ≡ 3 → sends_pieces s.row.codec ≡ true
    → 1199 ≤ packet_limit s → All IsShortSample samples → count_of s samples ≡ 3
count-three s [] three is room short = absurd (omega arith)
count-three s (x ∷ []) three is room short = absurd (omega arith)
count-three s (x ∷ y ∷ []) three is room short = absurd (omega arith)
count-three s (x ∷ y ∷ z ∷ []) three is room short =
    count-is s x y z is (still-short s (x ∷ y ∷ z ∷ []) room short)
count-three s (w ∷ x ∷ y ∷ z ∷ samples) three is room short = absurd (omega arith)
