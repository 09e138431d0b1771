-- A sent frame that is held whole, after packets of others.
use Rattle.std.proofs.Common.{◌≡◌, ℕ, zero, suc, ◌+◌, ◌-◌, ◌<◌, ◌≤◌, refl, sym, ◌∙◌, ap, ap₂}
use Rattle.std.proofs.Common.{arith, Bool, true, false, List, ◌++◌, length, map, get_or}
use Rattle.std.proofs.Common.{length-append}
use Rattle.std.specs.Prelude.{Option, None, Some, ◌&&◌, ◌==◌, not}
use Rattle.std.specs.List.{range_with_len}
use Rattle.std.proofs.Math.ListN.{get_or-append}
use Rattle.std.proofs.lemmas.Bool.Decides.{nat_tests}
use Rattle.std.proofs.lemmas.List.{get_or-append-add, length-map}
use Rattle.std.proofs.lemmas.List.FromFn.{length-range_with_len, get_or-range_with_len}
use Rattle.payload_core_base.specs.Format.{Format}
use Rattle.payload_core_base.specs.Law as law
use Rattle.payload_core_base.specs.Law.{IsFrameOf}
use Rattle.payload_core_buffer.specs.Frames.{IsFrame, frame_at, frame_of_run}
use Rattle.payload_core_buffer.specs.Frames.{is_head_at, is_joined_at, is_tail_at, kept_run, number_at, packet_at}
use Rattle.payload_core_buffer.specs.Frames.{run_or_head, run_start, time_at}
use Rattle.payload_core_buffer.specs.Packets.{Packet}
use Rattle.payload_core_buffer.specs.declared.frame.Frame.{Frame}
use Rattle.rtp_media_schedules.specs.Hearing.{Content}
use Rattle.rtp_media_schedules.specs.Sending.{SentFrame}
use Rattle.rtp_media_schedules.specs.Turns.{Sender}
use Rattle.rtp_media_schedules.proofs.Frames.{Brings, content_at}
use Rattle.rtp_media_schedules.proofs.Numbers.{packet-at}
use Rattle.rtp_media_schedules.proofs.Places.{packet}

module _ (format : Format) (sender : Sender) (m : ℕ) (g : SentFrame) (sent : Brings sender m g)
    (is : IsFrameOf format g.packets g.parts) (ls ys : List ℕ) where
  abbrev numbers : List ℕ
  numbers = ls ++ (range_with_len m (length g.packets) ++ ys)

  abbrev those : List Packet
  those = map (packet sender) numbers

  abbrev place : Frame
  place = record { start = length ls; end = length ls + length g.packets }

  length-numbers : length numbers ≡ length ls + (length g.packets + length ys)
  length-numbers = length-append ls (range_with_len m (length g.packets) ++ ys)
      ∙ ap (λ (n : ℕ). length ls + n) (length-append (range_with_len m (length g.packets)) ys
      ∙ ap (λ (n : ℕ). n + length ys) (length-range_with_len m (length g.packets)))

  pub number-there : (i : ℕ) → i < length g.packets → get_or numbers (length ls + i) 0 ≡ m + i
  number-there i h = get_or-append-add ls (range_with_len m (length g.packets) ++ ys) i 0
      ∙ get_or-append (range_with_len m (length g.packets)) ys 0 i
      (omega (arith, length-range_with_len m (length g.packets)))
      ∙ get_or-range_with_len m (length g.packets) i 0 h

  pub inside : length ls + length g.packets ≤ length numbers
  inside = omega (arith, length-numbers)

  packet-there : (k : ℕ) → length ls ≤ k → k < length ls + length g.packets → packet_at those k
      ≡ packet sender (m + (k - length ls))
  packet-there k a b =
      let e : length ls + (k - length ls) ≡ k = omega arith in
      packet-at sender numbers k (omega (arith, length-numbers))
      ∙ ap (packet sender) (ap (λ (n : ℕ). get_or numbers n 0) (sym e) ∙ number-there (k - length ls) (omega arith))

  content-there : (k : ℕ) → length ls ≤ k → k < length ls + length g.packets
      → sender (m + (k - length ls)) ≡ content_at g (k - length ls)
  content-there k a b = sent (k - length ls) (omega arith)

  tail-there : (k : ℕ) → length ls ≤ k → k < length ls + length g.packets → is_tail_at format those k
      ≡ law.is_tail_at format g.packets (k - length ls)
  tail-there k a b = ap (λ (p : Packet). format.tail p.meta.marker p.payload) (packet-there k a b)
      ∙ ap (λ (c : Content). format.tail c.marker c.bytes) (content-there k a b)

  number_at-there : (k : ℕ) → length ls ≤ k → k < length ls + length g.packets → number_at those k
      ≡ m + (k - length ls)
  number_at-there k a b = ap (λ (p : Packet). p.meta.seq_no) (packet-there k a b)

  time-there : (k : ℕ) → length ls ≤ k → k < length ls + length g.packets → time_at those k ≡ g.time
  time-there k a b = ap (λ (p : Packet). p.meta.time) (packet-there k a b)
      ∙ ap (λ (c : Content). c.time) (content-there k a b)

  head-there : is_head_at format those (length ls) ≡ true
  head-there =
      let zero-is : length ls - length ls ≡ 0 = omega arith in
      ap (λ (p : Packet). format.head p.payload) (packet-there (length ls) (omega arith) (omega (arith, is.not_empty)))
      ∙ ap (λ (c : Content). format.head c.bytes)
      (content-there (length ls) (omega arith) (omega (arith, is.not_empty)))
      ∙ ap (λ (n : ℕ). format.head (law.packet_at g.packets n).payload) zero-is
      ∙ is.first_is_head

  pub is-frame : IsFrame format those place
  is-frame = record {
    not_empty = omega (arith, is.not_empty);
    in_range = omega (arith, inside, length-map numbers (packet sender));
    head = head-there;
    consecutive = λ k a b. omega (arith, number_at-there (k + 1) (omega arith) b, number_at-there k a (omega arith));
    one_time = λ k a b. time-there (k + 1) (omega arith) b ∙ sym (time-there k a (omega arith));
    no_tail_before = λ k a b. tail-there k a (omega arith) ∙ is.last_alone_is_tail.others (k - length ls) (omega arith);
    tail = λ k e. tail-there k (omega (arith, is.not_empty)) (omega (arith, e))
        ∙ is.last_alone_is_tail.last (k - length ls) (omega (arith, e, is.not_empty));
  }

  some-run : (r : Option ℕ) (k : ℕ) → (start : ℕ) × (run_or_head r true k ≡ Some start)
  some-run None k = (k, refl)
  some-run (Some start) k = (start, refl)

  joined-by : (x y t u : ℕ) (b : Bool) → x ≡ y + 1 → t ≡ u → b ≡ false → ((x == y + 1) && ((t == u) && not b)) ≡ true
  joined-by x y t u b e f n = rw n (grind (arith, nat_tests, e, f))

  run-there : (i : ℕ) → i < length g.packets → (start : ℕ) × (run_start format those (suc (length ls + i)) ≡ Some start)
  run-there zero h =
      let e : length ls + 0 ≡ length ls = omega arith in
      let r : Option ℕ =
      kept_run (is_joined_at format those (length ls + 0)) (run_start format those (length ls + 0)) in
      let some = some-run r (length ls + 0) in (
        some.0,
        ap (λ (b : Bool). run_or_head r b (length ls + 0))
            (ap (is_head_at format those) e ∙ head-there) ∙ some.1,
      )
  run-there (suc i) h =
      let e : length ls + suc i ≡ suc (length ls + i) = omega arith in
      let f : length ls + i + 1 ≡ suc (length ls + i) = omega arith in
      let before = run-there i (omega arith) in
      let number : number_at those (suc (length ls + i)) ≡ number_at those (length ls + i) + 1 =
      ap (number_at those) (sym f) ∙ is-frame.consecutive (length ls + i) (omega arith) (omega arith) in
      let time : time_at those (suc (length ls + i)) ≡ time_at those (length ls + i) =
      ap (time_at those) (sym f) ∙ is-frame.one_time (length ls + i) (omega arith) (omega arith) in
      let joined : is_joined_at format those (suc (length ls + i)) ≡ true =
      joined-by (number_at those (suc (length ls + i))) (number_at those (length ls + i))
      (time_at those (suc (length ls + i))) (time_at those (length ls + i)) (is_tail_at format those (length ls + i))
      number time (is-frame.no_tail_before (length ls + i) (omega arith) (omega arith)) in (
        before.0,
        ap (λ (n : ℕ). run_start format those (suc n)) e
            ∙ ap₂ (λ (b : Bool) (r : Option ℕ). run_or_head (kept_run b r)
            (is_head_at format those (suc (length ls + i))) (suc (length ls + i))) joined before.1,
      )

  -- a frame ends at the place of its last packet
  pub found-there : (f : Frame) × (frame_at format those (length ls + (length g.packets - 1)) ≡ Some f)
  found-there =
      let k : ℕ = length ls + (length g.packets - 1) in
      let e : k + 1 ≡ suc k = omega arith in
      let run = run-there (length g.packets - 1) (omega (arith, is.not_empty)) in
      let tail : is_tail_at format those k ≡ true = is-frame.tail k (omega (arith, is.not_empty)) in (
        record { start = run.0; end = k + 1 },
        ap₂ (λ (b : Bool) (r : Option ℕ). frame_of_run b r (k + 1)) tail
            (ap (run_start format those) e ∙ run.1),
      )
