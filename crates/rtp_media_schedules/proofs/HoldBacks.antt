-- What a window still accepts is less than its reach below all that was taken, and so isn't passed over.
use Rattle.std.proofs.Common.{◌≡◌, ◌≢◌, ℕ, zero, suc, ◌+◌, ◌-◌, ◌<◌, ◌≤◌, refl, sym, ◌∙◌, ap, subst, arith, Bool}
use Rattle.std.proofs.Common.{true, false, cond, List, [], ◌∷◌, length, drop, inl, inr, true≢false}
use Rattle.std.specs.Prelude.{Option, None, Some, count_by, if◌then◌else◌, nat_lt, nat_le, ◌||◌, ◌==◌}
use Rattle.std.specs.FinSet as set
use Rattle.std.specs.Ordering.{nat_cmp}
use Rattle.std.specs.Cmp.{nat_cmp_total}
use Rattle.std.specs.List.{filter_map, range_with_len}
use Rattle.std.proofs.lemmas.Bool.{cases_lt}
use Rattle.std.proofs.lemmas.Bool.Decides.{nat_tests}
use Rattle.std.proofs.lemmas.List.Sums.{sum_by-cons}
use Rattle.payload_core_base.specs.Format.{Format}
use Rattle.payload_core_buffer.specs.Buffered.{Holding, IsRising, held_with, is_done, limited}
use Rattle.payload_core_buffer.specs.Frames.{IsFrame, complete_frames, due_of, frame_at, frame_of_run, frames_among}
use Rattle.payload_core_buffer.specs.Frames.{is_next, is_tail_at, lowest_of, number_at, run_start}
use Rattle.payload_core_buffer.specs.Packets.{Packet}
use Rattle.payload_core_buffer.specs.declared.frame.Frame.{Frame}
use Rattle.payload_core_buffer.proofs.KeptLemmas.{above, below, rising-drop, rising-held_with, same}
use Rattle.rtp_wire.proofs.WindowLaws.{contains-window_with, eq_by_cmp-nat}
use Rattle.rtp_wire.specs.Replay.{Window, is_accepted, reach, reach_below, recorded_in}
use Rattle.rtp_media_schedules.specs.Hearing as hearing
use Rattle.rtp_media_schedules.specs.Hearing.{Comes, Content, Event, Poll, Stream, after_events, due, fresh, packet_of}
use Rattle.rtp_media_schedules.specs.Hearing.{polled, stream_behind, taken_by}
use Rattle.rtp_media_schedules.specs.HoldBacks.{taken}
use Rattle.rtp_media_schedules.specs.Turns.{is_among}
use Rattle.rtp_media_schedules.proofs.Ready.{few-given}
use Rattle.rtp_media_schedules.proofs.Sane.{due-is, polled-is}

-- what the window refuses it refuses after a further number, and that number too
refused-more : (w : Option Window) (x y : ℕ) → is_accepted w y ≡ false → is_accepted (Some (recorded_in w x)) y ≡ false
refused-more None x y h = absurd (true≢false h)
refused-more (Some w) x y h = grind (arith, nat_tests, contains-window_with w x y)

refused-itself : (w : Option Window) (x : ℕ) → is_accepted (Some (recorded_in w x)) x ≡ false
refused-itself None x = grind (
  arith,
  nat_tests,
  set.contains-insert nat_cmp_total (set.empty {R = nat_cmp}) x x,
  eq_by_cmp-nat x x,
)
refused-itself (Some w) x = grind (arith, nat_tests, contains-window_with w x x)

-- a number that is accepted is less than the reach below one that is refused
near : (w : Option Window) (x y : ℕ) → is_accepted w y ≡ true → is_accepted w x ≡ false → x < y + reach
near None x y new old = absurd (true≢false old)
near (Some w) x y new old = grind (arith, nat_tests)

-- what is held is refused
abbrev AreRefused : Option Window → List Packet → Type 0
AreRefused w [] = Unit {0}
AreRefused w (p ∷ ps) = (is_accepted w p.meta.seq_no ≡ false) × AreRefused w ps

refused-drop : (w : Option Window) (n : ℕ) (ps : List Packet) → AreRefused w ps → AreRefused w (drop n ps)
refused-drop w zero ps r = r
refused-drop w (suc n) [] r = tt
refused-drop w (suc n) (p ∷ ps) r = refused-drop w n ps r.1

refused-with : (w : Option Window) (p : Packet) (ps : List Packet) → is_accepted w p.meta.seq_no ≡ false
    → AreRefused w ps → AreRefused w (held_with p ps)
refused-with w p [] h r = (h, tt)
refused-with w p (q ∷ ps) h r =
    elim (cases_lt p.meta.seq_no q.meta.seq_no) [
      | inl less ↦ rw (below p q ps less) (h, r)
      | inr le ↦ elim (cases_lt q.meta.seq_no p.meta.seq_no) [
        | inl more ↦ rw (above p q ps more) (r.0, refused-with w p ps h r.1)
        | inr ge ↦ let is : p.meta.seq_no ≡ q.meta.seq_no = omega arith in rw (same p q ps is) r
      ]
    ]

refused-still : (w : Option Window) (x : ℕ) (ps : List Packet) → AreRefused w ps
    → AreRefused (Some (recorded_in w x)) ps
refused-still w x [] r = tt
refused-still w x (p ∷ ps) r = (refused-more w x p.meta.seq_no r.0, refused-still w x ps r.1)

refused-at : (w : Option Window) (ps : List Packet) (k : ℕ) → AreRefused w ps → k < length ps
    → is_accepted w (number_at ps k) ≡ false
refused-at w [] k r h = absurd (omega arith)
refused-at w (p ∷ ps) zero r h = r.0
refused-at w (p ∷ ps) (suc k) r h = refused-at w ps k r.1 (omega arith)

-- the numbers held rise
rises-next : (ps : List Packet) (k : ℕ) → IsRising ps → suc k < length ps → number_at ps k < number_at ps (suc k)
rises-next [] k r h = absurd (omega arith)
rises-next (p ∷ []) k r h = absurd (omega arith)
rises-next (p ∷ q ∷ ps) zero r h = r.0
rises-next (p ∷ q ∷ ps) (suc k) r h = rises-next (q ∷ ps) k r.1 (omega arith)

rises-by : (ps : List Packet) (k n : ℕ) → IsRising ps → k + n < length ps → number_at ps k + n ≤ number_at ps (k + n)
rises-by ps k zero r h = let e : k + 0 ≡ k = omega arith in rw e (omega arith)
rises-by ps k (suc n) r h =
    let e : k + suc n ≡ suc (k + n) = omega arith in
    rw e (omega (arith, rises-by ps k n r (omega arith), rises-next ps (k + n) r (omega arith)))

-- what every stream keeps
record IsKept (s : Stream) : Type 0 where
  rising : IsRising s.held
  refused : AreRefused s.window s.held

takes-by : (s : Stream) (x : ℕ) (content : Content) → IsKept s → (b : Bool) → is_done s.cutoff x ≡ b
    → (h : List Packet) → h ≡ (if b then s.held else limited s.holding.held (held_with (packet_of x content) s.held))
    → IsRising h × AreRefused (Some (recorded_in s.window x)) h
takes-by s x content is true e h held = rw held (is.rising, refused-still s.window x s.held is.refused)
takes-by s x content is false e h held =
    let more : List Packet = held_with (packet_of x content) s.held in
    rw held (
      rising-drop (length more - s.holding.held) more (rising-held_with (packet_of x content) s.held is.rising),
      refused-drop (Some (recorded_in s.window x)) (length more - s.holding.held) more
          (refused-with (Some (recorded_in s.window x)) (packet_of x content) s.held (refused-itself s.window x)
          (refused-still s.window x s.held is.refused)),
    )

takes : (s : Stream) (x : ℕ) (content : Content) → IsKept s → (b : Bool) → is_accepted s.window x ≡ b
    → IsKept (taken_by s x content)
takes s x content is true e =
    let both = takes-by s x content is (is_done s.cutoff x) refl _ refl in
    rw e (record { rising = both.0; refused = both.1 })
takes s x content is false e = rw e is

still-by : (s : Stream) (x : ℕ) (content : Content) (y : ℕ) → is_accepted s.window y ≡ false → (b : Bool)
    → is_accepted s.window x ≡ b → is_accepted (taken_by s x content).window y ≡ false
still-by s x content y h true e = rw e (refused-more s.window x y h)
still-by s x content y h false e = rw e h

it-by : (s : Stream) (x : ℕ) (content : Content) → (b : Bool)
    → is_accepted s.window x ≡ b → is_accepted (taken_by s x content).window x ≡ false
it-by s x content true e = rw e (refused-itself s.window x)
it-by s x content false e = rw e e

module _ (format : Format) where
  behind-by : (s : Stream) → IsKept s → (d : Option Frame) → IsKept (stream_behind format s d)
  behind-by s is None = is
  behind-by s is (Some f) = record {
    rising = rising-drop f.end s.held is.rising;
    refused = refused-drop s.window f.end s.held is.refused;
  }

  polls : (s : Stream) → IsKept s → IsKept (polled format s)
  polls s is = subst IsKept (sym (polled-is format s (due format s) refl)) (behind-by s is (due format s))

  same-behind : (s : Stream) (d : Option Frame) → (stream_behind format s d).window ≡ s.window
  same-behind s None = refl
  same-behind s (Some f) = refl

  same-window : (s : Stream) → (polled format s).window ≡ s.window
  same-window s = ap (λ (t : Stream). t.window) (polled-is format s (due format s) refl) ∙ same-behind s (due format s)

  run-kept : (es : List Event) (s : Stream) → IsKept s → IsKept (after_events format s es)
  run-kept [] s is = is
  run-kept (Comes low content ∷ es) s is =
      run-kept es (taken_by s (hearing.number_at s low) content)
      (takes s (hearing.number_at s low) content is (is_accepted s.window (hearing.number_at s low)) refl)
  run-kept (Poll ∷ es) s is = run-kept es (polled format s) (polls s is)

  still : (es : List Event) (s : Stream) (y : ℕ) → is_accepted s.window y ≡ false
      → is_accepted (after_events format s es).window y ≡ false
  still [] s y h = h
  still (Comes low content ∷ es) s y h =
      still es (taken_by s (hearing.number_at s low) content) y
      (still-by s (hearing.number_at s low) content y h (is_accepted s.window (hearing.number_at s low)) refl)
  still (Poll ∷ es) s y h = still es (polled format s) y
      (subst (λ (w : Option Window). is_accepted w y ≡ false) (sym (same-window s)) h)

  -- what was taken is refused from then on
  arrived-by : (s : Stream) (x : ℕ) (content : Content) (es : List Event) (y : ℕ)
      → (is_among (taken format (taken_by s x content) es) y ≡ true
      → is_accepted (after_events format (taken_by s x content) es).window y ≡ false) → (b : Bool)
      → is_among (if b then x ∷ taken format (taken_by s x content) es else taken format (taken_by s x content) es) y
      ≡ true → is_accepted (after_events format (taken_by s x content) es).window y ≡ false
  arrived-by s x content es y ih true h =
      let here : y ≡ x → is_accepted (after_events format (taken_by s x content) es).window y ≡ false =
      λ e. still es (taken_by s x content) y (subst (λ (n : ℕ). is_accepted (taken_by s x content).window n ≡ false)
      (sym e) (it-by s x content (is_accepted s.window x) refl)) in
      grind (arith, nat_tests, here, ih)
  arrived-by s x content es y ih false h = ih h

  taken-refused : (es : List Event) (s : Stream) (y : ℕ) → is_among (taken format s es) y ≡ true
      → is_accepted (after_events format s es).window y ≡ false
  taken-refused [] s y h = absurd (true≢false (sym h))
  taken-refused (Comes low content ∷ es) s y h =
      arrived-by s (hearing.number_at s low) content es y
      (taken-refused es (taken_by s (hearing.number_at s low) content) y)
      (is_accepted s.window (hearing.number_at s low)) h
  taken-refused (Poll ∷ es) s y h = taken-refused es (polled format s) y h

  -- the hold-back stays
  holding-by : (s : Stream) (x : ℕ) (content : Content) → (b : Bool) → is_accepted s.window x ≡ b
      → (taken_by s x content).holding ≡ s.holding
  holding-by s x content true e = rw e refl
  holding-by s x content false e = rw e refl

  holding-behind : (s : Stream) (d : Option Frame) → (stream_behind format s d).holding ≡ s.holding
  holding-behind s None = refl
  holding-behind s (Some f) = refl

  holding-stays : (es : List Event) (s : Stream) → (after_events format s es).holding ≡ s.holding
  holding-stays [] s = refl
  holding-stays (Comes low content ∷ es) s =
      holding-stays es (taken_by s (hearing.number_at s low) content)
      ∙ holding-by s (hearing.number_at s low) content (is_accepted s.window (hearing.number_at s low)) refl
  holding-stays (Poll ∷ es) s =
      holding-stays es (polled format s)
      ∙ ap (λ (t : Stream). t.holding) (polled-is format s (due format s) refl) ∙ holding-behind s (due format s)

-- how many of some numbers pass a test, if all that do are below a bound
few-pass : (p : ℕ → Bool) (count lo most : ℕ) → ((n : ℕ) → lo ≤ n → p n ≡ true → n < lo + most)
    → count_by p (range_with_len lo count) ≤ most
few-pass p zero lo most h = omega arith
few-pass p (suc count) lo most h =
    omega (
      arith,
      sum_by-cons (λ (x : ℕ). cond (p x) 1 0) lo (range_with_len (lo + 1) count),
      go (λ m h. few-pass p count (lo + 1) m h) (p lo) refl,
    ) where
      go : ((m : ℕ) → ((n : ℕ) → lo + 1 ≤ n → p n ≡ true → n < lo + 1 + m)
          → count_by p (range_with_len (lo + 1) count) ≤ m) → (b : Bool) → p lo ≡ b
          → cond (p lo) 1 0 + count_by p (range_with_len (lo + 1) count) ≤ most
      go ih true e =
          let less : lo < lo + most = h lo (omega arith) e in
          let rest : count_by p (range_with_len (lo + 1) count) ≤ most - 1 =
          ih (most - 1) (λ n a b. omega (arith, h n (omega arith) b, less)) in
          rw e (omega (arith, rest, less))
      go ih false e =
          let rest : count_by p (range_with_len (lo + 1) count) ≤ most =
          ih most (λ n a b. omega (arith, h n (omega arith) b)) in
          rw e (omega (arith, rest))

pub few-above : (format : Format) (holding : Holding) (events : List Event) (number count : ℕ)
    → is_accepted (after_events format (fresh holding) events).window number ≡ true
    → count_by (is_among (taken format (fresh holding) events)) (range_with_len (number + 1) count) ≤ reach_below
few-above format holding events number count new =
    few-pass (is_among (taken format (fresh holding) events)) count (number + 1) reach_below
    (λ n a among. omega (
      arith,
      near (after_events format (fresh holding) events).window n number new
          (taken-refused format events (fresh holding) n among),
    ))

-- no frame ends before the lowest one
none-before : (h : ℕ → Option Frame) → ((j : ℕ) (g : Frame) → h j ≡ Some g → g.end ≡ j + 1) → (f : Frame)
    → (n lo : ℕ) → lowest_of (filter_map h (range_with_len lo n)) ≡ Some f → (j : ℕ) → lo ≤ j → j + 1 < f.end
    → h j ≡ None
none-before h ends f zero lo e j a b = cc
none-before h ends f (suc n) lo e j a b =
    go (λ rest less. none-before h ends f n (lo + 1) rest j less b) (h lo) refl where
      go : (lowest_of (filter_map h (range_with_len (lo + 1) n)) ≡ Some f → lo + 1 ≤ j → h j ≡ None)
          → (o : Option Frame)
          → h lo ≡ o → h j ≡ None
      go ih None here = elim (cases_lt lo j) [
        | inl less ↦ ih (rw here at e) (omega arith)
        | inr le ↦ let same : j ≡ lo = omega arith in subst (λ (k : ℕ). h k ≡ None) (sym same) here
      ]
      go ih (Some g) here =
          let is : Some g ≡ Some f = rw here at e in
          let end : g.end ≡ f.end = ap (λ (o : Option Frame). elim o [ None ↦ 0 | Some k ↦ k.end ]) is in
          absurd (omega (arith, ends lo g here, end))

ends-of-run : (b : Bool) (run : Option ℕ) (end : ℕ) (g : Frame) → frame_of_run b run end ≡ Some g → g.end ≡ end
ends-of-run true (Some start) end g e = ap (λ (o : Option Frame). elim o [ None ↦ 0 | Some k ↦ k.end ]) (sym e)
ends-of-run true None end g e = cc
ends-of-run false run end g e = cc

-- at most as many frames are complete as packets are held from the lowest frame's last on
few-frames : (format : Format) (ps : List Packet) (f : Frame) → lowest_of (complete_frames format ps) ≡ Some f
    → length (complete_frames format ps) ≤ length ps - (f.end - 1)
unfolding frames_among
few-frames format ps f e = omega (
  arith,
  few-given (frame_at format ps) (f.end - 1) 0 (length ps)
      (λ j a b. none-before (frame_at format ps)
      (λ k g here. ends-of-run (is_tail_at format ps k) (run_start format ps (k + 1)) (k + 1) g here)
      f (length ps) 0 e j a (omega arith)),
)

-- why a frame is due
record IsDue (cutoff : Option ℕ) (hold_back : ℕ) (ps : List Packet) (count : ℕ) (f : Frame) (o : Option Frame)
    : Type 0 where
  lowest : o ≡ Some f
  so : (is_next cutoff (number_at ps f.start) || nat_lt hold_back count) ≡ true

due-since : (cutoff : Option ℕ) (hold_back : ℕ) (ps : List Packet) (count : ℕ) (o : Option Frame) (f : Frame)
    → due_of cutoff hold_back ps o count ≡ Some f → IsDue cutoff hold_back ps count f o
due-since cutoff hold_back ps count None f e = cc
due-since cutoff hold_back ps count (Some g) f e =
    go (is_next cutoff (number_at ps g.start) || nat_lt hold_back count) refl e where
      go : (b : Bool) → (is_next cutoff (number_at ps g.start) || nat_lt hold_back count) ≡ b
          → (if b then Some g else None) ≡ Some f → IsDue cutoff hold_back ps count f (Some g)
      go true so e =
          let same : g ≡ f = ap (λ (o : Option Frame). elim o [ None ↦ g | Some k ↦ k ]) e in
          record {
            lowest = e;
            so = subst (λ (k : Frame). (is_next cutoff (number_at ps k.start) || nat_lt hold_back count) ≡ true) same
                so;
          }
      go false so e = cc

more-than : (o : Option ℕ) (c n hold_back count : ℕ) → o ≡ Some c → n ≢ c + 1
    → (is_next o n || nat_lt hold_back count) ≡ true → hold_back < count
more-than o c n hold_back count e other so =
    let or : ((n == c + 1) || nat_lt hold_back count) ≡ true = rw e at so in
    grind (arith, nat_tests, other)

module _ (format : Format) (s : Stream) (is : IsKept s) (y : ℕ) (back : reach_below ≤ s.holding.hold_back)
    (new : is_accepted s.window y ≡ true) (f : Frame) (frame : IsFrame format s.held f) where
  -- a number of the frame is held, and so refused
  not-inside : number_at s.held f.start ≤ y → y ≤ number_at s.held (f.end - 1) → ⊥
  not-inside low high =
      go (f.end - 1 - f.start) f.start (omega (arith, frame.not_empty)) (omega arith) low where
        -- the numbers from a place on are consecutive
        go : (left k : ℕ) → k + left ≡ f.end - 1 → f.start ≤ k → number_at s.held k ≤ y → ⊥
        go zero k e a low =
            let same : k ≡ f.end - 1 = omega arith in
            let here : y ≡ number_at s.held k = omega (arith, ap (number_at s.held) same, high) in
            true≢false (sym new ∙ ap (is_accepted s.window) here
            ∙ refused-at s.window s.held k is.refused (omega (arith, frame.in_range, frame.not_empty)))
        go (suc left) k e a low = elim (cases_lt (number_at s.held k) y) [
          | inl less ↦ go left (k + 1) (omega arith) (omega arith)
              (omega (arith, frame.consecutive k a (omega (arith, frame.not_empty))))
          | inr le ↦ true≢false (sym new ∙ ap (is_accepted s.window) (omega arith)
              ∙ refused-at s.window s.held k is.refused (omega (arith, frame.in_range, frame.not_empty)))
        ]

  -- nor is it below a frame that is due
  not-below : (cutoff : ℕ) → s.cutoff ≡ Some cutoff → cutoff < y → y < number_at s.held f.start
      → IsDue s.cutoff s.holding.hold_back s.held (length (complete_frames format s.held)) f
      (lowest_of (complete_frames format s.held)) → ⊥
  not-below cutoff was ahead low due-so =
      let more : s.holding.hold_back < length (complete_frames format s.held) =
      more-than s.cutoff cutoff (number_at s.held f.start) s.holding.hold_back
      (length (complete_frames format s.held)) was (λ e. absurd (omega (arith, e))) due-so.so in
      let few : length (complete_frames format s.held) ≤ length s.held - (f.end - 1) =
      few-frames format s.held f due-so.lowest in
      let first : number_at s.held f.start + (f.end - 1 - f.start) ≤ number_at s.held
      (f.start + (f.end - 1 - f.start)) =
      rises-by s.held f.start (f.end - 1 - f.start) is.rising (omega (arith, frame.in_range, frame.not_empty)) in
      let end : f.start + (f.end - 1 - f.start) ≡ f.end - 1 = omega (arith, frame.not_empty) in
      let rest : number_at s.held (f.end - 1) + 1023 ≤ number_at s.held (f.end - 1 + 1023) =
      rises-by s.held (f.end - 1) 1023 is.rising (omega (arith, frame.not_empty)) in
      absurd (omega (
        arith,
        first,
        ap (number_at s.held) end,
        rest,
        near s.window (number_at s.held (f.end - 1 + 1023)) y new
            (refused-at s.window s.held (f.end - 1 + 1023) is.refused (omega (arith, frame.not_empty))),
      ))

  -- so a poll isn't done with it
  not-done : (cutoff : ℕ) → s.cutoff ≡ Some cutoff → is_done s.cutoff y ≡ false
      → IsDue s.cutoff s.holding.hold_back s.held (length (complete_frames format s.held)) f
      (lowest_of (complete_frames format s.held)) → nat_le y (number_at s.held (f.end - 1)) ≡ false
  not-done cutoff was ahead due-so =
      let higher : cutoff < y = grind (arith, nat_tests, rw was at ahead) in
      elim (cases_lt (number_at s.held (f.end - 1)) y) [
        | inl less ↦ grind (arith, nat_tests)
        | inr le ↦ elim (cases_lt y (number_at s.held f.start)) [
          | inl low ↦ absurd (not-below cutoff was higher low due-so)
          | inr from ↦ absurd (not-inside from le)
        ]
      ]

kept-poll : (format : Format) (s : Stream) (number : ℕ) → IsKept s → reach_below ≤ s.holding.hold_back
    → is_accepted s.window number ≡ true → (cutoff : ℕ) → s.cutoff ≡ Some cutoff → is_done s.cutoff number ≡ false
    → (d : Option Frame) → due format s ≡ d → is_done (stream_behind format s d).cutoff number ≡ false
unfolding due
kept-poll format s number is back new cutoff was ahead None e = ahead
kept-poll format s number is back new cutoff was ahead (Some f) e =
    not-done format s is number back new f (due-is format s f e) cutoff was ahead
    (due-since s.cutoff s.holding.hold_back s.held (length (complete_frames format s.held))
    (lowest_of (complete_frames format s.held)) f e)

pub kept-by-poll : (format : Format) (holding : Holding) (events : List Event) (number : ℕ)
    → reach_below ≤ holding.hold_back → is_accepted (after_events format (fresh holding) events).window number ≡ true
    → (after_events format (fresh holding) events).cutoff ≢ None
    → is_done (after_events format (fresh holding) events).cutoff number ≡ false
    → is_done (polled format (after_events format (fresh holding) events)).cutoff number ≡ false
kept-by-poll format holding events number back new some ahead =
    go (after_events format (fresh holding) events)
    (run-kept format events (fresh holding) (record { rising = tt; refused = tt }))
    (holding-stays format events (fresh holding)) new some ahead where
      go : (s : Stream) → IsKept s → s.holding ≡ holding → is_accepted s.window number ≡ true → s.cutoff ≢ None
          → is_done s.cutoff number ≡ false → is_done (polled format s).cutoff number ≡ false
      go s is same new some ahead = cases s.cutoff refl where
        cases : (o : Option ℕ) → s.cutoff ≡ o → is_done (polled format s).cutoff number ≡ false
        cases None e = absurd (some e)
        cases (Some cutoff) e =
            subst (λ (t : Stream). is_done t.cutoff number ≡ false) (sym (polled-is format s (due format s) refl))
            (kept-poll format s number is (omega (arith, ap (λ (h : Holding). h.hold_back) same)) new cutoff e ahead
            (due format s) refl)
