-- A stream's numbers under every sane schedule, for any format and any contents.
use Rattle.std.proofs.Common.{◌≡◌, ℕ, suc, ◌+◌, ◌-◌, ◌%◌, ◌^◌, ◌<◌, ◌≤◌, refl, sym, ◌∙◌, ap, subst, subst₂, arith}
use Rattle.std.proofs.Common.{Bool, true, false, List, [], ◌∷◌, map, length, drop, get_or, true≢false}
use Rattle.std.specs.Prelude.{Option, None, Some, if◌then◌else◌}
use Rattle.std.specs.FinSet as set
use Rattle.std.specs.Ordering.{nat_cmp}
use Rattle.std.specs.Cmp.{nat_cmp_total}
use Rattle.std.proofs.lemmas.Bool.Decides.{nat_tests}
use Rattle.std.proofs.lemmas.List.{drop-map, length-map}
use Rattle.payload_core_base.specs.Format.{Format}
use Rattle.payload_core_buffer.specs.Buffered.{Holding, is_done, pushed, limited, held_with}
use Rattle.payload_core_buffer.specs.Frames.{IsFrame, number_at}
use Rattle.payload_core_buffer.specs.Packets.{Packet}
use Rattle.payload_core_buffer.specs.declared.frame.Frame.{Frame}
use Rattle.rtp_media_schedules.specs.Turns.{Sender, Turn, Arrive, Ask, event_of, is_among}
use Rattle.rtp_media_schedules.proofs.Places.{packet}
use Rattle.rtp_wire.proofs.WindowLaws.{contains-window_with, eq_by_cmp-nat}
use Rattle.rtp_wire.specs.Replay.{Window, accepts, is_accepted, recorded_in, window_at, window_with}
use Rattle.rtp_media_schedules.specs.Hearing as hearing
use Rattle.rtp_media_schedules.specs.Hearing.{Stream, after_events, due, fresh, polled, stream_behind, taken_by}
use Rattle.rtp_media_schedules.specs.Orders.{IsSane, IsSaneArrival}
use Rattle.rtp_media_schedules.specs.TrueNumbers.{AreRecorded, AreTrueNumbers, IsRecorded, Rises, arrived, behind}
use Rattle.rtp_media_schedules.proofs.Numbers.{IsHeld, Rises-behind, held-limited, packet-at}
use Rattle.rtp_media_schedules.proofs.Sane.{GreatestIs, due-is, not-above, polled-is, widened-sane}

recorded-more : (past : List ℕ) (w : Window) (x : ℕ) → IsRecorded past w → IsRecorded (x ∷ past) (window_with w x)
recorded-more past w x is = record {
  greatest = omega (arith, is.greatest);
  recorded = λ y h. let e : set.contains w.recorded y ≡ is_among past y = is.recorded y (omega arith) in
      grind (arith, nat_tests, contains-window_with w x y, e);
}

recorded-first : (x : ℕ) → IsRecorded (x ∷ []) (window_at x)
recorded-first x = record {
  greatest = omega arith;
  recorded = λ y h. grind (
    arith,
    nat_tests,
    set.contains-insert nat_cmp_total (set.empty {R = nat_cmp}) x y,
    set.contains-empty nat_cmp y,
    eq_by_cmp-nat y x,
  );
}

-- a number that is refused came before, or is out of reach
recorded-refused : (past : List ℕ) (w : Window) (x : ℕ) → IsRecorded past w → accepts w x ≡ false
    → IsRecorded (x ∷ past) w
recorded-refused past w x is h = record {
  greatest = omega (arith, is.greatest, not-above w x h);
  recorded = λ y in_reach. let e : set.contains w.recorded y ≡ is_among past y = is.recorded y in_reach in
      grind (arith, nat_tests, e);
}

pub window-more : (past : List ℕ) (w : Option Window) (x : ℕ) → AreRecorded past w
    → AreRecorded (x ∷ past) (Some (recorded_in w x))
window-more [] None x is = recorded-first x
window-more [] (Some w) x is = absurd is
window-more (y ∷ ys) None x is = absurd is
window-more (y ∷ ys) (Some w) x is = recorded-more (y ∷ ys) w x is

pub window-refused : (past : List ℕ) (w : Option Window) (x : ℕ) → AreRecorded past w → is_accepted w x ≡ false
    → AreRecorded (x ∷ past) w
window-refused past None x is h = absurd (true≢false h)
window-refused [] (Some w) x is h = absurd is
window-refused (y ∷ ys) (Some w) x is h = recorded-refused (y ∷ ys) w x is h

pub greatest-of : (past : List ℕ) (w : Option Window) → AreRecorded past w → GreatestIs past w
greatest-of [] None is = tt
greatest-of [] (Some w) is = absurd is
greatest-of (y ∷ ys) None is = absurd is
greatest-of (y ∷ ys) (Some w) is = is.greatest

ahead : (first x : ℕ) (cutoff : Option ℕ) → first ≤ x → is_done cutoff x ≡ false → behind first cutoff ≤ x
ahead first x None low h = low
ahead first x (Some c) low h = grind (arith, nat_tests)

module _ (format : Format) (sender : Sender) (first count : ℕ) (fits : first + count ≤ 2 ^ 62) where
  record IsTrue (past : List ℕ) (s : Stream) : Type 0 where
    window : AreRecorded past s.window
    held : IsHeld sender (behind first s.cutoff) (first + count) s.held

  kept : (x : ℕ) (s : Stream) → IsHeld sender (behind first s.cutoff) (first + count) s.held → first ≤ x
      → x < first + count → (b : Bool) → is_done s.cutoff x ≡ b →
      IsHeld sender (behind first s.cutoff) (first + count)
      (if b then s.held else limited s.holding.held (held_with (packet sender x) s.held))
  kept x s is low high true e = is
  kept x s is low high false e = held-limited sender s.holding.held (behind first s.cutoff) (first + count) x s.held
      (ahead first x s.cutoff low e) high is

  arrives-by : (past : List ℕ) (s : Stream) (x : ℕ) → IsTrue past s → IsSaneArrival first count past x → (b : Bool)
      → is_accepted s.window x ≡ b →
      IsTrue (x ∷ past) (if b then record {
        holding = s.holding;
        window = Some (recorded_in s.window x);
        held =
            pushed s.holding.held s.cutoff s.held (packet sender x);
        cutoff = s.cutoff;
        fragment = s.fragment;
      } else s)
  arrives-by past s x is sane true e = record {
    window = window-more past s.window x is.window;
    held =
        kept x s is.held sane.from_first sane.before_end (is_done s.cutoff x) refl;
  }
  arrives-by past s x is sane false e = record { window = window-refused past s.window x is.window e; held = is.held }

  true-number : (past : List ℕ) (s : Stream) → IsTrue past s → (x : ℕ) → IsSaneArrival first count past x
      → hearing.number_at s (x % 65536) ≡ x
  true-number past s is x sane = widened-sane past s.window x (omega (arith, sane.before_end))
      (greatest-of past s.window is.window) sane.near

  arrives : (past : List ℕ) (s : Stream) (x : ℕ) → IsTrue past s → IsSaneArrival first count past x
      → IsTrue (x ∷ past) (taken_by s (hearing.number_at s (x % 65536)) (sender x))
  arrives past s x is sane = rw (true-number past s is x sane)
      (arrives-by past s x is sane (is_accepted s.window x) refl)

  -- after a frame all is above its last number
  behind-frame : (past : List ℕ) (s : Stream) (f : Frame) → IsTrue past s → IsFrame format s.held f
      → IsTrue past (stream_behind format s (Some f))
  behind-frame past s f is frame =
      let xs : List ℕ = is.held.numbers in
      let are : s.held ≡ map (packet sender) xs = is.held.are in
      let inside : f.end - 1 < length xs = omega
      (arith, frame.not_empty, frame.in_range, ap length are, length-map xs (packet sender)) in
      let number : number_at s.held (f.end - 1) ≡ get_or xs (f.end - 1) 0 =
      ap (λ (ps : List Packet). number_at ps (f.end - 1)) are
      ∙ ap (λ (p : Packet). p.meta.seq_no) (packet-at sender xs (f.end - 1) inside) in
      let next : suc (f.end - 1) ≡ f.end = omega (arith, frame.not_empty) in
      record {
        window = is.window;
        held = record {
          numbers = drop f.end xs;
          rises = subst₂ (λ (n k : ℕ). Rises (n + 1) (first + count) (drop k xs)) (sym number) next
              (Rises-behind (behind first s.cutoff) (first + count) (f.end - 1) xs inside is.held.rises);
          are = ap (drop f.end) are ∙ drop-map (packet sender) f.end xs;
        };
      }

  polls-by : (past : List ℕ) (s : Stream) → IsTrue past s → (d : Option Frame) → due format s ≡ d
      → IsTrue past (stream_behind format s d)
  polls-by past s is None e = is
  polls-by past s is (Some f) e = behind-frame past s f is (due-is format s f e)

  run-true : (ts : List Turn) (past : List ℕ) (s : Stream) → IsTrue past s → IsSane first count past ts
      → IsTrue (arrived past ts) (after_events format s (map (event_of sender) ts))
  run-true [] past s is sane = is
  run-true (Arrive x ∷ ts) past s is sane =
      run-true ts (x ∷ past) (taken_by s (hearing.number_at s (x % 65536)) (sender x)) (arrives past s x is sane.0)
      sane.1
  run-true (Ask ∷ ts) past s is sane = run-true ts past (polled format s)
      (subst (λ (t : Stream). IsTrue past t) (sym (polled-is format s (due format s) refl))
      (polls-by past s is (due format s) refl)) sane

  pub true-numbers : (holding : Holding) (ts : List Turn) → IsSane first count [] ts
      → AreTrueNumbers sender first count (arrived [] ts)
      (after_events format (fresh holding) (map (event_of sender) ts))
  true-numbers holding ts sane =
      let is : IsTrue (arrived [] ts) (after_events format (fresh holding) (map (event_of sender) ts)) =
      run-true ts [] (fresh holding) (record
      { window = tt; held = record { numbers = []; rises = tt; are = refl } }) sane in
      record {
        window = is.window;
        numbers = is.held.numbers;
        rising = is.held.rises;
        held = is.held.are;
        widened =
            true-number (arrived [] ts) _ is;
      }
