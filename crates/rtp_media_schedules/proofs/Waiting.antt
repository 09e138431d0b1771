-- What a stream holds of the datagrams that came in time.
use Rattle.std.proofs.Common.{◌≡◌, ◌≢◌, ℕ, ◌+◌, ◌-◌, ◌%◌, ◌^◌, ◌<◌, ◌≤◌, refl, sym, ◌∙◌, ap}
use Rattle.std.proofs.Common.{arith, Bool, true, false, List, [], ◌∷◌, length, map}
use Rattle.std.proofs.Common.{true≢false, inl, inr}
use Rattle.std.specs.FinSet as set
use Rattle.std.specs.Prelude.{◌⊎◌, nat_le}
use Rattle.std.specs.Prelude.{Option, None, Some, if◌then◌else◌}
use Rattle.std.proofs.lemmas.Bool.Decides.{nat_tests}
use Rattle.std.proofs.lemmas.Bool.{cases_lt}
use Rattle.std.proofs.lemmas.List.{length-map}
use Rattle.std.proofs.lemmas.List.Elements.{filter_agree}
use Rattle.std.proofs.lemmas.List.Sums.{length-filter}
use Rattle.payload_core_base.specs.Format.{Format}
use Rattle.payload_core_buffer.specs.Buffered.{held_with, is_done, pushed}
use Rattle.rtp_wire.specs.Replay.{Window, is_accepted, reach, recorded_in}
use Rattle.rtp_media_schedules.specs.Hearing as hearing
use Rattle.rtp_media_schedules.specs.Hearing.{Content, Stream, due, fresh, heard, poll_answer, polled, stream_behind}
use Rattle.rtp_media_schedules.specs.Hearing.{taken_by}
use Rattle.rtp_media_schedules.specs.Losses.{in_time_with}
use Rattle.rtp_media_schedules.specs.Orders.{IsSaneArrival}
use Rattle.rtp_media_schedules.specs.TrueNumbers.{AreRecorded}
use Rattle.rtp_media_schedules.specs.Turns.{IsNear, Sender, greatest_of, is_among, waiting}
use Rattle.rtp_media_schedules.proofs.Places.{filter-below, held_with-place, limited-few, packet}
use Rattle.rtp_media_schedules.proofs.Sane.{CutoffIs}
use Rattle.rtp_media_schedules.proofs.Sane.{widened-sane}
use Rattle.rtp_media_schedules.proofs.Tame.{not_passed, numbers_of}
use Rattle.rtp_media_schedules.proofs.TrueNumbers.{greatest-of, window-more, window-refused}
use Rattle.rtp_media_schedules.proofs.Windows.{among-again, among-le-greatest}

-- Two lists of arrivals with one greatest number.
abbrev pub HaveOneGreatest : List ℕ → List ℕ → Type 0
HaveOneGreatest [] [] = Unit {0}
HaveOneGreatest [] (y ∷ ys) = ⊥
HaveOneGreatest (x ∷ xs) [] = ⊥
HaveOneGreatest (x ∷ xs) (y ∷ ys) = greatest_of (x ∷ xs) ≡ greatest_of (y ∷ ys)

near-both : (all past : List ℕ) (x : ℕ) → HaveOneGreatest all past → IsNear all x → IsNear past x
near-both [] [] x one near = near
near-both [] (y ∷ ys) x one near = absurd one
near-both (a ∷ as') [] x one near = absurd one
near-both (a ∷ as') (y ∷ ys) x one near = (omega (arith, one, near.0), omega (arith, one, near.1))

pub sane-both : (first count : ℕ) (all past : List ℕ) (x : ℕ) → HaveOneGreatest all past
    → IsSaneArrival first count all x → IsSaneArrival first count past x
sane-both first count all past x one sane = record {
  from_first = sane.from_first;
  before_end = sane.before_end;
  near = near-both all past x one sane.near;
}

pub greatest-both : (all past : List ℕ) (x : ℕ) → HaveOneGreatest all past
    → HaveOneGreatest (x ∷ all) (in_time_with past x)
greatest-both all past x one = go all past one (nat_le (x + reach) (greatest_of past)) refl where
  go : (all past : List ℕ) → HaveOneGreatest all past → (b : Bool) → nat_le (x + reach) (greatest_of past) ≡ b
      → HaveOneGreatest (x ∷ all) (if b then past else x ∷ past)
  go [] [] one true e = absurd (true≢false (sym e ∙ grind (arith, nat_tests)))
  go [] [] one false e = refl
  go [] (y ∷ ys) one b e = absurd one
  go (a ∷ as') [] one b e = absurd one
  go (a ∷ as') (y ∷ ys) one true e =
      let late : x + reach ≤ greatest_of (y ∷ ys) = grind (arith, nat_tests, e) in
      omega (arith, one, late)
  go (a ∷ as') (y ∷ ys) one false e = omega (arith, one)

module _ (format : Format) (sender : Sender) (first count : ℕ) (fits : first + count ≤ 2 ^ 62) where
  -- the stream after these arrivals, if all numbers below next are of units that were handed out or passed over
  pub record IsWaiting (past : List ℕ) (next : ℕ) (s : Stream) : Type 0 where
    pub window : AreRecorded past s.window
    pub held : s.held ≡ map (packet sender) (numbers_of first count past next)
    pub cutoff : CutoffIs first next s.cutoff
    pub begun : s.cutoff ≢ None → first < next
    pub closed : s.fragment ≡ None
    pub from_first : first ≤ next

  same-numbers : (past : List ℕ) (next x : ℕ) → (x < next) ⊎ (is_among past x ≡ true)
      → numbers_of first count (x ∷ past) next ≡ numbers_of first count past next
  same-numbers past next x (inl below) = filter-below (is_among past) x next (first + count - next) below
  same-numbers past next x (inr came) = filter_agree _ _ (λ y. among-again past x y came) _

  refused-why : (past : List ℕ) (w : Option Window) (x : ℕ) → AreRecorded past w → is_accepted w x ≡ false
      → greatest_of past < x + reach → is_among past x ≡ true
  refused-why past None x is h near = absurd (true≢false h)
  refused-why [] (Some w) x is h near = absurd is
  refused-why (y ∷ ys) (Some w) x is h near =
      let e : set.contains w.recorded x ≡ is_among (y ∷ ys) x = is.recorded x (omega (arith, is.greatest, near)) in
      grind (arith, nat_tests, e, is.greatest)

  accepted-new : (past : List ℕ) (w : Option Window) (x : ℕ) → AreRecorded past w → is_accepted w x ≡ true
      → is_among past x ≡ false
  accepted-new [] w x is h = refl
  accepted-new (y ∷ ys) None x is h = absurd is
  accepted-new (y ∷ ys) (Some w) x is h = go (is_among (y ∷ ys) x) refl where
    go : (b : Bool) → is_among (y ∷ ys) x ≡ b → is_among (y ∷ ys) x ≡ false
    go false e = e
    go true e =
        let refused : is_accepted (Some w) x ≡ false = grind
        (arith, nat_tests, is.recorded x, among-le-greatest (y ∷ ys) x e, is.greatest) in
        absurd (true≢false (sym h ∙ refused))

  done-below : (next x : ℕ) (cutoff : Option ℕ) → CutoffIs first next cutoff → first ≤ x → x < next
      → is_done cutoff x ≡ true
  done-below next x None is low below = absurd (omega (arith, is))
  done-below next x (Some c) is low below = grind (arith, nat_tests, is)

  taken-held : (past : List ℕ) (next : ℕ) (s : Stream) (x : ℕ) → IsWaiting past next s
      → IsSaneArrival first count past x → waiting first count (x ∷ past) next ≤ s.holding.held
      → is_accepted s.window x ≡ true → pushed s.holding.held s.cutoff s.held (packet sender x)
      ≡ map (packet sender) (numbers_of first count (x ∷ past) next)
  taken-held past next s x is sane few e = elim (cases_lt x next) [
    | inl below ↦ rw (done-below next x s.cutoff is.cutoff sane.from_first below)
        (is.held ∙ ap (map (packet sender)) (sym (same-numbers past next x (inl below))))
    | inr ahead ↦
        let placed : held_with (packet sender x) s.held ≡ map (packet sender) (numbers_of first count (x ∷ past) next) =
        rw is.held (held_with-place sender (is_among past) x next (first + count - next) ahead
        (omega (arith, sane.before_end)) (accepted-new past s.window x is.window e)) in
        let small : length (map (packet sender) (numbers_of first count (x ∷ past) next)) ≤ s.holding.held =
        simp (length-map, length-filter) few in
        rw (not_passed format sender first count 0 fits next x s.cutoff is.cutoff ahead, placed)
        (limited-few s.holding.held (map (packet sender) (numbers_of first count (x ∷ past) next)) small)
  ]

  refused-held : (past : List ℕ) (next : ℕ) (s : Stream) (x : ℕ) → IsWaiting past next s
      → greatest_of past < x + reach → is_accepted s.window x ≡ false
      → s.held ≡ map (packet sender) (numbers_of first count (x ∷ past) next)
  refused-held past next s x is near e = is.held ∙ ap (map (packet sender))
      (sym (same-numbers past next x (inr (refused-why past s.window x is.window e near))))

  arrives-by : (past : List ℕ) (next : ℕ) (s : Stream) (x : ℕ) → IsWaiting past next s
      → IsSaneArrival first count past x → waiting first count (x ∷ past) next ≤ s.holding.held
      → greatest_of past < x + reach → (b : Bool) → is_accepted s.window x ≡ b →
      IsWaiting (x ∷ past) next (if b then record {
        holding = s.holding;
        window = Some (recorded_in s.window x);
        held = pushed s.holding.held s.cutoff s.held (packet sender x);
        cutoff = s.cutoff;
        fragment = s.fragment;
      } else s)
  arrives-by past next s x is sane few near true e = record {
    window = window-more past s.window x is.window;
    held = taken-held past next s x is sane few e;
    cutoff = is.cutoff;
    begun = is.begun;
    closed = is.closed;
    from_first = is.from_first;
  }
  arrives-by past next s x is sane few near false e = record {
    window = window-refused past s.window x is.window e;
    held = refused-held past next s x is near e;
    cutoff = is.cutoff;
    begun = is.begun;
    closed = is.closed;
    from_first = is.from_first;
  }

  late-refused : (past : List ℕ) (w : Option Window) (x : ℕ) → AreRecorded past w
      → nat_le (x + reach) (greatest_of past) ≡ true → is_accepted w x ≡ false
  late-refused [] None x is h = absurd (true≢false (sym h ∙ grind (arith, nat_tests)))
  late-refused [] (Some w) x is h = absurd is
  late-refused (y ∷ ys) None x is h = absurd is
  late-refused (y ∷ ys) (Some w) x is h = grind (arith, nat_tests, is.greatest)

  pub arrives : (past : List ℕ) (next : ℕ) (s : Stream) (x : ℕ) → IsWaiting past next s
      → IsSaneArrival first count past x → waiting first count (in_time_with past x) next ≤ s.holding.held
      → IsWaiting (in_time_with past x) next (taken_by s (hearing.number_at s (x % 65536)) (sender x))
  arrives past next s x is sane few =
      rw (widened-sane past s.window x (omega (arith, sane.before_end)) (greatest-of past s.window is.window) sane.near)
      (go (nat_le (x + reach) (greatest_of past)) refl few) where
        go : (b : Bool) → nat_le (x + reach) (greatest_of past) ≡ b
            → waiting first count (if b then past else x ∷ past) next ≤ s.holding.held
            → IsWaiting (if b then past else x ∷ past) next (taken_by s x (sender x))
        go true e few = rw (late-refused past s.window x is.window e) is
        go false e few =
            let near : greatest_of past < x + reach = grind (arith, nat_tests, e) in
            arrives-by past next s x is sane few near (is_accepted s.window x) refl
