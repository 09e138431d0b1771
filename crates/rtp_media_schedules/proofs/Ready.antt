-- When the next frame is due: if and only if all of its packets came.
use Rattle.std.proofs.Common.{◌≡◌, ◌≢◌, ℕ, zero, suc, ◌+◌, ◌-◌, ◌<◌, ◌≤◌, refl, sym, ◌∙◌, ap, ap₂, subst, arith, Bool}
use Rattle.std.proofs.Common.{true, false, cond, List, [], ◌∷◌, ◌++◌, length, map, get_or, inl, inr, true≢false}
use Rattle.std.proofs.Common.{length-append, add-zero}
use Rattle.std.specs.Prelude.{Option, None, Some, nat_lt, filter, ◌||◌, ◌&&◌, ◌==◌, not, if◌then◌else◌}
use Rattle.std.specs.List.{cons_option, filter_map, range_with_len, list_all}
use Rattle.std.proofs.Math.ListN.{get_or-append}
use Rattle.std.proofs.lemmas.Bool.{cases_lt}
use Rattle.std.proofs.lemmas.List.{length-map}
use Rattle.std.proofs.lemmas.List.FromFn.{length-range_with_len, get_or-range_with_len}
use Rattle.payload_core_base.specs.Format.{Format}
use Rattle.payload_core_base.specs.Law as law
use Rattle.payload_core_base.specs.Law.{IsFrameOf}
use Rattle.payload_core_buffer.specs.Frames.{IsFrame, complete_frames, due_frame, due_of, frame_at, frame_of_run}
use Rattle.payload_core_buffer.specs.Frames.{frames_among, is_head_at, is_joined_at, is_next, is_tail_at, kept_run}
use Rattle.payload_core_buffer.specs.Frames.{lowest_of, number_at, packet_at, run_or_head, run_start, time_at}
use Rattle.payload_core_buffer.specs.Packets.{Packet}
use Rattle.payload_core_buffer.specs.declared.frame.Frame.{Frame}
use Rattle.payload_core_buffer.proofs.FrameLemmas.{lowest_is}
use Rattle.rtp_media_schedules.specs.Hearing.{Content}
use Rattle.rtp_media_schedules.specs.Turns.{Sender}
use Rattle.rtp_media_schedules.proofs.Places.{packet, eqb-no, eqb-yes, nat_lt-no}
use Rattle.rtp_media_schedules.specs.Sending.{SentFrame}
use Rattle.rtp_media_schedules.proofs.Frames.{Brings, at, ends}
use Rattle.rtp_media_schedules.proofs.Numbers.{Rises-less, Rises-below, Rises-from, packet-at}
use Rattle.rtp_media_schedules.specs.TrueNumbers.{Rises}

-- the places of the first packets
abbrev pub front : ℕ → Frame
front size = record { start = 0; end = size }

-- Lists that a function gives at rising places.
pub first-given : (h : ℕ → Option Frame) (f : Frame) (k lo n : ℕ) → lo ≤ k → k < lo + n
    → ((j : ℕ) → lo ≤ j → j < k → h j ≡ None) → h k ≡ Some f → lowest_of (filter_map h (range_with_len lo n)) ≡ Some f
first-given h f k lo zero a b none here = absurd (omega arith)
first-given h f k lo (suc n) a b none here = elim (cases_lt lo k) [
  | inl before ↦ rw (none lo (omega arith) before)
      (first-given h f k (lo + 1) n (omega arith) (omega arith) (λ j p q. none j (omega arith) q) here)
  | inr le ↦ let e : k ≡ lo = omega arith in rw (subst (λ j. h j ≡ Some f) e here) refl
]

pub at-most-one : (o : Option Frame) (fs : List Frame) → length (cons_option o fs) ≤ suc (length fs)
at-most-one None fs = omega arith
at-most-one (Some f) fs = omega arith

-- if nothing is given below k, so few are
pub few-given : (h : ℕ → Option Frame) (k lo n : ℕ) → ((j : ℕ) → lo ≤ j → j < k → h j ≡ None)
    → length (filter_map h (range_with_len lo n)) ≤ n - (k - lo)
few-given h k lo zero none = omega arith
few-given h k lo (suc n) none = elim (cases_lt lo k) [
  | inl before ↦ rw (none lo (omega arith) before)
      (omega (arith, few-given h k (lo + 1) n (λ j p q. none j (omega arith) q)))
  | inr le ↦ omega (
    arith,
    at-most-one (h lo) (filter_map h (range_with_len (lo + 1) n)),
    few-given h k (lo + 1) n (λ j p q. none j (omega arith) q),
  )
]

-- Numbers that pass a test.
pub Rises-filter : (p : ℕ → Bool) (lo n hi : ℕ) → lo + n ≤ hi → Rises lo hi (filter p (range_with_len lo n))
Rises-filter p lo zero hi h = tt
Rises-filter p lo (suc n) hi h =
    let rest : Rises (lo + 1) hi (filter p (range_with_len (lo + 1) n)) = Rises-filter p (lo + 1) n hi (omega arith) in
    elim (p lo) as (λ b. Rises lo hi (cond b (lo ∷ filter p (range_with_len (lo + 1) n))
    (filter p (range_with_len (lo + 1) n)))) [
      | true ↦ (omega arith, omega arith, rest)
      | false ↦ Rises-less lo (lo + 1) hi (omega arith) _ rest
    ]

both-true : (a b : Bool) → (a && b) ≡ true → (a ≡ true) × (b ≡ true)
both-true true b h = (refl, h)
both-true false b h = absurd (true≢false (sym h))

pub filter-come : (p : ℕ → Bool) (lo size n : ℕ) → list_all p (range_with_len lo size) ≡ true
    → filter p (range_with_len lo (size + n)) ≡ range_with_len lo size ++ filter p (range_with_len (lo + size) n)
filter-come p lo zero n h = let e : lo ≡ lo + 0 = omega arith in let k : 0 + n ≡ n = omega arith in
    ap₂ (λ (a b : ℕ). filter p (range_with_len a b)) e k
filter-come p lo (suc size) n h =
    let here = both-true (p lo) (list_all p (range_with_len (lo + 1) size)) h in
    let e : lo + 1 + size ≡ lo + suc size = omega arith in
    let k : suc size + n ≡ suc (size + n) = omega arith in
    let rest : filter p (range_with_len (lo + 1) (size + n)) ≡ range_with_len (lo + 1) size
    ++ filter p (range_with_len (lo + suc size) n) =
    filter-come p (lo + 1) size n here.1 ∙ ap
    (λ (a : ℕ). range_with_len (lo + 1) size ++ filter p (range_with_len a n)) e in
    ap (λ (a : ℕ). filter p (range_with_len lo a)) k ∙ rw here.0 (ap (λ (xs : List ℕ). lo ∷ xs) rest)

pub all-pass : (p : ℕ → Bool) (lo size : ℕ) → list_all p (range_with_len lo size) ≡ true → (y : ℕ) → lo ≤ y
    → y < lo + size → p y ≡ true
all-pass p lo zero h y a b = absurd (omega arith)
all-pass p lo (suc size) h y a b =
    let here = both-true (p lo) (list_all p (range_with_len (lo + 1) size)) h in
    elim (cases_lt lo y) [
      | inl less ↦ all-pass p (lo + 1) size here.1 y (omega arith) (omega arith)
      | inr le ↦ let e : lo ≡ y = omega arith in subst (λ z. p z ≡ true) e here.0
    ]

pub all-passed : (p : ℕ → Bool) (lo size : ℕ) → ((y : ℕ) → lo ≤ y → y < lo + size → p y ≡ true)
    → list_all p (range_with_len lo size) ≡ true
all-passed p lo zero all = refl
all-passed p lo (suc size) all = rw (all lo (omega arith) (omega arith))
    (all-passed p (lo + 1) size (λ y a b. all y (omega arith) (omega arith)))

-- a number that is missing
pub record Misses (p : ℕ → Bool) (lo size : ℕ) : Type 0 where
  pub number : ℕ
  pub low : lo ≤ number
  pub high : number < lo + size
  pub missing : p number ≡ false

pub misses : (p : ℕ → Bool) (lo size : ℕ) → list_all p (range_with_len lo size) ≡ false → Misses p lo size
misses p lo zero h = absurd (true≢false h)
misses p lo (suc size) h = go (misses p (lo + 1) size) (p lo) refl where
  go : (list_all p (range_with_len (lo + 1) size) ≡ false → Misses p (lo + 1) size) → (b : Bool) → p lo ≡ b
      → Misses p lo (suc size)
  go ih false e = record { number = lo; low = omega arith; high = omega arith; missing = e }
  go ih true e =
      let rest : Misses p (lo + 1) size = ih (rw e at h) in
      record {
        number = rest.number;
        low = omega (arith, rest.low);
        high = omega (arith, rest.high);
        missing =
            rest.missing;
      }

pub filter-missing : (p : ℕ → Bool) (lo k n : ℕ) → p (lo + k) ≡ false → filter p (range_with_len lo (k + suc n))
    ≡ filter p (range_with_len lo k) ++ filter p (range_with_len (lo + k + 1) n)
filter-missing p lo zero n h =
    let e : lo + 0 ≡ lo = omega arith in
    let k : 0 + suc n ≡ suc n = omega arith in
    let here : p lo ≡ false = ap p (sym e) ∙ h in
    ap (λ (b : ℕ). filter p (range_with_len lo b)) k
    ∙ rw here (ap (λ (a : ℕ). filter p (range_with_len (a + 1) n)) (sym e))
filter-missing p lo (suc k) n h =
    let e : lo + 1 + k ≡ lo + suc k = omega arith in
    let size : suc k + suc n ≡ suc (k + suc n) = omega arith in
    let rest : filter p (range_with_len (lo + 1) (k + suc n)) ≡ filter p (range_with_len (lo + 1) k)
    ++ filter p (range_with_len (lo + suc k + 1) n) =
    filter-missing p (lo + 1) k n (ap p e ∙ h)
    ∙ ap (λ (a : ℕ). filter p (range_with_len (lo + 1) k) ++ filter p (range_with_len (a + 1) n)) e in
    ap (λ (b : ℕ). filter p (range_with_len lo b)) size
    ∙ elim (p lo) as (λ b. cond b (lo ∷ filter p (range_with_len (lo + 1) (k + suc n)))
    (filter p (range_with_len (lo + 1) (k + suc n)))
    ≡ cond b (lo ∷ filter p (range_with_len (lo + 1) k)) (filter p (range_with_len (lo + 1) k))
    ++ filter p (range_with_len (lo + suc k + 1) n)) [
      | true ↦ ap (λ (xs : List ℕ). lo ∷ xs) rest
      | false ↦ rest
    ]

pub filter-passes : (p : ℕ → Bool) (lo n k : ℕ) → k < length (filter p (range_with_len lo n))
    → p (get_or (filter p (range_with_len lo n)) k 0) ≡ true
filter-passes p lo zero k h = absurd (omega arith)
filter-passes p lo (suc n) k h = go (filter-passes p (lo + 1) n) (p lo) refl k h where
  go : ((k : ℕ) → k < length (filter p (range_with_len (lo + 1) n))
      → p (get_or (filter p (range_with_len (lo + 1) n)) k 0) ≡ true) → (b : Bool) → p lo ≡ b → (k : ℕ)
      → k < length (cond b (lo ∷ filter p (range_with_len (lo + 1) n)) (filter p (range_with_len (lo + 1) n))) →
      p (get_or (cond b (lo ∷ filter p (range_with_len (lo + 1) n)) (filter p (range_with_len (lo + 1) n))) k 0) ≡ true
  go ih false e k h = ih k h
  go ih true e zero h = e
  go ih true e (suc k) h = ih k (omega arith)

-- A sent frame of which all packets are held in front: it is the lowest complete one.
module _ (format : Format) (sender : Sender) (m : ℕ) (g : SentFrame) (sent : Brings sender m g)
    (is : IsFrameOf format g.packets g.parts) (ys : List ℕ) where
  abbrev numbers : List ℕ
  numbers = range_with_len m (length g.packets) ++ ys

  abbrev held : List Packet
  held = map (packet sender) numbers

  length-held : length held ≡ length g.packets + length ys
  length-held = length-map numbers (packet sender) ∙ length-append (range_with_len m (length g.packets)) ys
      ∙ ap (λ k. k + length ys) (length-range_with_len m (length g.packets))

  pub number-in : (k : ℕ) → k < length g.packets → get_or numbers k 0 ≡ m + k
  number-in k h =
      get_or-append (range_with_len m (length g.packets)) ys 0 k
      (omega (arith, length-range_with_len m (length g.packets)))
      ∙ get_or-range_with_len m (length g.packets) k 0 h

  packet-in : (k : ℕ) → k < length g.packets → packet_at held k ≡ packet sender (m + k)
  packet-in k h = packet-at sender numbers k (omega (arith, length-held, length-map numbers (packet sender)))
      ∙ ap (packet sender) (number-in k h)

  tail-in : (k : ℕ) → k < length g.packets → is_tail_at format held k ≡ law.is_tail_at format g.packets k
  tail-in k h = ap (λ (p : Packet). format.tail p.meta.marker p.payload) (packet-in k h)
      ∙ ap (λ (c : Content). format.tail c.marker c.bytes) (sent k h)

  head-in : is_head_at format held 0 ≡ true
  head-in = ap (λ (p : Packet). format.head p.payload) (packet-in 0 is.not_empty)
      ∙ ap (λ (c : Content). format.head c.bytes) (sent 0 is.not_empty) ∙ is.first_is_head

  time-in : (k : ℕ) → k < length g.packets → time_at held k ≡ g.time
  time-in k h = ap (λ (p : Packet). p.meta.time) (packet-in k h) ∙ ap (λ (c : Content). c.time) (sent k h)

  number_at-in : (k : ℕ) → k < length g.packets → number_at held k ≡ m + k
  number_at-in k h = ap (λ (p : Packet). p.meta.seq_no) (packet-in k h)

  joined-by : (x y t u : ℕ) (b : Bool) → x ≡ y + 1 → t ≡ u → b ≡ false → ((x == y + 1) && ((t == u) && not b)) ≡ true
  joined-by x y t u b e f n = rw (n, eqb-yes x (y + 1) e, eqb-yes t u f) refl

  joined-in : (k : ℕ) → suc k < length g.packets → is_joined_at format held (suc k) ≡ true
  joined-in k h = joined-by (number_at held (suc k)) (number_at held k) (time_at held (suc k)) (time_at held k)
      (is_tail_at format held k)
      (omega (arith, number_at-in (suc k) h, number_at-in k (omega arith)))
      (time-in (suc k) h ∙ sym (time-in k (omega arith)))
      (tail-in k (omega arith) ∙ is.last_alone_is_tail.others k (omega arith))

  run-in : (k : ℕ) → k < length g.packets → run_start format held (suc k) ≡ Some 0
  run-in zero h = ap (λ b. run_or_head None b 0) head-in
  run-in (suc k) h =
      ap₂ (λ (b : Bool) (run : Option ℕ). run_or_head (kept_run b run) (is_head_at format held (suc k)) (suc k))
      (joined-in k h) (run-in k (omega arith))

  no-frame : (k : ℕ) → suc k < length g.packets → frame_at format held k ≡ None
  no-frame k h = ap (λ b. frame_of_run b (run_start format held (k + 1)) (k + 1))
      (tail-in k (omega arith) ∙ is.last_alone_is_tail.others k (omega arith))

  frame-there : (k : ℕ) → k + 1 ≡ length g.packets → frame_at format held k ≡ Some (front (length g.packets))
  frame-there k e =
      let next : k + 1 ≡ suc k = omega arith in
      ap₂ (λ (b : Bool) (run : Option ℕ). frame_of_run b run (k + 1))
      (tail-in k (omega arith) ∙ is.last_alone_is_tail.last k e)
      (ap (run_start format held) next ∙ run-in k (omega arith))
      ∙ ap (λ n. Some (front n)) e

  lowest-in : lowest_of (complete_frames format held) ≡ Some (front (length g.packets))
  unfolding frames_among
  lowest-in =
      first-given (frame_at format held) (front (length g.packets)) (length g.packets - 1) 0 (length held)
      (omega arith) (omega (arith, length-held, is.not_empty))
      (λ j a b. no-frame j (omega arith)) (frame-there (length g.packets - 1) (omega (arith, is.not_empty)))

  -- and it is due if it is next
  pub due-front : (cutoff : Option ℕ) (hold_back : ℕ) → is_next cutoff m ≡ true
      → due_frame format cutoff hold_back held ≡ Some (front (length g.packets))
  due-front cutoff hold_back next =
      let number : number_at held 0 ≡ m = number_at-in 0 is.not_empty ∙ add-zero m in
      ap (λ o. due_of cutoff hold_back held o (length (complete_frames format held))) lowest-in
      ∙ ap (λ n. if is_next cutoff n || nat_lt hold_back (length (complete_frames format held))
      then Some (front (length g.packets)) else None) number
      ∙ ap (λ b. if b || nat_lt hold_back (length (complete_frames format held)) then Some (front (length g.packets))
      else None) next

-- A sent frame of which a packet is missing: no complete frame begins with it, and none ends before the
-- missing packet.
module _ (format : Format) (sender : Sender) (m : ℕ) (g : SentFrame) (sent : Brings sender m g)
    (is : IsFrameOf format g.packets g.parts) (x : ℕ) (from : m ≤ x) (to : x < m + length g.packets)
    (lower upper : List ℕ) (rises : Rises m x lower)
    (lacks : (k : ℕ) → k < length (lower ++ upper) → get_or (lower ++ upper) k 0 ≢ x) where
  abbrev those : List Packet
  those = map (packet sender) (lower ++ upper)

  length-those : length those ≡ length lower + length upper
  length-those = length-map (lower ++ upper) (packet sender) ∙ length-append lower upper

  no-tail : (k : ℕ) → k < length lower → is_tail_at format those k ≡ false
  no-tail k h =
      let number : get_or (lower ++ upper) k 0 ≡ get_or lower k 0 = get_or-append lower upper 0 k h in
      let i : ℕ = get_or lower k 0 - m in
      let place : get_or (lower ++ upper) k 0 ≡ m + i = omega (arith, number, Rises-from m x k lower h rises) in
      let inside : i + 1 < length g.packets = omega
      (arith, Rises-from m x k lower h rises, Rises-below m x k lower h rises) in
      ap (λ (p : Packet). format.tail p.meta.marker p.payload)
      (packet-at sender (lower ++ upper) k (omega (arith, length-append lower upper)))
      ∙ ap (λ (c : Content). format.tail c.marker c.bytes) (ap sender place ∙ sent i (omega arith))
      ∙ is.last_alone_is_tail.others i inside

  none-below : (k : ℕ) → k < length lower → frame_at format those k ≡ None
  none-below k h = ap (λ b. frame_of_run b (run_start format those (k + 1)) (k + 1)) (no-tail k h)

  few-frames : length (complete_frames format those) ≤ length upper
  unfolding frames_among
  few-frames = omega (
    arith,
    length-those,
    few-given (frame_at format those) (length lower) 0 (length those) (λ j a b. none-below j b),
  )

  not-first : (f : Frame) → IsFrame format those f → get_or (lower ++ upper) f.start 0 ≢ m
  not-first f frame e =
      let low : m ≤ get_or (lower ++ upper) f.start 0 = omega (arith, e) in
      let high : get_or (lower ++ upper) f.start 0 < m + length g.packets = omega (arith, e, is.not_empty) in
      let whole : get_or (lower ++ upper) f.start 0 + (f.end - f.start) ≡ m + length g.packets =
      ends format sender m g sent is (lower ++ upper) f frame low high in
      let here : get_or (lower ++ upper) (f.start + (x - m)) 0 ≡ get_or (lower ++ upper) f.start 0 + (x - m) =
      at format sender m g sent is (lower ++ upper) f frame low high (x - m) (omega arith) in
      lacks (f.start + (x - m)) (omega (arith, frame.in_range, length-map (lower ++ upper) (packet sender)))
      (omega (arith, here, e))

  not-due : (cutoff hold_back count : ℕ) (o : Option Frame) → ((f : Frame) → o ≡ Some f → IsFrame format those f)
      → cutoff + 1 ≡ m → count ≤ hold_back → due_of (Some cutoff) hold_back those o count ≡ None
  not-due cutoff hold_back count None frames next few = refl
  not-due cutoff hold_back count (Some f) frames next few =
      let frame : IsFrame format those f = frames f refl in
      let number : number_at those f.start ≡ get_or (lower ++ upper) f.start 0 =
      ap (λ (p : Packet). p.meta.seq_no) (packet-at sender (lower ++ upper) f.start
      (omega (arith, frame.not_empty, frame.in_range, length-map (lower ++ upper) (packet sender)))) in
      let other : (number_at those f.start == cutoff + 1) ≡ false =
      eqb-no (number_at those f.start) (cutoff + 1) (λ e. not-first f frame (omega (arith, number, e))) in
      ap₂ (λ (a b : Bool). if a || b then Some f else None) other (nat_lt-no hold_back count few)

  -- so none is due while no more are complete than are held back
  pub none-due-of : (cutoff hold_back : ℕ) → cutoff + 1 ≡ m → length (complete_frames format those) ≤ hold_back
      → due_frame format (Some cutoff) hold_back those ≡ None
  none-due-of cutoff hold_back next few =
      not-due cutoff hold_back (length (complete_frames format those)) (lowest_of (complete_frames format those))
      (λ f e. lowest_is format those f e) next few

  -- so none is due while enough are held back
  pub none-due : (cutoff hold_back : ℕ) → cutoff + 1 ≡ m → length upper ≤ hold_back
      → due_frame format (Some cutoff) hold_back those ≡ None
  none-due cutoff hold_back next few =
      not-due cutoff hold_back (length (complete_frames format those)) (lowest_of (complete_frames format those))
      (λ f e. lowest_is format those f e) next (omega (arith, few-frames))

-- if nothing is held, none is due
pub none-held : (format : Format) (cutoff : Option ℕ) (hold_back : ℕ) → due_frame format cutoff hold_back [] ≡ None
unfolding frames_among
none-held format cutoff hold_back = refl
