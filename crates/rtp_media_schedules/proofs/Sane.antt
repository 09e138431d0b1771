-- A whole run under a sane schedule.
use Rattle.std.proofs.Common.{◌≡◌, ℕ, ◌+◌, ◌-◌, ◌%◌, ◌^◌, ◌<◌, ◌≤◌, refl, ◌∙◌, ap, ap₂, subst, arith, Bool, true}
use Rattle.std.proofs.Common.{false, List, [], ◌∷◌, ◌++◌, map, length, drop, get_or, true≢false}
use Rattle.std.specs.Prelude.{Option, None, Some, Ok, slice_index_or, if◌then◌else◌, nat_lt, ◌||◌}
use Rattle.std.proofs.lemmas.Bool.Decides.{nat_tests}
use Rattle.std.proofs.lemmas.List.{drop-map, get_or-map, get_or-append-add, length-map}
use Rattle.std.proofs.Math.ListN.{get_or-append}
use Rattle.payload_core_base.specs.Format.{Format, Fragment}
use Rattle.payload_core_base.specs.Law as law
use Rattle.payload_core_base.specs.Packing.{MarkedPacket}
use Rattle.payload_core_buffer.specs.Buffered.{Holding, is_done, pushed, limited, held_with}
use Rattle.payload_core_buffer.specs.Frames.{IsFrame, complete_frames, due_of, is_next, lowest_of, number_at}
use Rattle.payload_core_buffer.specs.Frames.{packets_between}
use Rattle.payload_core_buffer.specs.Packets.{Packet, metas_of}
use Rattle.payload_core_buffer.specs.declared.frame.Frame.{Frame}
use Rattle.payload_core_buffer.proofs.FrameLemmas.{lowest_is}
use Rattle.rtp_media_schedules.specs.Hearing.{content_of, Content}
use Rattle.payload_core_buffer.specs.Steps.{MediaUnit}
use Rattle.rtp_media_schedules.specs.Turns.{Sender, Turn, Arrive, Ask, event_of, greatest_of, IsNear}
use Rattle.rtp_media_schedules.proofs.Places.{packet}
use Rattle.rtp_wire.specs.Replay.{Window, accepts, is_accepted, recorded_in, greatest_in}
use Rattle.rtp_wire.specs.Widening.{widened}
use Rattle.rtp_wire.proofs.WideningLaws.{widened-near}
use Rattle.rtp_media_schedules.specs.Hearing as hearing
use Rattle.rtp_media_schedules.specs.Hearing.{Stream, due, fresh, heard, poll_answer}
use Rattle.payload_core_buffer.specs.Steps.{answer_among}
use Rattle.rtp_media_schedules.specs.Hearing.{polled, stream_behind, taken_by}
use Rattle.payload_core_buffer.specs.Steps.{run_among}
use Rattle.rtp_media_schedules.specs.Legal.{IsFinalRunOf, IsLegal, Ended, Silent}
use Rattle.rtp_media_schedules.specs.Orders.{IsSane, IsSaneArrival}
use Rattle.rtp_media_schedules.specs.Sending.{SentFrame, AreFrames, canonical, canonical_from, contents, contents_in}
use Rattle.rtp_media_schedules.specs.Sending.{no_content, sender_of, sizes, total}
use Rattle.rtp_media_schedules.proofs.Frames.{GivesUnit, content_at, gives-unit, cutoff-behind, rises-behind}
use Rattle.rtp_media_schedules.proofs.Located.{AreBrought, Located, locate}
use Rattle.rtp_media_schedules.proofs.Numbers.{IsHeld, Rises-from, Rises-below, held-limited}

-- the window's greatest number is the greatest that came
abbrev pub GreatestIs : List ℕ → Option Window → Type 0
GreatestIs [] None = Unit {0}
GreatestIs [] (Some w) = ⊥
GreatestIs (y ∷ ys) None = ⊥
GreatestIs (y ∷ ys) (Some w) = w.greatest ≡ greatest_of (y ∷ ys)

-- widening gives the true number
pub widened-sane : (past : List ℕ) (w : Option Window) (x : ℕ) → x < 2 ^ 62 → GreatestIs past w → IsNear past x
    → widened (greatest_in w) (x % 65536) ≡ x
widened-sane [] None x fits is near = omega arith
widened-sane [] (Some w) x fits is near = absurd is
widened-sane (y ∷ ys) None x fits is near = absurd is
widened-sane (y ∷ ys) (Some w) x fits is near = rw is (widened-near (greatest_of (y ∷ ys)) x near.0 near.1 fits)

greatest-more : (past : List ℕ) (w : Option Window) (x : ℕ) → GreatestIs past w
    → GreatestIs (x ∷ past) (Some (recorded_in w x))
greatest-more [] None x is = omega arith
greatest-more [] (Some w) x is = absurd is
greatest-more (y ∷ ys) None x is = absurd is
greatest-more (y ∷ ys) (Some w) x is = omega (arith, is)

pub not-above : (w : Window) (x : ℕ) → accepts w x ≡ false → x ≤ w.greatest
not-above w x h = grind (arith, nat_tests)

-- a number that is refused isn't above it
greatest-refused : (past : List ℕ) (w : Option Window) (x : ℕ) → GreatestIs past w → is_accepted w x ≡ false
    → GreatestIs (x ∷ past) w
greatest-refused past None x is refused = absurd (true≢false refused)
greatest-refused [] (Some w) x is refused = absurd is
greatest-refused (y ∷ ys) (Some w) x is refused = omega (arith, is, not-above w x refused)

-- nothing was handed out, or all below n is done with
abbrev pub CutoffIs : ℕ → ℕ → Option ℕ → Type 0
CutoffIs first n None = n ≡ first
CutoffIs first n (Some c) = c + 1 ≡ n

ahead : (first n x : ℕ) (cutoff : Option ℕ) → CutoffIs first n cutoff → first ≤ x → is_done cutoff x ≡ false → n ≤ x
ahead first n x None is low h = omega (arith, is)
ahead first n x (Some c) is low h = grind (arith, nat_tests, is)

due-lowest : (cutoff : Option ℕ) (hold_back k : ℕ) (ps : List Packet) (o : Option Frame) (f : Frame)
    → due_of cutoff hold_back ps o k ≡ Some f → o ≡ Some f
due-lowest cutoff hold_back k ps None f e = e
due-lowest cutoff hold_back k ps (Some g) f e = go (is_next cutoff (number_at ps g.start) || nat_lt hold_back k) e where
  go : (b : Bool) → (if b then Some g else None) ≡ Some f → Some g ≡ Some f
  go true e = e
  go false e = cc

-- the frame that is due is a frame
pub due-is : (format : Format) (s : Stream) (f : Frame) → due format s ≡ Some f → IsFrame format s.held f
unfolding due
due-is format s f e = lowest_is format s.held f
    (due-lowest s.cutoff s.holding.hold_back (length (complete_frames format s.held)) s.held
    (lowest_of (complete_frames format s.held)) f e)

pub poll_answer-is : (format : Format) (s : Stream) (d : Option Frame) → due format s ≡ d → poll_answer format s
    ≡ answer_among format s.fragment s.held d
unfolding poll_answer
poll_answer-is format s d e = ap (answer_among format s.fragment s.held) e

pub polled-is : (format : Format) (s : Stream) (d : Option Frame) → due format s ≡ d → polled format s
    ≡ stream_behind format s d
unfolding polled
polled-is format s d e = ap (stream_behind format s) e

module _ (format : Format) (sender : Sender) (first count : ℕ) (fits : first + count ≤ 2 ^ 62) where
  -- what the stream is after these arrivals, and after all below n were handed out or passed over
  pub record IsSound (past : List ℕ) (n : ℕ) (s : Stream) : Type 0 where
    pub greatest : GreatestIs past s.window
    pub held : IsHeld sender n (first + count) s.held
    pub cutoff : CutoffIs first n s.cutoff
    pub closed : s.fragment ≡ None

  kept : (n x : ℕ) (s : Stream) → IsHeld sender n (first + count) s.held → CutoffIs first n s.cutoff → first ≤ x
      → x < first + count → (b : Bool) → is_done s.cutoff x ≡ b →
      IsHeld sender n (first + count)
      (if b then s.held else limited s.holding.held (held_with (packet sender x) s.held))
  kept n x s is cut low high true e = is
  kept n x s is cut low high false e = held-limited sender s.holding.held n (first + count) x s.held
      (ahead first n x s.cutoff cut low e) high is

  arrives-by : (past : List ℕ) (n : ℕ) (s : Stream) (x : ℕ) → IsSound past n s → IsSaneArrival first count past x
      → (b : Bool) → is_accepted s.window x ≡ b →
      IsSound (x ∷ past) n (if b then record {
        holding = s.holding;
        window =
            Some (recorded_in s.window x);
        held = pushed s.holding.held s.cutoff s.held (packet sender x);
        cutoff =
            s.cutoff;
        fragment = s.fragment;
      } else s)
  arrives-by past n s x is sane true e = record {
    greatest = greatest-more past s.window x is.greatest;
    held = kept n x s is.held is.cutoff sane.from_first sane.before_end (is_done s.cutoff x) refl;
    cutoff = is.cutoff;
    closed = is.closed;
  }
  arrives-by past n s x is sane false e = record {
    greatest = greatest-refused past s.window x is.greatest e;
    held = is.held;
    cutoff = is.cutoff;
    closed = is.closed;
  }

  pub arrives : (past : List ℕ) (n : ℕ) (s : Stream) (x : ℕ) → IsSound past n s → IsSaneArrival first count past x
      → IsSound (x ∷ past) n (taken_by s (hearing.number_at s (x % 65536)) (sender x))
  arrives past n s x is sane =
      rw (widened-sane past s.window x (omega (arith, sane.before_end)) is.greatest sane.near)
      (arrives-by past n s x is sane (is_accepted s.window x) refl)

  -- what a poll does that hands a frame out
  pub record IsHandedOut (past : List ℕ) (n : ℕ) (fs : List SentFrame) (s : Stream) (f : Frame) : Type 0 where
    pub number : ℕ
    pub there : Located format sender n fs number
    pub unit : MediaUnit
    pub answer : answer_among format s.fragment s.held (Some f) ≡ Ok (Some unit)
    pub is_final_run : IsFinalRunOf (canonical there.from there.frame) unit
    pub sound : IsSound past (there.from + length there.frame.packets) (stream_behind format s (Some f))

  pub hands-out : (past : List ℕ) (n : ℕ) (fs : List SentFrame) (s : Stream) (f : Frame) → IsSound past n s
      → AreBrought sender n fs → AreFrames format fs → n + total (sizes fs) ≡ first + count →
      due format s ≡ Some f → IsHandedOut past n fs s f
  hands-out past n fs s f is sent frames same_end e =
      let xs : List ℕ = is.held.numbers in
      let are : s.held ≡ map (packet sender) xs = is.held.are in
      let frame : IsFrame format (map (packet sender) xs) f =
      subst (λ (ps : List Packet). IsFrame format ps f) are (due-is format s f e) in
      let inside : f.start < length xs = omega
      (arith, frame.not_empty, frame.in_range, length-map xs (packet sender)) in
      let low : n ≤ get_or xs f.start 0 = Rises-from n (first + count) f.start xs inside is.held.rises in
      let high : get_or xs f.start 0 < n + total (sizes fs) =
      omega (arith, same_end, Rises-below n (first + count) f.start xs inside is.held.rises) in
      let there : Located format sender n fs (get_or xs f.start 0) =
      locate format sender n fs (get_or xs f.start 0) low high sent frames in
      let given : GivesUnit there.from (get_or xs f.start 0) there.frame
      (metas_of (packets_between (map (packet sender) xs) f)) (run_among format None (map (packet sender) xs) f) =
      gives-unit format sender there.from there.frame there.sent there.is_frame xs f frame there.low there.high in
      record {
        number = get_or xs f.start 0;
        there = there;
        unit = given.unit;
        answer = ap₂ (λ (fragment : Fragment) (ps : List Packet). answer_among format fragment ps (Some f)) is.closed
            are ∙ given.answer;
        is_final_run = given.is_final_run;
        sound = record {
          greatest = is.greatest;
          held = record {
            numbers = drop f.end xs;
            rises = rises-behind format sender there.from there.frame there.sent there.is_frame xs f frame there.low
                there.high n (first + count) is.held.rises;
            are = ap (drop f.end) are ∙ drop-map (packet sender) f.end xs;
          };
          cutoff = ap (λ (ps : List Packet). number_at ps (f.end - 1) + 1) are
              ∙ cutoff-behind format sender there.from there.frame there.sent there.is_frame xs f frame there.low
              there.high;
          closed = ap₂ (λ (fragment : Fragment) (ps : List Packet). (run_among format fragment ps f).fragment)
              is.closed are ∙ given.closed;
        };
      }

  -- the answers are legal
  pub sane-legal : (ts : List Turn) (past : List ℕ) (n : ℕ) (fs : List SentFrame) (s : Stream) → IsSound past n s
      → AreBrought sender n fs → AreFrames format fs → n + total (sizes fs) ≡ first + count
      → IsSane first count past ts →
      IsLegal (canonical_from n fs) (heard format s (map (event_of sender) ts))
  sane-legal [] past n fs s is sent frames same_end sane = Ended
  sane-legal (Arrive x ∷ ts) past n fs s is sent frames same_end sane =
      sane-legal ts (x ∷ past) n fs (taken_by s (hearing.number_at s (x % 65536)) (sender x))
      (arrives past n s x is sane.0) sent frames same_end sane.1
  sane-legal (Ask ∷ ts) past n fs s is sent frames same_end sane =
      go (λ n fs s is sent frames same_end. sane-legal ts past n fs s is sent frames same_end sane) (due format s)
      refl where
        go : ((n : ℕ) (fs : List SentFrame) (s : Stream) → IsSound past n s → AreBrought sender n fs
            → AreFrames format fs → n + total (sizes fs) ≡ first + count
            → IsLegal (canonical_from n fs) (heard format s (map (event_of sender) ts))) →
            (d : Option Frame) → due format s ≡ d → IsLegal (canonical_from n fs)
            (heard format s (map (event_of sender) (Ask ∷ ts)))
        go ih None e = rw (poll_answer-is format s None e, polled-is format s None e)
            (Silent (ih n fs s is sent frames same_end))
        go ih (Some f) e =
            let step : IsHandedOut past n fs s f = hands-out past n fs s f is sent frames same_end e in
            rw (poll_answer-is format s (Some f) e, polled-is format s (Some f) e, step.answer)
            (step.there.legal step.unit (heard format (stream_behind format s (Some f)) (map (event_of sender) ts))
            step.is_final_run
            (ih (step.there.from + length step.there.frame.packets) step.there.rest (stream_behind format s (Some f))
            step.sound step.there.sent_rest step.there.frames_rest (step.there.same_end ∙ same_end)))

  pub fresh-sound : (holding : Holding) → IsSound [] first (fresh holding)
  fresh-sound holding = record {
    greatest = tt;
    held = record { numbers = []; rises = tt; are = refl };
    cutoff =
        refl;
    closed = refl;
  }

-- The sender of frames brings them.
contents-in : (f : SentFrame) (more : List Content) (i : ℕ) → i < length f.packets
    → slice_index_or (contents_in f ++ more) i no_content ≡ content_at f i
contents-in f more i h =
    get_or-append (contents_in f) more no_content i
    (omega (arith, h, length-map f.packets (λ (p : MarkedPacket). content_of f.time p.marker f.values p.payload)))
    ∙ get_or-map (λ (p : MarkedPacket). content_of f.time p.marker f.values p.payload) f.packets i law.no_packet
    no_content h

brought-by : (sender : Sender) (n : ℕ) (fs : List SentFrame)
    → ((i : ℕ) → i < total (sizes fs) → sender (n + i) ≡ slice_index_or (contents fs) i no_content)
    → AreBrought sender n fs
brought-by sender n [] same = tt
brought-by sender n (f ∷ fs) same = (
  λ i h. same i (omega arith) ∙ contents-in f (contents fs) i h,
  brought-by sender (n + length f.packets) fs (λ i h.
      let count : length (contents_in f) ≡ length f.packets =
      length-map f.packets (λ (p : MarkedPacket). content_of f.time p.marker f.values p.payload) in
      let place : n + length f.packets + i ≡ n + (length f.packets + i) = omega arith in
      let behind : length f.packets + i ≡ length (contents_in f) + i = omega (arith, count) in
      ap sender place ∙ same (length f.packets + i) (omega arith)
      ∙ ap (λ k. slice_index_or (contents_in f ++ contents fs) k no_content) behind
      ∙ get_or-append-add (contents_in f) (contents fs) i no_content),
)

pub sender-brings : (first : ℕ) (fs : List SentFrame) → AreBrought (sender_of first fs) first fs
sender-brings first fs = brought-by (sender_of first fs) first fs
    (λ i h. let e : first + i - first ≡ i = omega arith in ap (λ k. slice_index_or (contents fs) k no_content) e)

pub legal : (format : Format) (holding : Holding) (first : ℕ) (fs : List SentFrame) (turns : List Turn)
    → AreFrames format fs
    → first + total (sizes fs) ≤ 2 ^ 62 → IsSane first (total (sizes fs)) [] turns →
    IsLegal (canonical_from first fs) (heard format (fresh holding) (map (event_of (sender_of first fs)) turns))
legal format holding first fs turns frames fits sane =
    sane-legal format (sender_of first fs) first (total (sizes fs)) fits turns [] first fs (fresh holding)
    (fresh-sound format (sender_of first fs) first (total (sizes fs)) fits holding) (sender-brings first fs)
    frames refl sane
