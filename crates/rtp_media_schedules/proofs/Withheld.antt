-- A run in which datagrams are lost or late.
use Rattle.std.proofs.Common.{◌≡◌, ℕ, zero, suc, ◌+◌, ◌-◌, ◌%◌, ◌^◌, ◌<◌, ◌≤◌, refl, sym, ◌∙◌, ap, ap₂, subst}
use Rattle.std.proofs.Common.{subst₂}
use Rattle.std.proofs.Common.{arith, Bool, true, false, List, [], ◌∷◌, ◌++◌, length, map, drop, get_or}
use Rattle.std.proofs.Common.{inl, inr}
use Rattle.std.specs.Prelude.{◌||◌, nat_lt}
use Rattle.std.specs.Prelude.{Option, None, Some, Ok, filter, if◌then◌else◌}
use Rattle.std.specs.List.{range_with_len}
use Rattle.std.proofs.lemmas.List.{drop-map, length-map}
use Rattle.payload_core_base.specs.Format.{Format, Fragment}
use Rattle.payload_core_buffer.specs.Buffered.{Holding}
use Rattle.payload_core_buffer.specs.CompleteFrames.{IsComplete, IsDue, IsNext}
use Rattle.payload_core_buffer.specs.Frames.{complete_frames}
use Rattle.payload_core_buffer.specs.Frames.{due_of, is_next, lowest_of}
use Rattle.payload_core_buffer.specs.Frames.{number_at}
use Rattle.payload_core_buffer.specs.Frames.{packets_between}
use Rattle.payload_core_buffer.specs.Packets.{Packet, metas_of}
use Rattle.payload_core_buffer.specs.Steps.{MediaUnit, answer_among, run_among}
use Rattle.payload_core_buffer.specs.declared.frame.Frame.{Frame}
use Rattle.payload_core_buffer.proofs.CompleteLemmas.{due_law}
use Rattle.rtp_media_schedules.specs.Hearing as hearing
use Rattle.rtp_media_schedules.specs.Hearing.{Content, Stream, due, fresh, heard, poll_answer, polled, stream_behind}
use Rattle.rtp_media_schedules.specs.Hearing.{taken_by}
use Rattle.rtp_media_schedules.specs.InTime.{hold_back_at}
use Rattle.rtp_media_schedules.specs.Losses.{in_time_with, Follows, HandsOut, MayHandOut, Waits}
use Rattle.rtp_media_schedules.specs.Orders.{IsSane}
use Rattle.rtp_media_schedules.specs.Samples.{AreSentAs, SentSample, canonical_units, datagrams, frame_sizes}
use Rattle.rtp_media_schedules.specs.Samples.{packets_of}
use Rattle.rtp_media_schedules.specs.Sending.{AreFrames, Canonical, SentFrame, canonical_from, sender_of}
use Rattle.rtp_media_schedules.specs.Sending.{numbered, sizes, total}
use Rattle.rtp_media_schedules.specs.TrueNumbers.{Rises}
use Rattle.rtp_media_schedules.specs.Turns.{Turn, Arrive, Ask, Sender, event_of, is_among}
use Rattle.rtp_media_schedules.proofs.Frames.{GivesUnit, gives-unit}
use Rattle.rtp_media_schedules.proofs.Located.{AreBrought, Located, locate}
use Rattle.rtp_media_schedules.proofs.Numbers.{Rises-below, Rises-from, packet-at}
use Rattle.rtp_media_schedules.proofs.Samples.{AreWider, HaveFrames, count-is, frames-of, sizes-are}
use Rattle.rtp_media_schedules.proofs.Places.{packet}
use Rattle.rtp_media_schedules.proofs.Ready.{Rises-filter}
use Rattle.rtp_media_schedules.proofs.Sane.{CutoffIs, poll_answer-is, polled-is, sender-brings}
use Rattle.rtp_media_schedules.proofs.Tame.{holding-taken, numbers_of}
use Rattle.rtp_media_schedules.proofs.InTime.{hold_back-most, hold_back-first}
use Rattle.rtp_media_schedules.proofs.Waiting.{HaveOneGreatest, IsWaiting, arrives, greatest-both, sane-both}
use Rattle.rtp_media_schedules.proofs.RisingNumbers.{drop-filter}
use Rattle.rtp_media_schedules.proofs.HandedOut.{hands}
use Rattle.rtp_media_schedules.proofs.PollsOfWaiting.{may-hand-out, waits}

lowest-due : (cutoff : Option ℕ) (hold_back count : ℕ) (ps : List Packet) (o : Option Frame) (fr : Frame)
    → due_of cutoff hold_back ps o count ≡ Some fr → o ≡ Some fr
lowest-due cutoff hold_back count ps None fr e = absurd cc
lowest-due cutoff hold_back count ps (Some f) fr e =
    go (is_next cutoff (number_at ps f.start) || nat_lt hold_back count) e where
      go : (b : Bool) → (if b then Some f else None) ≡ Some fr → Some f ≡ Some fr
      go true e = e
      go false e = absurd cc

some-found : (found : List Frame) (f : Frame) → lowest_of found ≡ Some f → 0 < length found
some-found [] f e = absurd cc
some-found (g ∷ gs) f e = omega arith

module _ (format : Format) (sender : Sender) (first count : ℕ) (fits : first + count ≤ 2 ^ 62) where
  abbrev Waiting : List ℕ → ℕ → Stream → Type 0
  Waiting past next s = IsWaiting format sender first count fits past next s

  abbrev pub FollowsFrom : Holding → List ℕ → ℕ → List SentFrame → List Canonical → Stream → List Turn → Type 0
  FollowsFrom holding past next fs ds s ts = Follows first count holding past next (sizes fs) ds ts
      (heard format s (map (event_of sender) ts))

  module _ (past : List ℕ) (next : ℕ) (s : Stream) (is : Waiting past next s) (fr : Frame)
      (some : due format s ≡ Some fr) where
    abbrev xs : List ℕ
    xs = numbers_of first count past next

    due-facts : IsDue format s.cutoff s.holding.hold_back s.held fr
    unfolding due
    due-facts = (due_law format s.cutoff s.holding.hold_back s.held fr).0 some

    is-complete : IsComplete format (map (packet sender) xs) fr
    is-complete = subst (λ (ps : List Packet). IsComplete format ps fr) is.held due-facts.complete

    is-lowest : (g : Frame) → IsComplete format (map (packet sender) xs) g → fr.end ≤ g.end
    is-lowest = subst (λ (ps : List Packet). (g : Frame) → IsComplete format ps g → fr.end ≤ g.end) is.held
        due-facts.lowest

    first-found : lowest_of (complete_frames format (map (packet sender) xs)) ≡ Some fr
    unfolding due
    first-found = ap (λ (ps : List Packet). lowest_of (complete_frames format ps)) (sym is.held)
        ∙ lowest-due s.cutoff s.holding.hold_back (length (complete_frames format s.held)) s.held
        (lowest_of (complete_frames format s.held)) fr some

    ends-inside : fr.end ≤ length xs
    ends-inside = omega (arith, is-complete.frame.in_range, length-map xs (packet sender))

    -- if it isn't the next one, more frames are complete than are held back
    many : next < get_or xs fr.start 0 → hold_back_at first s.holding.hold_back next
        < length (complete_frames format (map (packet sender) xs))
    many far = elim due-facts.may_leave [ inr more ↦ enough more | inl next_one ↦ by s.cutoff refl next_one ] where
      enough : s.holding.hold_back < length (complete_frames format s.held)
          → hold_back_at first s.holding.hold_back next < length (complete_frames format (map (packet sender) xs))
      enough more = omega (
        arith,
        more,
        ap (λ (ps : List Packet). length (complete_frames format ps)) is.held,
        hold_back-most first s.holding.hold_back next,
      )

      by : (cutoff : Option ℕ) → s.cutoff ≡ cutoff → IsNext cutoff (number_at s.held fr.start)
          → hold_back_at first s.holding.hold_back next < length (complete_frames format (map (packet sender) xs))
      by None e next_one =
          let begins : next ≡ first = subst (CutoffIs first next) e is.cutoff in
          omega (
            arith,
            hold_back-first first s.holding.hold_back next begins,
            some-found (complete_frames format (map (packet sender) xs)) fr first-found,
          )
      by (Some c) e next_one =
          let after : c + 1 ≡ next = subst (CutoffIs first next) e is.cutoff in
          let number : number_at s.held fr.start ≡ get_or xs fr.start 0 =
          ap (λ (ps : List Packet). number_at ps fr.start) is.held
          ∙ ap (λ (p : Packet). p.meta.seq_no)
          (packet-at sender xs fr.start (omega (arith, ends-inside, is-complete.frame.not_empty))) in
          absurd (omega (arith, next_one, after, number, far))

    rising : next ≤ first + count → Rises next (first + count) xs
    rising h = Rises-filter (is_among past) next (first + count - next) (first + count) (omega arith)

    behind-it : (n : ℕ) → next ≤ first + count → get_or xs (fr.end - 1) 0 + 1 ≡ n
        → (run_among format None (map (packet sender) xs) fr).fragment ≡ None
        → Waiting past n (stream_behind format s (Some fr))
    behind-it n h e closes =
        let inner : fr.end - 1 < length xs = omega (arith, ends-inside, is-complete.frame.not_empty) in
        let one : suc (fr.end - 1) ≡ fr.end = omega (arith, is-complete.frame.not_empty) in
        let top : next + (first + count - next) ≡ first + count = omega arith in
        let low : next ≤ get_or xs (fr.end - 1) 0 = Rises-from next (first + count) (fr.end - 1) xs inner (rising h) in
        let rest : drop fr.end xs ≡ numbers_of first count past n =
        ap (λ (k : ℕ). drop k xs) (sym one)
        ∙ drop-filter (is_among past) next (first + count - next) (fr.end - 1) inner
        ∙ ap₂ (λ (m k : ℕ). filter (is_among past) (range_with_len m (k - m))) e top in
        let number : number_at s.held (fr.end - 1) ≡ get_or xs (fr.end - 1) 0 =
        ap (λ (ps : List Packet). number_at ps (fr.end - 1)) is.held
        ∙ ap (λ (p : Packet). p.meta.seq_no) (packet-at sender xs (fr.end - 1) inner) in
        record {
          window = is.window;
          held = ap (drop fr.end) is.held ∙ drop-map (packet sender) fr.end xs ∙ ap (map (packet sender)) rest;
          cutoff = omega (arith, number, e);
          begun = λ _. omega (arith, is.from_first, low, e);
          closed = ap₂ (λ (fragment : Fragment) (ps : List Packet). (run_among format fragment ps fr).fragment)
              is.closed is.held ∙ closes;
          from_first = omega (arith, is.from_first, low, e);
        }

    record Answers : Type 0 where
      unit : MediaUnit
      answers : answer_among format None (map (packet sender) xs) (Some fr) ≡ Ok (Some unit)

    begin-low : next ≤ first + count → next ≤ get_or xs fr.start 0
    begin-low h = Rises-from next (first + count) fr.start xs
        (omega (arith, ends-inside, is-complete.frame.not_empty)) (rising h)

    begin-high : next ≤ first + count → get_or xs fr.start 0 < first + count
    begin-high h = Rises-below next (first + count) fr.start xs
        (omega (arith, ends-inside, is-complete.frame.not_empty)) (rising h)

    answer-is : (fs : List SentFrame) → AreBrought sender next fs → AreFrames format fs
        → next + total (sizes fs) ≡ first + count → Answers
    answer-is fs sent frames end =
        let there : Located format sender next fs (get_or xs fr.start 0) =
        locate format sender next fs (get_or xs fr.start 0) (begin-low (omega (arith, end)))
        (omega (arith, end, begin-high (omega (arith, end)))) sent frames in
        let given : GivesUnit there.from (get_or xs fr.start 0) there.frame
        (metas_of (packets_between (map (packet sender) xs) fr)) (run_among format None (map (packet sender) xs) fr) =
        gives-unit format sender there.from there.frame there.sent there.is_frame xs fr is-complete.frame there.low
        there.high in
        record { unit = given.unit; answers = given.answer }

    answered : (fs : List SentFrame) → AreBrought sender next fs → AreFrames format fs
        → next + total (sizes fs) ≡ first + count → (o : Answers) → poll_answer format s ≡ Ok (Some o.unit)
    answered fs sent frames end o =
        poll_answer-is format s (Some fr) some
        ∙ ap₂ (λ (fragment : Fragment) (ps : List Packet). answer_among format fragment ps (Some fr)) is.closed is.held
        ∙ o.answers

  poll-by : (holding : Holding) (ts : List Turn) (past : List ℕ) (next : ℕ) (fs : List SentFrame)
      (ds : List Canonical) (s : Stream) →
      ((next : ℕ) (fs : List SentFrame) (ds : List Canonical) (s : Stream) → Waiting past next s
      → AreBrought sender next fs → AreFrames format fs → AreWider (canonical_from next fs) ds
      → next + total (sizes fs) ≡ first + count → s.holding ≡ holding → FollowsFrom holding past next fs ds s ts) →
      Waiting past next s → AreBrought sender next fs → AreFrames format fs → AreWider (canonical_from next fs) ds
      → next + total (sizes fs) ≡ first + count → s.holding ≡ holding
      → (d : Option Frame) → due format s ≡ d → FollowsFrom holding past next fs ds s (Ask ∷ ts)
  poll-by holding ts past next fs ds s ih is sent frames wider end keeps None e =
      rw (poll_answer-is format s None e, polled-is format s None e) (
        subst (λ (h : Holding). Waits first h.hold_back past next (sizes fs)) keeps
            (waits format sender first count fits past next s is fs sent frames end e),
        ih next fs ds s is sent frames wider end keeps,
      )
  poll-by holding ts past next [] ds s ih is sent frames wider end keeps (Some fr) e =
      absurd (omega (
        arith,
        end,
        begin-low past next s is fr e (omega (arith, end)),
        begin-high past next s is fr e (omega (arith, end)),
      ))
  poll-by holding ts past next (f ∷ fs) ds s ih is sent frames wider end keeps (Some fr) e =
      let o : Answers past next s is fr e = answer-is past next s is fr e (f ∷ fs) sent frames end in
      let low : next ≤ first + count = omega (arith, end) in
      let numbers : List ℕ = numbers_of first count past next in
      let all : numbers ≡ [] ++ filter (is_among past) (range_with_len next (total (sizes (f ∷ fs)))) =
      ap (λ (k : ℕ). filter (is_among past) (range_with_len next k)) (omega (arith, end)) in
      rw (answered past next s is fr e (f ∷ fs) sent frames end o, polled-is format s (Some fr) e) (
        subst (λ (h : Holding). MayHandOut first h.hold_back past next (sizes (f ∷ fs))) keeps
            (may-hand-out format sender first count fits past next s is f fs fr sent frames end e),
        subst (λ (h : Holding). HandsOut (hold_back_at first h.hold_back next) past next (sizes (f ∷ fs)) ds o.unit
            (λ n zs es. Follows first count holding past n zs es ts
            (heard format (stream_behind format s (Some fr)) (map (event_of sender) ts)))) keeps
            (hands format sender past next (first + count) numbers (rising past next s is fr e low) fr
            (is-complete past next s is fr e) (is-lowest past next s is fr e) o.unit
            (λ n zs es. Follows first count holding past n zs es ts
            (heard format (stream_behind format s (Some fr)) (map (event_of sender) ts))) o.answers
            (λ n gs es number sends are wide ends closes. ih n gs es (stream_behind format s (Some fr))
            (behind-it past next s is fr e n low number closes) sends are wide ends keeps)
            (first-found past next s is fr e) next (hold_back_at first s.holding.hold_back next)
            (many past next s is fr e) [] next (f ∷ fs) ds all sent frames wider (begin-low past next s is fr e low)
            (omega (arith, end, begin-high past next s is fr e low)) end (omega arith) (omega arith)),
      )

  pub follows-run : (holding : Holding) (ts : List Turn) (all past : List ℕ) (next : ℕ) (fs : List SentFrame)
      (ds : List Canonical) (s : Stream) → HaveOneGreatest all past → IsSane first count all ts → Waiting past next s
      → AreBrought sender next fs → AreFrames format fs
      → AreWider (canonical_from next fs) ds → next + total (sizes fs) ≡ first + count → s.holding ≡ holding
      → FollowsFrom holding past next fs ds s ts
  follows-run holding [] all past next fs ds s one sane is sent frames wider end keeps = tt
  follows-run holding (Arrive x ∷ ts) all past next fs ds s one sane is sent frames wider end keeps = λ few.
      follows-run holding ts (x ∷ all) (in_time_with past x) next fs ds
      (taken_by s (hearing.number_at s (x % 65536)) (sender x)) (greatest-both all past x one) sane.1
      (arrives format sender first count fits past next s x is (sane-both first count all past x one sane.0)
      (rw keeps few)) sent frames wider end
      (holding-taken format sender first count 0 fits s _ _ ∙ keeps)
  follows-run holding (Ask ∷ ts) all past next fs ds s one sane is sent frames wider end keeps =
      poll-by holding ts past next fs ds s
      (λ next fs ds s. follows-run holding ts all past next fs ds s one sane) is sent frames
      wider end keeps (due format s) refl

  nothing-yet : (lo m : ℕ) → filter (is_among []) (range_with_len lo m) ≡ []
  nothing-yet lo zero = refl
  nothing-yet lo (suc m) = nothing-yet (lo + 1) m

  fresh-waiting : (holding : Holding) → Waiting [] first (fresh holding)
  fresh-waiting holding = record {
    window = tt;
    held = rw (nothing-yet first (first + count - first)) refl;
    cutoff = refl;
    begun = λ h. absurd (h refl);
    closed = refl;
    from_first = omega arith;
  }

pub nothing-withheld : (format : Format) (holding : Holding) (first : ℕ) (ss : List SentSample) (turns : List Turn)
    → AreSentAs format ss → first + length (packets_of ss) ≤ 2 ^ 62 → IsSane first (length (packets_of ss)) [] turns →
    Follows first (length (packets_of ss)) holding [] first (frame_sizes format ss) (canonical_units first ss) turns
    (heard format (fresh holding) (map (event_of (numbered first (datagrams ss))) turns))
nothing-withheld format holding first ss turns sent fits sane =
    let of : HaveFrames format ss = frames-of format ss sent in
    let count : ℕ = total (sizes of.frames) in
    let count-eq : count ≡ length (packets_of ss) = count-is format ss sent in
    let small : first + count ≤ 2 ^ 62 = omega (arith, count-eq) in
    let run : Follows first count holding [] first (sizes of.frames) (canonical_units first ss) turns
    (heard format (fresh holding) (map (event_of (sender_of first of.frames)) turns)) =
    follows-run format (sender_of first of.frames) first count small holding turns [] [] first of.frames
    (canonical_units first ss) (fresh holding) tt
    (subst (λ (n : ℕ). IsSane first n [] turns) (sym count-eq) sane)
    (fresh-waiting format (sender_of first of.frames) first count small holding) (sender-brings first of.frames) of.are
    (of.wider first) refl refl in
    subst (λ (cs : List Content). Follows first (length (packets_of ss)) holding [] first (frame_sizes format ss)
    (canonical_units first ss) turns (heard format (fresh holding) (map (event_of (numbered first cs)) turns)))
    of.brought
    (subst₂ (λ (n : ℕ) (zs : List ℕ). Follows first n holding [] first zs (canonical_units first ss) turns
    (heard format (fresh holding) (map (event_of (sender_of first of.frames)) turns))) count-eq
    (sizes-are format ss sent) run)
