-- A whole run in which every frame comes in time.
use Rattle.std.proofs.Common.{◌≡◌, ◌≢◌, ℕ, suc, ◌+◌, ◌-◌, ◌%◌, ◌^◌, ◌<◌, ◌≤◌, refl, sym, ◌∙◌, ap, ap₂, subst}
use Rattle.std.proofs.Common.{arith, Bool, true, false, List, [], ◌∷◌, ◌++◌, length, map, get_or, true≢false}
use Rattle.std.proofs.Common.{inl, inr}
use Rattle.std.specs.Prelude.{Option, None, Some, Ok, filter, if◌then◌else◌, ◌==◌}
use Rattle.std.specs.List.{range_with_len}
use Rattle.payload_core_base.specs.Format.{Format}
use Rattle.payload_core_buffer.specs.Buffered.{Holding}
use Rattle.payload_core_buffer.specs.Frames.{complete_frames, due_frame, due_of}
use Rattle.payload_core_buffer.specs.Frames.{lowest_of}
use Rattle.payload_core_buffer.specs.Packets.{Packet}
use Rattle.payload_core_buffer.specs.Steps.{Answer, MediaUnit}
use Rattle.payload_core_buffer.specs.declared.frame.Frame.{Frame}
use Rattle.rtp_media_schedules.specs.Hearing as hearing
use Rattle.rtp_media_schedules.specs.Hearing.{Content, Stream, due, fresh, heard, poll_answer, polled, stream_behind}
use Rattle.rtp_media_schedules.specs.Hearing.{taken_by}
use Rattle.rtp_media_schedules.specs.InTime.{IsInTime, TimedAnswer, ended_frames}
use Rattle.rtp_media_schedules.specs.InTime.{hold_back_at, timed_answer, when_come}
use Rattle.rtp_media_schedules.specs.Orders.{first_size, has_come}
use Rattle.rtp_media_schedules.specs.SentSamples.{timed}
use Rattle.rtp_media_schedules.specs.Samples.{whole_unit}
use Rattle.rtp_media_schedules.specs.Sending.{AreFrames, Canonical, SentFrame, canonical, canonical_from, sender_of}
use Rattle.rtp_media_schedules.specs.Sending.{sizes, total, whole}
use Rattle.rtp_media_schedules.specs.Turns.{Turn, Arrive, Ask, Sender, event_of, is_among}
use Rattle.rtp_media_schedules.proofs.Located.{AreBrought}
use Rattle.rtp_media_schedules.proofs.Places.{eqb-yes, packet}
use Rattle.rtp_media_schedules.proofs.Ready.{Misses, Rises-filter, filter-missing, filter-passes, front}
use Rattle.rtp_media_schedules.proofs.Ready.{misses, none-due-of}
use Rattle.rtp_media_schedules.proofs.Sane.{CutoffIs, poll_answer-is, polled-is, sender-brings}
use Rattle.rtp_media_schedules.proofs.Tame.{IsReached, after-next, answer-next, arrives, due-ended, due-next}
use Rattle.rtp_media_schedules.proofs.Tame.{fresh-reached, holding-taken, numbers_of, unit-next, whole-next}
use Rattle.rtp_media_schedules.proofs.EndedFrames.{few-complete}

pub hold_back-first : (first hold_back next : ℕ) → next ≡ first → hold_back_at first hold_back next ≡ 0
hold_back-first first hold_back next e = rw (eqb-yes next first e) refl

pub hold_back-most : (first hold_back next : ℕ) → hold_back_at first hold_back next ≤ hold_back
hold_back-most first hold_back next = elim (next == first) as (λ b. (if b then 0 else hold_back) ≤ hold_back)
    [ true ↦ omega arith | false ↦ omega arith ]

pub none-complete : (format : Format) (hold_back : ℕ) (ps : List Packet) (cutoff : Option ℕ) (found : List Frame)
    → length found ≤ 0 → due_of cutoff hold_back ps (lowest_of found) (length found) ≡ None
none-complete format hold_back ps cutoff [] few = refl
none-complete format hold_back ps cutoff (f ∷ fs) few = absurd (omega arith)

module _ (format : Format) (sender : Sender) (first count opening : ℕ) (fits : first + count ≤ 2 ^ 62) where
  abbrev Reached : List ℕ → ℕ → List ℕ → Stream → Type 0
  Reached past next left s = IsReached format sender first count opening fits past next left s

  -- a poll if a packet of the next frame is missing, and no more frames ended than are waited for
  module _ (past : List ℕ) (next : ℕ) (f : SentFrame) (fs : List SentFrame) (s : Stream)
      (held-is : s.held ≡ map (packet sender) (numbers_of first count past next))
      (cutoff-is : CutoffIs first next s.cutoff) (sent : AreBrought sender next (f ∷ fs))
      (frames : AreFrames format (f ∷ fs))
      (same_end : next + total (sizes (f ∷ fs)) ≡ first + count)
      (few : ended_frames past next (sizes (f ∷ fs)) ≤ hold_back_at first s.holding.hold_back next)
      (lacks : has_come past next (length f.packets) ≡ false) where
    abbrev miss : Misses (is_among past) next (length f.packets)
    miss = misses (is_among past) next (length f.packets) lacks

    abbrev below_it : ℕ
    below_it = miss.number - next

    abbrev above_it : ℕ
    above_it = first + count - (miss.number + 1)

    abbrev lower : List ℕ
    lower = filter (is_among past) (range_with_len next below_it)

    abbrev upper : List ℕ
    upper = filter (is_among past) (range_with_len (next + below_it + 1) above_it)

    abbrev both_sides : ℕ
    both_sides = below_it + suc above_it

    abbrev those : List Packet
    those = map (packet sender) (lower ++ upper)

    parts-of : filter (is_among past) (range_with_len next both_sides) ≡ lower ++ upper
    parts-of = let e : next + below_it ≡ miss.number = omega (arith, miss.low) in
        filter-missing (is_among past) next below_it above_it (ap (is_among past) e ∙ miss.missing)

    held-parts : s.held ≡ those
    held-parts =
        let n : first + count - next ≡ both_sides = omega (arith, same_end, miss.low, miss.high) in
        held-is ∙ ap (map (packet sender)) (ap (λ k. filter (is_among past) (range_with_len next k)) n ∙ parts-of)

    none-is : (k : ℕ) → k < length (lower ++ upper) → get_or (lower ++ upper) k 0 ≢ miss.number
    none-is k h e =
        let passes : is_among past (get_or (lower ++ upper) k 0) ≡ true =
        subst (λ (xs : List ℕ). (k : ℕ) → k < length xs → is_among past (get_or xs k 0) ≡ true) parts-of
        (filter-passes (is_among past) next both_sides) k h in
        true≢false (sym passes ∙ ap (is_among past) e ∙ miss.missing)

    complete-few : length (complete_frames format those) ≤ hold_back_at first s.holding.hold_back next
    complete-few =
        let n : first + count - next ≡ total (sizes (f ∷ fs)) = omega (arith, same_end) in
        let held : those ≡ map (packet sender) (filter (is_among past) (range_with_len next (total (sizes (f ∷ fs))))) =
        sym held-parts ∙ held-is
        ∙ ap (λ (k : ℕ). map (packet sender) (filter (is_among past) (range_with_len next k))) n in
        omega (arith, few, few-complete format sender past next (f ∷ fs) those sent frames held)

    due-by : (cutoff : Option ℕ) → s.cutoff ≡ cutoff → due_frame format cutoff s.holding.hold_back those ≡ None
    due-by None e =
        let begins : next ≡ first = subst (CutoffIs first next) e cutoff-is in
        none-complete format s.holding.hold_back those None (complete_frames format those)
        (omega (arith, complete-few, hold_back-first first s.holding.hold_back next begins))
    due-by (Some c) e =
        let behind : c + 1 ≡ next = subst (CutoffIs first next) e cutoff-is in
        none-due-of format sender next f sent.0 frames.0 miss.number miss.low miss.high lower upper
        (Rises-filter (is_among past) next below_it miss.number (omega (arith, miss.low))) none-is c
        s.holding.hold_back behind
        (omega (arith, complete-few, hold_back-most first s.holding.hold_back next))

    pub due-waits : due format s ≡ None
    unfolding due
    due-waits = ap (λ (ps : List Packet). due_frame format s.cutoff s.holding.hold_back ps) held-parts
        ∙ due-by s.cutoff refl

  abbrev pub Prompt : List ℕ → ℕ → List SentFrame → Stream → List Turn → Type 0
  Prompt past next fs s ts = map timed_answer (heard format s (map (event_of sender) ts))
      ≡ when_come past next (sizes fs) (map whole_unit (canonical_from next fs)) ts

  timed-next : (c : Canonical) (u : MediaUnit) (a : Answer) → a ≡ Ok (Some u) → u ≡ whole c u.extra
      → timed_answer a ≡ Ok (Some (whole_unit c))
  timed-next c u a e is = ap timed_answer e ∙ ap (λ (v : MediaUnit). Ok (Some (timed v.time v.values v.bytes))) is

  -- a poll, by whether the next frame came
  poll-by : (past : List ℕ) (next : ℕ) (f : SentFrame) (fs : List SentFrame) (s : Stream) (holding : Holding)
      (ts : List Turn) →
      ((next : ℕ) (fs : List SentFrame) (s : Stream) → Reached past next (sizes fs) s → AreBrought sender next fs
      → AreFrames format fs → next + total (sizes fs) ≡ first + count → s.holding ≡ holding →
      IsInTime first count holding past next (sizes fs) ts → Prompt past next fs s ts) →
      Reached past next (sizes (f ∷ fs)) s → AreBrought sender next (f ∷ fs) → AreFrames format (f ∷ fs)
      → next + total (sizes (f ∷ fs)) ≡ first + count → s.holding ≡ holding →
      IsInTime first count holding past next (sizes (f ∷ fs)) (Ask ∷ ts) →
      (b : Bool) → has_come past next (length f.packets) ≡ b → Prompt past next (f ∷ fs) s (Ask ∷ ts)
  poll-by past next f fs s holding ts ih is sent frames same_end keeps timely true e =
      let size : ℕ = length f.packets in
      let due-it : due format s ≡ Some (front size) =
      due-next format sender first count opening fits past next f fs s is sent.0 frames.0 same_end e in
      let after : polled format s ≡ stream_behind format s (Some (front size)) =
      polled-is format s (Some (front size)) due-it in
      let rest : IsInTime first count holding past (next + size) (sizes fs) ts = rw e at timely.1 in
      let more : Prompt past (next + size) fs (stream_behind format s (Some (front size))) ts =
      ih (next + size) fs (stream_behind format s (Some (front size)))
      (after-next format sender first count opening fits past next f fs s is sent.0 frames.0 same_end e) sent.1
      frames.1 (omega (arith, same_end)) keeps rest in
      let here : timed_answer (poll_answer format s) ≡ Ok (Some (whole_unit (canonical next f))) =
      timed-next (canonical next f)
      (unit-next format sender first count opening fits past next f fs s is sent.0 frames.0 same_end e)
      (poll_answer format s)
      (answer-next format sender first count opening fits past next f fs s is sent.0 frames.0 same_end e)
      (whole-next format sender first count opening fits past next f fs s is sent.0 frames.0 same_end e) in
      rw (e, after) (ap₂ (λ (a : TimedAnswer) (os : List TimedAnswer). a ∷ os) here more)
  poll-by past next f fs s holding ts ih is sent frames same_end keeps timely false e =
      let few : ended_frames past next (sizes (f ∷ fs)) ≤ hold_back_at first s.holding.hold_back next =
      elim timely.0 [
        | inl came ↦ absurd (true≢false (sym came ∙ e))
        | inr few ↦ rw keeps few
      ] in
      let none : due format s ≡ None = due-waits past next f fs s is.held is.cutoff sent frames same_end few e in
      let after : polled format s ≡ s = polled-is format s None none in
      let rest : IsInTime first count holding past next (sizes (f ∷ fs)) ts = rw e at timely.1 in
      rw (e, poll_answer-is format s None none, after)
      (ap (λ (os : List TimedAnswer). Ok None ∷ os) (ih next (f ∷ fs) s is sent frames same_end keeps rest))

  pub prompt-run : (holding : Holding) (ts : List Turn) (past : List ℕ) (next : ℕ) (fs : List SentFrame) (s : Stream)
      → Reached past next (sizes fs) s → AreBrought sender next fs → AreFrames format fs → next + total (sizes fs)
      ≡ first + count → s.holding ≡ holding → IsInTime first count holding past next (sizes fs) ts
      → Prompt past next fs s ts
  prompt-run holding [] past next fs s is sent frames same_end keeps timely = refl
  prompt-run holding (Arrive x ∷ ts) past next fs s is sent frames same_end keeps timely =
      prompt-run holding ts (x ∷ past) next fs (taken_by s (hearing.number_at s (x % 65536)) (sender x))
      (arrives format sender first count opening fits past next (sizes fs) s x is timely.0 (rw keeps timely.1)) sent
      frames same_end (holding-taken format sender first count opening fits s _ _ ∙ keeps) timely.2
  prompt-run holding (Ask ∷ ts) past next [] s is sent frames same_end keeps timely =
      let none : due format s ≡ None =
      due-ended format sender first count opening fits past next s is (omega (arith, same_end)) in
      let after : polled format s ≡ s = polled-is format s None none in
      rw (poll_answer-is format s None none, after)
      (ap (λ (os : List TimedAnswer). Ok None ∷ os)
      (prompt-run holding ts past next [] s is sent frames same_end keeps timely.1))
  prompt-run holding (Ask ∷ ts) past next (f ∷ fs) s is sent frames same_end keeps timely =
      poll-by past next f fs s holding ts (λ next fs s. prompt-run holding ts past next fs s) is sent frames
      same_end keeps timely (has_come past next (length f.packets)) refl

-- each poll answers the next unit if all of its datagrams came, and else nothing
pub prompt : (format : Format) (holding : Holding) (first : ℕ) (fs : List SentFrame) (turns : List Turn)
    → AreFrames format fs → first + total (sizes fs) ≤ 2 ^ 62
    → IsInTime first (total (sizes fs)) holding [] first (sizes fs) turns →
    map timed_answer (heard format (fresh holding) (map (event_of (sender_of first fs)) turns))
    ≡ when_come [] first (sizes fs) (map whole_unit (canonical_from first fs)) turns
prompt format holding first fs turns frames fits timely =
    prompt-run format (sender_of first fs) first (total (sizes fs)) (first_size (sizes fs)) fits holding turns []
    first fs (fresh holding)
    (fresh-reached format (sender_of first fs) first (total (sizes fs)) (first_size (sizes fs)) fits holding
    (sizes fs) refl) (sender-brings first fs) frames refl refl timely
