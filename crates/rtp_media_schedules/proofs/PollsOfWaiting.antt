-- What a poll may return of a stream that holds the datagrams that came in time.
use Rattle.std.proofs.Common.{◌≡◌, ◌≢◌, ℕ, ◌+◌, ◌-◌, ◌^◌, ◌≤◌, refl, sym, ◌∙◌, ap}
use Rattle.std.proofs.Common.{arith, Bool, true, false, List, [], ◌∷◌, length, map}
use Rattle.std.proofs.Common.{inl, inr}
use Rattle.std.specs.Prelude.{◌||◌, nat_lt}
use Rattle.std.specs.Prelude.{Option, None, Some, filter, if◌then◌else◌}
use Rattle.std.specs.List.{range_with_len}
use Rattle.std.proofs.lemmas.Bool.Decides.{nat_tests}
use Rattle.std.proofs.lemmas.Bool.{cases_lt}
use Rattle.payload_core_base.specs.Format.{Format}
use Rattle.payload_core_buffer.specs.Frames.{complete_frames, due_frame}
use Rattle.payload_core_buffer.specs.Frames.{due_of, is_next, lowest_of}
use Rattle.payload_core_buffer.specs.Frames.{number_at}
use Rattle.payload_core_buffer.specs.Packets.{Packet}
use Rattle.payload_core_buffer.specs.declared.frame.Frame.{Frame}
use Rattle.rtp_media_schedules.specs.Hearing.{Stream, due}
use Rattle.rtp_media_schedules.specs.InTime.{ended_frames, hold_back_at}
use Rattle.rtp_media_schedules.specs.Losses.{MayHandOut, Waits}
use Rattle.rtp_media_schedules.specs.Orders.{has_come}
use Rattle.rtp_media_schedules.specs.Sending.{AreFrames, SentFrame}
use Rattle.rtp_media_schedules.specs.Sending.{sizes, total}
use Rattle.rtp_media_schedules.specs.Turns.{Sender, is_among}
use Rattle.rtp_media_schedules.proofs.Located.{AreBrought}
use Rattle.rtp_media_schedules.proofs.Places.{eqb-no, packet}
use Rattle.rtp_media_schedules.proofs.Ready.{due-front, filter-come, front}
use Rattle.rtp_media_schedules.proofs.Tame.{next-begins}
use Rattle.rtp_media_schedules.proofs.InTime.{due-waits}
use Rattle.rtp_media_schedules.proofs.Waiting.{IsWaiting}
use Rattle.rtp_media_schedules.proofs.WholeFrames.{whole-complete}

due-none-few : (cutoff : Option ℕ) (hold_back most : ℕ) (ps : List Packet) (found : List Frame)
    → (cutoff ≢ None → hold_back ≤ most) → due_of cutoff hold_back ps (lowest_of found) (length found) ≡ None
    → length found ≤ most
due-none-few cutoff hold_back most ps [] waits e = omega arith
due-none-few None hold_back most ps (f ∷ fs) waits e = absurd cc
due-none-few (Some c) hold_back most ps (f ∷ fs) waits e =
    go (is_next (Some c) (number_at ps f.start) || nat_lt hold_back (length (f ∷ fs))) refl e where
      go : (b : Bool) → (is_next (Some c) (number_at ps f.start) || nat_lt hold_back (length (f ∷ fs))) ≡ b
          → (if b then Some f else None) ≡ None → length (f ∷ fs) ≤ most
      go true h e = absurd cc
      go false h e =
          let some : Some c ≢ None = λ q. cc in
          let few : length (f ∷ fs) ≤ hold_back = grind (arith, nat_tests, h) in
          omega (arith, few, waits some)

module _ (format : Format) (sender : Sender) (first count : ℕ) (fits : first + count ≤ 2 ^ 62) where
  abbrev Waiting : List ℕ → ℕ → Stream → Type 0
  Waiting past next s = IsWaiting format sender first count fits past next s

  module _ (past : List ℕ) (next : ℕ) (s : Stream) (is : Waiting past next s) where
    held-all : (fs : List SentFrame) → next + total (sizes fs) ≡ first + count
        → s.held ≡ map (packet sender) (filter (is_among past) (range_with_len next (total (sizes fs))))
    held-all fs end = let n : first + count - next ≡ total (sizes fs) = omega (arith, end) in
        is.held ∙ ap (λ (k : ℕ). map (packet sender) (filter (is_among past) (range_with_len next k))) n

    hold_back-is : s.cutoff ≢ None → s.holding.hold_back ≤ hold_back_at first s.holding.hold_back next
    hold_back-is h = rw (eqb-no next first (λ e. absurd (omega (arith, e, is.begun h)))) (omega arith)

    -- a poll that finds the next frame whole
    pub due-whole : (f : SentFrame) (fs : List SentFrame) → AreBrought sender next (f ∷ fs) → AreFrames format (f ∷ fs)
        → next + total (sizes (f ∷ fs)) ≡ first + count → has_come past next (length f.packets) ≡ true
        → due format s ≡ Some (front (length f.packets))
    unfolding due
    due-whole f fs sent frames end e =
        let behind : List ℕ = filter (is_among past) (range_with_len (next + length f.packets) (total (sizes fs))) in
        ap (λ (ps : List Packet). due_frame format s.cutoff s.holding.hold_back ps)
        (held-all (f ∷ fs) end ∙ ap (map (packet sender))
        (filter-come (is_among past) next (length f.packets) (total (sizes fs)) e))
        ∙ due-front format sender next f sent.0 frames.0 behind s.cutoff s.holding.hold_back
        (next-begins first next s.cutoff is.cutoff)

    few-found : due format s ≡ None
        → length (complete_frames format s.held) ≤ hold_back_at first s.holding.hold_back next
    unfolding due
    few-found e = due-none-few s.cutoff s.holding.hold_back (hold_back_at first s.holding.hold_back next) s.held
        (complete_frames format s.held) hold_back-is e

    pub waits : (fs : List SentFrame) → AreBrought sender next fs → AreFrames format fs
        → next + total (sizes fs) ≡ first + count → due format s ≡ None
        → Waits first s.holding.hold_back past next (sizes fs)
    waits [] sent frames end none = tt
    waits (f ∷ fs) sent frames end none = (
      go (has_come past next (length f.packets)) refl,
      omega (
        arith,
        few-found none,
        whole-complete format sender past next (f ∷ fs) s.held sent frames (held-all (f ∷ fs) end),
      ),
    ) where
      go : (b : Bool) → has_come past next (length f.packets) ≡ b → has_come past next (length f.packets) ≡ false
      go false e = e
      go true e = let both : None ≡ Some (front (length f.packets)) =
          sym none ∙ due-whole f fs sent frames end e in absurd cc

    pub may-hand-out : (f : SentFrame) (fs : List SentFrame) (fr : Frame) → AreBrought sender next (f ∷ fs)
        → AreFrames format (f ∷ fs) → next + total (sizes (f ∷ fs)) ≡ first + count → due format s ≡ Some fr
        → MayHandOut first s.holding.hold_back past next (sizes (f ∷ fs))
    may-hand-out f fs fr sent frames end some = go (has_come past next (length f.packets)) refl where
      go : (b : Bool) → has_come past next (length f.packets) ≡ b
          → MayHandOut first s.holding.hold_back past next (sizes (f ∷ fs))
      go true e = inl e
      go false e = elim (cases_lt (hold_back_at first s.holding.hold_back next)
          (ended_frames past next (sizes (f ∷ fs)))) [
            | inl less ↦ inr less
            | inr few ↦
                let both : None ≡ Some fr =
                sym (due-waits format sender first count 0 fits past next f fs s is.held is.cutoff sent frames end few
                e) ∙ some in
                absurd cc
          ]
