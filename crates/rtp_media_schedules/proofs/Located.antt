-- The sent frame in which a number is.
use Rattle.std.proofs.Common.{◌≡◌, ℕ, ◌+◌, ◌<◌, ◌≤◌, arith, List, [], ◌∷◌, length, inl, inr}
use Rattle.std.specs.Prelude.{Ok, Some}
use Rattle.std.proofs.lemmas.Bool.{cases_lt}
use Rattle.payload_core_base.specs.Format.{Format}
use Rattle.payload_core_base.specs.Law.{IsFrameOf}
use Rattle.payload_core_buffer.specs.Steps.{MediaUnit}
use Rattle.rtp_media_schedules.specs.Turns.{Sender}
use Rattle.payload_core_buffer.specs.Steps.{Answer}
use Rattle.rtp_media_schedules.specs.Legal.{IsLegal, IsFinalRunOf, PassedOver, HandedOut}
use Rattle.rtp_media_schedules.specs.Sending.{SentFrame, AreFrames, canonical, canonical_from, sizes, total}
use Rattle.rtp_media_schedules.proofs.Frames.{Brings}

-- the sender's datagrams from n on bring these frames
abbrev pub AreBrought : Sender → ℕ → List SentFrame → Type 0
AreBrought sender n [] = Unit {0}
AreBrought sender n (f ∷ fs) = Brings sender n f × AreBrought sender (n + length f.packets) fs

module _ (format : Format) (sender : Sender) where
  -- the frame in which a number is, and those after it
  pub record Located (n : ℕ) (fs : List SentFrame) (a : ℕ) : Type 0 where
    pub from : ℕ
    pub frame : SentFrame
    pub rest : List SentFrame
    pub low : from ≤ a
    pub high : a < from + length frame.packets
    pub sent : Brings sender from frame
    pub is_frame : IsFrameOf format frame.packets frame.parts
    pub sent_rest : AreBrought sender (from + length frame.packets) rest
    pub frames_rest : AreFrames format rest
    pub same_end : from + length frame.packets + total (sizes rest) ≡ n + total (sizes fs)
    -- what is handed out of it, after those before it were passed over
    pub legal : (u : MediaUnit) (os : List Answer) → IsFinalRunOf (canonical from frame) u
        → IsLegal (canonical_from (from + length frame.packets) rest) os
        → IsLegal (canonical_from n fs) (Ok (Some u) ∷ os)

  pub locate : (n : ℕ) (fs : List SentFrame) (a : ℕ) → n ≤ a → a < n + total (sizes fs) → AreBrought sender n fs
      → AreFrames format fs → Located n fs a
  locate n [] a low high sent frames = absurd (omega arith)
  locate n (f ∷ fs) a low high sent frames = elim (cases_lt a (n + length f.packets)) [
    | inl here ↦ record {
      from = n;
      frame = f;
      rest = fs;
      low = low;
      high = here;
      sent = sent.0;
      is_frame = frames.0;
      sent_rest = sent.1;
      frames_rest = frames.1;
      same_end = omega arith;
      legal = λ u os is rest. HandedOut is rest;
    }
    | inr behind ↦
        let there : Located (n + length f.packets) fs a =
        locate (n + length f.packets) fs a behind (omega arith) sent.1 frames.1 in
        record {
          from = there.from;
          frame = there.frame;
          rest = there.rest;
          low = there.low;
          high = there.high;
          sent = there.sent;
          is_frame = there.is_frame;
          sent_rest = there.sent_rest;
          frames_rest = there.frames_rest;
          same_end = omega (arith, there.same_end);
          legal = λ u os is rest. PassedOver (there.legal u os is rest);
        }
  ]
