-- A whole run under a sane schedule, whose polls hold back as many complete frames as each of them says.
use Rattle.std.proofs.Common.{◌≡◌, ℕ, ◌+◌, ◌%◌, ◌^◌, ◌≤◌, refl, sym, ◌∙◌, ap, ap₂, Bool, true, false}
use Rattle.std.proofs.Common.{List, [], ◌∷◌, map}
use Rattle.std.proofs.Common.{length}
use Rattle.std.specs.Prelude.{Option, None, Some, if◌then◌else◌}
use Rattle.payload_core_base.specs.Format.{Format}
use Rattle.payload_core_buffer.specs.Buffered.{Holding, pushed}
use Rattle.payload_core_buffer.specs.declared.frame.Frame.{Frame}
use Rattle.rtp_media_schedules.specs.Hearing as hearing
use Rattle.payload_core_buffer.specs.Steps.{Answer}
use Rattle.rtp_media_schedules.specs.Hearing.{Content, Stream, due, fresh, heard, packet_of, poll_answer}
use Rattle.rtp_media_schedules.specs.Hearing.{polled}
use Rattle.rtp_media_schedules.specs.Hearing.{stream_behind, taken_by}
use Rattle.rtp_wire.specs.Replay.{is_accepted, recorded_in}
use Rattle.rtp_media_schedules.specs.Drains.{HeldTurn, Arrive, AskAt, heard_at, holding_back, turn_at, turn_of}
use Rattle.rtp_media_schedules.specs.Legal.{IsLegal, Ended, Silent}
use Rattle.rtp_media_schedules.specs.Orders.{IsSane}
use Rattle.rtp_media_schedules.specs.Sending.{SentFrame, AreFrames, canonical_from, sender_of, sizes, total}
use Rattle.rtp_media_schedules.specs.Turns as turns
use Rattle.rtp_media_schedules.specs.Turns.{Sender, Turn, event_of}
use Rattle.rtp_media_schedules.proofs.Located.{AreBrought}
use Rattle.rtp_media_schedules.proofs.Sane.{IsHandedOut, IsSound, arrives, fresh-sound, hands-out, poll_answer-is}
use Rattle.rtp_media_schedules.proofs.Sane.{polled-is, sender-brings}

module _ (format : Format) (sender : Sender) (first count : ℕ) (fits : first + count ≤ 2 ^ 62) where
  held-as : (past : List ℕ) (n k : ℕ) (s : Stream) → IsSound format sender first count fits past n s
      → IsSound format sender first count fits past n (holding_back k s)
  held-as past n k s is = record {
    greatest = is.greatest;
    held = is.held;
    cutoff = is.cutoff;
    closed = is.closed;
  }

  -- the answers are legal
  drains-legal : (ts : List HeldTurn) (past : List ℕ) (n : ℕ) (fs : List SentFrame) (s : Stream)
      → IsSound format sender first count fits past n s → AreBrought sender n fs → AreFrames format fs
      → n + total (sizes fs) ≡ first + count → IsSane first count past (map turn_of ts) →
      IsLegal (canonical_from n fs) (heard_at format sender s ts)
  drains-legal [] past n fs s is sent frames same_end sane = Ended
  drains-legal (Arrive x ∷ ts) past n fs s is sent frames same_end sane =
      drains-legal ts (x ∷ past) n fs (taken_by s (hearing.number_at s (x % 65536)) (sender x))
      (arrives format sender first count fits past n s x is sane.0) sent frames same_end sane.1
  drains-legal (AskAt k ∷ ts) past n fs s is sent frames same_end sane =
      go (λ n fs s is sent frames same_end. drains-legal ts past n fs s is sent frames same_end sane)
      (due format (holding_back k s)) refl where
        go : ((n : ℕ) (fs : List SentFrame) (s : Stream) → IsSound format sender first count fits past n s
            → AreBrought sender n fs → AreFrames format fs → n + total (sizes fs) ≡ first + count
            → IsLegal (canonical_from n fs) (heard_at format sender s ts)) →
            (d : Option Frame) → due format (holding_back k s) ≡ d → IsLegal (canonical_from n fs)
            (heard_at format sender s (AskAt k ∷ ts))
        go ih None e = rw (poll_answer-is format (holding_back k s) None e, polled-is format (holding_back k s) None e)
            (Silent (ih n fs (holding_back s.holding.hold_back (holding_back k s))
            (held-as past n s.holding.hold_back (holding_back k s) (held-as past n k s is)) sent frames same_end))
        go ih (Some f) e =
            let step : IsHandedOut format sender first count fits past n fs (holding_back k s) f =
            hands-out format sender first count fits past n fs (holding_back k s) f (held-as past n k s is) sent frames
            same_end e in
            let after : Stream = holding_back s.holding.hold_back (stream_behind format (holding_back k s) (Some f)) in
            rw (
              poll_answer-is format (holding_back k s) (Some f) e,
              polled-is format (holding_back k s)
                  (Some f) e,
              step.answer,
            )
            (step.there.legal step.unit (heard_at format sender after ts)
            step.is_final_run
            (ih (step.there.from + length step.there.frame.packets) step.there.rest after
            (held-as past (step.there.from + length step.there.frame.packets) s.holding.hold_back
            (stream_behind format (holding_back k s) (Some f)) step.sound)
            step.there.sent_rest step.there.frames_rest (step.there.same_end ∙ same_end)))

pub legal-with-drains : (format : Format) (holding : Holding) (first : ℕ) (fs : List SentFrame) (ts : List HeldTurn)
    → AreFrames format fs → first + total (sizes fs) ≤ 2 ^ 62 → IsSane first (total (sizes fs)) [] (map turn_of ts) →
    IsLegal (canonical_from first fs) (heard_at format (sender_of first fs) (fresh holding) ts)
legal-with-drains format holding first fs ts frames fits sane =
    drains-legal format (sender_of first fs) first (total (sizes fs)) fits ts [] first fs (fresh holding)
    (fresh-sound format (sender_of first fs) first (total (sizes fs)) fits holding) (sender-brings first fs)
    frames refl sane

-- A stream holds back what it did, whatever comes and is polled.
taken-keeps : (s : Stream) (number : ℕ) (content : Content) → (taken_by s number content).holding ≡ s.holding
taken-keeps s number content = go (is_accepted s.window number) where
  go : (b : Bool) → (if b then record {
    holding = s.holding;
    window = Some (recorded_in s.window number);
    held = pushed s.holding.held s.cutoff s.held (packet_of number content);
    cutoff = s.cutoff;
    fragment = s.fragment;
  } else s).holding ≡ s.holding
  go true = refl
  go false = refl

polled-keeps : (format : Format) (s : Stream) → (polled format s).holding ≡ s.holding
polled-keeps format s = go (due format s) refl where
  go : (d : Option Frame) → due format s ≡ d → (polled format s).holding ≡ s.holding
  go None e = ap (λ (t : Stream). t.holding) (polled-is format s None e)
  go (Some f) e = ap (λ (t : Stream). t.holding) (polled-is format s (Some f) e)

held-same : (k : ℕ) (s : Stream) → s.holding.hold_back ≡ k → holding_back k s ≡ s
held-same k s e = λ i. record {
  holding = record { hold_back = sym e i; held = s.holding.held };
  window = s.window;
  held = s.held;
  cutoff = s.cutoff;
  fragment = s.fragment;
}

pub same-polls : (format : Format) (sender : Sender) (k : ℕ) (ts : List Turn) (s : Stream) → s.holding.hold_back ≡ k
    → heard_at format sender s (map (turn_at k) ts) ≡ heard format s (map (event_of sender) ts)
same-polls format sender k [] s e = refl
same-polls format sender k (turns.Arrive x ∷ ts) s e =
    same-polls format sender k ts (taken_by s (hearing.number_at s (x % 65536)) (sender x))
    (ap (λ (h : Holding). h.hold_back) (taken-keeps s (hearing.number_at s (x % 65536)) (sender x)) ∙ e)
same-polls format sender k (turns.Ask ∷ ts) s e =
    let same : holding_back k s ≡ s = held-same k s e in
    let behind : holding_back s.holding.hold_back (polled format (holding_back k s)) ≡ polled format s =
    ap (λ (t : Stream). holding_back s.holding.hold_back (polled format t)) same
    ∙ held-same s.holding.hold_back (polled format s) (ap (λ (h : Holding). h.hold_back) (polled-keeps format s)) in
    ap₂ (λ (a : Answer) (os : List Answer). a ∷ os) (ap (poll_answer format) same)
    (ap (λ (t : Stream). heard_at format sender t (map (turn_at k) ts)) behind
    ∙ same-polls format sender k ts (polled format s) (ap (λ (h : Holding). h.hold_back) (polled-keeps format s) ∙ e))
