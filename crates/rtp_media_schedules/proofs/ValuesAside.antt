-- A receiver decides nothing by header extension values.
use Rattle.std.proofs.Common.{◌≡◌, ℕ, ◌+◌, ◌-◌, ◌≤◌, Bool, true, false, refl, sym, ◌∙◌, ap, ap₂, subst}
use Rattle.std.proofs.Common.{List, [], ◌∷◌, length, map, drop}
use Rattle.std.specs.Prelude.{Option, Some, None, Ok, if◌then◌else◌}
use Rattle.std.specs.List.{drop-map}
use Rattle.std.proofs.Common.{Ordering, Less, Equal, Greater}
use Rattle.std.specs.Ordering.{match_ordering, nat_cmp}
use Rattle.payload_core_base.specs.Format.{Format, Fragment, Run}
use Rattle.payload_core_buffer.specs.Buffered.{held_with, is_done, limited, pushed}
use Rattle.payload_core_buffer.specs.Frames.{number_at}
use Rattle.payload_core_buffer.specs.Packets.{Packet}
use Rattle.payload_core_buffer.specs.Steps.{Answer, answer_among, run_among}
use Rattle.payload_core_buffer.specs.declared.frame.Frame.{Frame}
use Rattle.rtp_wire.specs.Replay.{Window, is_accepted, recorded_in}
use Rattle.rtp_media_schedules.specs.Bare.{bare, bare_answer, bare_event, bare_packet, bare_stream}
use Rattle.rtp_media_schedules.specs.Hearing.{Comes, Content, Event, Poll, Stream, due, heard, packet_of, poll_answer}
use Rattle.rtp_media_schedules.specs.Hearing.{polled, stream_behind, taken_by}
use Rattle.rtp_media_schedules.specs.Hearing as hearing
use Rattle.rtp_media_schedules.specs.Bare.{AreAside}
use Rattle.rtp_media_schedules.specs.Hearing.{EndsSilent, fresh, handed_out}
use Rattle.rtp_media_schedules.specs.Legal.{IsLegal}
use Rattle.rtp_media_schedules.specs.Orders.{IsSane, IsTame, first_size, left_after, next_after}
use Rattle.rtp_media_schedules.specs.Samples.{AreSentAs, SentSample, canonical_units, datagrams, frame_sizes}
use Rattle.rtp_media_schedules.specs.Samples.{packets_of}
use Rattle.rtp_media_schedules.specs.Samples.{whole_unit}
use Rattle.rtp_media_schedules.specs.Sending.{numbered}
use Rattle.rtp_media_schedules.specs.SentSamples.{timed_unit}
use Rattle.rtp_media_schedules.specs.Turns.{Arrive, Ask, Sender, Turn, event_of}
use Rattle.rtp_media_schedules.proofs.Samples.{exact-samples, legal-samples}
use Rattle.payload_core_buffer.specs.Buffered.{Holding}
use Rattle.std.proofs.Common.{◌++◌, ◌%◌, ◌^◌}
use Rattle.rtp_media_schedules.proofs.BareFrames.{answer-same, due-frame-same, number-same, run-among-same, same-length}

abbrev stream_by : Stream → Option Window → List Packet → Option ℕ → Fragment → Stream
stream_by s window held cutoff fragment = record {
  holding = s.holding;
  window = window;
  held = held;
  cutoff = cutoff;
  fragment = fragment;
}

-- what is held
inserted-by : (o : Ordering) (p q : Packet) (qs rs : List Packet)
    → match_ordering o (bare_packet p ∷ bare_packet q ∷ map bare_packet qs) (bare_packet q ∷ map bare_packet qs)
    (bare_packet q ∷ map bare_packet rs)
    ≡ map bare_packet (match_ordering o (p ∷ q ∷ qs) (q ∷ qs) (q ∷ rs))
inserted-by Less p q qs rs = refl
inserted-by Equal p q qs rs = refl
inserted-by Greater p q qs rs = refl

held-same : (p : Packet) (qs : List Packet) → held_with (bare_packet p) (map bare_packet qs)
    ≡ map bare_packet (held_with p qs)
held-same p [] = refl
held-same p (q ∷ qs) =
    ap (λ (rs : List Packet). match_ordering (nat_cmp p.meta.seq_no q.meta.seq_no)
    (bare_packet p ∷ bare_packet q ∷ map bare_packet qs) (bare_packet q ∷ map bare_packet qs) (bare_packet q ∷ rs))
    (held-same p qs)
    ∙ inserted-by (nat_cmp p.meta.seq_no q.meta.seq_no) p q qs (held_with p qs)

limited-same : (most : ℕ) (ps : List Packet) → limited most (map bare_packet ps) ≡ map bare_packet (limited most ps)
limited-same most ps =
    ap (λ (n : ℕ). drop (n - most) (map bare_packet ps)) (same-length ps) ∙ drop-map bare_packet (length ps - most) ps

pushed-by : (b : Bool) (most : ℕ) (held : List Packet) (p : Packet)
    → (if b then map bare_packet held else limited most (held_with (bare_packet p) (map bare_packet held)))
    ≡ map bare_packet (if b then held else limited most (held_with p held))
pushed-by true most held p = refl
pushed-by false most held p = ap (limited most) (held-same p held) ∙ limited-same most (held_with p held)

taken-by : (b : Bool) (s : Stream) (number : ℕ) (c : Content)
    → (if b then record {
      holding = s.holding;
      window = Some (recorded_in s.window number);
      held = pushed s.holding.held s.cutoff (map bare_packet s.held) (packet_of number (bare c));
      cutoff = s.cutoff;
      fragment = s.fragment;
    } else bare_stream s)
    ≡ bare_stream (if b then record {
      holding = s.holding;
      window = Some (recorded_in s.window number);
      held = pushed s.holding.held s.cutoff s.held (packet_of number c);
      cutoff = s.cutoff;
      fragment = s.fragment;
    } else s)
taken-by true s number c =
    ap (λ (ps : List Packet). stream_by s (Some (recorded_in s.window number)) ps s.cutoff s.fragment)
    (pushed-by (is_done s.cutoff number) s.holding.held s.held (packet_of number c))
taken-by false s number c = refl

taken-same : (s : Stream) (number : ℕ) (c : Content) → taken_by (bare_stream s) number (bare c)
    ≡ bare_stream (taken_by s number c)
taken-same s number c = taken-by (is_accepted s.window number) s number c

-- a poll
due-same : (format : Format) (s : Stream) → due format (bare_stream s) ≡ due format s
unfolding due
due-same format s = due-frame-same format s.held s.cutoff s.holding.hold_back

behind-same : (format : Format) (s : Stream) (f : Option Frame) → stream_behind format (bare_stream s) f
    ≡ bare_stream (stream_behind format s f)
behind-same format s None = refl
behind-same format s (Some f) =
    ap₂ (λ (ps : List Packet) (n : ℕ). stream_by s s.window ps (Some n)
    (run_among format s.fragment (map bare_packet s.held) f).fragment)
    (drop-map bare_packet f.end s.held) (number-same s.held (f.end - 1))
    ∙ ap (λ (r : Run). stream_by s s.window (map bare_packet (drop f.end s.held))
    (Some (number_at s.held (f.end - 1))) r.fragment) (run-among-same format s.fragment s.held f)

polled-same : (format : Format) (s : Stream) → polled format (bare_stream s) ≡ bare_stream (polled format s)
unfolding polled
polled-same format s = ap (stream_behind format (bare_stream s)) (due-same format s)
    ∙ behind-same format s (due format s)

answered-same : (format : Format) (s : Stream) → poll_answer format (bare_stream s) ≡ bare_answer (poll_answer format s)
unfolding poll_answer
answered-same format s =
    ap (answer_among format s.fragment (map bare_packet s.held)) (due-same format s)
    ∙ answer-same format s.fragment s.held (due format s)

-- a whole run
pub heard-same : (format : Format) (s : Stream) (es : List Event) → heard format (bare_stream s) (map bare_event es)
    ≡ map bare_answer (heard format s es)
heard-same format s [] = refl
heard-same format s (Comes low c ∷ es) =
    ap (λ (t : Stream). heard format t (map bare_event es)) (taken-same s (hearing.number_at s low) c)
    ∙ heard-same format (taken_by s (hearing.number_at s low) c) es
heard-same format s (Poll ∷ es) =
    ap₂ (λ (a : Answer) (t : Stream). a ∷ heard format t (map bare_event es)) (answered-same format s)
    (polled-same format s)
    ∙ ap (λ (os : List Answer). bare_answer (poll_answer format s) ∷ os) (heard-same format (polled format s) es)

-- what comes, values aside
module _ (first count : ℕ) (a b : Sender) (alike : AreAside first count a b) where
  pub sane-events : (past : List ℕ) (turns : List Turn) → IsSane first count past turns
      → map bare_event (map (event_of a) turns) ≡ map (event_of b) turns
  sane-events past [] sane = refl
  sane-events past (Arrive x ∷ ts) sane =
      ap₂ (λ (c : Content) (es : List Event). Comes (x % 65536) c ∷ es)
      (alike x sane.0.from_first sane.0.before_end) (sane-events (x ∷ past) ts sane.1)
  sane-events past (Ask ∷ ts) sane = ap (λ (es : List Event). Poll ∷ es) (sane-events past ts sane)

  pub tame-events : (holding : Holding) (opening : ℕ) (past : List ℕ) (next : ℕ) (left : List ℕ) (turns : List Turn)
      → IsTame first count holding opening past next left turns
      → map bare_event (map (event_of a) turns) ≡ map (event_of b) turns
  tame-events holding opening past next left [] tame = refl
  tame-events holding opening past next left (Arrive x ∷ ts) tame =
      ap₂ (λ (c : Content) (es : List Event). Comes (x % 65536) c ∷ es)
      (alike x tame.0.from_first tame.0.before_end)
      (tame-events holding opening (x ∷ past) next left ts tame.2)
  tame-events holding opening past next left (Ask ∷ ts) tame =
      ap (λ (es : List Event). Poll ∷ es)
      (tame-events holding opening past (next_after past next left) (left_after past next left) ts tame.1)

pub silent-same : (os : List Answer) → EndsSilent os → EndsSilent (map bare_answer os)
silent-same [] is = is
silent-same (o ∷ []) is = ap bare_answer is
silent-same (o ∷ p ∷ os) is = silent-same (p ∷ os) is

module _ (format : Format) (holding : Holding) (first : ℕ) (samples : List SentSample) (sender : Sender)
    (turns : List Turn)
    (alike : AreAside first (length (packets_of samples)) sender (numbered first (datagrams samples)))
    (sent : AreSentAs format samples) (fits : first + length (packets_of samples) ≤ 2 ^ 62) where
  pub legal-aside : IsSane first (length (packets_of samples)) [] turns →
      IsLegal (canonical_units first samples)
      (map bare_answer (heard format (fresh holding) (map (event_of sender) turns)))
  legal-aside sane =
      let same : map bare_answer (heard format (fresh holding) (map (event_of sender) turns))
      ≡ heard format (fresh holding) (map (event_of (numbered first (datagrams samples))) turns) =
      sym (heard-same format (fresh holding) (map (event_of sender) turns))
      ∙ ap (heard format (fresh holding))
      (sane-events first (length (packets_of samples)) sender (numbered first (datagrams samples)) alike [] turns
      sane) in
      subst (λ (os : List Answer). IsLegal (canonical_units first samples) os) (sym same)
      (legal-samples format samples sent holding first turns fits sane)

  pub exact-aside :
      IsTame first (length (packets_of samples)) holding (first_size (frame_sizes format samples)) [] first
      (frame_sizes format samples) (turns ++ Ask ∷ []) →
      EndsSilent (heard format (fresh holding) (map (event_of sender) (turns ++ Ask ∷ []))) →
      map timed_unit (handed_out (map bare_answer
      (heard format (fresh holding) (map (event_of sender) (turns ++ Ask ∷ [])))))
      ≡ map (λ c. Ok (whole_unit c)) (canonical_units first samples)
  exact-aside tame silent =
      let same : map bare_answer (heard format (fresh holding) (map (event_of sender) (turns ++ Ask ∷ [])))
      ≡ heard format (fresh holding) (map (event_of (numbered first (datagrams samples))) (turns ++ Ask ∷ [])) =
      sym (heard-same format (fresh holding) (map (event_of sender) (turns ++ Ask ∷ [])))
      ∙ ap (heard format (fresh holding))
      (tame-events first (length (packets_of samples)) sender (numbered first (datagrams samples)) alike holding
      (first_size (frame_sizes format samples)) [] first (frame_sizes format samples) (turns ++ Ask ∷ []) tame) in
      ap (λ (os : List Answer). map timed_unit (handed_out os)) same
      ∙ exact-samples format samples sent holding first turns fits tame
      (subst EndsSilent same
      (silent-same (heard format (fresh holding) (map (event_of sender) (turns ++ Ask ∷ []))) silent))
