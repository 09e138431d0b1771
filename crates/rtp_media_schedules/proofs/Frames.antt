-- A complete frame of held packets, of which the first is a sent frame's: it ends with that frame, and gives a
-- final run of its parts.
use Rattle.std.proofs.Common.{◌≡◌, ℕ, zero, suc, ◌+◌, ◌-◌, ◌<◌, ◌≤◌, refl, sym, ◌∙◌, ap, subst, subst₂, arith, true}
use Rattle.std.proofs.Common.{false, List, [], length, map, drop, get_or, inl, inr, true≢false, add-zero, get_or-take}
use Rattle.std.proofs.Common.{get_or-drop, length-drop, ext_get_or}
use Rattle.std.specs.Prelude.{Option, None, Some, Ok}
use Rattle.std.proofs.lemmas.Bool.{cases_lt}
use Rattle.std.proofs.lemmas.List.{get_or-map, length-map, length-take-le}
use Rattle.payload_core_base.specs.Format.{Format, Run, read_all}
use Rattle.payload_core_base.specs.Law as law
use Rattle.payload_core_base.specs.Law.{IsFrameOf, GivesFrom}
use Rattle.payload_core_base.specs.Packing.{MarkedPacket}
use Rattle.payload_core_base.specs.declared.error.PacketError.{PacketError}
use Rattle.payload_core_buffer.specs.Frames.{IsFrame, no_packet, packet_at, packets_between, is_tail_at, number_at}
use Rattle.payload_core_buffer.specs.Frames.{meta_at}
use Rattle.payload_core_buffer.specs.Packets.{Packet, metas_of, payloads_of}
use Rattle.payload_core_buffer.specs.Pops.{no_extra, run_of}
use Rattle.payload_core_buffer.specs.declared.frame.Frame.{Frame}
use Rattle.payload_core_buffer.specs.declared.held.RtpMeta.{RtpMeta}
use Rattle.rtp_media_schedules.specs.Hearing.{content_of, Content}
use Rattle.payload_core_buffer.specs.Steps.{MediaUnit, unit_from}
use Rattle.rtp_media_schedules.specs.Turns.{Sender}
use Rattle.rtp_media_schedules.proofs.Places.{packet}
use Rattle.payload_core_buffer.specs.Steps.{answer_of, answer_by}
use Rattle.rtp_media_schedules.specs.Legal.{IsFinalRunOf}
use Rattle.rtp_media_schedules.specs.Sending.{SentFrame, canonical}
use Rattle.rtp_media_schedules.proofs.Numbers.{packet-at, Rises-behind}
use Rattle.rtp_media_schedules.specs.TrueNumbers.{Rises}

-- the content of a frame's packet
abbrev pub content_at : SentFrame → ℕ → Content
content_at g i = content_of g.time (law.packet_at g.packets i).marker g.values (law.packet_at g.packets i).payload

-- the sender's datagrams from m on bring a frame's packets
abbrev pub Brings : Sender → ℕ → SentFrame → Type 0
Brings sender m g = (i : ℕ) → i < length g.packets → sender (m + i) ≡ content_at g i

-- what a poll gives that hands out a frame
pub record GivesUnit (m a : ℕ) (g : SentFrame) (metas : List RtpMeta) (run : Run) : Type 0 where
  pub unit : MediaUnit
  pub begins : unit.first ≡ a
  pub answer : answer_of metas run ≡ Ok (Some unit)
  pub is_final_run : IsFinalRunOf (canonical m g) unit
  pub to_end : unit.last + 1 ≡ m + length g.packets
  pub from_first : a ≡ m → is_final_run.part ≡ 0
  pub closed : run.fragment ≡ None

module _ (format : Format) (sender : Sender) (m : ℕ) (g : SentFrame) (sent : Brings sender m g)
    (is : IsFrameOf format g.packets g.parts)
    (xs : List ℕ) (f : Frame) (frame : IsFrame format (map (packet sender) xs) f) (low : m ≤ get_or xs f.start 0)
    (high : get_or xs f.start 0 < m + length g.packets) where
  abbrev held : List Packet
  held = map (packet sender) xs

  -- the number of the frame's first packet
  abbrev a : ℕ
  a = get_or xs f.start 0

  abbrev between : List Packet
  between = packets_between held f

  few : f.end ≤ length xs
  few = omega (arith, frame.in_range, length-map xs (packet sender))

  -- the numbers go on one by one
  pub at : (j : ℕ) → f.start + j < f.end → get_or xs (f.start + j) 0 ≡ a + j
  at zero h = rw (add-zero, add-zero) refl
  at (suc j) h =
      let next : f.start + suc j ≡ f.start + j + 1 = omega arith in
      let here : packet_at held (f.start + j) ≡ packet sender (get_or xs (f.start + j) 0) =
      packet-at sender xs (f.start + j) (omega (arith, few)) in
      let there : packet_at held (f.start + j + 1) ≡ packet sender (get_or xs (f.start + j + 1) 0) =
      packet-at sender xs (f.start + j + 1) (omega (arith, few)) in
      let step : number_at held (f.start + j + 1) ≡ number_at held (f.start + j) + 1 =
      frame.consecutive (f.start + j) (omega arith) (omega arith) in
      let rest : get_or xs (f.start + j) 0 ≡ a + j = at j (omega arith) in
      let one : get_or xs (f.start + j + 1) 0 ≡ get_or xs (f.start + j) 0 + 1 =
      sym (ap (λ (p : Packet). p.meta.seq_no) there) ∙ step ∙ ap (λ (p : Packet). p.meta.seq_no + 1) here in
      ap (λ k. get_or xs k 0) next ∙ omega (arith, one, rest)

  here-at : (j : ℕ) → f.start + j < f.end → packet_at held (f.start + j) ≡ packet sender (a + j)
  here-at j h = packet-at sender xs (f.start + j) (omega (arith, few)) ∙ ap (packet sender) (at j h)

  -- which packets are tails
  held-tail : (j : ℕ) → f.start + j < f.end → is_tail_at format held (f.start + j)
      ≡ format.tail (sender (a + j)).marker (sender (a + j)).bytes
  held-tail j h = ap (λ (p : Packet). format.tail p.meta.marker p.payload) (here-at j h)

  sent-tail : (i x : ℕ) → i < length g.packets → x ≡ m + i → format.tail (sender x).marker (sender x).bytes
      ≡ law.is_tail_at format g.packets i
  sent-tail i x h e = ap (λ (c : Content). format.tail c.marker c.bytes) (ap sender e ∙ sent i h)

  both-tails : (i j : ℕ) → f.start + j < f.end → i < length g.packets → a + j ≡ m + i
      → is_tail_at format held (f.start + j) ≡ law.is_tail_at format g.packets i
  both-tails i j h k e = held-tail j h ∙ sent-tail i (a + j) k e

  not-beyond : m + length g.packets < a + (f.end - f.start) → ⊥
  not-beyond h =
      let i : ℕ = length g.packets - 1 in
      let j : ℕ = m + i - a in
      let held_false : is_tail_at format held (f.start + j) ≡ false =
      frame.no_tail_before (f.start + j) (omega arith) (omega arith) in
      let sent_true : law.is_tail_at format g.packets i ≡ true =
      is.last_alone_is_tail.last i (omega (arith, is.not_empty)) in
      true≢false (sym sent_true ∙ sym (both-tails i j (omega arith) (omega (arith, is.not_empty))
      (omega (arith, is.not_empty))) ∙ held_false)

  not-before : a + (f.end - f.start) < m + length g.packets → ⊥
  not-before h =
      let j : ℕ = f.end - f.start - 1 in
      let i : ℕ = a + j - m in
      let held_true : is_tail_at format held (f.start + j) ≡ true =
      frame.tail (f.start + j) (omega (arith, frame.not_empty)) in
      let sent_false : law.is_tail_at format g.packets i ≡ false =
      is.last_alone_is_tail.others i (omega (arith, frame.not_empty)) in
      true≢false (sym held_true ∙ both-tails i j (omega (arith, frame.not_empty)) (omega (arith, frame.not_empty))
      (omega arith) ∙ sent_false)

  -- the frame ends with the sent one
  pub ends : a + (f.end - f.start) ≡ m + length g.packets
  ends = elim (cases_lt (m + length g.packets) (a + (f.end - f.start))) [
    | inl beyond ↦ absurd (not-beyond beyond)
    | inr le ↦ elim (cases_lt (a + (f.end - f.start)) (m + length g.packets))
        [ inl before ↦ absurd (not-before before) | inr ge ↦ omega arith ]
  ]

  length-between : length between ≡ f.end - f.start
  length-between = length-take-le (f.end - f.start) (drop f.start held)
      (omega (arith, length-drop f.start held, length-map xs (packet sender), few))

  between-at : (j : ℕ) → f.start + j < f.end → get_or between j no_packet ≡ packet sender (a + j)
  between-at j h = get_or-take (f.end - f.start) (drop f.start held) j no_packet (omega arith)
      ∙ get_or-drop f.start held j no_packet ∙ here-at j h

  -- how many packets of the sent frame are missing in front
  abbrev missing : ℕ
  missing = a - m

  payload-at : (i : ℕ) → f.start + i < f.end → get_or (payloads_of between) i []
      ≡ get_or (law.payloads_of (drop missing g.packets)) i []
  payload-at i h =
      let lt : i < length between = omega (arith, length-between) in
      let same : a + i ≡ m + (missing + i) = omega arith in
      let inside : missing + i < length g.packets = omega (arith, ends) in
      let more : i < length (drop missing g.packets) = omega (arith, length-drop missing g.packets) in
      get_or-map (λ (p : Packet). p.payload) between i no_packet [] lt
      ∙ ap (λ (p : Packet). p.payload) (between-at i h)
      ∙ ap (λ (c : Content). c.bytes) (ap sender same ∙ sent (missing + i) inside)
      ∙ sym (ap (λ (p : MarkedPacket). p.payload) (get_or-drop missing g.packets i law.no_packet))
      ∙ sym (get_or-map (λ (p : MarkedPacket). p.payload) (drop missing g.packets) i law.no_packet [] more)

  payloads : payloads_of between ≡ law.payloads_of (drop missing g.packets)
  payloads = ext_get_or [] (payloads_of between) (law.payloads_of (drop missing g.packets))
      (omega (
        arith,
        length-map between (λ (p : Packet). p.payload),
        length-map (drop missing g.packets) (λ (p : MarkedPacket). p.payload),
        length-drop missing g.packets,
        length-between,
        ends,
      ))
      (λ i h. payload-at i (omega (arith, h, length-map between (λ (p : Packet). p.payload), length-between)))

  head : format.head (law.packet_at g.packets missing).payload ≡ true
  head =
      let e : f.start + 0 ≡ f.start = omega arith in
      let same : a + 0 ≡ m + missing = omega arith in
      let inside : missing < length g.packets = omega arith in
      let here : packet_at held f.start ≡ packet sender (a + 0) =
      ap (packet_at held) (sym e) ∙ here-at 0 (omega (arith, frame.not_empty)) in
      sym (ap format.head (ap (λ (p : Packet). p.payload) here
      ∙ ap (λ (c : Content). c.bytes) (ap sender same ∙ sent missing inside))) ∙ frame.head

  abbrev run : Run
  run = run_of format None between

  record Gives : Type 0 where
    part : ℕ
    gives : GivesFrom run g.parts part
    from_first : a ≡ m → part ≡ 0

  gives-first : a ≡ m → Gives
  gives-first e =
      let none : missing ≡ 0 = omega arith in
      record {
        part = 0;
        gives = subst (λ (ps : List (List ℕ)). GivesFrom (read_all format None no_extra ps) g.parts 0)
            (sym (payloads ∙ ap (λ k. law.payloads_of (drop k g.packets)) none)) (is.first_gives_all no_extra);
        from_first = λ _. refl;
      }

  gives-later : m < a → Gives
  gives-later h =
      let given = is.heads_give_final_runs missing no_extra (omega arith) head in
      record {
        part = given.0;
        gives = subst (λ (ps : List (List ℕ)). GivesFrom (read_all format None no_extra ps) g.parts given.0)
            (sym payloads) given.1;
        from_first = λ e. absurd (omega arith);
      }

  gives : Gives
  gives = elim (cases_lt m a) [ inl more ↦ gives-later more | inr le ↦ gives-first (omega arith) ]

  meta-of : (j : ℕ) → f.start + j < f.end → meta_at (metas_of between) j ≡ (packet sender (a + j)).meta
  meta-of j h = get_or-map (λ (p : Packet). p.meta) between j no_packet no_packet.meta
      (omega (arith, length-between)) ∙ ap (λ (p : Packet). p.meta) (between-at j h)

  -- what is known of the packet after so many others
  number-of : (j : ℕ) → f.start + j < f.end → (meta_at (metas_of between) j).seq_no ≡ a + j
  number-of j h = ap (λ (r : RtpMeta). r.seq_no) (meta-of j h)

  sent-of : (j : ℕ) → f.start + j < f.end → sender (a + j) ≡ content_at g (missing + j)
  sent-of j h = let same : a + j ≡ m + (missing + j) = omega arith in
      ap sender same ∙ sent (missing + j) (omega (arith, ends))

  time-of : (j : ℕ) → f.start + j < f.end → (meta_at (metas_of between) j).time ≡ g.time
  time-of j h = ap (λ (r : RtpMeta). r.time) (meta-of j h) ∙ ap (λ (c : Content). c.time) (sent-of j h)

  values-of : (j : ℕ) → f.start + j < f.end → (meta_at (metas_of between) j).ext_vals ≡ g.values
  values-of j h = ap (λ (r : RtpMeta). r.ext_vals) (meta-of j h) ∙ ap (λ (c : Content). c.values) (sent-of j h)

  length-metas : length (metas_of between) ≡ f.end - f.start
  length-metas = length-map between (λ (p : Packet). p.meta) ∙ length-between

  begun : f.start + 0 < f.end
  begun = omega (arith, frame.not_empty)

  last_in : f.start + (length (metas_of between) - 1) < f.end
  last_in = omega (arith, frame.not_empty, length-metas)

  -- what a poll answers that hands it out
  pub gives-unit : GivesUnit m a g (metas_of between) run
  gives-unit =
      let last : ℕ = length (metas_of between) - 1 in
      record {
        unit = unit_from (metas_of between) run.written run.extra;
        begins = omega (arith, number-of 0 begun);
        answer = ap (λ (o : Option PacketError). answer_by o (metas_of between) run.written run.extra)
            gives.gives.no_fault;
        is_final_run = record {
          from = omega (arith, number-of 0 begun);
          in_order = omega (arith, number-of 0 begun, number-of last last_in);
          within = omega (arith, number-of last last_in, length-metas, ends, frame.not_empty);
          time = time-of 0 begun;
          values = values-of last last_in;
          part = gives.part;
          some_part = gives.gives.some_part;
          bytes = gives.gives.written;
        };
        to_end = omega (arith, number-of last last_in, length-metas, ends, frame.not_empty);
        from_first = gives.from_first;
        closed = gives.gives.closed;
      }

  -- what it leaves
  pub cutoff-behind : number_at held (f.end - 1) + 1 ≡ m + length g.packets
  cutoff-behind =
      let place : f.end - 1 ≡ f.start + (f.end - 1 - f.start) = omega (arith, frame.not_empty) in
      let here : number_at held (f.start + (f.end - 1 - f.start)) ≡ a + (f.end - 1 - f.start) =
      ap (λ (p : Packet). p.meta.seq_no) (here-at (f.end - 1 - f.start) (omega (arith, frame.not_empty))) in
      let there : number_at held (f.end - 1) ≡ a + (f.end - 1 - f.start) = ap (number_at held) place ∙ here in
      omega (arith, there, ends, frame.not_empty)

  pub rises-behind : (lo hi : ℕ) → Rises lo hi xs → Rises (m + length g.packets) hi (drop f.end xs)
  rises-behind lo hi r =
      let next : suc (f.end - 1) ≡ f.end = omega (arith, frame.not_empty) in
      let place : f.end - 1 ≡ f.start + (f.end - 1 - f.start) = omega (arith, frame.not_empty) in
      let there : get_or xs (f.end - 1) 0 ≡ a + (f.end - 1 - f.start) =
      ap (λ k. get_or xs k 0) place ∙ at (f.end - 1 - f.start) (omega (arith, frame.not_empty)) in
      let number : get_or xs (f.end - 1) 0 + 1 ≡ m + length g.packets = omega (arith, there, ends, frame.not_empty) in
      subst₂ (λ (n k : ℕ). Rises n hi (drop k xs)) number next
      (Rises-behind lo hi (f.end - 1) xs (omega (arith, few, frame.not_empty)) r)
