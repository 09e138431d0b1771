-- Units that are recorded are in the order of their packets.
use Rattle.std.proofs.Common.{◌≡◌, ◌≢◌, ◌<◌, ◌≤◌, ◌-◌, ℕ, zero, suc, List, [], ◌∷◌, ◌++◌, Option, Some, None}
use Rattle.std.proofs.Common.{Ok, Err, length, drop, arith, refl, sym, ap, subst, append_assoc, ◌∙◌, false, true}
use Rattle.std.proofs.Common.{Bool}
use Rattle.std.specs.Prelude.{if◌then◌else◌, nat_lt, ◌||◌}
use Rattle.std.specs.Ordering.{nat_cmp, match_ordering}
use Rattle.std.specs.declared.cmp.Ordering.{Ordering}
use Rattle.std.specs.declared.cmp.Ordering.TheVariants.{Less, Equal, Greater}
use Rattle.std.proofs.lemmas.Bool.Decides.{nat_tests}
use Rattle.payload_core_base.specs.Format.{Format, Fragment, Run}
use Rattle.payload_core_base.specs.declared.error.PacketError.{PacketError}
use Rattle.payload_core_buffer.specs.Buffered.{IsRising, held_with, is_done, limited, pushed}
use Rattle.payload_core_buffer.specs.Frames.{IsFrame, complete_frames, due_frame, due_of, is_next, lowest_of, number_at}
use Rattle.payload_core_buffer.specs.Frames.{packets_between}
use Rattle.payload_core_buffer.specs.Packets.{Packet, metas_of}
use Rattle.payload_core_buffer.specs.Pops.{PopState, pop_state}
use Rattle.payload_core_buffer.specs.Steps.{AnswersBy, MediaUnit, answer_among, answer_by, kept_behind, pop_step}
use Rattle.payload_core_buffer.specs.Steps.{run_among, unit_from}
use Rattle.payload_core_buffer.specs.declared.frame.Frame.{Frame}
use Rattle.payload_core_buffer.specs.declared.held.RtpMeta.{RtpMeta}
use Rattle.payload_core_base.specs.declared.extra.CodecExtra.{CodecExtra}
use Rattle.std.proofs.lemmas.List.{append-nil}
use Rattle.payload_core_buffer.proofs.FrameEnds.{unit-of-frame}
use Rattle.payload_core_buffer.proofs.KeptLemmas.{rising-drop, rising-held_with}
use Rattle.payload_core_buffer.proofs.FrameLemmas.{lowest_is}
use Rattle.stream_recording.specs.Orders.{AreInOrder, Comes, EndLaw, IsRecordingOf, NoMore, RecordingLaw, Records}
use Rattle.stream_recording.specs.Orders.{StepLaw}
use Rattle.stream_recording.specs.Recorded.{AtEnd, Faults, HandsOut, NoneDue, Outcome, Takes, TakesDue}
use Rattle.stream_recording.specs.Recorded.{TakesFrom, Waiting, has_begun}

-- packets above what is done with
abbrev pub AreAbove : Option ℕ → List Packet → Type 0
AreAbove cutoff [] = Unit {0}
AreAbove cutoff (p ∷ ps) = (is_done cutoff p.meta.seq_no ≡ false) × AreAbove cutoff ps

-- what is held rises, and is above what is done with
pub record IsSound (s : PopState) : Type 0 where
  pub rising : IsRising s.held
  pub above : AreAbove s.cutoff s.held

above-drop : (cutoff : Option ℕ) (n : ℕ) (ps : List Packet) → AreAbove cutoff ps → AreAbove cutoff (drop n ps)
above-drop cutoff zero ps all = all
above-drop cutoff (suc n) [] all = tt
above-drop cutoff (suc n) (p ∷ ps) all = above-drop cutoff n ps all.1

above-with : (cutoff : Option ℕ) (p : Packet) (ps : List Packet) → is_done cutoff p.meta.seq_no ≡ false
    → AreAbove cutoff ps
    → AreAbove cutoff (held_with p ps)
above-with cutoff p [] own all = (own, tt)
above-with cutoff p (q ∷ qs) own all = go (nat_cmp p.meta.seq_no q.meta.seq_no) (above-with cutoff p qs own all.1)
  where
    go : (o : Ordering) → AreAbove cutoff (held_with p qs)
        → AreAbove cutoff (match_ordering o (p ∷ q ∷ qs) (q ∷ qs) (q ∷ held_with p qs))
    go Less rest = (own, all)
    go Equal rest = all
    go Greater rest = (all.0, rest)

sound-pushed : (most : ℕ) (s : PopState) (p : Packet) → IsSound s
    → IsSound (pop_state (pushed most s.cutoff s.held p) s.cutoff s.fragment)
sound-pushed most s p is = go (is_done s.cutoff p.meta.seq_no) refl where
  go : (b : Bool) → is_done s.cutoff p.meta.seq_no ≡ b
      → IsSound (pop_state (if b then s.held else limited most (held_with p s.held)) s.cutoff s.fragment)
  go true e = record { rising = is.rising; above = is.above }
  go false e = record {
    rising = rising-drop (length (held_with p s.held) - most) (held_with p s.held)
        (rising-held_with p s.held is.rising);
    above = above-drop s.cutoff (length (held_with p s.held) - most) (held_with p s.held)
        (above-with s.cutoff p s.held e is.above);
  }

-- numbers by their places
above-at : (cutoff : Option ℕ) (ps : List Packet) (k : ℕ) → AreAbove cutoff ps → k < length ps
    → is_done cutoff (number_at ps k) ≡ false
above-at cutoff [] k all lt = absurd (omega (arith, lt))
above-at cutoff (p ∷ ps) zero all lt = all.0
above-at cutoff (p ∷ ps) (suc k) all lt = above-at cutoff ps k all.1 (omega (arith, lt))

rest-rises : (p : Packet) (ps : List Packet) → IsRising (p ∷ ps) → IsRising ps
rest-rises p [] r = tt
rest-rises p (q ∷ qs) r = r.1

first-least : (p : Packet) (ps : List Packet) → IsRising (p ∷ ps) → (k : ℕ) → k < length (p ∷ ps)
    → p.meta.seq_no ≤ number_at (p ∷ ps) k
first-least p ps r zero lt = omega arith
first-least p [] r (suc k) lt = absurd (omega (arith, lt))
first-least p (q ∷ qs) r (suc k) lt =
    let step : p.meta.seq_no < q.meta.seq_no = r.0 in
    let rest = first-least q qs r.1 k (omega (arith, lt)) in omega (arith, step, rest)

at-most : (ps : List Packet) → IsRising ps → (i j : ℕ) → i ≤ j → j < length ps → number_at ps i ≤ number_at ps j
at-most [] r i j le lt = absurd (omega (arith, lt))
at-most (p ∷ ps) r zero j le lt = first-least p ps r j lt
at-most (p ∷ ps) r (suc i) zero le lt = absurd (omega (arith, le))
at-most (p ∷ ps) r (suc i) (suc j) le lt = at-most ps (rest-rises p ps r) i j (omega (arith, le)) (omega (arith, lt))

not-done : (n x : ℕ) → n < x → is_done (Some n) x ≡ false
not-done n x lt = grind (arith, nat_tests, lt)

above-from : (n : ℕ) (q : Packet) (qs : List Packet) → n < q.meta.seq_no → IsRising (q ∷ qs)
    → AreAbove (Some n) (q ∷ qs)
above-from n q [] lt r = (not-done n q.meta.seq_no lt, tt)
above-from n q (p ∷ ps) lt r =
    let step : q.meta.seq_no < p.meta.seq_no = r.0 in
    (not-done n q.meta.seq_no lt, above-from n p ps (omega (arith, lt, step)) r.1)

above-rest : (p : Packet) (ps : List Packet) → IsRising (p ∷ ps) → AreAbove (Some p.meta.seq_no) ps
above-rest p [] r = tt
above-rest p (q ∷ qs) r = above-from p.meta.seq_no q qs r.0 r.1

-- what follows the first packets is above the last of them
above-behind : (k : ℕ) (ps : List Packet) → IsRising ps → k < length ps
    → AreAbove (Some (number_at ps k)) (drop (suc k) ps)
above-behind k [] r lt = absurd (omega (arith, lt))
above-behind zero (p ∷ ps) r lt = above-rest p ps r
above-behind (suc k) (p ∷ ps) r lt = above-behind k ps (rest-rises p ps r) (omega (arith, lt))

-- what is in order above more is in order above less
weaker : (cutoff more : Option ℕ) (os : List Outcome)
    → ((x : ℕ) → is_done more x ≡ false → is_done cutoff x ≡ false) → AreInOrder more os → AreInOrder cutoff os
weaker cutoff more [] less ordered = tt
weaker cutoff more (Ok u ∷ os) less ordered = (less u.first ordered.0, ordered.1, ordered.2)
weaker cutoff more (Err e ∷ os) less ordered = weaker cutoff more os less ordered

done-less : (cutoff : Option ℕ) (n x : ℕ) → is_done cutoff n ≡ false → is_done (Some n) x ≡ false → is_done cutoff x
    ≡ false
done-less None n x own more = refl
done-less (Some c) n x own more = grind (arith, nat_tests, own, more)

-- the frame that is due is a frame
due-lowest : (cutoff : Option ℕ) (hold_back k : ℕ) (ps : List Packet) (o : Option Frame) (f : Frame)
    → due_of cutoff hold_back ps o k ≡ Some f → o ≡ Some f
due-lowest cutoff hold_back k ps None f e = e
due-lowest cutoff hold_back k ps (Some g) f e = go (is_next cutoff (number_at ps g.start) || nat_lt hold_back k) e where
  go : (b : Bool) → (if b then Some g else None) ≡ Some f → Some g ≡ Some f
  go true e = e
  go false e = cc

due-is : (format : Format) (hold_back : ℕ) (s : PopState) (f : Frame)
    → due_frame format s.cutoff hold_back s.held ≡ Some f → IsFrame format s.held f
due-is format hold_back s f e = lowest_is format s.held f
    (due-lowest s.cutoff hold_back (length (complete_frames format s.held)) s.held
    (lowest_of (complete_frames format s.held)) f e)

-- the state after a frame
module _ (format : Format) (hold_back : ℕ) (s : PopState) (is : IsSound s) (f : Frame) (frame : IsFrame format s.held f)
  where
    last : ℕ
    last = f.end - 1

    sound-behind : IsSound (kept_behind format s (Some f))
    sound-behind =
        let end : suc (f.end - 1) ≡ f.end = omega (arith, frame.not_empty) in
        record {
          rising = rising-drop f.end s.held is.rising;
          above = subst (λ (k : ℕ). AreAbove (Some (number_at s.held (f.end - 1))) (drop k s.held)) end
              (above-behind (f.end - 1) s.held is.rising (omega (arith, frame.not_empty, frame.in_range)));
        }

    above-last : is_done s.cutoff (number_at s.held (f.end - 1)) ≡ false
    above-last = above-at s.cutoff s.held (f.end - 1) is.above (omega (arith, frame.not_empty, frame.in_range))

    -- its unit
    unit-in-order : (u : MediaUnit) (run : Run)
        → u ≡ unit_from (metas_of (packets_between s.held f)) run.written run.extra
        → (is_done s.cutoff u.first ≡ false) × (u.first ≤ u.last) × (u.last ≡ number_at s.held (f.end - 1))
    unit-in-order u run same =
        let whole = same ∙ unit-of-frame format s.held f run.written run.extra frame in
        rw whole (
          above-at s.cutoff s.held f.start is.above (omega (arith, frame.not_empty, frame.in_range)),
          at-most s.held is.rising f.start (f.end - 1) (omega (arith, frame.not_empty))
              (omega (arith, frame.not_empty, frame.in_range)),
          refl,
        )

-- a frame that is due is handed out or can't be read; with none, all stays
some-answer : (o : Option PacketError) (metas : List RtpMeta) (bytes : List ℕ) (extra : CodecExtra)
    → answer_by o metas bytes extra ≢ Ok None
some-answer None metas bytes extra e = cc
some-answer (Some fault) metas bytes extra e = cc

handed : (o : Option PacketError) (metas : List RtpMeta) (bytes : List ℕ) (extra : CodecExtra) (u : MediaUnit)
    → Ok (Some u) ≡ answer_by o metas bytes extra → u ≡ unit_from metas bytes extra
handed None metas bytes extra u e = cc
handed (Some fault) metas bytes extra u e = cc

module _ (format : Format) (hold_back : ℕ) (s t : PopState) (is : IsSound s) where
  -- after a unit
  after-unit : (u : MediaUnit) (os : List Outcome) → AnswersBy (pop_step format hold_back s) t (Some (Ok (Some u)))
      → IsSound t × (AreInOrder t.cutoff os → AreInOrder s.cutoff (Ok u ∷ os))
  after-unit u os one = go (due_frame format s.cutoff hold_back s.held) refl where
    go : (o : Option Frame) → due_frame format s.cutoff hold_back s.held ≡ o
        → IsSound t × (AreInOrder t.cutoff os → AreInOrder s.cutoff (Ok u ∷ os))
    go None e =
        let none : Ok (Some u) ≡ Ok None = one.0 ∙ ap (answer_among format s.fragment s.held) e in absurd (cc)
    go (Some f) e =
        let frame : IsFrame format s.held f = due-is format hold_back s f e in
        let run : Run = run_among format s.fragment s.held f in
        let metas : List RtpMeta = metas_of (packets_between s.held f) in
        let whole : u ≡ unit_from metas run.written run.extra =
        handed run.fault metas run.written run.extra u (one.0 ∙ ap (answer_among format s.fragment s.held) e) in
        let new : t ≡ kept_behind format s (Some f) = one.1 ∙ ap (kept_behind format s) e in
        let told = unit-in-order format hold_back s is f frame u run whole in (
          subst IsSound (sym new) (sound-behind format hold_back s is f frame),
          λ ordered. (
            told.0,
            told.1,
            subst (λ (c : Option ℕ). AreInOrder c os)
                (ap (λ (x : PopState). x.cutoff) new ∙ ap (λ (n : ℕ). let c : Option ℕ = Some n in c) (sym told.2))
                ordered,
          ),
        )

  -- after a frame that can't be read
  after-fault : (fault : PacketError) (os : List Outcome) → AnswersBy (pop_step format hold_back s) t (Some (Err fault))
      → IsSound t × (AreInOrder t.cutoff os → AreInOrder s.cutoff os)
  after-fault fault os one = go (due_frame format s.cutoff hold_back s.held) refl where
    go : (o : Option Frame) → due_frame format s.cutoff hold_back s.held ≡ o
        → IsSound t × (AreInOrder t.cutoff os → AreInOrder s.cutoff os)
    go None e =
        let new : t ≡ s = one.1 ∙ ap (kept_behind format s) e in (
          subst IsSound (sym new) is,
          subst (λ (x : PopState). AreInOrder x.cutoff os → AreInOrder s.cutoff os) (sym new)
              (λ ordered. ordered),
        )
    go (Some f) e =
        let frame : IsFrame format s.held f = due-is format hold_back s f e in
        let new : t ≡ kept_behind format s (Some f) = one.1 ∙ ap (kept_behind format s) e in (
          subst IsSound (sym new) (sound-behind format hold_back s is f frame),
          λ ordered. weaker s.cutoff (Some (number_at s.held (f.end - 1))) os
              (λ x. done-less s.cutoff (number_at s.held (f.end - 1)) x (above-last format hold_back s is f frame))
              (subst (λ (c : Option ℕ). AreInOrder c os) (ap (λ (x : PopState). x.cutoff) new) ordered),
        )

  -- at the end
  after-none : NoneDue (pop_step format hold_back s) s t → t ≡ s
  after-none one = go (due_frame format s.cutoff hold_back s.held) refl where
    go : (o : Option Frame) → due_frame format s.cutoff hold_back s.held ≡ o → t ≡ s
    go None e = one.1 ∙ ap (kept_behind format s) e
    go (Some f) e =
        let run : Run = run_among format s.fragment s.held f in
        absurd (some-answer run.fault (metas_of (packets_between s.held f)) run.written run.extra
        (sym (one.0 ∙ ap (answer_among format s.fragment s.held) e)))

-- the frames that are due, and what follows them
takes-in-order : {format : Format} {hold_back : ℕ} {s t : PopState} {os : List Outcome} (rest : List Outcome)
    → IsSound s → Takes format hold_back NoneDue s os t
    → IsSound t × (AreInOrder t.cutoff rest → AreInOrder s.cutoff (os ++ rest))
takes-in-order {format} {hold_back} rest is (AtEnd {s = s} {t = t} ends) =
    let same : t ≡ s = after-none format hold_back s t is ends in (
      subst IsSound (sym same) is,
      subst (λ (x : PopState). AreInOrder x.cutoff rest → AreInOrder s.cutoff rest) (sym same) (λ ordered. ordered),
    )
takes-in-order {format} {hold_back} rest is (HandsOut {s = s} {m = m} {t = t} {u = u} {os = os} one more) =
    let first = after-unit format hold_back s m is u (os ++ rest) one in
    let after = takes-in-order rest first.0 more in
    (after.0, λ ordered. first.1 (after.1 ordered))
takes-in-order {format} {hold_back} rest is (Faults {s = s} {m = m} {t = t} {e = e} {os = os} one more) =
    let first = after-fault format hold_back s m is e (os ++ rest) one in
    let after = takes-in-order rest first.0 more in
    (after.0, λ ordered. first.1 (after.1 ordered))

-- what a packet makes due, and what follows it
due-in-order : (format : Format) (hold_back : ℕ) (s t : PopState) (os : List Outcome) (b : Bool) (rest : List Outcome)
    → IsSound s → TakesFrom b format hold_back s os t
    → IsSound t × (AreInOrder t.cutoff rest → AreInOrder s.cutoff (os ++ rest))
due-in-order format hold_back s t os false rest is none = (
  subst IsSound (sym none.1) is,
  λ ordered. subst (λ (xs : List Outcome). AreInOrder s.cutoff (xs ++ rest)) (sym none.0)
      (subst (λ (x : PopState). AreInOrder x.cutoff rest) none.1 ordered),
)
due-in-order format hold_back s t os true rest is takes = takes-in-order rest is takes

-- and of packets that come
records-in-order : {format : Format} {waiting : Waiting} {s t : PopState} {ps : List Packet} {os : List Outcome}
    (rest : List Outcome) → IsSound s → Records format waiting s ps os t
    → IsSound t × (AreInOrder t.cutoff rest → AreInOrder s.cutoff (os ++ rest))
records-in-order rest is NoMore = (is, λ ordered. ordered)
records-in-order {format} {waiting} rest is (Comes {s = s} {m = m} {t = t} {p = p} {more = more} os one left) =
    let held = pop_state (pushed waiting.most s.cutoff s.held p) s.cutoff s.fragment in
    let first = due-in-order format waiting.hold_back held m os (has_begun format waiting held) (more ++ rest) (sound-pushed waiting.most s p is) one in
    let after = records-in-order rest first.0 left in (
      after.0,
      λ ordered. subst (λ (xs : List Outcome). AreInOrder s.cutoff xs) (sym (append_assoc os more rest))
          (first.1 (after.1 ordered)),
    )

pub in_order : RecordingLaw
in_order format waiting fragment packets recorded is =
    let begun : IsSound (pop_state [] None fragment) = record { rising = tt; above = tt } in
    let come = records-in-order is.rest begun is.come in
    let left = takes-in-order [] come.0 is.left in
    subst (λ (xs : List Outcome). AreInOrder None xs) (sym is.all)
    (come.1 (subst (λ (xs : List Outcome). AreInOrder is.middle.cutoff xs) (append-nil is.rest) (left.1 tt)))

-- a recording goes on packet by packet, and ends with what is left
went-on : {format : Format} {waiting : Waiting} {s m : PopState} {packets : List Packet} {recorded : List Outcome}
    (t : PopState) (p : Packet) (more : List Outcome) → Records format waiting s packets recorded m
    → TakesDue format waiting (pop_state (pushed waiting.most m.cutoff m.held p) m.cutoff m.fragment) more t
    → Records format waiting s (packets ++ p ∷ []) (recorded ++ more) t
went-on {format} {waiting} t p more (NoMore {s = s}) one =
    subst (λ (xs : List Outcome). Records format waiting s (p ∷ []) xs t) (append-nil more) (Comes more one NoMore)
went-on {format} {waiting} t p more (Comes {s = s} {p = q} {ps = ps} {more = others} os first rest) one
    =
    subst (λ (xs : List Outcome). Records format waiting s (q ∷ ps ++ p ∷ []) xs t)
    (sym (append_assoc os others more)) (Comes os first (went-on t p more rest one))

pub steps : StepLaw
steps format waiting s m t packets p recorded more so one = went-on t p more so one

ended : (format : Format) (waiting : Waiting) (fragment : Fragment) (packets : List Packet) (middle end : PopState)
    (first rest : List Outcome) → Records format waiting (pop_state [] None fragment) packets first middle
    → Takes format 0 NoneDue middle rest end → IsRecordingOf format waiting fragment packets (first ++ rest)
ended format waiting fragment packets middle end first rest come left = record {
  middle = middle;
  end = end;
  first = first;
  rest = rest;
  come = come;
  left = left;
  all = refl;
}

pub ends : EndLaw
ends = ended
