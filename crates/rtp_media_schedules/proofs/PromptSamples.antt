-- Samples whose frames come in time, or in order.
use Rattle.std.proofs.Common.{◌≡◌, ℕ, suc, ◌+◌, ◌^◌, ◌<◌, ◌≤◌, refl, sym, ◌∙◌, ap, ap₂, subst, subst₂, arith}
use Rattle.std.proofs.Common.{true≢false, List, [], ◌∷◌, length, map}
use Rattle.std.specs.List.{AllByRecursion}
use Rattle.payload_core_base.specs.Format.{Format}
use Rattle.payload_core_base.specs.Law.{joined}
use Rattle.payload_core_buffer.specs.Buffered.{Holding}
use Rattle.rtp_media_schedules.specs.Hearing.{Content}
use Rattle.rtp_media_schedules.specs.SentSamples.{Timed}
use Rattle.rtp_media_schedules.specs.Turns.{Turn, event_of}
use Rattle.rtp_media_schedules.specs.Hearing.{fresh, heard}
use Rattle.rtp_media_schedules.specs.Orders.{IsTame, first_size}
use Rattle.rtp_media_schedules.specs.Samples.{AreSentAs, SentSample, canonical_units}
use Rattle.rtp_media_schedules.specs.Samples.{datagrams, frame_sizes, packets_of}
use Rattle.rtp_media_schedules.specs.Samples.{whole_unit}
use Rattle.rtp_media_schedules.specs.Sending.{AreFrames, Canonical, SentFrame, canonical_from}
use Rattle.rtp_media_schedules.specs.Sending.{numbered, sizes, total}
use Rattle.rtp_media_schedules.proofs.InTime.{prompt}
use Rattle.rtp_media_schedules.proofs.Rounds.{AreFit, rounds-run}
use Rattle.rtp_media_schedules.specs.InTime.{round_by_round, rounds}
use Rattle.rtp_media_schedules.specs.InTime.{IsInOrder, IsInTime, timed_answer, when_come}
use Rattle.rtp_media_schedules.proofs.InOrder.{in-order-in-time}
use Rattle.rtp_media_schedules.proofs.TameInTime.{tame-in-time}
use Rattle.rtp_media_schedules.proofs.Samples.{AreWider, HaveFrames, count-is, frames-of, sizes-are}

-- units without their numbers
timed-wider : (cs ds : List Canonical) → AreWider cs ds → map whole_unit cs ≡ map whole_unit ds
timed-wider [] [] w = refl
timed-wider [] (d ∷ ds) w = absurd w
timed-wider (c ∷ cs) [] w = absurd w
timed-wider (c ∷ cs) (d ∷ ds) w =
    let here : whole_unit c ≡ whole_unit d =
    λ i. record { time = w.0.time i; values = w.0.values i; bytes = joined (w.0.parts i) } in
    ap₂ (λ (t : Timed) (ts : List Timed). t ∷ ts) here (timed-wider cs ds w.1)

module _ (format : Format) (ss : List SentSample) (sent : AreSentAs format ss) where
  abbrev those : HaveFrames format ss
  those = frames-of format ss sent

  pub prompt-samples : (holding : Holding) (first : ℕ) (turns : List Turn) → first + length (packets_of ss) ≤ 2 ^ 62 →
      IsInTime first (length (packets_of ss)) holding [] first (frame_sizes format ss) turns →
      map timed_answer (heard format (fresh holding) (map (event_of (numbered first (datagrams ss))) turns))
      ≡ when_come [] first (frame_sizes format ss) (map whole_unit (canonical_units first ss)) turns
  prompt-samples holding first turns fits timely =
      let timely' : IsInTime first (total (sizes those.frames)) holding [] first (sizes those.frames) turns =
      subst₂ (λ (n : ℕ) (zs : List ℕ). IsInTime first n holding [] first zs turns)
      (sym (count-is format ss sent)) (sym (sizes-are format ss sent)) timely in
      ap (λ (cs : List Content). map timed_answer (heard format (fresh holding)
      (map (event_of (numbered first cs)) turns))) (sym those.brought)
      ∙ prompt format holding first those.frames turns those.are (omega (arith, count-is format ss sent)) timely'
      ∙ ap₂ (λ (zs : List ℕ) (us : List Timed). when_come [] first zs us turns) (sizes-are format ss sent)
      (timed-wider (canonical_from first those.frames) (canonical_units first ss) (those.wider first))

  pub order-samples : (holding : Holding) (first : ℕ) (turns : List Turn) →
      IsInOrder first (length (packets_of ss)) holding.held [] first (frame_sizes format ss) turns
      → IsInTime first (length (packets_of ss)) holding [] first (frame_sizes format ss) turns
  order-samples holding first turns ordered =
      let are : sizes those.frames ≡ frame_sizes format ss = sizes-are format ss sent in
      subst (λ (zs : List ℕ). IsInTime first (length (packets_of ss)) holding [] first zs turns) are
      (in-order-in-time format first (length (packets_of ss)) holding turns [] first those.frames
      (λ y z came low below. absurd (true≢false (sym came))) (omega arith) those.are
      (subst (λ (zs : List ℕ). IsInOrder first (length (packets_of ss)) holding.held [] first zs turns) (sym are)
      ordered))

  pub tame-samples : (holding : Holding) (first : ℕ) (turns : List Turn) →
      IsTame first (length (packets_of ss)) holding (first_size (frame_sizes format ss)) [] first
      (frame_sizes format ss) turns
      → IsInTime first (length (packets_of ss)) holding [] first (frame_sizes format ss) turns
  tame-samples holding first turns tame =
      let are : sizes those.frames ≡ frame_sizes format ss = sizes-are format ss sent in
      subst (λ (zs : List ℕ). IsInTime first (length (packets_of ss)) holding [] first zs turns) are
      (tame-in-time format first (length (packets_of ss)) (first_size (frame_sizes format ss)) holding turns [] first
      those.frames (λ y z came low far. absurd (true≢false (sym came))) (omega arith)
      (λ e. ap first_size are) those.are (omega (arith, count-is format ss sent))
      (subst (λ (zs : List ℕ). IsTame first (length (packets_of ss)) holding (first_size (frame_sizes format ss)) []
      first zs turns) (sym are) tame))

are-fit : (format : Format) (held : ℕ) (fs : List SentFrame) → AreFrames format fs
    → AllByRecursion (λ z. z ≤ held) (sizes fs) → AreFit held (sizes fs)
are-fit format held [] are fit = tt
are-fit format held (f ∷ fs) are fit = (are.0.not_empty, fit.0, are-fit format held fs are.1 fit.1)

length-canonical : (n : ℕ) (fs : List SentFrame) → length (map whole_unit (canonical_from n fs)) ≡ length (sizes fs)
length-canonical n [] = refl
length-canonical n (f ∷ fs) = ap suc (length-canonical (n + length f.packets) fs)

pub rounds-samples : (format : Format) (holding : Holding) (first count : ℕ) (more : ℕ → ℕ) (ss : List SentSample)
    → AreSentAs format ss → first + length (packets_of ss) ≤ 2 ^ 62 → first < 65536 → count ≤ length (packets_of ss)
    → AllByRecursion (λ z. z ≤ holding.held) (frame_sizes format ss) →
    map timed_answer (heard format (fresh holding)
    (map (event_of (numbered first (datagrams ss))) (rounds more first count)))
    ≡ round_by_round more first first (frame_sizes format ss) (map whole_unit (canonical_units first ss)) count
rounds-samples format holding first count more ss sent fits begins few fit =
    let of : HaveFrames format ss = frames-of format ss sent in
    let sizes-is : sizes of.frames ≡ frame_sizes format ss = sizes-are format ss sent in
    let units-are : map whole_unit (canonical_from first of.frames) ≡ map whole_unit (canonical_units first ss) =
    timed-wider (canonical_from first of.frames) (canonical_units first ss) (of.wider first) in
    let fit' : AllByRecursion (λ z. z ≤ holding.held) (sizes of.frames) =
    subst (λ (zs : List ℕ). AllByRecursion (λ z. z ≤ holding.held) zs) (sym sizes-is) fit in
    let run : IsInOrder first (length (packets_of ss)) holding.held [] first (sizes of.frames) (rounds more first count)
    × (when_come [] first (sizes of.frames) (map whole_unit (canonical_from first of.frames)) (rounds more first count)
    ≡ round_by_round more first first (sizes of.frames) (map whole_unit (canonical_from first of.frames)) count) =
    rounds-run first (length (packets_of ss)) holding.held more (sizes of.frames)
    (map whole_unit (canonical_from first of.frames)) count begins (are-fit format holding.held of.frames of.are fit')
    (count-is format ss sent) few (length-canonical first of.frames) in
    prompt-samples format ss sent holding first (rounds more first count) fits
    (order-samples format ss sent holding first (rounds more first count)
    (subst (λ (zs : List ℕ). IsInOrder first (length (packets_of ss)) holding.held [] first zs
    (rounds more first count)) sizes-is run.0))
    ∙ ap₂ (λ (zs : List ℕ) (us : List Timed). when_come [] first zs us (rounds more first count)) (sym sizes-is)
    (sym units-are)
    ∙ run.1
    ∙ ap₂ (λ (zs : List ℕ) (us : List Timed). round_by_round more first first zs us count) sizes-is units-are
