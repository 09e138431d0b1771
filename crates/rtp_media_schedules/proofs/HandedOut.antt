-- The frame that a poll hands out, among the numbers that are held.
use Rattle.std.proofs.Common.{◌≡◌, ℕ, ◌+◌, ◌-◌, ◌<◌, ◌≤◌, refl, sym, ◌∙◌, ap, subst}
use Rattle.std.proofs.Common.{arith, Bool, true, false, List, [], ◌∷◌, ◌++◌, length, map, get_or}
use Rattle.std.proofs.Common.{inl, inr, length-append, append_assoc}
use Rattle.std.specs.Prelude.{◌⊎◌}
use Rattle.std.specs.Prelude.{None, Some, Ok, filter}
use Rattle.std.specs.List.{range_with_len}
use Rattle.std.proofs.Math.ListN.{get_or-append}
use Rattle.std.proofs.lemmas.Bool.{cases_lt}
use Rattle.std.proofs.lemmas.List.{get_or-append-add, length-map}
use Rattle.payload_core_base.specs.Format.{Format}
use Rattle.payload_core_base.specs.Law.{IsFrameOf}
use Rattle.payload_core_buffer.specs.CompleteFrames.{IsComplete}
use Rattle.payload_core_buffer.specs.Frames.{IsFrame, complete_frames}
use Rattle.payload_core_buffer.specs.Frames.{lowest_of}
use Rattle.payload_core_buffer.specs.Frames.{number_at}
use Rattle.payload_core_buffer.specs.Frames.{packets_between}
use Rattle.payload_core_buffer.specs.Packets.{Packet, metas_of}
use Rattle.payload_core_buffer.specs.Steps.{MediaUnit, answer_among, run_among}
use Rattle.payload_core_buffer.specs.declared.frame.Frame.{Frame}
use Rattle.payload_core_buffer.proofs.CompleteLemmas.{frames_law}
use Rattle.rtp_media_schedules.specs.InTime.{ended_frames}
use Rattle.rtp_media_schedules.specs.Legal.{IsFinalRunOf}
use Rattle.rtp_media_schedules.specs.Losses.{HandsOut}
use Rattle.rtp_media_schedules.specs.Orders.{has_come}
use Rattle.rtp_media_schedules.specs.Samples.{whole_unit}
use Rattle.rtp_media_schedules.specs.Sending.{AreFrames, Canonical, SentFrame, canonical, canonical_from}
use Rattle.rtp_media_schedules.specs.Sending.{sizes, total}
use Rattle.rtp_media_schedules.specs.SentSamples.{timed}
use Rattle.rtp_media_schedules.specs.TrueNumbers.{Rises}
use Rattle.rtp_media_schedules.specs.Turns.{Sender, is_among}
use Rattle.rtp_media_schedules.proofs.Frames.{Brings, GivesUnit, cutoff-behind, gives-unit}
use Rattle.rtp_media_schedules.proofs.Located.{AreBrought}
use Rattle.rtp_media_schedules.proofs.Numbers.{Rises-below, packet-at}
use Rattle.rtp_media_schedules.proofs.Samples.{AreWider, timed-whole, wider-run}
use Rattle.rtp_media_schedules.proofs.Places.{packet}
use Rattle.rtp_media_schedules.proofs.Ready.{Rises-filter}
use Rattle.rtp_media_schedules.proofs.Tame.{whole-is}
use Rattle.rtp_media_schedules.proofs.RisingNumbers.{apart, filter-split, filter-whole}
use Rattle.rtp_media_schedules.proofs.EndedFrames.{few-after}
use Rattle.rtp_media_schedules.proofs.HeldFrames.{inside, is-frame, number-there}

is-or-below : (i j : ℕ) → i ≤ j → (i ≡ j) ⊎ (i < j)
is-or-below i j h = elim (cases_lt i j) [ inl less ↦ inr less | inr le ↦ inl (omega arith) ]

-- The frame that a poll hands out, among the numbers that are held.
module _ (format : Format) (sender : Sender) (past : List ℕ) (lo hi : ℕ) (xs : List ℕ) (rises : Rises lo hi xs)
    (fr : Frame) (complete : IsComplete format (map (packet sender) xs) fr)
    (lowest : (g : Frame) → IsComplete format (map (packet sender) xs) g → fr.end ≤ g.end) where
  abbrev frame : IsFrame format (map (packet sender) xs) fr
  frame = complete.frame

  abbrev a : ℕ
  a = get_or xs fr.start 0

  within-xs : fr.end ≤ length xs
  within-xs = omega (arith, frame.in_range, length-map xs (packet sender))

  number-is : (k : ℕ) → k < length xs → number_at (map (packet sender) xs) k ≡ get_or xs k 0
  number-is k h = ap (λ (p : Packet). p.meta.seq_no) (packet-at sender xs k h)

  -- a sent frame that is held whole behind others
  module _ (m : ℕ) (f : SentFrame) (sent : Brings sender m f) (is : IsFrameOf format f.packets f.parts)
      (ls ys : List ℕ) (are : xs ≡ ls ++ (range_with_len m (length f.packets) ++ ys)) where
    abbrev span : ℕ
    span = length f.packets

    abbrev spot : Frame
    spot = record { start = length ls; end = length ls + span }

    whole-frame : IsFrame format (map (packet sender) xs) spot
    whole-frame = subst (λ (ns : List ℕ). IsFrame format (map (packet sender) ns) spot) (sym are)
        (is-frame format sender m f sent is ls ys)

    number-spot : (i : ℕ) → i < span → get_or xs (length ls + i) 0 ≡ m + i
    number-spot i h = ap (λ (ns : List ℕ). get_or ns (length ls + i) 0) are
        ∙ number-there format sender m f sent is ls ys i h

    spot-inside : length ls + span ≤ length xs
    spot-inside = subst (λ (ns : List ℕ). length ls + span ≤ length ns) (sym are)
        (inside format sender m f sent is ls ys)

    no-later : fr.end ≤ length ls + span
    no-later =
        let all = frames_law format (map (packet sender) xs) in
        let found = all.every_one spot whole-frame in
        omega (arith, lowest found.0 ((all.just_these found.0).0 found.1), found.2)

    pub not-passed-over : m + span ≤ a → ⊥
    not-passed-over far =
        let last : get_or xs (length ls + (span - 1)) 0 ≡ m + (span - 1) =
        number-spot (span - 1) (omega (arith, is.not_empty)) in
        elim (is-or-below fr.start (length ls + (span - 1)) (omega (arith, no-later, frame.not_empty, is.not_empty))) [
          | inl same ↦ absurd (omega (arith, last, ap (λ (k : ℕ). get_or xs k 0) same, is.not_empty))
          | inr less ↦ absurd (omega (
            arith,
            last,
            apart lo hi fr.start (length ls + (span - 1)) xs rises less (omega (arith, spot-inside, is.not_empty)),
            is.not_empty,
          ))
        ]

    pub starts-whole : (low : m ≤ a) → (high : a < m + span) → a ≡ m
    starts-whole low high =
        let last : get_or xs (length ls + (span - 1)) 0 ≡ m + (span - 1) =
        number-spot (span - 1) (omega (arith, is.not_empty)) in
        let end_is : get_or xs (fr.end - 1) 0 + 1 ≡ m + span =
        omega (
          arith,
          cutoff-behind format sender m f sent is xs fr frame low high,
          number-is (fr.end - 1) (omega (arith, within-xs, frame.not_empty)),
        ) in
        let same_end : spot.end ≡ fr.end = elim (is-or-below (fr.end - 1) (length ls + (span - 1))
        (omega (arith, no-later, is.not_empty))) [
          | inl same ↦ omega (arith, same, is.not_empty, frame.not_empty)
          | inr less ↦ absurd (omega (
            arith,
            last,
            end_is,
            apart lo hi (fr.end - 1) (length ls + (span - 1)) xs rises less (omega (arith, spot-inside, is.not_empty)),
            is.not_empty,
          ))
        ] in
        let before : fr.start ≤ length ls = complete.least_head spot whole-frame same_end in
        let zero-is : length ls + 0 ≡ length ls = omega arith in
        let first : get_or xs (length ls) 0 ≡ m =
        omega (arith, ap (λ (k : ℕ). get_or xs k 0) zero-is, number-spot 0 is.not_empty) in
        elim (is-or-below fr.start (length ls) before) [
          | inl same ↦ ap (λ (k : ℕ). get_or xs k 0) same ∙ first
          | inr less ↦ absurd (omega (
            arith,
            first,
            low,
            apart lo hi fr.start (length ls) xs rises less (omega (arith, spot-inside, is.not_empty)),
          ))
        ]

  module _ (u : MediaUnit) (Rest : ℕ → List ℕ → List Canonical → Type 0)
      (answers : answer_among format None (map (packet sender) xs) (Some fr) ≡ Ok (Some u))
      (goes-on : (n : ℕ) (gs : List SentFrame) (es : List Canonical) → get_or xs (fr.end - 1) 0 + 1 ≡ n
      → AreBrought sender n gs → AreFrames format gs → AreWider (canonical_from n gs) es → n + total (sizes gs) ≡ hi
      → (run_among format None (map (packet sender) xs) fr).fragment ≡ None → Rest n (sizes gs) es)
      (first-found : lowest_of (complete_frames format (map (packet sender) xs)) ≡ Some fr) (next held_back : ℕ)
      (many : next < a → held_back < length (complete_frames format (map (packet sender) xs))) where
    -- the next frame, if the one that is handed out is it or a later one
    module _ (ls : List ℕ) (m : ℕ) (f : SentFrame) (fs : List SentFrame) (d : Canonical) (ds : List Canonical)
        (are : xs ≡ ls ++ filter (is_among past) (range_with_len m (total (sizes (f ∷ fs)))))
        (sent : AreBrought sender m (f ∷ fs)) (frames : AreFrames format (f ∷ fs))
        (wider : AreWider (canonical_from m (f ∷ fs)) (d ∷ ds)) (low : m ≤ a)
        (end : m + total (sizes (f ∷ fs)) ≡ hi) where
      abbrev mine : List ℕ
      mine = filter (is_among past) (range_with_len m (length f.packets))

      abbrev others : List ℕ
      others = filter (is_among past) (range_with_len (m + length f.packets) (total (sizes fs)))

      splits : xs ≡ ls ++ (mine ++ others)
      splits = are ∙ ap (λ (ns : List ℕ). ls ++ ns)
          (filter-split (is_among past) m (length f.packets) (total (sizes fs)))

      next-are : xs ≡ (ls ++ mine) ++ others
      next-are = splits ∙ sym (append_assoc ls mine others)

      whole-are : has_come past m (length f.packets) ≡ true
          → xs ≡ ls ++ (range_with_len m (length f.packets) ++ others)
      whole-are e = splits ∙ ap (λ (ns : List ℕ). ls ++ (ns ++ others))
          (filter-whole (is_among past) m (length f.packets) e)

      lacking-by : m + length f.packets ≤ a → (b : Bool) → has_come past m (length f.packets) ≡ b
          → has_come past m (length f.packets) ≡ false
      lacking-by behind false e = e
      lacking-by behind true e = absurd (not-passed-over m f sent.0 frames.0 ls others (whole-are e) behind)

      first-one : a < m + length f.packets → IsFinalRunOf d u
          × (has_come past m (length f.packets) ≡ true → timed u.time u.values u.bytes ≡ whole_unit d)
          × Rest (m + length f.packets) (sizes fs) ds
      first-one here =
          let given : GivesUnit m a f (metas_of (packets_between (map (packet sender) xs) fr))
          (run_among format None (map (packet sender) xs) fr) =
          gives-unit format sender m f sent.0 frames.0 xs fr frame low here in
          let both : Ok (Some given.unit) ≡ Ok (Some u) = sym given.answer ∙ answers in
          let unit : given.unit ≡ u = cc in
          let end_is : get_or xs (fr.end - 1) 0 + 1 ≡ m + length f.packets =
          omega (
            arith,
            cutoff-behind format sender m f sent.0 frames.0 xs fr frame low here,
            number-is (fr.end - 1) (omega (arith, within-xs, frame.not_empty)),
          ) in (
            wider-run (canonical m f) d u wider.0 (subst (IsFinalRunOf (canonical m f)) unit given.is_final_run),
            λ e. ap (λ (v : MediaUnit). timed v.time v.values v.bytes) (sym unit)
                ∙ timed-whole (canonical m f) d given.unit wider.0
                (whole-is m a f _ _ given (starts-whole m f sent.0 frames.0 ls others (whole-are e) low here)),
            goes-on (m + length f.packets) fs ds end_is sent.1 frames.1 wider.1 (omega (arith, end)) given.closed,
          )

      -- the frame that is handed out begins after those numbers
      after-mine : length ls ≤ fr.start → m + length f.packets ≤ a → length (ls ++ mine) ≤ fr.start
      after-mine place far = elim (cases_lt fr.start (length (ls ++ mine))) [
        | inr le ↦ le
        | inl less ↦
            let i : ℕ = fr.start - length ls in
            let e : length ls + i ≡ fr.start = omega (arith, place) in
            let inner : i < length mine = omega (arith, less, length-append ls mine, place) in
            let number : a ≡ get_or mine i 0 =
            ap (λ (k : ℕ). get_or xs k 0) (sym e)
            ∙ ap (λ (ns : List ℕ). get_or ns (length ls + i) 0) splits
            ∙ get_or-append-add ls (mine ++ others) i 0
            ∙ get_or-append mine others 0 i inner in
            absurd (omega (
              arith,
              number,
              far,
              Rises-below m (m + length f.packets) i mine inner
                  (Rises-filter (is_among past) m (length f.packets) (m + length f.packets) (omega arith)),
            ))
      ]

      -- if it is passed over, more frames after it have ended than are held back
      ended-after : next ≤ m → length ls ≤ fr.start → m + length f.packets ≤ a
          → held_back < ended_frames past (m + length f.packets) (sizes fs)
      ended-after from place far = omega (
        arith,
        many (omega (arith, from, far, frames.0.not_empty)),
        few-after format sender past (ls ++ mine) (m + length f.packets) fs fr (map (packet sender) xs) sent.1 frames.1
            (ap (map (packet sender)) next-are) first-found
            (omega (arith, after-mine place far, frame.not_empty)),
      )

    pub hands : (ls : List ℕ) (m : ℕ) (fs : List SentFrame) (ds : List Canonical)
        → xs ≡ ls ++ filter (is_among past) (range_with_len m (total (sizes fs))) → AreBrought sender m fs
        → AreFrames format fs → AreWider (canonical_from m fs) ds → m ≤ a → a < m + total (sizes fs)
        → m + total (sizes fs) ≡ hi → next ≤ m → length ls ≤ fr.start
        → HandsOut held_back past m (sizes fs) ds u Rest
    hands ls m [] ds are sent frames wider low high end from place = absurd (omega arith)
    hands ls m (f ∷ fs) [] are sent frames wider low high end from place = absurd wider
    hands ls m (f ∷ fs) (d ∷ ds) are sent frames wider low high end from place =
        elim (cases_lt a (m + length f.packets)) [
          | inl here ↦ inl (first-one ls m f fs d ds are sent frames wider low end here)
          | inr far ↦ inr (
            lacking-by ls m f fs d ds are sent frames wider low end far (has_come past m (length f.packets)) refl,
            ended-after ls m f fs d ds are sent frames wider low end from place far,
            hands (ls ++ filter (is_among past) (range_with_len m (length f.packets)))
                (m + length f.packets) fs ds (next-are ls m f fs d ds are sent frames wider low end) sent.1 frames.1
                wider.1 far (omega (arith, high)) (omega (arith, end)) (omega (arith, from))
                (after-mine ls m f fs d ds are sent frames wider low end place far),
          )
        ]
