-- How many frames are complete: at least as many as came whole.
use Rattle.std.proofs.Common.{◌≡◌, ℕ, ◌+◌, ◌-◌, ◌≤◌, refl, sym, ◌∙◌, ap, subst}
use Rattle.std.proofs.Common.{arith, Bool, true, false, List, [], ◌∷◌, ◌++◌, length, map}
use Rattle.std.proofs.Common.{length-append, append_assoc}
use Rattle.std.specs.Prelude.{Option, filter, if◌then◌else◌}
use Rattle.std.specs.List.{filter_map, range_with_len}
use Rattle.std.proofs.lemmas.List.{length-map}
use Rattle.std.proofs.lemmas.List.FromFn.{length-range_with_len}
use Rattle.payload_core_base.specs.Format.{Format}
use Rattle.payload_core_buffer.specs.Frames.{complete_frames, frame_at, frames_among}
use Rattle.payload_core_buffer.specs.Packets.{Packet}
use Rattle.payload_core_buffer.specs.declared.frame.Frame.{Frame}
use Rattle.rtp_media_schedules.specs.Losses.{whole_frames}
use Rattle.rtp_media_schedules.specs.Orders.{has_come}
use Rattle.rtp_media_schedules.specs.Sending.{AreFrames, SentFrame}
use Rattle.rtp_media_schedules.specs.Sending.{sizes, total}
use Rattle.rtp_media_schedules.specs.Turns.{Sender, is_among}
use Rattle.rtp_media_schedules.proofs.Located.{AreBrought}
use Rattle.rtp_media_schedules.proofs.Places.{packet}
use Rattle.rtp_media_schedules.proofs.RisingNumbers.{filter-split, filter-whole}
use Rattle.rtp_media_schedules.proofs.HeldFrames.{found-there}
use Rattle.rtp_media_schedules.proofs.Tallies.{given-one, given-split}

module _ (format : Format) (sender : Sender) (past : List ℕ) where
  abbrev came : ℕ → ℕ → List ℕ
  came m n = filter (is_among past) (range_with_len m n)

  -- one frame more
  module _ (ls : List ℕ) (m : ℕ) (f : SentFrame) (fs : List SentFrame) (ps : List Packet)
      (sent : AreBrought sender m (f ∷ fs)) (are : AreFrames format (f ∷ fs))
      (held : ps ≡ map (packet sender) (ls ++ came m (total (sizes (f ∷ fs))))) where
    abbrev size : ℕ
    size = length f.packets

    abbrev here : List ℕ
    here = came m size

    abbrev rest : List ℕ
    rest = came (m + size) (total (sizes fs))

    abbrev ends-at : ℕ → Option Frame
    ends-at = frame_at format ps

    cut : came m (size + total (sizes fs)) ≡ here ++ rest
    cut = filter-split (is_among past) m size (total (sizes fs))

    held-next : ps ≡ map (packet sender) ((ls ++ here) ++ rest)
    held-next = held ∙ ap (λ (xs : List ℕ). map (packet sender) (ls ++ xs)) cut
        ∙ ap (map (packet sender)) (sym (append_assoc ls here rest))

    lengths : length (came m (size + total (sizes fs))) ≡ length here + length rest
    lengths = ap length cut ∙ length-append here rest

    parts : length (filter_map ends-at (range_with_len (length ls) (length (came m (size + total (sizes fs))))))
        ≡ length (filter_map ends-at (range_with_len (length ls) (length here)))
        + length (filter_map ends-at (range_with_len (length (ls ++ here)) (length rest)))
    parts = ap (λ (n : ℕ). length (filter_map ends-at (range_with_len (length ls) n))) lengths
        ∙ given-split ends-at (length ls) (length here) (length rest)
        ∙ ap (λ (n : ℕ). length (filter_map ends-at (range_with_len (length ls) (length here)))
        + length (filter_map ends-at (range_with_len n (length rest)))) (sym (length-append ls here))

    one : has_come past m size ≡ true → 1 ≤ length (filter_map ends-at (range_with_len (length ls) (length here)))
    one e =
        let all : here ≡ range_with_len m size = filter-whole (is_among past) m size e in
        let held-is : map (packet sender) (ls ++ (range_with_len m size ++ rest)) ≡ ps =
        sym (held ∙ ap (λ (xs : List ℕ). map (packet sender) (ls ++ xs)) (cut
        ∙ ap (λ (xs : List ℕ). xs ++ rest) all)) in
        let found = found-there format sender m f sent.0 are.0 ls rest in
        let long : length here ≡ size = ap length all ∙ length-range_with_len m size in
        given-one ends-at found.0 (length ls + (size - 1)) (length ls) (length here) (omega arith)
        (omega (arith, long, are.0.not_empty))
        (ap (λ (qs : List Packet). frame_at format qs (length ls + (size - 1))) (sym held-is) ∙ found.1)

    one-more : whole_frames past (m + size) (sizes fs)
        ≤ length (filter_map ends-at (range_with_len (length (ls ++ here)) (length rest))) → (b : Bool)
        → has_come past m size ≡ b → (if b then 1 + whole_frames past (m + size) (sizes fs)
        else whole_frames past (m + size) (sizes fs))
        ≤ length (filter_map ends-at (range_with_len (length ls) (length (came m (size + total (sizes fs))))))
    one-more ih true e = omega (arith, ih, parts, one e)
    one-more ih false e = omega (arith, ih, parts)

  -- as many are complete as came whole
  whole-few : (ls : List ℕ) (m : ℕ) (fs : List SentFrame) (ps : List Packet) → AreBrought sender m fs
      → AreFrames format fs → ps ≡ map (packet sender) (ls ++ came m (total (sizes fs)))
      → whole_frames past m (sizes fs)
      ≤ length (filter_map (frame_at format ps) (range_with_len (length ls) (length (came m (total (sizes fs))))))
  whole-few ls m [] ps sent are held = omega arith
  whole-few ls m (f ∷ fs) ps sent are held =
      one-more ls m f fs ps sent are held
      (whole-few (ls ++ came m (length f.packets)) (m + length f.packets) fs ps sent.1 are.1
      (held-next ls m f fs ps sent are held)) (has_come past m (length f.packets)) refl

  pub whole-complete : (m : ℕ) (fs : List SentFrame) (ps : List Packet) → AreBrought sender m fs
      → AreFrames format fs → ps ≡ map (packet sender) (came m (total (sizes fs)))
      → whole_frames past m (sizes fs) ≤ length (complete_frames format ps)
  unfolding frames_among
  whole-complete m fs ps sent are held =
      let long : length (came m (total (sizes fs))) ≡ length ps =
      sym (ap length held ∙ length-map (came m (total (sizes fs))) (packet sender)) in
      subst (λ (n : ℕ). whole_frames past m (sizes fs)
      ≤ length (filter_map (frame_at format ps) (range_with_len 0 n))) long
      (whole-few [] m fs ps sent are held)
