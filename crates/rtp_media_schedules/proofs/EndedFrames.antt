-- How many frames are complete: at most as many as have ended.
use Rattle.std.proofs.Common.{◌≡◌, ℕ, zero, suc, ◌+◌, ◌-◌, ◌<◌, ◌≤◌, refl, sym, ◌∙◌, ap, ap₂, subst}
use Rattle.std.proofs.Common.{arith, Bool, true, false, cond, List, [], ◌∷◌, ◌++◌, length, map}
use Rattle.std.specs.Prelude.{Option, None, Some, filter, if◌then◌else◌, ◌&&◌}
use Rattle.std.specs.List.{filter_map, range_with_len}
use Rattle.payload_core_base.specs.Format.{Format}
use Rattle.payload_core_base.specs.Law.{IsFrameOf}
use Rattle.payload_core_buffer.specs.Frames.{complete_frames, frame_at, frame_of_run, frames_among}
use Rattle.payload_core_buffer.specs.Frames.{is_tail_at, lowest_of, packet_at, run_start}
use Rattle.payload_core_buffer.specs.Packets.{Packet}
use Rattle.payload_core_buffer.specs.declared.frame.Frame.{Frame}
use Rattle.rtp_media_schedules.specs.Hearing.{Content}
use Rattle.rtp_media_schedules.specs.InTime.{ended_frames}
use Rattle.rtp_media_schedules.specs.Sending.{AreFrames, SentFrame}
use Rattle.rtp_media_schedules.specs.Sending.{sizes, total}
use Rattle.rtp_media_schedules.specs.Turns.{Sender, is_among}
use Rattle.rtp_media_schedules.proofs.Frames.{Brings}
use Rattle.rtp_media_schedules.proofs.Located.{AreBrought}
use Rattle.rtp_media_schedules.proofs.Places.{packet}
use Rattle.rtp_media_schedules.proofs.Tallies.{by-place, by-place-after, first-none, given-few, given-split, tally}
use Rattle.std.proofs.lemmas.List.{length-map}
use Rattle.std.proofs.Common.{length-append}
use Rattle.rtp_media_schedules.proofs.Ready.{few-given}

-- those that came and pass
abbrev both : (ℕ → Bool) → (ℕ → Bool) → ℕ → Bool
both a t y = a y && t y

filtered : (sender : Sender) (a : ℕ → Bool) (t : Packet → Bool) (xs : List ℕ)
    → tally t (map (packet sender) (filter a xs)) ≡ tally (both a (λ y. t (packet sender y))) xs
filtered sender a t [] = refl
filtered sender a t (x ∷ xs) = elim (a x) as
    (λ b. tally t (map (packet sender) (cond b (x ∷ filter a xs) (filter a xs)))
    ≡ cond (b && t (packet sender x)) (1 + tally (both a (λ y. t (packet sender y))) xs)
    (tally (both a (λ y. t (packet sender y))) xs)) [
      | true ↦ ap (λ (n : ℕ). cond (t (packet sender x)) (1 + n) n) (filtered sender a t xs)
      | false ↦ filtered sender a t xs
    ]

cond-plus : (b : Bool) (x y : ℕ) → cond b (1 + (x + y)) (x + y) ≡ cond b (1 + x) x + y
cond-plus true x y = omega arith
cond-plus false x y = refl

split : (q : ℕ → Bool) (m a b : ℕ) → tally q (range_with_len m (a + b)) ≡ tally q (range_with_len m a)
    + tally q (range_with_len (m + a) b)
split q m zero b = let e : m ≡ m + 0 = omega arith in let k : 0 + b ≡ b = omega arith in
    let same : tally q (range_with_len m (0 + b)) ≡ tally q (range_with_len (m + 0) b) =
    ap₂ (λ (x n : ℕ). tally q (range_with_len x n)) e k in omega (arith, same)
split q m (suc a) b =
    let e : m + 1 + a ≡ m + suc a = omega arith in
    let k : suc a + b ≡ suc (a + b) = omega arith in
    let rest : tally q (range_with_len (m + 1) (a + b)) ≡ tally q (range_with_len (m + 1) a)
    + tally q (range_with_len (m + suc a) b) =
    split q (m + 1) a b ∙ ap (λ (x : ℕ). tally q (range_with_len (m + 1) a) + tally q (range_with_len x b)) e in
    ap (λ (n : ℕ). tally q (range_with_len m n)) k
    ∙ ap (λ (n : ℕ). cond (q m) (1 + n) n) rest
    ∙ cond-plus (q m) (tally q (range_with_len (m + 1) a)) (tally q (range_with_len (m + suc a) b))

-- if only the last can pass
last-alone : (q : ℕ → Bool) (m z : ℕ) → ((y : ℕ) → m ≤ y → y + 1 < m + suc z → q y ≡ false)
    → tally q (range_with_len m (suc z)) ≡ cond (q (m + suc z - 1)) 1 0
last-alone q m zero none = let e : m ≡ m + 1 - 1 = omega arith in ap (λ (y : ℕ). cond (q y) 1 0) e
last-alone q m (suc z) none =
    let e : m + 1 + suc z - 1 ≡ m + suc (suc z) - 1 = omega arith in
    let rest : tally q (range_with_len (m + 1) (suc z)) ≡ cond (q (m + 1 + suc z - 1)) 1 0 =
    last-alone q (m + 1) z (λ y a b. none y (omega arith) (omega arith)) in
    ap (λ (b : Bool). cond b (1 + tally q (range_with_len (m + 1) (suc z))) (tally q (range_with_len (m + 1) (suc z))))
    (none m (omega arith) (omega arith))
    ∙ rest ∙ ap (λ (y : ℕ). cond (q y) 1 0) e

bit-both : (a b : Bool) (n : ℕ) → cond (a && b) 1 0 + n ≤ (if a then 1 + n else n)
bit-both true true n = omega arith
bit-both true false n = omega arith
bit-both false b n = omega arith

more-ended : (a : Bool) (n m : ℕ) → n ≤ m → (if a then 1 + n else n) ≤ (if a then 1 + m else m)
more-ended true n m h = omega arith
more-ended false n m h = h

module _ (format : Format) (sender : Sender) (past : List ℕ) where
  abbrev tail : Packet → Bool
  tail p = format.tail p.meta.marker p.payload

  abbrev came_tail : ℕ → Bool
  came_tail = both (is_among past) (λ y. tail (packet sender y))

  and-no : (a b : Bool) → b ≡ false → (a && b) ≡ false
  and-no true b e = e
  and-no false b e = refl

  -- within a frame only its end is a tail
  frame-tails : (m z n : ℕ) (f : SentFrame) → Brings sender m f → IsFrameOf format f.packets f.parts
      → length f.packets ≡ suc z → tally came_tail (range_with_len m (suc z)) + n
      ≤ (if is_among past (m + suc z - 1) then 1 + n else n)
  frame-tails m z n f sent is size =
      let none : (y : ℕ) → m ≤ y → y + 1 < m + suc z → came_tail y ≡ false = λ y a b.
      let e : y ≡ m + (y - m) = omega arith in
      and-no (is_among past y) (tail (packet sender y)) (ap (λ (k : ℕ). tail (packet sender k)) e
      ∙ ap (λ (c : Content). format.tail c.marker c.bytes) (sent (y - m) (omega (arith, size)))
      ∙ is.last_alone_is_tail.others (y - m) (omega (arith, size))) in
      omega (
        arith,
        last-alone came_tail m z none,
        bit-both (is_among past (m + suc z - 1)) (tail (packet sender (m + suc z - 1))) n,
      )

  frames-tails : (m : ℕ) (fs : List SentFrame) → AreBrought sender m fs → AreFrames format fs
      → tally came_tail (range_with_len m (total (sizes fs))) ≤ ended_frames past m (sizes fs)
  frames-tails m [] sent are = omega arith
  frames-tails m (f ∷ fs) sent are =
      go (frames-tails (m + length f.packets) fs sent.1 are.1) (length f.packets) refl where
        go : tally came_tail (range_with_len (m + length f.packets) (total (sizes fs)))
            ≤ ended_frames past (m + length f.packets) (sizes fs) → (n : ℕ) → length f.packets ≡ n →
            tally came_tail (range_with_len m (length f.packets + total (sizes fs)))
            ≤ (if is_among past (m + length f.packets - 1) then 1 + ended_frames past (m + length f.packets) (sizes fs)
            else ended_frames past (m + length f.packets) (sizes fs))
        go ih zero e = absurd (omega (arith, are.0.not_empty))
        go ih (suc z) e =
            let rest : ℕ = tally came_tail (range_with_len (m + length f.packets) (total (sizes fs))) in
            let cut : tally came_tail (range_with_len m (length f.packets + total (sizes fs)))
            ≡ tally came_tail (range_with_len m (length f.packets)) + rest =
            split came_tail m (length f.packets) (total (sizes fs)) in
            let here : tally came_tail (range_with_len m (length f.packets)) + rest
            ≤ (if is_among past (m + length f.packets - 1) then 1 + rest else rest) =
            subst (λ (k : ℕ). tally came_tail (range_with_len m k) + rest
            ≤ (if is_among past (m + k - 1) then 1 + rest else rest)) (sym e)
            (frame-tails m z rest f sent.0 are.0 e) in
            omega (
              arith,
              cut,
              here,
              more-ended (is_among past (m + length f.packets - 1)) rest
                  (ended_frames past (m + length f.packets) (sizes fs)) ih,
            )

  no-tail-none : (ps : List Packet) (k : ℕ) → is_tail_at format ps k ≡ false → frame_at format ps k ≡ None
  no-tail-none ps k e = ap (λ b. frame_of_run b (run_start format ps (k + 1)) (k + 1)) e

  -- no more frames are complete than have ended
  pub few-complete : (m : ℕ) (fs : List SentFrame) (ps : List Packet) → AreBrought sender m fs → AreFrames format fs
      → ps ≡ map (packet sender) (filter (is_among past) (range_with_len m (total (sizes fs))))
      → length (complete_frames format ps) ≤ ended_frames past m (sizes fs)
  unfolding frames_among
  few-complete m fs ps sent are held = omega (
    arith,
    given-few (frame_at format ps) (is_tail_at format ps) (no-tail-none ps) 0 (length ps),
    by-place tail ps,
    ap (tally tail) held,
    filtered sender (is_among past) tail (range_with_len m (total (sizes fs))),
    frames-tails m fs sent are,
  )

  run-ends : (b : Bool) (run : Option ℕ) (end : ℕ) (f : Frame) → frame_of_run b run end ≡ Some f → f.end ≡ end
  run-ends true (Some start) end f e =
      let same : record { start = start; end = end } ≡ f = cc in
      sym (ap (λ (g : Frame). g.end) same)
  run-ends true None end f e = absurd cc
  run-ends false run end f e = absurd cc

  -- if the first one that is complete ends after these numbers, at most those after them
  pub few-after : (ls : List ℕ) (m : ℕ) (fs : List SentFrame) (f : Frame) (ps : List Packet) → AreBrought sender m fs
      → AreFrames format fs
      → ps ≡ map (packet sender) (ls ++ filter (is_among past) (range_with_len m (total (sizes fs))))
      → lowest_of (complete_frames format ps) ≡ Some f → length ls < f.end
      → length (complete_frames format ps) ≤ ended_frames past m (sizes fs)
  unfolding frames_among
  few-after ls m fs f ps sent are held first above =
      let ys : List ℕ = filter (is_among past) (range_with_len m (total (sizes fs))) in
      let long : length ps ≡ length ls + length ys =
      ap length held ∙ length-map (ls ++ ys) (packet sender) ∙ length-append ls ys in
      let none : (j : ℕ) → j < length ls → frame_at format ps j ≡ None = λ j low.
      first-none (frame_at format ps) f 0 (length ps)
      (λ k g e. run-ends (is_tail_at format ps k) (run_start format ps (k + 1)) (k + 1) g e) first j (omega arith)
      (omega (arith, low, above)) in
      let all : length (complete_frames format ps)
      ≡ length (filter_map (frame_at format ps) (range_with_len 0 (length ls + length ys))) =
      ap (λ (n : ℕ). length (filter_map (frame_at format ps) (range_with_len 0 n))) long in
      let start : 0 + length ls ≡ length ls = omega arith in
      let rest : length (filter_map (frame_at format ps) (range_with_len (0 + length ls) (length ys)))
      ≡ length (filter_map (frame_at format ps) (range_with_len (length ls) (length ys))) =
      ap (λ (n : ℕ). length (filter_map (frame_at format ps) (range_with_len n (length ys)))) start in
      omega (
        arith,
        all,
        rest,
        given-split (frame_at format ps) 0 (length ls) (length ys),
        few-given (frame_at format ps) (length ls) 0 (length ls) (λ j a b. none j b),
        given-few (frame_at format ps) (is_tail_at format ps) (no-tail-none ps) (length ls) (length ys),
        ap (λ (qs : List Packet). tally (λ k. tail (packet_at qs k)) (range_with_len (length ls) (length ys))) held,
        by-place-after sender tail ls ys,
        filtered sender (is_among past) tail (range_with_len m (total (sizes fs))),
        frames-tails m fs sent are,
      )
