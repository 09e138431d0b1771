-- Full arrival, and then polls.
use Rattle.std.proofs.Common.{◌≡◌, ℕ, zero, suc, ◌+◌, ◌-◌, ◌^◌, ◌≤◌, refl, sym, ◌∙◌, ap, subst, arith, List, [], ◌∷◌}
use Rattle.std.proofs.Common.{◌++◌, length, map, replicate, inr, append_assoc}
use Rattle.std.specs.List.{range_with_len}
use Rattle.std.specs.Prelude.{Ok}
use Rattle.std.proofs.lemmas.List.Sums.{count_by-le-length}
use Rattle.std.proofs.lemmas.List.FromFn.{length-range_with_len}
use Rattle.payload_core_base.specs.Format.{Format}
use Rattle.payload_core_buffer.specs.Buffered.{Holding}
use Rattle.rtp_media_schedules.specs.Turns.{Turn, Arrive, Ask, AllCame, AreGoodArrivals, event_of, is_among, waiting}
use Rattle.rtp_media_schedules.specs.SentSamples.{timed_unit}
use Rattle.rtp_media_schedules.specs.Hearing.{EndsSilent, fresh, handed_out, heard}
use Rattle.rtp_media_schedules.specs.Orders.{IsTame, first_size, left_after, next_after}
use Rattle.rtp_media_schedules.specs.Samples.{AreSentAs, SentSample, canonical_units, datagrams, frame_sizes}
use Rattle.rtp_media_schedules.specs.Samples.{packets_of, whole_unit}
use Rattle.rtp_media_schedules.specs.Sending.{numbered, sizes, total}
use Rattle.rtp_media_schedules.proofs.Ready.{all-passed}
use Rattle.rtp_media_schedules.proofs.Samples.{HaveFrames, frames-of, count-is, sizes-are, exact-samples}

opening-in : (zs : List ℕ) → first_size zs ≤ total zs
opening-in [] = omega arith
opening-in (z ∷ zs) = omega arith

module _ (first count : ℕ) (holding : Holding) (opening : ℕ) (inside : opening ≤ count) where
  polls-tame : (past : List ℕ) (next : ℕ) (left : List ℕ) (k : ℕ) → AllCame first count past
      → IsTame first count holding opening past next left (replicate k Ask)
  polls-tame past next left zero all = all
  polls-tame past next left (suc k) all = (
    record { begun = all-passed (is_among past) first opening (λ y a b. all y a (omega arith)); held_back = inr all },
    polls-tame past (next_after past next left) (left_after past next left) k all,
  )

  few-waiting : (past : List ℕ) → count ≤ holding.held → waiting first count past first ≤ holding.held
  few-waiting past h = omega (
    arith,
    count_by-le-length (is_among past)
        (range_with_len first (first + count - first)),
    length-range_with_len first (first + count - first),
  )

  arrivals-tame : (k : ℕ) (xs past left : List ℕ) → count ≤ holding.held → AreGoodArrivals first count past xs
      → IsTame first count holding opening past first left (map Arrive xs ++ replicate k Ask)
  arrivals-tame k [] past left h good = polls-tame past first left k good
  arrivals-tame k (x ∷ xs) past left h good =
      (good.0, few-waiting (x ∷ past) h, arrivals-tame k xs (x ∷ past) left h good.1)

one-more : (k : ℕ) → replicate k Ask ++ Ask ∷ [] ≡ replicate (suc k) Ask
one-more zero = refl
one-more (suc k) = ap (λ (ts : List Turn). Ask ∷ ts) (one-more k)

turns-are : (xs : List ℕ) (k : ℕ) → (map Arrive xs ++ replicate k Ask) ++ Ask ∷ [] ≡ map Arrive xs
    ++ replicate (suc k) Ask
turns-are xs k = append_assoc (map Arrive xs) (replicate k Ask) (Ask ∷ [])
    ∙ ap (λ (ts : List Turn). map Arrive xs ++ ts) (one-more k)

pub full-exact : (format : Format) (holding : Holding) (first polls : ℕ) (ss : List SentSample) (arrivals : List ℕ)
    → AreSentAs format ss → first + length (packets_of ss) ≤ 2 ^ 62 → length (packets_of ss) ≤ holding.held →
    AreGoodArrivals first (length (packets_of ss)) [] arrivals →
    EndsSilent (heard format (fresh holding)
    (map (event_of (numbered first (datagrams ss))) (map Arrive arrivals ++ replicate (suc polls) Ask))) →
    map timed_unit (handed_out (heard format (fresh holding)
    (map (event_of (numbered first (datagrams ss))) (map Arrive arrivals ++ replicate (suc polls) Ask))))
    ≡ map (λ c. Ok (whole_unit c)) (canonical_units first ss)
full-exact format holding first polls ss arrivals sent fits few good silent =
    let of : HaveFrames format ss = frames-of format ss sent in
    let count : total (sizes of.frames) ≡ length (packets_of ss) = count-is format ss sent in
    let same : sizes of.frames ≡ frame_sizes format ss = sizes-are format ss sent in
    let inside : first_size (frame_sizes format ss) ≤ length (packets_of ss) =
    subst (λ (zs : List ℕ). first_size zs ≤ length (packets_of ss)) same
    (omega (arith, opening-in (sizes of.frames), count)) in
    let e : (map Arrive arrivals ++ replicate polls Ask) ++ Ask ∷ [] ≡ map Arrive arrivals
    ++ replicate (suc polls) Ask = turns-are arrivals polls in
    let tame : IsTame first (length (packets_of ss)) holding (first_size (frame_sizes format ss)) [] first
    (frame_sizes format ss) (map Arrive arrivals ++ replicate (suc polls) Ask) =
    arrivals-tame first (length (packets_of ss)) holding (first_size (frame_sizes format ss)) inside (suc polls)
    arrivals [] (frame_sizes format ss) few good in
    subst (λ (ts : List Turn). map timed_unit
    (handed_out (heard format (fresh holding) (map (event_of (numbered first (datagrams ss))) ts)))
    ≡ map (λ c. Ok (whole_unit c)) (canonical_units first ss)) e
    (exact-samples format ss sent holding first (map Arrive arrivals ++ replicate polls Ask) fits
    (subst (λ (ts : List Turn). IsTame first (length (packets_of ss)) holding
    (first_size (frame_sizes format ss)) [] first (frame_sizes format ss) ts) (sym e) tame)
    (subst (λ (ts : List Turn). EndsSilent (heard format (fresh holding)
    (map (event_of (numbered first (datagrams ss))) ts))) (sym e) silent))
