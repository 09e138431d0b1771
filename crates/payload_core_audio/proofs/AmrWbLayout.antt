-- What a packet gives is the frames that it is laid out as.
use Rattle.std.proofs.Common.{◌≡◌, inl, inr, ℕ, zero, suc, ◌+◌, ◌-◌, ◌*◌, ◌<◌, ◌≤◌, ◌==◌, Bool, true, false, List}
use Rattle.std.proofs.Common.{length, take, nat_lt, slice_get, flat_map, Option, Some, None, if◌then◌else◌, refl, sym}
use Rattle.std.proofs.Common.{ap, subst, ◌∙◌, arith, lt-ltb, le-ltb, eqb-true, true≢false}
use Rattle.std.proofs.lemmas.Bool.{cases_lt}
use Rattle.payload_core_audio.specs.AmrWb.{bit_of, entry_place, entry_room, entry_size, first_place, frames_from}
use Rattle.payload_core_audio.specs.AmrWb.{frames_of, frames_up_to, is_last_entry, last_entry}
use Rattle.payload_core_audio.specs.AmrWbLayout.{Frame, IsFrameAt, IsLaidOut, PacketsAreLaidOut, fields_bits}
use Rattle.payload_core_audio.specs.AmrWbLayout.{frame_bytes, speech_place}
use Rattle.payload_core_audio.proofs.AmrWbLemmas.{last_found, next_entry}
use Rattle.payload_core_audio.proofs.AmrWbFrames.{are_read, at_same, each_stands, frames_come, front_fits, stand_by}
use Rattle.payload_core_audio.proofs.AmrWbFrames.{stand_within}

-- what a place that is found tells
record IsFirst (p : ℕ → Bool) (k n m : ℕ) : Type 0 where
  from : k ≤ m
  below : m < k + n
  holds : p m ≡ true
  before : (j : ℕ) → k ≤ j → j < m → p j ≡ false

first_by : (p : ℕ → Bool) (k n m : ℕ) (b : Bool) → p k ≡ b
    → (first_place p (k + 1) n ≡ Some m → IsFirst p (k + 1) n m)
    → (if b then Some k else first_place p (k + 1) n) ≡ Some m → IsFirst p k (suc n) m
first_by p k n m true is later e =
    let same : k ≡ m = cc in
    record {
      from = omega arith;
      below = omega arith;
      holds = ap p (sym same) ∙ is;
      before = λ j from to. absurd (omega arith);
    }
first_by p k n m false is later e =
    let f = later e in
    let from : k + 1 ≤ m = f.from in
    let below : m < k + 1 + n = f.below in
    record {
      from = omega arith;
      below = omega arith;
      holds = f.holds;
      before = λ j least most. before j least most f.before;
    }
  where
    before : (j : ℕ) → k ≤ j → j < m → ((i : ℕ) → k + 1 ≤ i → i < m → p i ≡ false) → p j ≡ false
    before j least most h = elim (cases_lt k j) [
      | inl lt ↦ h j (omega arith) most
      | inr ge ↦ let same : j ≡ k = omega arith in ap p same ∙ is
    ]

is_first : (p : ℕ → Bool) (k n m : ℕ) → first_place p k n ≡ Some m → IsFirst p k n m
is_first p k zero m e = absurd cc
is_first p k (suc n) m e = first_by p k n m (p k) refl (λ later. is_first p (k + 1) n m later) e

-- an entry that is found ends within the packet
entry_within : (o : Bool) (packet : List ℕ) (m : ℕ) → m < entry_room o packet
    → entry_place o (m + 1) ≤ 8 * length packet
entry_within true packet m lt = omega arith
entry_within false packet m lt = omega arith

last_first : (o : Bool) (packet : List ℕ) (m : ℕ) → last_entry o packet ≡ Some m
    → IsFirst (is_last_entry o packet) 0 (entry_room o packet) m
unfolding last_entry
last_first o packet m e = is_first (is_last_entry o packet) 0 (entry_room o packet) m e

-- the F bit that says whether another entry follows
abbrev flag : Bool → ℕ
flag more = if more then 1 else 0

flag_set : (bit k n : ℕ) → bit < 2 → (bit == 0) ≡ false → k + 1 < n → bit ≡ flag (nat_lt (k + 1) n)
flag_set zero k n small e lt = absurd (true≢false e)
flag_set (suc zero) k n small e lt = sym (ap flag (lt-ltb (k + 1) n lt))
flag_set (suc (suc b)) k n small e lt = absurd (omega arith)

flag_clear : (bit k n : ℕ) → (bit == 0) ≡ true → n ≤ k + 1 → bit ≡ flag (nat_lt (k + 1) n)
flag_clear bit k n e le = eqb-true bit 0 e ∙ sym (ap flag (le-ltb (k + 1) n le))

is_set : (bit k n : ℕ) → k + 1 < n → bit ≡ flag (nat_lt (k + 1) n) → (bit == 0) ≡ false
is_set bit k n lt e =
    let one : bit ≡ 1 = e ∙ ap flag (lt-ltb (k + 1) n lt) in
    ap (λ b. b == 0) one

is_clear : (bit k n : ℕ) → n ≤ k + 1 → bit ≡ flag (nat_lt (k + 1) n) → (bit == 0) ≡ true
is_clear bit k n le e =
    let none : bit ≡ 0 = e ∙ ap flag (le-ltb (k + 1) n le) in
    ap (λ b. b == 0) none

-- a packet that is laid out as frames gives their bytes
laid_out_gives : (o : Bool) (packet : List ℕ) (frames : List Frame) (m : ℕ) → length frames ≡ m + 1
    → IsLaidOut o packet frames → frames_of o packet ≡ Some (flat_map frame_bytes frames)
laid_out_gives o packet frames m count laid =
    let table : entry_place o (length frames) ≤ 8 * length packet =
    front_fits (entry_place o (length frames)) (fields_bits o frames) (8 * length packet) laid.within in
    let next : entry_place o m + entry_size o ≤ 8 * length packet =
    subst (λ n. n ≤ 8 * length packet) (ap (entry_place o) count ∙ sym (next_entry o m)) table in
    let found = last_found o packet m (entry_place o m) refl next
    (λ j lt. is_set (bit_of packet (entry_place o j)) j (length frames) (omega arith) (laid.follows j (omega arith)))
    (is_clear (bit_of packet (entry_place o m)) m (length frames) (omega arith) (laid.follows m (omega arith))) in
    let start : ℕ = entry_place o (length frames) in
    ap (frames_up_to o packet) found
    ∙ ap (λ n. frames_from o packet n 0 (entry_place o n)) (sym count)
    ∙ frames_come o packet 0 start frames (stand_by o packet 0 start frames (λ j f e. at_zero j f (laid.each j f e))
    laid.within)
  where
    at_zero : (j : ℕ) (f : Frame) → IsFrameAt packet (entry_place o j) (speech_place o frames j) f
        → IsFrameAt packet (entry_place o (0 + j)) (speech_place o frames j) f
    at_zero j f at = let same : j ≡ 0 + j = omega arith in
        at_same packet (entry_place o j) (speech_place o frames j) (entry_place o (0 + j)) (speech_place o frames j) f
        (ap (entry_place o) same) refl at

-- and what a packet gives is those of frames that it is laid out as
abbrev GivesFrames : Bool → List ℕ → List ℕ → Type 0
GivesFrames o packet bytes =
    (frames : List Frame) × IsLaidOut o packet frames × (bytes ≡ flat_map frame_bytes frames)

given_by : (o : Bool) (packet bytes : List ℕ) (last : Option ℕ) → last_entry o packet ≡ last
    → frames_up_to o packet last ≡ Some bytes → GivesFrames o packet bytes
given_by o packet bytes None is e = absurd cc
given_by o packet bytes (Some m) is e =
    let first = last_first o packet m is in
    let r = are_read o packet (m + 1) 0 (entry_place o (m + 1)) bytes e in
    let within : entry_place o (m + 1) ≤ 8 * length packet = entry_within o packet m (omega (arith, first.below)) in (
      r.0,
      laid_out m r.0 r.1 first.holds (λ j lt. first.before j (omega arith) lt)
          (each_stands o packet 0 (entry_place o (m + 1)) r.0 r.2)
          (stand_within o packet 0 (entry_place o (m + 1)) r.0 within r.2),
      r.3,
    )
  where
    laid_out : (m : ℕ) (frames : List Frame) → length frames ≡ m + 1 → is_last_entry o packet m ≡ true
        → ((j : ℕ) → j < m → is_last_entry o packet j ≡ false)
        → ((j : ℕ) (f : Frame) → slice_get frames j ≡ Some f → IsFrameAt packet (entry_place o (0 + j))
        (entry_place o (m + 1) + fields_bits o (take j frames)) f)
        → entry_place o (m + 1) + fields_bits o frames ≤ 8 * length packet → IsLaidOut o packet frames
    laid_out m frames count holds before each within = record {
      nonempty = omega arith;
      follows = λ k lt. elim (cases_lt k m) [
        | inl less ↦ flag_set (bit_of packet (entry_place o k)) k (length frames) (omega arith) (before k less)
            (omega arith)
        | inr more ↦ let same : k ≡ m = omega arith in
            flag_clear (bit_of packet (entry_place o k)) k (length frames)
            (ap (is_last_entry o packet) same ∙ holds) (omega arith)
      ];
      each = λ k f e. let same : 0 + k ≡ k = omega arith in
          at_same packet (entry_place o (0 + k)) (entry_place o (m + 1) + fields_bits o (take k frames))
          (entry_place o k) (speech_place o frames k) f (ap (entry_place o) same)
          (ap (λ n. entry_place o n + fields_bits o (take k frames)) (sym count)) (each k f e);
      within = subst (λ n. entry_place o n + fields_bits o frames ≤ 8 * length packet) (sym count) within;
    }

pub laid_out_frames : PacketsAreLaidOut
laid_out_frames o packet bytes = (
  (λ e. given_by o packet bytes (last_entry o packet) refl e),
  λ g. let count : length g.0 ≡ length g.0 - 1 + 1 = omega (arith, g.1.nonempty) in
      laid_out_gives o packet g.0 (length g.0 - 1) count g.1 ∙ ap Some (sym g.2),
)
