-- Packets up to a number, which go, and those above it, which stay.
use Rattle.std.proofs.Common.{◌≡◌, ℕ, zero, suc, ◌+◌, ◌<◌, ◌≤◌, refl, sym, ◌∙◌, ap, subst, arith, Bool, true, false}
use Rattle.std.proofs.Common.{List}
use Rattle.std.proofs.Common.{[], ◌∷◌, length, drop, Some, get_or, inl, inr}
use Rattle.std.proofs.lemmas.Bool.{cases_lt}
use Rattle.std.proofs.lemmas.Bool.Decides.{nat_tests}
use Rattle.std.proofs.lemmas.List.{get_or-drop, get_or_default, length-drop}
use Rattle.std.proofs.lemmas.List.Elements.{All-drop}
use Rattle.std.specs.Prelude.{nat_le, not, cond}
use Rattle.payload_core_base.specs.Format.{Format}
use Rattle.payload_core_buffer.specs.Buffered.{packets_above}
use Rattle.payload_core_buffer.specs.Packets.{Packet, packet_of, packets_of}
use Rattle.payload_core_buffer.specs.Slots.{AreSame, AreSlots, IsAbove, IsBuffered, IsCounted, IsFlagged, no_slot}
use Rattle.payload_core_buffer.specs.Slots.{slot_at}
use Rattle.payload_core_buffer.specs.declared.held.Held.{Held}
use Rattle.payload_core_buffer.proofs.KeptLemmas.{rising-drop}
use Rattle.payload_core_buffer.proofs.PlaceLemmas.{packets_drop, queue_from, same_flagged, same_packets}
use Rattle.payload_core_buffer.proofs.QueueLemmas.{same_length}
use Rattle.payload_core_buffer.proofs.TakeLemmas.{above_same}

-- a number that is held is the last of those up to it
module _ (hs : List Held) (slots : (i j : ℕ) → i < j → j < length hs
    → (slot_at hs i).meta.seq_no < (slot_at hs j).meta.seq_no) (place number : ℕ) (within : place < length hs)
    (is : (slot_at hs place).meta.seq_no ≡ number) where
  pub up-to : (k : ℕ) → k < place + 1 → (slot_at hs k).meta.seq_no ≤ number
  up-to k lt = elim (cases_lt k place) [
    | inl less ↦ let below = slots k place less within in omega (arith, below, is)
    | inr ge ↦
        let at : k ≡ place = omega (arith, lt, ge) in
        let here : (slot_at hs k).meta.seq_no ≡ number = ap (λ (j : ℕ). (slot_at hs j).meta.seq_no) at ∙ is in
        omega (arith, here)
  ]

  pub after-it : (k : ℕ) → place + 1 ≤ k → k < length hs → number < (slot_at hs k).meta.seq_no
  after-it k le lt = let more = slots place k (omega (arith, le)) lt in omega (arith, more, is)

kept : (b : Bool) (p : Packet) (ps : List Packet) → b ≡ true → p ∷ ps ≡ cond b (p ∷ ps) ps
kept b p ps e = sym (ap (λ (x : Bool). cond x (p ∷ ps) ps) e)

gone : (b : Bool) (p : Packet) (ps : List Packet) → b ≡ false → ps ≡ cond b (p ∷ ps) ps
gone b p ps e = sym (ap (λ (x : Bool). cond x (p ∷ ps) ps) e)

-- the packets above a number are those after the ones up to it
pub dropped : (hs : List Held) (count number : ℕ)
    → ((k : ℕ) → k < count → k < length hs → (slot_at hs k).meta.seq_no ≤ number)
    → ((k : ℕ) → count ≤ k → k < length hs → number < (slot_at hs k).meta.seq_no)
    → packets_of (drop count hs) ≡ packets_above number (packets_of hs)
dropped [] zero number before after = refl
dropped [] (suc count) number before after = refl
dropped (h ∷ hs) zero number before after =
    let more : number < h.meta.seq_no = after 0 (omega arith) (omega arith) in
    let stays : not (nat_le h.meta.seq_no number) ≡ true = grind (arith, nat_tests, more) in
    ap (λ (ps : List Packet). packet_of h ∷ ps) (dropped hs zero number (λ k lt within. absurd (omega (arith, lt)))
    (λ k le lt. after (suc k) (omega arith) (omega (arith, lt))))
    ∙ kept (not (nat_le h.meta.seq_no number)) (packet_of h) (packets_above number (packets_of hs)) stays
dropped (h ∷ hs) (suc count) number before after =
    let less : h.meta.seq_no ≤ number = before 0 (omega arith) (omega arith) in
    let goes : not (nat_le h.meta.seq_no number) ≡ false = grind (arith, nat_tests, less) in
    dropped hs count number (λ k lt within. before (suc k) (omega (arith, lt)) (omega (arith, within)))
    (λ k le lt. after (suc k) (omega (arith, le)) (omega (arith, lt)))
    ∙ gone (not (nat_le h.meta.seq_no number)) (packet_of h) (packets_above number (packets_of hs)) goes

-- what is left above a number
module _ (format : Format) (hs new : List Held) (count number : ℕ) (within : count ≤ length hs)
    (before : (k : ℕ) → k < count → (slot_at hs k).meta.seq_no ≤ number)
    (after : (k : ℕ) → count ≤ k → k < length hs → number < (slot_at hs k).meta.seq_no)
    (is : AreSame new (drop count hs)) where
  pub passed-packets : packets_of new ≡ packets_above number (packets_of hs)
  passed-packets = same_packets new (drop count hs) is ∙ dropped hs count number (λ k lt in_it. before k lt) after

  passed-above : IsAbove (Some number) new
  passed-above = above_same (Some number) (drop count hs) new (same_packets new (drop count hs) is) (λ k d lt.
      let there : get_or (drop count hs) k d ≡ slot_at hs (count + k) = get_or-drop count hs k d
      ∙ get_or_default hs (count + k) d no_slot (omega (arith, lt, length-drop count hs)) in
      let more = after (count + k) (omega arith) (omega (arith, lt, length-drop count hs)) in
      let not_done : nat_le (slot_at hs (count + k)).meta.seq_no number ≡ false = grind (arith, nat_tests, more) in
      subst (λ (h : Held). nat_le h.meta.seq_no number ≡ false) (sym there) not_done)

  pub passed-buffered : (complete : ℕ) → AreSlots format hs → IsCounted new complete → (limit : ℕ) → length hs ≤ limit
      → IsBuffered format limit new complete (Some number)
  passed-buffered complete slots counted limit le =
      let long = same_length new (drop count hs) is in
      let left : packets_of new ≡ drop count (packets_of hs) = same_packets new (drop count hs) is
      ∙ packets_drop count hs in
      record {
        queue = queue_from format limit complete new
            (rw left (rising-drop count (packets_of hs) slots.rising))
            (omega (arith, long, length-drop count hs, le))
            (same_flagged format new (drop count hs) is (All-drop (IsFlagged format) count hs slots.flagged)) counted;
        above = passed-above;
      }
