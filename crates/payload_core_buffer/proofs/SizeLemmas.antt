-- Bytes of packets that are held, and those that stay within a limit.
use Rattle.std.proofs.Common.{◌≡◌, ◌⊎◌, ℕ, zero, suc, ◌+◌, ◌<◌, ◌≤◌, ◌-◌, refl, sym, ◌∙◌, ap, subst, arith, Bool, true}
use Rattle.std.proofs.Common.{false, List}
use Rattle.std.proofs.Common.{[], ◌∷◌, length, drop, Some, None, inl, inr}
use Rattle.std.specs.Prelude.{nat_le, cond, not, Option, unwrap_or, is_none, slice_index_or}
use mathlib.Core.Bool.{true≢false}
use Rattle.std.proofs.lemmas.Bool.{cases_lt}
use Rattle.std.proofs.lemmas.Bool.Decides.{nat_tests}
use Rattle.std.proofs.lemmas.List.{get_or_default}
use Rattle.std.proofs.lemmas.List.Sums.{sum_by-cons}
use Rattle.payload_core_buffer.specs.Buffered.{Buffered, IsRising, is_done, packets_above, passed_to}
use Rattle.payload_core_buffer.specs.Frames.{number_at, packet_at}
use Rattle.payload_core_buffer.specs.Packets.{Packet, packet_of, packets_of}
use Rattle.payload_core_buffer.specs.Slots.{IsAbove, no_slot}
use Rattle.payload_core_buffer.specs.declared.held.Held.{Held}
use Rattle.payload_core_buffer.proofs.FrameLemmas.{length_packets}
use Rattle.payload_core_buffer.proofs.SlotLemmas.{slot_packet}
use Rattle.payload_core_buffer.specs.Sizes.{AllLaw, ExcessLaw, FitsLaw, bytes_of, excess, within}

-- the packets fit, or they don't
module _ (bytes : ℕ) (p : Packet) (ps : List Packet) where
  fitting : bytes_of (p ∷ ps) ≤ bytes → within bytes (p ∷ ps) ≡ p ∷ ps
  fitting le =
      let t : nat_le (bytes_of (p ∷ ps)) bytes ≡ true = grind (arith, nat_tests, le) in
      ap (λ (b : Bool). cond b (p ∷ ps) (within bytes ps)) t

  passing : bytes < bytes_of (p ∷ ps) → within bytes (p ∷ ps) ≡ within bytes ps
  passing lt =
      let f : nat_le (bytes_of (p ∷ ps)) bytes ≡ false = grind (arith, nat_tests, lt) in
      ap (λ (b : Bool). cond b (p ∷ ps) (within bytes ps)) f

  pub no-excess : bytes_of (p ∷ ps) ≤ bytes → excess bytes (p ∷ ps) ≡ None
  no-excess le =
      let t : nat_le (bytes_of (p ∷ ps)) bytes ≡ true = grind (arith, nat_tests, le) in
      ap (λ (b : Bool). cond b None (Some (unwrap_or (excess bytes ps) p.meta.seq_no))) t

  pub some-excess : bytes < bytes_of (p ∷ ps)
      → excess bytes (p ∷ ps) ≡ Some (unwrap_or (excess bytes ps) p.meta.seq_no)
  some-excess lt =
      let f : nat_le (bytes_of (p ∷ ps)) bytes ≡ false = grind (arith, nat_tests, lt) in
      ap (λ (b : Bool). cond b None (Some (unwrap_or (excess bytes ps) p.meta.seq_no))) f

pub fits : FitsLaw
fits bytes [] = omega arith
fits bytes (p ∷ ps) = elim (cases_lt bytes (bytes_of (p ∷ ps))) [
  | inl more ↦ rw (passing bytes p ps more) (fits bytes ps)
  | inr ge ↦ let le : bytes_of (p ∷ ps) ≤ bytes = omega arith in rw (fitting bytes p ps le) le
]

pub none-over : (bytes : ℕ) (ps : List Packet) → bytes_of ps ≤ bytes → excess bytes ps ≡ None
none-over bytes [] le = refl
none-over bytes (p ∷ ps) le = no-excess bytes p ps le

pub all : AllLaw
all bytes [] le = (refl, refl)
all bytes (p ∷ ps) le = (fitting bytes p ps le, no-excess bytes p ps le)

-- the number in an option
some_is : (o : Option ℕ) (m n : ℕ) → o ≡ Some m → o ≡ Some n → m ≡ n
some_is o m n is isn = ap (λ (x : Option ℕ). unwrap_or x m) (sym is ∙ isn)

none_some : {A : Type 0} (o : Option ℕ) (n : ℕ) → o ≡ None → o ≡ Some n → A
none_some o n none some = absurd (true≢false (ap (λ (x : Option ℕ). is_none x) (sym none ∙ some)))

cases : (o : Option ℕ) → (o ≡ None) ⊎ ((m : ℕ) × (o ≡ Some m))
cases None = inl refl
cases (Some m) = inr (m, refl)

-- where all fit, all stay
none-within : (bytes : ℕ) (ps : List Packet) → excess bytes ps ≡ None → within bytes ps ≡ ps
none-within bytes [] e = refl
none-within bytes (p ∷ ps) e = elim (cases_lt bytes (bytes_of (p ∷ ps))) [
  | inl more ↦ none_some (excess bytes (p ∷ ps)) (unwrap_or (excess bytes ps) p.meta.seq_no) e
      (some-excess bytes p ps more)
  | inr ge ↦ fitting bytes p ps (omega arith)
]

-- the excess is the first number, or that of the packets after it
module _ (bytes n : ℕ) (p : Packet) (ps : List Packet) (some : excess bytes (p ∷ ps) ≡ Some n) where
  over : bytes < bytes_of (p ∷ ps)
  over = elim (cases_lt bytes (bytes_of (p ∷ ps))) [
    | inl more ↦ more
    | inr ge ↦ none_some (excess bytes (p ∷ ps)) n (no-excess bytes p ps (omega arith)) some
  ]

  by-rest : (o : Option ℕ) → excess bytes ps ≡ o → unwrap_or o p.meta.seq_no ≡ n
  by-rest o is = some_is (excess bytes (p ∷ ps)) (unwrap_or o p.meta.seq_no) n
      (some-excess bytes p ps over ∙ ap (λ (x : Option ℕ). Some (unwrap_or x p.meta.seq_no)) is) some

-- so the excess of rising packets is above all numbers below the first
excess-above : (bytes below n : ℕ) (p : Packet) (ps : List Packet) → IsRising (p ∷ ps) → below < p.meta.seq_no
    → excess bytes (p ∷ ps) ≡ Some n → below < n
excess-above bytes below n p [] r lt e = let at = by-rest bytes n p [] e None refl in omega (arith, at, lt)
excess-above bytes below n p (q ∷ qs) r lt e = elim (cases (excess bytes (q ∷ qs))) [
  | inl none ↦ let at = by-rest bytes n p (q ∷ qs) e None none in omega (arith, at, lt)
  | inr (m, is) ↦
      let at = by-rest bytes n p (q ∷ qs) e (Some m) is in
      let first = r.0 in
      let less = excess-above bytes below m q qs r.1 (omega (arith, lt, first)) is in omega (arith, at, less)
]

abbrev number_first : List Packet → ℕ
number_first [] = 0
number_first (p ∷ ps) = p.meta.seq_no

-- packets above a number below the first are all of them
all-above : (n : ℕ) (ps : List Packet) → IsRising ps → ((q : Packet) (qs : List Packet) → ps ≡ q ∷ qs
    → n < q.meta.seq_no) → packets_above n ps ≡ ps
all-above n [] r low = refl
all-above n (p ∷ []) r low =
    let lt = low p [] refl in
    let stays : not (nat_le p.meta.seq_no n) ≡ true = grind (arith, nat_tests, lt) in
    ap (λ (b : Bool). cond b (p ∷ []) []) stays
all-above n (p ∷ q ∷ qs) r low =
    let lt = low p (q ∷ qs) refl in
    let stays : not (nat_le p.meta.seq_no n) ≡ true = grind (arith, nat_tests, lt) in
    let first = r.0 in
    ap (λ (b : Bool). cond b (p ∷ packets_above n (q ∷ qs)) (packets_above n (q ∷ qs))) stays
    ∙ ap (λ (xs : List Packet). p ∷ xs) (all-above n (q ∷ qs) r.1 (λ x xs e.
    let is : q.meta.seq_no ≡ x.meta.seq_no = ap (λ (ys : List Packet). number_first ys) e in
    omega (arith, lt, first, is)))

pub above : ExcessLaw
above bytes n [] r e = none_some None n refl e
above bytes n (p ∷ []) r e =
    let at = by-rest bytes n p [] e None refl in
    let goes : not (nat_le p.meta.seq_no n) ≡ false = grind (arith, nat_tests, at) in
    ap (λ (b : Bool). cond b (p ∷ []) []) goes ∙ sym (passing bytes p [] (over bytes n p [] e))
above bytes n (p ∷ q ∷ qs) r e = elim (cases (excess bytes (q ∷ qs))) [
  | inl none ↦
      let at = by-rest bytes n p (q ∷ qs) e None none in
      let goes : not (nat_le p.meta.seq_no n) ≡ false = grind (arith, nat_tests, at) in
      let first = r.0 in
      ap (λ (b : Bool). cond b (p ∷ packets_above n (q ∷ qs)) (packets_above n (q ∷ qs))) goes
      ∙ all-above n (q ∷ qs) r.1 (λ x xs same.
      let is : q.meta.seq_no ≡ x.meta.seq_no = ap number_first same in omega (arith, at, first, is))
      ∙ sym (passing bytes p (q ∷ qs) (over bytes n p (q ∷ qs) e) ∙ none-within bytes (q ∷ qs) none)
  | inr (m, is) ↦
      let at = by-rest bytes n p (q ∷ qs) e (Some m) is in
      let less = excess-above bytes p.meta.seq_no m q qs r.1 r.0 is in
      let goes : not (nat_le p.meta.seq_no n) ≡ false = grind (arith, nat_tests, at, less) in
      ap (λ (b : Bool). cond b (p ∷ packets_above n (q ∷ qs)) (packets_above n (q ∷ qs))) goes
      ∙ above bytes n (q ∷ qs) r.1 (is ∙ ap Some at)
      ∙ sym (passing bytes p (q ∷ qs) (over bytes n p (q ∷ qs) e))
]

-- bytes of the packets from a place on
pub size-at : (ps : List Packet) (k : ℕ) → k < length ps
    → bytes_of (drop k ps) ≡ length (packet_at ps k).payload + bytes_of (drop (suc k) ps)
size-at [] k lt = absurd (omega (arith, lt))
size-at (p ∷ ps) zero lt = sum_by-cons (λ q. length q.payload) p ps
size-at (p ∷ ps) (suc k) lt = size-at ps k (omega (arith, lt))

size-drop : (ps : List Packet) (k : ℕ) → bytes_of (drop k ps) ≤ bytes_of ps
size-drop ps zero = omega arith
size-drop [] (suc k) = omega arith
size-drop (p ∷ ps) (suc k) =
    let rest = size-drop ps k in
    let all : bytes_of (p ∷ ps) ≡ length p.payload + bytes_of ps = sum_by-cons (λ q. length q.payload) p ps in
    omega (arith, rest, all)

pub size-none : (ps : List Packet) (k : ℕ) → length ps ≤ k → bytes_of (drop k ps) ≡ 0
size-none [] zero le = refl
size-none [] (suc k) le = refl
size-none (p ∷ ps) zero le = absurd (omega (arith, le))
size-none (p ∷ ps) (suc k) le = size-none ps k (omega (arith, le))

-- the packet that no longer fits
pub found : (bytes : ℕ) (ps : List Packet) (k : ℕ) → k < length ps → bytes_of (drop (suc k) ps) ≤ bytes
    → bytes < bytes_of (drop k ps) → excess bytes ps ≡ Some (number_at ps k)
found bytes [] k lt le more = absurd (omega (arith, lt))
found bytes (p ∷ ps) zero lt le more = some-excess bytes p ps more
    ∙ ap (λ (o : Option ℕ). Some (unwrap_or o p.meta.seq_no)) (none-over bytes ps le)
found bytes (p ∷ ps) (suc k) lt le more =
    let less : bytes_of (drop k ps) ≤ bytes_of ps = size-drop ps k in
    let here : bytes < bytes_of (drop k ps) = more in
    let all : bytes_of (p ∷ ps) ≡ length p.payload + bytes_of ps = sum_by-cons (λ q. length q.payload) p ps in
    let over : bytes < bytes_of (p ∷ ps) = omega (arith, here, less, all) in
    some-excess bytes p ps over
    ∙ ap (λ (o : Option ℕ). Some (unwrap_or o p.meta.seq_no)) (found bytes ps k (omega (arith, lt)) le more)

-- the same of what is held, from the last packet on
module _ (hs : List Held) (h : Held) (len i : ℕ) (long : len ≡ length hs) (lt : i < len)
    (is : h ≡ slice_index_or hs (len - 1 - i) h) where
  packet : packet_at (packets_of hs) (len - 1 - i) ≡ packet_of h
  packet = slot_packet hs (len - 1 - i)
      ∙ ap packet_of (sym (is ∙ get_or_default hs (len - 1 - i) h no_slot (omega (arith, long, lt))))

  pub size-from : bytes_of (drop (len - (i + 1)) (packets_of hs))
      ≡ length h.payload + bytes_of (drop (len - i) (packets_of hs))
  size-from =
      let at : len - (i + 1) ≡ len - 1 - i = omega arith in
      let next : suc (len - 1 - i) ≡ len - i = omega (arith, lt) in
      ap (λ (k : ℕ). bytes_of (drop k (packets_of hs))) at
      ∙ size-at (packets_of hs) (len - 1 - i) (omega (arith, length_packets hs, long, lt))
      ∙ ap (λ (k : ℕ). length (packet_at (packets_of hs) (len - 1 - i)).payload + bytes_of (drop k (packets_of hs)))
      next
      ∙ ap (λ (p : Packet). length p.payload + bytes_of (drop (len - i) (packets_of hs))) packet

  pub excess-at : (bytes room : ℕ) → room + bytes_of (drop (len - i) (packets_of hs)) ≡ bytes
      → room < length h.payload → Some h.meta.seq_no ≡ excess bytes (packets_of hs)
  excess-at bytes room sum more =
      let at : len - (i + 1) ≡ len - 1 - i = omega arith in
      let next : len - i ≡ suc (len - 1 - i) = omega (arith, lt) in
      let all : bytes_of (drop (len - 1 - i) (packets_of hs))
      ≡ length h.payload + bytes_of (drop (len - i) (packets_of hs))
      = sym (ap (λ (k : ℕ). bytes_of (drop k (packets_of hs))) at) ∙ size-from in
      let rest : bytes_of (drop (suc (len - 1 - i)) (packets_of hs)) ≡ bytes_of (drop (len - i) (packets_of hs))
      = sym (ap (λ (k : ℕ). bytes_of (drop k (packets_of hs))) next) in
      sym (found bytes (packets_of hs) (len - 1 - i) (omega (arith, length_packets hs, long, lt))
      (omega (arith, rest, sum)) (omega (arith, all, sum, more)) ∙ ap (λ (p : Packet). Some p.meta.seq_no) packet)

pub none-fits : (bytes : ℕ) (ps : List Packet) → excess bytes ps ≡ None → bytes_of ps ≤ bytes
none-fits bytes [] e = omega arith
none-fits bytes (p ∷ ps) e = elim (cases_lt bytes (bytes_of (p ∷ ps))) [
  | inl more ↦ none_some (excess bytes (p ∷ ps)) (unwrap_or (excess bytes ps) p.meta.seq_no) e
      (some-excess bytes p ps more)
  | inr ge ↦ omega arith
]

-- the excess of packets above the cutoff is above it
excess-not-done : (cutoff : Option ℕ) (bytes n : ℕ) (hs : List Held) → IsAbove cutoff hs
    → excess bytes (packets_of hs) ≡ Some n → is_done cutoff n ≡ false
excess-not-done cutoff bytes n [] above e = none_some None n refl e
excess-not-done cutoff bytes n (h ∷ hs) above e = elim (cases (excess bytes (packets_of hs))) [
  | inl none ↦
      let at : h.meta.seq_no ≡ n = by-rest bytes n (packet_of h) (packets_of hs) e None none in
      subst (λ (x : ℕ). is_done cutoff x ≡ false) at (above 0 h (omega arith))
  | inr (m, is) ↦
      let at : m ≡ n = by-rest bytes n (packet_of h) (packets_of hs) e (Some m) is in
      subst (λ (x : ℕ). is_done cutoff x ≡ false) at
      (excess-not-done cutoff bytes m hs (λ k d lt. above (suc k) d (omega (arith, lt))) is)
]

pub fits-passed : {D : Type 0} (b : Buffered D) (bytes n : ℕ) (hs : List Held) → b.held ≡ packets_of hs
    → IsRising (packets_of hs) → IsAbove b.cutoff hs → excess bytes (packets_of hs) ≡ Some n
    → bytes_of (passed_to n b).held ≤ bytes
fits-passed b bytes n hs is rising over e =
    let new = excess-not-done b.cutoff bytes n hs over e in
    let left : (passed_to n b).held ≡ within bytes (packets_of hs) = ap (λ (x : Bool). (cond x b (record {
      depacketizer = b.depacketizer;
      holding = b.holding;
      held = packets_above n b.held;
      cutoff = Some n;
    })).held) new ∙ ap (λ (ps : List Packet). packets_above n ps) is ∙ above bytes n (packets_of hs) rising e in
    rw left (fits bytes (packets_of hs))
