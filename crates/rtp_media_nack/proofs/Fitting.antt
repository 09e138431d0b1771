-- Datagrams that fit, and one more among them.
use Rattle.std.proofs.Common.{◌≡◌, ℕ, ◌+◌, List, [], ◌∷◌, length, Option, Some, is_some, false, true, refl, Bool}
use Rattle.std.proofs.Common.{if◌then◌else◌, arith}
use Rattle.std.specs.BTreeMap.{insert_entry, is_at}
use Rattle.std.specs.Map.{lookup}
use Rattle.std.specs.Ordering.{nat_cmp, is_eq, match_ordering}
use Rattle.std.specs.declared.cmp.Ordering.{Ordering}
use Rattle.std.specs.declared.cmp.Ordering.TheVariants.{Less, Equal, Greater}
use Rattle.std.proofs.Common.{cond}
use Rattle.rtp_media_nack.specs.Histories.{History, Sent, bytes_of, fits, gone_after, newest_fitting, is_gone, is_held}
use Rattle.rtp_media_nack.specs.Histories.{kept, with_packets}

-- What fits stays whole.
pub fitting-fits : (most most_bytes : ℕ) (ps : List Sent) → fits most most_bytes ps ≡ true
    → newest_fitting most most_bytes ps ≡ ps
fitting-fits most most_bytes [] h = refl
fitting-fits most most_bytes (p ∷ ps) h = rw h refl

pub gone-fits : (most most_bytes : ℕ) (gone : Option ℕ) (ps : List Sent) → fits most most_bytes ps ≡ true
    → gone_after most most_bytes gone ps ≡ gone
gone-fits most most_bytes went [] h = refl
gone-fits most most_bytes went (p ∷ ps) h = rw h refl

bytes-step : (o : Ordering) (k : ℕ) (v : List ℕ) (p : Sent) (ps rest : List Sent)
    → is_some (cond (is_eq o) (Some p.1) (lookup (is_at (nat_cmp k)) ps)) ≡ false
    → (is_held ps k ≡ false → bytes_of rest ≡ bytes_of ps + length v)
    → bytes_of (match_ordering o ((k, v) ∷ p ∷ ps) ((p.0, v) ∷ ps) (p ∷ rest)) ≡ bytes_of (p ∷ ps) + length v
bytes-step Less k v p ps rest h ih = omega arith
bytes-step Equal k v p ps rest h ih = absurd (cc)
bytes-step Greater k v p ps rest h ih = omega (arith, ih h)

-- One more brings its own bytes.
pub bytes-insert : (k : ℕ) (v : List ℕ) (ps : List Sent) → is_held ps k ≡ false
    → bytes_of (insert_entry nat_cmp ps k v) ≡ bytes_of ps + length v
bytes-insert k v [] h = omega arith
bytes-insert k v (p ∷ ps) h =
    bytes-step (nat_cmp k p.0) k v p ps (insert_entry nat_cmp ps k v) h (bytes-insert k v ps)

-- Nothing changes if the number is gone, or held.
pub kept-gone : (h : History) (number : ℕ) (datagram : List ℕ) → is_gone h.gone number ≡ true
    → kept h number datagram ≡ h
kept-gone h number datagram e = rw e refl

same-when : (b : Bool) (h k : History) → k ≡ h → (if b then h else k) ≡ h
same-when true h k e = refl
same-when false h k e = e

with-fits : (h : History) → fits h.most h.most_bytes h.packets ≡ true → with_packets h h.packets ≡ h
with-fits h f = rw (fitting-fits h.most h.most_bytes h.packets f, gone-fits h.most h.most_bytes h.gone h.packets f) refl

pub kept-held : (h : History) (number : ℕ) (datagram : List ℕ) → fits h.most h.most_bytes h.packets ≡ true
    → is_held h.packets number ≡ true → kept h number datagram ≡ h
kept-held h number datagram f e = rw e (same-when (is_gone h.gone number) h (with_packets h h.packets) (with-fits h f))
