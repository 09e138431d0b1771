-- Datagrams of rising numbers that are kept one after the other.
use Rattle.std.proofs.Common.{◌≡◌, ℕ, ◌+◌, ◌<◌, ◌≤◌, ◌++◌, ◌∙◌, ◌&&◌, nat_le, if◌then◌else◌, cond, List, [], ◌∷◌}
use Rattle.std.proofs.Common.{Option, Some, is_some, Bool, true, false, refl, ap, arith, length, length-append}
use Rattle.std.specs.BTreeMap.{insert_entry, is_at}
use Rattle.std.specs.Cmp.{nat_cmp_is}
use Rattle.std.specs.Map.{lookup}
use Rattle.std.specs.Ordering.{nat_cmp, match_ordering, is_eq}
use Rattle.std.specs.declared.cmp.Ordering.{Ordering}
use Rattle.std.specs.declared.cmp.Ordering.TheVariants.{Greater}
use Rattle.std.proofs.lemmas.Grind.{common_steps}
use Rattle.rtp_media_nack.specs.Histories.{History, Sent, bytes_of, fits, gone_after, is_gone, is_held, newest_fitting}
use Rattle.rtp_media_nack.specs.Histories.{placed_in, with_packets}
use Rattle.rtp_media_nack.specs.Runs.{AreBelow, IsRising, after_keeping, in_order}

step-last : (o : Ordering) (n : ℕ) (d : List ℕ) (p : Sent) (ps rest : List Sent) → Greater ≡ o
    → rest ≡ ps ++ (n, d) ∷ []
    → match_ordering o ((n, d) ∷ p ∷ ps) ((p.0, d) ∷ ps) (p ∷ rest) ≡ p ∷ ps ++ (n, d) ∷ []
step-last o n d p ps rest e h = rw (← e) (ap (λ (xs : List Sent). p ∷ xs) h)

insert-above : (ps : List Sent) (n : ℕ) (d : List ℕ) → AreBelow n ps
    → insert_entry nat_cmp ps n d ≡ ps ++ (n, d) ∷ []
insert-above [] n d b = refl
insert-above (p ∷ ps) n d b =
    step-last (nat_cmp n p.0) n d p ps (insert_entry nat_cmp ps n d) (nat_cmp_is n p.0 Greater b.0)
    (insert-above ps n d b.1)

held-step : (o : Ordering) (p : Sent) (rest : Option (List ℕ)) → Greater ≡ o → is_some rest ≡ false
    → is_some (cond (is_eq o) (Some p.1) rest) ≡ false
held-step o p rest e h = rw (← e) h

not-held : (ps : List Sent) (n : ℕ) → AreBelow n ps → is_held ps n ≡ false
not-held [] n b = refl
not-held (p ∷ ps) n b =
    held-step (nat_cmp n p.0) p (lookup (is_at (nat_cmp n)) ps) (nat_cmp_is n p.0 Greater b.0) (not-held ps n b.1)

placed-step : (b : Bool) (ps qs : List Sent) → b ≡ false → (if b then ps else qs) ≡ qs
placed-step b ps qs e = rw e refl

-- A datagram above all others goes to their end.
placed-last : (ps : List Sent) (n : ℕ) (d : List ℕ) → AreBelow n ps → placed_in ps n d ≡ ps ++ (n, d) ∷ []
placed-last ps n d b =
    placed-step (is_held ps n) ps (insert_entry nat_cmp ps n d) (not-held ps n b) ∙ insert-above ps n d b

below-append : (n : ℕ) (ps : List Sent) (p : Sent) → AreBelow n ps → p.0 < n → AreBelow n (ps ++ p ∷ [])
below-append n [] p b l = (l, tt)
below-append n (q ∷ qs) p b l = (b.0, below-append n qs p b.1 l)

below-in-order : (n : ℕ) (ps : List Sent) → AreBelow n ps → AreBelow n (in_order ps)
below-in-order n [] b = tt
below-in-order n (p ∷ ps) b = below-append n (in_order ps) p (below-in-order n ps b.1) b.0

below-pick : (n : ℕ) (t : Bool) (ps qs : List Sent) → AreBelow n ps → AreBelow n qs → AreBelow n (if t then ps else qs)
below-pick n true ps qs a b = a
below-pick n false ps qs a b = b

below-newest : (n m b : ℕ) (ps : List Sent) → AreBelow n ps → AreBelow n (newest_fitting m b ps)
below-newest n m b [] h = tt
below-newest n m b (p ∷ ps) h =
    below-pick n (fits m b (p ∷ ps)) (p ∷ ps) (newest_fitting m b ps) h (below-newest n m b ps h.1)

bytes-append : (xs : List Sent) (p : Sent) → bytes_of (xs ++ p ∷ []) ≡ bytes_of xs + length p.1
bytes-append [] p = omega arith
bytes-append (x ∷ xs) p = omega (arith, bytes-append xs p)

fewer-fit : (k l c b m n : ℕ) → k ≤ l → b ≤ c → (nat_le l m && nat_le c n) ≡ true → (nat_le k m && nat_le b n) ≡ true
fewer-fit k l c b m n h i e = grind (arith, common_steps)

-- What fits with one more fits without it.
fits-without : (m b : ℕ) (xs : List Sent) (p : Sent) → fits m b (xs ++ p ∷ []) ≡ true → fits m b xs ≡ true
fits-without m b xs p e =
    fewer-fit (length xs) (length (xs ++ p ∷ [])) (bytes_of (xs ++ p ∷ [])) (bytes_of xs) m b
    (simp length-append (omega arith)) (omega (arith, bytes-append xs p)) e

pick-newest : (s t : Bool) (m b : ℕ) (x p : Sent) (xs : List Sent) → fits m b (x ∷ xs) ≡ s
    → fits m b (x ∷ xs ++ p ∷ []) ≡ t → (t ≡ true → s ≡ true)
    → newest_fitting m b (newest_fitting m b xs ++ p ∷ []) ≡ newest_fitting m b (xs ++ p ∷ [])
    → newest_fitting m b ((if s then x ∷ xs else newest_fitting m b xs) ++ p ∷ [])
    ≡ (if t then x ∷ xs ++ p ∷ [] else newest_fitting m b (xs ++ p ∷ []))
pick-newest true true m b x p xs e f i h = rw f refl
pick-newest true false m b x p xs e f i h = rw f refl
pick-newest false true m b x p xs e f i h = absurd (let c : false ≡ true = i refl in cc)
pick-newest false false m b x p xs e f i h = h

-- The newest that fit of those that fitted before and one more.
newest-append : (m b : ℕ) (xs : List Sent) (p : Sent)
    → newest_fitting m b (newest_fitting m b xs ++ p ∷ []) ≡ newest_fitting m b (xs ++ p ∷ [])
newest-append m b [] p = refl
newest-append m b (x ∷ xs) p =
    pick-newest (fits m b (x ∷ xs)) (fits m b (x ∷ xs ++ p ∷ [])) m b x p xs refl refl
    (fits-without m b (x ∷ xs) p) (newest-append m b xs p)

not-le : (n k : ℕ) → k < n → nat_le n k ≡ false
not-le n k l = grind (arith, common_steps)

gone-pick : (t : Bool) (g h : Option ℕ) (n : ℕ) → is_gone g n ≡ false → is_gone h n ≡ false
    → is_gone (if t then g else h) n ≡ false
gone-pick true g h n a b = a
gone-pick false g h n a b = b

-- Above all of them no number went.
gone-below : (n m b : ℕ) (g : Option ℕ) (ps : List Sent) → is_gone g n ≡ false → AreBelow n ps
    → is_gone (gone_after m b g ps) n ≡ false
gone-below n m b g [] e h = e
gone-below n m b g (p ∷ ps) e h =
    gone-pick (fits m b (p ∷ ps)) g (gone_after m b (Some p.0) ps) n e
    (gone-below n m b (Some p.0) ps (not-le n p.0 h.0) h.1)

-- A history that kept datagrams of rising numbers.
record HasKept (m b : ℕ) (before : List Sent) (h : History) : Type 0 where
  most : h.most ≡ m
  most_bytes : h.most_bytes ≡ b
  packets : h.packets ≡ newest_fitting m b (in_order before)
  gone : (n : ℕ) → AreBelow n before → is_gone h.gone n ≡ false

one-more : (m b : ℕ) (before : List Sent) (p : Sent) (h : History) → AreBelow p.0 before → HasKept m b before h
    → HasKept m b (p ∷ before) (with_packets h (placed_in h.packets p.0 p.1))
one-more m b before p h l s =
    let below : AreBelow p.0 h.packets =
    rw s.packets (below-newest p.0 m b (in_order before) (below-in-order p.0 before l)) in
    let placed : placed_in h.packets p.0 p.1 ≡ h.packets ++ p ∷ [] = placed-last h.packets p.0 p.1 below in
    record {
      most = s.most;
      most_bytes = s.most_bytes;
      packets = rw (placed, s.most, s.most_bytes, s.packets) (newest-append m b (in_order before) p);
      gone = λ n a. rw (placed, s.most, s.most_bytes)
          (gone-below n m b h.gone (h.packets ++ p ∷ []) (s.gone n a.1)
          (below-append n h.packets p (rw s.packets (below-newest n m b (in_order before)
          (below-in-order n before a.1))) a.0));
    }

step-kept : (m b : ℕ) (before : List Sent) (h k : History) (t : Bool) → t ≡ false → HasKept m b before k
    → HasKept m b before (if t then h else k)
step-kept m b before h k t e s = rw e s

has-kept : (m b : ℕ) (sent : List Sent) → IsRising sent → HasKept m b sent (after_keeping m b sent)
has-kept m b [] r = record { most = refl; most_bytes = refl; packets = refl; gone = λ n a. refl }
has-kept m b (p ∷ before) r =
    let h : History = after_keeping m b before in
    let s : HasKept m b before h = has-kept m b before r.1 in
    step-kept m b (p ∷ before) h (with_packets h (placed_in h.packets p.0 p.1)) (is_gone h.gone p.0)
    (s.gone p.0 r.0) (one-more m b before p h r.0 s)

pub newest-kept : (m b : ℕ) (sent : List Sent) → IsRising sent
    → (after_keeping m b sent).packets ≡ newest_fitting m b (in_order sent)
newest-kept m b sent r = (has-kept m b sent r).packets
