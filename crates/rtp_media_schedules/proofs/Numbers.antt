-- Held packets as rising numbers of a sender's datagrams.
use Rattle.std.proofs.Common.{◌≡◌, ℕ, zero, suc, ◌+◌, ◌-◌, ◌<◌, ◌≤◌, refl, sym, ◌∙◌, ap, arith, List, [], ◌∷◌, length}
use Rattle.std.proofs.Common.{map, drop, get_or, inl, inr}
use Rattle.std.specs.Ordering.{nat_cmp, match_ordering}
use Rattle.std.specs.declared.cmp.Ordering.{Ordering}
use Rattle.std.specs.declared.cmp.Ordering.TheVariants.{Less, Equal, Greater}
use Rattle.std.specs.Cmp.{nat_cmp_is}
use Rattle.std.proofs.lemmas.Bool.{cases_lt}
use Rattle.std.proofs.lemmas.List.{drop-map, get_or-map}
use Rattle.payload_core_buffer.specs.Buffered.{held_with, limited}
use Rattle.payload_core_buffer.specs.Frames.{no_packet, packet_at}
use Rattle.payload_core_buffer.specs.Packets.{Packet}
use Rattle.rtp_media_schedules.specs.Turns.{Sender}
use Rattle.rtp_media_schedules.specs.TrueNumbers.{Rises}
use Rattle.rtp_media_schedules.proofs.Places.{packet}

pub Rises-less : (a b hi : ℕ) → a ≤ b → (xs : List ℕ) → Rises b hi xs → Rises a hi xs
Rises-less a b hi h [] r = tt
Rises-less a b hi h (x ∷ xs) r = (omega (arith, r.0), r.1, r.2)

-- a number more, at its place
abbrev pub placed : ℕ → List ℕ → List ℕ
placed x [] = x ∷ []
placed x (y ∷ ys) = match_ordering (nat_cmp x y) (x ∷ y ∷ ys) (y ∷ ys) (y ∷ placed x ys)

placed-below : (x y : ℕ) (ys : List ℕ) → x < y → placed x (y ∷ ys) ≡ x ∷ y ∷ ys
placed-below x y ys h = ap (λ o. match_ordering o (x ∷ y ∷ ys) (y ∷ ys) (y ∷ placed x ys)) (sym (nat_cmp_is x y Less h))

placed-same : (x y : ℕ) (ys : List ℕ) → x ≡ y → placed x (y ∷ ys) ≡ y ∷ ys
placed-same x y ys h = ap (λ o. match_ordering o (x ∷ y ∷ ys) (y ∷ ys) (y ∷ placed x ys)) (sym (nat_cmp_is x y Equal h))

placed-above : (x y : ℕ) (ys : List ℕ) → y < x → placed x (y ∷ ys) ≡ y ∷ placed x ys
placed-above x y ys h = ap (λ o. match_ordering o (x ∷ y ∷ ys) (y ∷ ys) (y ∷ placed x ys))
    (sym (nat_cmp_is x y Greater h))

pub Rises-placed : (x lo hi : ℕ) → lo ≤ x → x < hi → (ys : List ℕ) → Rises lo hi ys → Rises lo hi (placed x ys)
Rises-placed x lo hi a b [] r = (a, b, tt)
Rises-placed x lo hi a b (y ∷ ys) r =
    elim (cases_lt x y) [
      | inl less ↦ rw (placed-below x y ys less) (a, b, (omega arith, r.1, r.2))
      | inr le ↦ elim (cases_lt y x) [
        | inl more ↦ rw (placed-above x y ys more) (r.0, r.1, Rises-placed x (y + 1) hi (omega arith) b ys r.2)
        | inr ge ↦ let is : x ≡ y = omega arith in rw (placed-same x y ys is) r
      ]
    ]

pub Rises-drop : (lo hi n : ℕ) (xs : List ℕ) → Rises lo hi xs → Rises lo hi (drop n xs)
Rises-drop lo hi zero xs r = r
Rises-drop lo hi (suc n) [] r = tt
Rises-drop lo hi (suc n) (x ∷ xs) r = Rises-less lo (x + 1) hi (omega (arith, r.0)) (drop n xs)
    (Rises-drop (x + 1) hi n xs r.2)

-- after a place all is above the number there
pub Rises-behind : (lo hi k : ℕ) (xs : List ℕ) → k < length xs → Rises lo hi xs
    → Rises (get_or xs k 0 + 1) hi (drop (suc k) xs)
Rises-behind lo hi k [] h r = absurd (omega arith)
Rises-behind lo hi zero (x ∷ xs) h r = r.2
Rises-behind lo hi (suc k) (x ∷ xs) h r = Rises-behind (x + 1) hi k xs (omega arith) r.2

pub Rises-from : (lo hi k : ℕ) (xs : List ℕ) → k < length xs → Rises lo hi xs → lo ≤ get_or xs k 0
Rises-from lo hi k [] h r = absurd (omega arith)
Rises-from lo hi zero (x ∷ xs) h r = r.0
Rises-from lo hi (suc k) (x ∷ xs) h r = omega (arith, r.0, Rises-from (x + 1) hi k xs (omega arith) r.2)

pub Rises-below : (lo hi k : ℕ) (xs : List ℕ) → k < length xs → Rises lo hi xs → get_or xs k 0 < hi
Rises-below lo hi k [] h r = absurd (omega arith)
Rises-below lo hi zero (x ∷ xs) h r = r.1
Rises-below lo hi (suc k) (x ∷ xs) h r = Rises-below (x + 1) hi k xs (omega arith) r.2

module _ (sender : Sender) where
  place-by : (o : Ordering) (x y : ℕ) (ys : List ℕ) → held_with (packet sender x) (map (packet sender) ys)
      ≡ map (packet sender) (placed x ys) →
      match_ordering o (packet sender x ∷ packet sender y ∷ map (packet sender) ys)
      (packet sender y ∷ map (packet sender) ys)
      (packet sender y ∷ held_with (packet sender x) (map (packet sender) ys))
      ≡ map (packet sender) (match_ordering o (x ∷ y ∷ ys) (y ∷ ys) (y ∷ placed x ys))
  place-by Less x y ys ih = refl
  place-by Equal x y ys ih = refl
  place-by Greater x y ys ih = ap (λ (ps : List Packet). packet sender y ∷ ps) ih

  -- a packet more is a number more
  pub held-placed : (x : ℕ) (ys : List ℕ) → held_with (packet sender x) (map (packet sender) ys)
      ≡ map (packet sender) (placed x ys)
  held-placed x [] = refl
  held-placed x (y ∷ ys) = place-by (nat_cmp x y) x y ys (held-placed x ys)

  -- the packets that a push keeps
  pub record IsHeld (lo hi : ℕ) (held : List Packet) : Type 0 where
    pub numbers : List ℕ
    pub rises : Rises lo hi numbers
    pub are : held ≡ map (packet sender) numbers

  pub held-limited : (most lo hi x : ℕ) (held : List Packet) → lo ≤ x → x < hi → IsHeld lo hi held
      → IsHeld lo hi (limited most (held_with (packet sender x) held))
  held-limited most lo hi x held a b is =
      let e : held_with (packet sender x) held ≡ map (packet sender) (placed x is.numbers) =
      ap (held_with (packet sender x)) is.are ∙ held-placed x is.numbers in
      let n : ℕ = length (held_with (packet sender x) held) - most in
      record {
        numbers = drop n (placed x is.numbers);
        rises = Rises-drop lo hi n (placed x is.numbers) (Rises-placed x lo hi a b is.numbers is.rises);
        are = ap (drop n) e ∙ drop-map (packet sender) n (placed x is.numbers);
      }

  pub packet-at : (xs : List ℕ) (k : ℕ) → k < length xs → packet_at (map (packet sender) xs) k
      ≡ packet sender (get_or xs k 0)
  packet-at xs k h = get_or-map (packet sender) xs k 0 no_packet h
