-- No two packets have one number.
use Rattle.std.proofs.Common.{◌≡◌, ℕ, ◌+◌, ◌-◌, ◌≤◌, refl, sym, ◌∙◌, ap, arith}
use Rattle.std.proofs.Common.{Bool, true, false, List, [], ◌∷◌}
use Rattle.std.specs.Prelude.{Option, Some, None, if◌then◌else◌}
use Rattle.rtp_media_schedules.specs.Hearing.{Content}
use Rattle.rtp_media_forward.specs.Forwarding.{Forwarding, end_before, is_in}
use Rattle.rtp_media_forward.specs.Forwarding.{newer_or, placed_by, placed_in, shifted}
use Rattle.rtp_media_forward.specs.Relayed.{IsOf, IsWithin, Part, count_in, piece_at}
use Rattle.rtp_media_forward.specs.Relayed.{pieces_from}
use Rattle.rtp_media_forward.specs.Relaying.{AreAsIn, AreWithin, IsAsIn, Packet}
use Rattle.rtp_media_forward.specs.Relaying.{place_of}
use Rattle.rtp_media_forward.specs.declared.forwarder.Piece.{Piece}
use Rattle.rtp_media_forward.specs.declared.forwarder.Placed.{Placed}
use Rattle.rtp_media_forward.proofs.Relaying.{IsIn, found, found-between, in-says, of-first, some-is, within-rest}

above : (senders : ℕ → ℕ → Content) (p : Part) (ps : List Part) (out s x a : ℕ) (q : Placed)
    → IsAsIn senders (p ∷ ps) s x → IsWithin (p ∷ ps) s x
    → placed_in (pieces_from (out + count_in p) ps) s x a ≡ Some q → out + count_in p ≤ q.number
above senders p ps out s x a q from within h = (found-between senders ps (out + count_in p) s x a q
    (found senders ps (out + count_in p) s x a q from.1 (within-rest p ps s x within) h)).0

record IsLow (p : Part) (out s x : ℕ) (q : Placed) : Type 0 where
  is_source : p.source ≡ s
  of : IsOf p x
  number_is : q.number ≡ out + (x - p.first)

low : (p : Part) (ps : List Part) (out s x a : ℕ) (q : Placed) → IsWithin (p ∷ ps) s x
    → placed_by (piece_at out p) (end_before (pieces_from (out + count_in p) ps)) s x a ≡ Some q → IsLow p out s x q
low p ps out s x a q within e =
    by (is_in (piece_at out p) (end_before (pieces_from (out + count_in p) ps)) s x) refl e where
      by : (b : Bool) → is_in (piece_at out p) (end_before (pieces_from (out + count_in p) ps)) s x ≡ b
          → (if b then Some (record { number = out + (x - p.first); time = shifted p.shift a }) else None) ≡ Some q
          → IsLow p out s x q
      by true is h =
          let in' : IsIn (piece_at out p) (end_before (pieces_from (out + count_in p) ps)) s x =
          in-says (piece_at out p) (end_before (pieces_from (out + count_in p) ps)) s x is in
          let at : Placed = record { number = out + (x - p.first); time = shifted p.shift a } in
          record {
            is_source = in'.is_source;
            of = of-first out p ps s x within in';
            number_is = sym (ap (λ (z : Placed). z.number) (some-is at q h));
          }
      by false is h = absurd cc

apart-by : (senders : ℕ → ℕ → Content) (p : Part) (ps : List Part) (out s x a t y b : ℕ) (q r : Placed)
    (m n : Option Placed) → IsAsIn senders (p ∷ ps) s x → IsAsIn senders (p ∷ ps) t y → IsWithin (p ∷ ps) s x
    → IsWithin (p ∷ ps) t y → (m ≡ Some q → n ≡ Some r → (s ≡ t) × (x ≡ y))
    → placed_in (pieces_from (out + count_in p) ps) s x a ≡ m
    → placed_in (pieces_from (out + count_in p) ps) t y b ≡ n
    → newer_or m (placed_by (piece_at out p) (end_before (pieces_from (out + count_in p) ps)) s x a) ≡ Some q
    → newer_or n (placed_by (piece_at out p) (end_before (pieces_from (out + count_in p) ps)) t y b) ≡ Some r
    → q.number ≡ r.number → (s ≡ t) × (x ≡ y)
apart-by senders p ps out s x a t y b q r None None from too one other newer i j e g same =
    let u : IsLow p out s x q = low p ps out s x a q one e in
    let v : IsLow p out t y r = low p ps out t y b r other g in
    (sym u.is_source ∙ v.is_source, omega (arith, same, u.number_is, u.of.0, v.number_is, v.of.0))
apart-by senders p ps out s x a t y b q r None (Some n) from too one other newer i j e g same =
    let u : IsLow p out s x q = low p ps out s x a q one e in
    let v : out + count_in p ≤ r.number = above senders p ps out t y b r too other (j ∙ g) in
    absurd (omega (arith, same, u.number_is, u.of.0, u.of.1, v))
apart-by senders p ps out s x a t y b q r (Some m) None from too one other newer i j e g same =
    let u : out + count_in p ≤ q.number = above senders p ps out s x a q from one (i ∙ e) in
    let v : IsLow p out t y r = low p ps out t y b r other g in
    absurd (omega (arith, same, v.number_is, v.of.0, v.of.1, u))
apart-by senders p ps out s x a t y b q r (Some m) (Some n) from too one other newer i j e g same = newer e g

apart-in : (senders : ℕ → ℕ → Content) (parts : List Part) (out s x a t y b : ℕ) (q r : Placed)
    → IsAsIn senders parts s x → IsAsIn senders parts t y → IsWithin parts s x → IsWithin parts t y
    → placed_in (pieces_from out parts) s x a ≡ Some q → placed_in (pieces_from out parts) t y b ≡ Some r
    → q.number ≡ r.number → (s ≡ t) × (x ≡ y)
apart-in senders [] out s x a t y b q r from too one other e g same = cc
apart-in senders (p ∷ ps) out s x a t y b q r from too one other e g same =
    apart-by senders p ps out s x a t y b q r
    (placed_in (pieces_from (out + count_in p) ps) s x a) (placed_in (pieces_from (out + count_in p) ps) t y b)
    from too one other
    (λ h k. apart-in senders ps (out + count_in p) s x a t y b q r from.1 too.1 (within-rest p ps s x one)
    (within-rest p ps t y other) h k same) refl refl e g same

pub apart : (senders : ℕ → ℕ → Content) (out : ℕ) (parts : List Part) (f : Forwarding) (p q : Packet) (a b : Placed)
    → f.pieces ≡ pieces_from out parts → AreAsIn senders parts (p ∷ q ∷ []) → AreWithin parts (p ∷ q ∷ [])
    → place_of senders f p ≡ Some a → place_of senders f q ≡ Some b → a.number ≡ b.number
    → (p.source ≡ q.source) × (p.number ≡ q.number)
apart senders out parts f p q a b is from within e g same =
    let one = ap (λ (ps : List Piece). placed_in ps p.source p.number (senders p.source p.number).time) (sym is) ∙ e in
    let other = ap (λ (ps : List Piece). placed_in ps q.source q.number (senders q.source q.number).time) (sym is)
    ∙ g in
    apart-in senders parts out p.source p.number (senders p.source p.number).time q.source q.number
    (senders q.source q.number).time a b from.0 from.1.0 within.0 within.1.0 one other same
