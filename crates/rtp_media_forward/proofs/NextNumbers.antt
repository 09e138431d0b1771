-- The next number after packets.
use Rattle.std.proofs.Common.{◌≡◌, ℕ, ◌+◌, ◌≤◌, refl, sym, ◌∙◌, ap, subst, arith}
use Rattle.std.proofs.Common.{Bool, List, [], ◌∷◌, ◌++◌}
use Rattle.std.specs.Prelude.{Option, Some, None, max}
use Rattle.rtp_media_schedules.specs.Hearing.{Content}
use Rattle.rtp_media_forward.specs.Forwarding.{Forwarding, after_packet}
use Rattle.rtp_media_forward.specs.Forwarding.{placed_in}
use Rattle.rtp_media_forward.specs.Relayed.{Part, count_of}
use Rattle.rtp_media_forward.specs.Relayed.{pieces_from}
use Rattle.rtp_media_forward.specs.Relaying.{AreAsIn, AreWithin, Packet, after_all}
use Rattle.rtp_media_forward.specs.Relaying.{place_of}
use Rattle.rtp_media_forward.specs.declared.forwarder.Piece.{Piece}
use Rattle.rtp_media_forward.specs.declared.forwarder.Placed.{Placed}
use Rattle.rtp_media_forward.proofs.Relaying.{after-pieces, found-between, placed-found}

next-some : (f : Forwarding) (o : Option Placed) (ends : Bool) (q : Placed) → o ≡ Some q
    → (after_packet f o ends).next ≡ max f.next (q.number + 1)
next-some f o ends q e = ap (λ (o : Option Placed). (after_packet f o ends).next) e

next-more : (f : Forwarding) (o : Option Placed) (ends : Bool) → f.next ≤ (after_packet f o ends).next
next-more f None ends = omega arith
next-more f (Some at) ends = omega arith

next-above : (senders : ℕ → ℕ → Content) (came : List Packet) (f : Forwarding)
    → f.next ≤ (after_all senders f came).next
next-above senders [] f = omega arith
next-above senders (p ∷ ps) f =
    omega (
      arith,
      next-more f (place_of senders f p) p.ends,
      next-above senders ps (after_packet f (place_of senders f p) p.ends),
    )

next-below : (senders : ℕ → ℕ → Content) (out : ℕ) (parts : List Part) (came : List Packet) (f : Forwarding)
    → f.pieces ≡ pieces_from out parts → AreAsIn senders parts came → AreWithin parts came
    → f.next ≤ out + count_of parts → (after_all senders f came).next ≤ out + count_of parts
next-below senders out parts [] f is from within le = le
next-below senders out parts (p ∷ ps) f is from within le =
    next-below senders out parts ps (after_packet f (place_of senders f p) p.ends)
    (after-pieces f (place_of senders f p) p.ends ∙ is) from.1 within.1 (by (place_of senders f p) refl) where
      by : (o : Option Placed) → place_of senders f p ≡ o
          → (after_packet f (place_of senders f p) p.ends).next ≤ out + count_of parts
      by None e = subst (λ (o : Option Placed). (after_packet f o p.ends).next ≤ out + count_of parts) (sym e) le
      by (Some q) e =
          let ends = found-between senders parts out p.source p.number (senders p.source p.number).time q
          (placed-found senders out parts f p q is from.0 within.0 e) in
          omega (arith, next-some f (place_of senders f p) p.ends q e, le, ends.1)

same-place : (senders : ℕ → ℕ → Content) (f g : Forwarding) (p : Packet) → g.pieces ≡ f.pieces
    → place_of senders g p ≡ place_of senders f p
same-place senders f g p is =
    ap (λ (ps : List Piece). placed_in ps p.source p.number (senders p.source p.number).time) is

has-last : (senders : ℕ → ℕ → Content) (end : ℕ) (last : Packet) (at : Placed) (xs ys : List Packet) (f : Forwarding)
    → place_of senders f last ≡ Some at → at.number + 1 ≡ end
    → end ≤ (after_all senders f (xs ++ last ∷ ys)).next
has-last senders end last at [] ys f e is =
    omega (
      arith,
      next-some f (place_of senders f last) last.ends at e,
      is,
      next-above senders ys (after_packet f (place_of senders f last) last.ends),
    )
has-last senders end last at (x ∷ xs) ys f e is =
    has-last senders end last at xs ys (after_packet f (place_of senders f x) x.ends)
    (same-place senders f (after_packet f (place_of senders f x) x.ends) last
    (after-pieces f (place_of senders f x) x.ends) ∙ e) is

pub next-is : (senders : ℕ → ℕ → Content) (out : ℕ) (parts : List Part) (f : Forwarding) (last : Packet) (at : Placed)
    (xs ys : List Packet) → f.pieces ≡ pieces_from out parts → AreAsIn senders parts (xs ++ last ∷ ys)
    → AreWithin parts (xs ++ last ∷ ys) → f.next ≤ out + count_of parts → place_of senders f last ≡ Some at
    → at.number + 1 ≡ out + count_of parts
    → (after_all senders f (xs ++ last ∷ ys)).next ≡ out + count_of parts
next-is senders out parts f last at xs ys is from within le e end =
    omega (
      arith,
      has-last senders (out + count_of parts) last at xs ys f e end,
      next-below senders out parts (xs ++ last ∷ ys) f is from within le,
    )
