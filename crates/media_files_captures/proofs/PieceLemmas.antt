-- A whole packet is made of fragments of it, each from where the one before ends.
use Rattle.std.proofs.Common.{◌≡◌, ℕ, suc, zero, ◌+◌, ◌==◌, ◌&&◌, Bool, true, false, List, [], ◌∷◌, ◌++◌, length, refl}
use Rattle.std.proofs.Common.{sym, ap, ◌∙◌, subst, inl, inr, cond, Option, Some, None, append-nil, append_assoc}
use Rattle.std.proofs.lemmas.Bool.{eqb-true}
use Rattle.std.proofs.lemmas.List.{length-append}
use Rattle.media_files_captures.specs.Fragments.{ArePieces, IsNext, bytes_of, is_of_packet, piece_at, whole_after}
use Rattle.media_files_captures.specs.Fragments.{with_piece}
use Rattle.media_files_captures.specs.declared.fragments.IpFragment.{IpFragment}

both-true : (a b : Bool) → (a && b) ≡ true → (a ≡ true) × (b ≡ true)
both-true true b e = (refl, e)
both-true false b e = absurd (cc)

-- what is found is held, of the packet, and begins there
found-here : (f : IpFragment) (start : ℕ) (h : IpFragment) (held : List IpFragment) (g : IpFragment) (b : Bool)
    → (is_of_packet f h && (h.start == start)) ≡ b → cond b (Some h) (piece_at f start held) ≡ Some g
    → (piece_at f start held ≡ Some g → IsNext f start held g) → IsNext f start (h ∷ held) g
found-here f start h held g true test found more =
    let same : h ≡ g = cc in
    let both = both-true (is_of_packet f h) (h.start == start) test in
    let here : IsNext f start (h ∷ held) h = (inl refl, both.0, eqb-true h.start start both.1) in
    subst (λ (x : IpFragment). IsNext f start (h ∷ held) x) same here
found-here f start h held g false test found more =
    let later = more found in
    (inr later.0, later.1, later.2)

pub found : (f : IpFragment) (start : ℕ) (held : List IpFragment) (g : IpFragment)
    → piece_at f start held ≡ Some g → IsNext f start held g
found f start [] g is = absurd (cc)
found f start (h ∷ held) g is =
    found-here f start h held g (is_of_packet f h && (h.start == start)) refl is (found f start held g)

-- the bytes after those that there are
pub record Made (f : IpFragment) (held : List IpFragment) (out bytes : List ℕ) : Type 0 where
  pub pieces : List IpFragment
  pub are : ArePieces f (length out) held pieces
  pub bytes_are : bytes ≡ out ++ bytes_of pieces

made-here : (f : IpFragment) (held : List IpFragment) (out bytes : List ℕ) (g : IpFragment)
    (more : List ℕ → Option (List ℕ)) (b : Bool) → g.is_last ≡ b → IsNext f (length out) held g
    → cond b (Some (out ++ g.bytes.now)) (more (out ++ g.bytes.now)) ≡ Some bytes
    → ((after : List ℕ) → more after ≡ Some bytes → Made f held after bytes) → Made f held out bytes
made-here f held out bytes g more true last next is deeper = record {
  pieces = g ∷ [];
  are = (next, rw last refl);
  bytes_are =
      let same : out ++ g.bytes.now ≡ bytes = cc in
      sym same ∙ ap (λ (xs : List ℕ). out ++ xs) (sym (append-nil g.bytes.now));
}
made-here f held out bytes g more false last next is deeper =
    let rest = deeper (out ++ g.bytes.now) is in
    let place : length (out ++ g.bytes.now) ≡ length out + length g.bytes.now = length-append out g.bytes.now in
    record {
      pieces = g ∷ rest.pieces;
      are = (
        next,
        rw last (subst (λ (n : ℕ). ArePieces f n held rest.pieces) place rest.are),
      );
      bytes_are = rest.bytes_are ∙ append_assoc out g.bytes.now (bytes_of rest.pieces);
    }

made-from : (f : IpFragment) (held : List IpFragment) (out bytes : List ℕ) (more : List ℕ → Option (List ℕ))
    (o : Option IpFragment) → piece_at f (length out) held ≡ o → with_piece o out more ≡ Some bytes
    → ((after : List ℕ) → more after ≡ Some bytes → Made f held after bytes) → Made f held out bytes
made-from f held out bytes more None none is deeper = absurd (cc)
made-from f held out bytes more (Some g) some is deeper =
    made-here f held out bytes g more g.is_last refl (found f (length out) held g some) is deeper

pub whole-made : (n : ℕ) (f : IpFragment) (held : List IpFragment) (out bytes : List ℕ)
    → whole_after n f held out ≡ Some bytes → Made f held out bytes
unfolding whole_after
whole-made zero f held out bytes is = absurd (cc)
whole-made (suc n) f held out bytes is =
    made-from f held out bytes (λ more. whole_after n f held more) (piece_at f (length out) held) refl is
    (λ after made. whole-made n f held after bytes made)
