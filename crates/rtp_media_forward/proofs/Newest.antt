-- The newest piece that has a packet, found from the last piece on.
use Rattle.std.proofs.Common.{◌≡◌, ℕ, zero, suc, ◌+◌, ◌-◌, ◌<◌, sym, ◌∙◌, ap, ap₂, arith, List, [], ◌∷◌}
use Rattle.std.proofs.Common.{length, drop, take, length-drop, get_or, Bool, true, false}
use Rattle.std.specs.Prelude.{Option, Some, None, if◌then◌else◌}
use Rattle.std.proofs.lemmas.List.{drop_more, take_all}
use Rattle.rtp_media_forward.specs.Forwarding.{end_before, is_in, newer_or, number_in, placed_by, placed_in, shifted}
use Rattle.rtp_media_forward.specs.declared.forwarder.Piece.{Piece}
use Rattle.rtp_media_forward.specs.declared.forwarder.Placed.{Placed}

placed-front : (ps : List Piece) (i s x t : ℕ) (q : Placed) → placed_in (drop i ps) s x t ≡ Some q
    → placed_in ps s x t ≡ Some q
placed-front ps zero s x t q e = e
placed-front [] (suc i) s x t q e = e
placed-front (p ∷ ps) (suc i) s x t q e =
    ap (λ (o : Option Placed). newer_or o (placed_by p (end_before ps) s x t)) (placed-front ps i s x t q e)

module _ (ps : List Piece) (k end s x t : ℕ) (d : Piece) (some : k < length ps)
    (newer : placed_in (drop (length ps - k) ps) s x t ≡ None)
    (ends : end ≡ end_before (take (length ps - (length ps - 1 - k + 1)) (drop (length ps - 1 - k + 1) ps))) where
  abbrev i : ℕ
  i = length ps - 1 - k

  abbrev rest : List Piece
  rest = drop (i + 1) ps

  end-is : end ≡ end_before rest
  end-is = ends ∙ ap end_before (take_all (length ps - (i + 1)) rest (omega (arith, length-drop (i + 1) ps)))

  by-piece : placed_in (drop i ps) s x t ≡ placed_by (get_or ps i d) end s x t
  by-piece =
      let next : length ps - k ≡ i + 1 = omega (arith, some) in
      let none : placed_in rest s x t ≡ None =
      ap (λ (n : ℕ). placed_in (drop n ps) s x t) (sym next) ∙ newer in
      ap (λ (qs : List Piece). placed_in qs s x t) (drop_more ps i d (omega (arith, some)))
      ∙ ap₂ (λ (o : Option Placed) (n : ℕ). newer_or o (placed_by (get_or ps i d) n s x t)) none (sym end-is)

  pub has-it : is_in (get_or ps i d) end s x ≡ true → placed_in ps s x t
      ≡ Some (record { number = number_in (get_or ps i d) x; time = shifted (get_or ps i d).shift t })
  has-it e = placed-front ps i s x t _ (by-piece ∙ ap (λ (b : Bool). if b
      then Some (record { number = number_in (get_or ps i d) x; time = shifted (get_or ps i d).shift t }) else None) e)

  pub has-not : is_in (get_or ps i d) end s x ≡ false → placed_in (drop (length ps - (k + 1)) ps) s x t ≡ None
  has-not e =
      let here : length ps - (k + 1) ≡ i = omega arith in
      ap (λ (n : ℕ). placed_in (drop n ps) s x t) here ∙ by-piece ∙ ap (λ (b : Bool). if b
      then Some (record { number = number_in (get_or ps i d) x; time = shifted (get_or ps i d).shift t }) else None) e
