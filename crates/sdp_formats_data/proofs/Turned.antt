-- A section whose direction was changed has the new one.
use Rattle.std.proofs.Common.{◌≡◌, ℕ, ◌+◌, Bool, true, false, cond, ltb, suc, List, [], ◌∷◌, length, set}
use Rattle.std.proofs.Common.{Option, Some, None}
use Rattle.std.proofs.Common.{refl, sym, ap, ◌∙◌, arith}
use Rattle.std.proofs.lemmas.Grind.{common_steps}
use Rattle.std.proofs.lemmas.List.{set_past}
use Rattle.std.specs.List.{list_any, position, position_or_len}
use Rattle.std.specs.Option.{option_or, unwrap_or}
use Rattle.rtp_wire.specs.declared.direction.Direction.{Direction}
use Rattle.rtp_wire.specs.declared.direction.Direction.TheVariants as way
use Rattle.sdp_formats_data.specs.Directions.{directed, gives_direction}
use Rattle.sdp_formats_data.specs.Lookups.{direction_in, direction_of, first_of}
use Rattle.sdp_formats_data.specs.Media.{direction_attribute}
use Rattle.sdp_formats_data.specs.declared.media.MediaAttribute.{MediaAttribute}

direction_in-attribute : (d : Direction) → direction_in (direction_attribute d) ≡ Some d
unfolding direction_in
direction_in-attribute way.SendOnly = refl
direction_in-attribute way.RecvOnly = refl
direction_in-attribute way.SendRecv = refl
direction_in-attribute way.Inactive = refl

first_directed : (d : Direction) (attrs : List MediaAttribute) → list_any gives_direction attrs ≡ true
    → first_of direction_in (directed d attrs) ≡ Some d
first_directed d [] e = cc
first_directed d (a ∷ attrs) e = at (direction_in a) refl (first_directed d attrs)
  where
    at : (o : Option Direction) → direction_in a ≡ o
        → (list_any gives_direction attrs ≡ true → first_of direction_in (directed d attrs) ≡ Some d)
        → first_of direction_in (directed d (a ∷ attrs)) ≡ Some d
    at (Some x) q on = rw q (ap (λ (o : Option Direction). option_or o (first_of direction_in attrs))
        (direction_in-attribute d))
    at None q on =
        let there : list_any gives_direction attrs ≡ true = rw q at e in
        let n = position_or_len gives_direction attrs in
        let more : 1 + n ≡ suc n = omega arith in
        let here : first_of direction_in (a ∷ directed d attrs) ≡ Some d = rw q (on there) in
        rw q (ap (λ (k : ℕ). first_of direction_in (set (a ∷ attrs) k (direction_attribute d))) more ∙ here)

chosen_number : (t : Bool) (n i : ℕ) → cond t (Some n) None ≡ Some i → i ≡ n
chosen_number true n i e = cc
chosen_number false n i e = cc

no_number : (t : Bool) (n : ℕ) → cond t (Some n) None ≡ None → t ≡ false
no_number true n e = cc
no_number false n e = refl

pub directed-at : (d : Direction) (attrs : List MediaAttribute) (i : ℕ) → position gives_direction attrs ≡ Some i
    → set attrs i (direction_attribute d) ≡ directed d attrs
directed-at d attrs i e =
    let n = position_or_len gives_direction attrs in
    ap (λ (k : ℕ). set attrs k (direction_attribute d)) (chosen_number (ltb n (length attrs)) n i e)

pub directed-nowhere : (d : Direction) (attrs : List MediaAttribute) → position gives_direction attrs ≡ None
    → attrs ≡ directed d attrs
directed-nowhere d attrs e =
    let n = position_or_len gives_direction attrs in
    let past : ltb n (length attrs) ≡ false = no_number (ltb n (length attrs)) n e in
    sym (set_past attrs n (direction_attribute d) (grind (arith, common_steps)))

pub direction_of-directed : (d : Direction) (attrs : List MediaAttribute) → list_any gives_direction attrs ≡ true
    → direction_of (directed d attrs) ≡ d
direction_of-directed d attrs e =
    ap (λ (o : Option Direction). unwrap_or o way.Inactive) (first_directed d attrs e)
