-- Maps of numbers.
use Rattle.std.proofs.Common.{◌≡◌, ℕ, zero, suc, ◌<◌, refl, sym, ◌∙◌, ap, arith, [], ◌∷◌, length, replicate}
use Rattle.std.specs.Prelude.{Option, None, Some, slice_set, slice_index_or}
use Rattle.rtp_wire.specs.declared.extension.Extension.{Extension}
use Rattle.rtp_wire.specs.Maps.{empty_map}
use Rattle.rtp_wire.specs.Elements.{Numbering}

-- the first places of a map, and the others without an extension
abbrev pub copied_to : Numbering → ℕ → Numbering
copied_to [] n = []
copied_to (x ∷ xs) zero = None ∷ copied_to xs zero
copied_to (x ∷ xs) (suc n) = x ∷ copied_to xs n

copied_nothing : (map : Numbering) → replicate (length map) None ≡ copied_to map 0
copied_nothing [] = refl
copied_nothing (x ∷ xs) = ap (λ (ys : Numbering). None ∷ ys) (copied_nothing xs)

pub copied_start : (map : Numbering) → length map ≡ 16 → empty_map ≡ copied_to map 0
copied_start map e = ap (λ (n : ℕ). replicate {A = Option Extension} n None) (sym e) ∙ copied_nothing map

pub copied_end : (map : Numbering) (n : ℕ) → length map ≡ n → copied_to map n ≡ map
copied_end [] n e = refl
copied_end (x ∷ xs) (suc n) e = ap (λ (ys : Numbering). x ∷ ys) (copied_end xs n (omega arith))
copied_end (x ∷ xs) zero e = absurd (omega arith)

pub copied_more : (map : Numbering) (n : ℕ) (ext : Extension) → n < length map → slice_index_or map n None ≡ Some ext →
    slice_set (copied_to map n) n (Some ext) ≡ copied_to map (suc n)
copied_more [] n ext h e = absurd (omega arith)
copied_more (x ∷ xs) zero ext h e = ap (λ (o : Option Extension). o ∷ copied_to xs 0) (sym e)
copied_more (x ∷ xs) (suc n) ext h e = ap (λ (ys : Numbering). x ∷ ys) (copied_more xs n ext (omega arith) e)

pub copied_none : (map : Numbering) (n : ℕ) → n < length map → slice_index_or map n None ≡ None → copied_to map n
    ≡ copied_to map (suc n)
copied_none [] n h e = absurd (omega arith)
copied_none (x ∷ xs) zero h e = ap (λ (o : Option Extension). o ∷ copied_to xs 0) (sym e)
copied_none (x ∷ xs) (suc n) h e = ap (λ (ys : Numbering). x ∷ ys) (copied_none xs n (omega arith) e)
