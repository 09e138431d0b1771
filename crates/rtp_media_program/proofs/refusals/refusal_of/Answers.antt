use Rattle.std.proofs.Common.{◌≡◌, ℕ, Bool, false, List, sym, refl, inl, inr}
use Rattle.std.specs.Prelude.{codes, ◌||◌}
use Rattle.std.specs.Str.{bytes_eq}
use Rattle.std.proofs.lemmas.Bool.{cases_Bool}
use Rattle.std.proofs.lemmas.Slice.Eq.{bytes_eq-Decides}
use Rattle.std.proofs.lemmas.Str.Pattern.{starts_text}
use Rattle.rtp_media_program.proofs.refusals.refusal_of.Goals as goal

-- another text
other : (xs ys : List ℕ) → (xs ≡ ys → ⊥) → bytes_eq xs ys ≡ false
other xs ys differs = elim (cases_Bool (bytes_eq xs ys)) [
  | inl e ↦ absurd (differs ((bytes_eq-Decides xs ys).0 e))
  | inr e ↦ e
]

none : (a b c d e f g : Bool) → false ≡ a → b ≡ false → c ≡ false → d ≡ false → e ≡ false → f ≡ false → g ≡ false
    → false ≡ (a || b || c || d || e || f || g)
none a b c d e f g ha hb hc hd he hf hg = rw (sym ha, hb, hc, hd, he, hf, hg) refl

pub returns-in_default : goal.returns-in_default
returns-in_default c = none _ _ _ _ _ _ _
    (starts_text false (codes "refused ") c.args.reply.now c.if-starts_with.ensures.cases)
    (other _ _ c.in_default.not-unreadable) (other _ _ c.in_default.not-foreign)
    (other _ _ c.in_default.not-damaged) (other _ _ c.in_default.not-refused)
    (other _ _ c.in_default.not-text) (other _ _ c.in_default.not-text-2)
