-- SSRCs in a set, and those of the list that are left.
use Rattle.std.proofs.Common.{◌≡◌, ℕ, ◌+◌, ◌<◌, Bool, true, false, ◌||◌, ◌==◌, List, length, drop, refl, sym, ◌∙◌, ap}
use Rattle.std.proofs.lemmas.List.{at_drop_more}
use Rattle.std.specs.Cmp.{unsigned_tied}
use Rattle.std.specs.Ordering.{is_eq, nat_cmp}
use Rattle.std.specs.Prelude.{cond, slice_index_or}
use Rattle.rtp_media_sections.specs.Agreement.{is_named}

either : (same old rest : Bool) → (cond same true old || rest) ≡ (old || (same || rest))
either true true rest = refl
either true false rest = refl
either false old rest = refl

-- One more of the list in the set, and one fewer left.
pub one-more : (ssrcs : List ℕ) (i : ℕ) (n : ℕ) (one other : ℕ) (old new : Bool) → i < length ssrcs
    → one ≡ slice_index_or ssrcs i other → new ≡ cond (is_eq (nat_cmp one n)) true old
    → (new || is_named (drop (i + 1) ssrcs) n) ≡ (old || is_named (drop i ssrcs) n)
one-more ssrcs i n one other old new lt item is =
    ap (λ (b : Bool). b || is_named (drop (i + 1) ssrcs) n) is
    ∙ either (is_eq (nat_cmp one n)) old (is_named (drop (i + 1) ssrcs) n)
    ∙ ap (λ (b : Bool). old || (b || is_named (drop (i + 1) ssrcs) n)) (unsigned_tied one n)
    ∙ ap (λ (k : ℕ). old || ((k == n) || is_named (drop (i + 1) ssrcs) n)) item
    ∙ ap (λ (b : Bool). old || b) (sym (at_drop_more (λ (xs : List ℕ). is_named xs n) ssrcs i other lt))
