-- What a reader answers.
use Rattle.std.proofs.Common.{◌≡◌, ℕ, ◌+◌, ◌<◌, List, length, drop, Option, None, Some, Bor, refl}
use Rattle.std.proofs.Common.{sym, ◌∙◌, ap}
use Rattle.std.specs.Option.{MatchOption, ok_or, option_copied, option_map}
use Rattle.std.specs.Str.Pattern.{LacksTextAt, FindsTextPrefix}
use Rattle.std.proofs.lemmas.Str.Pattern.{IsSplitOnceResult, split_parts}
use Rattle.sdp_formats_grammar.specs.declared.refusal.Refusal.TheVariants.{Unfit}
use Rattle.sdp_formats_grammar.specs.Refusals.{GivesBy, parted}
use Rattle.sdp_formats_grammar.specs.Split.{split_first, behind, halves, halves_of}
use Rattle.sdp_formats_grammar.specs.Cuts.{split_first-at, split_first-nowhere, Lacks-from_index}
use Rattle.sdp_formats_grammar.specs.Words.{behind-append, behind-sound}

pub split-gives : (c : ℕ) (text : List ℕ) (r : Option (Bor (List ℕ) × Bor (List ℕ))) → c < 128
    → IsSplitOnceResult c text r → GivesBy parted (ok_or r Unfit) (split_first c text)
split-gives c text None low h = split_first-nowhere c text (Lacks-from_index c text (split_parts c text None h low))
split-gives c text (Some x) low h =
    let parts = split_parts c text (Some x) h low in
    ap (split_first c) parts.0 ∙ split_first-at c x.0.now x.1.now (Lacks-from_index c x.0.now parts.1)

pub named-split : (c : ℕ) (text : List ℕ) (r : Option (Bor (List ℕ) × Bor (List ℕ))) → c < 128
    → IsSplitOnceResult c text r → option_map parted r ≡ split_first c text
named-split c text None low h = sym (split-gives c text None low h)
named-split c text (Some x) low h = sym (split-gives c text (Some x) low h)

none_if : {A : Type 0} (o : Option A) → ((x : A) → o ≡ Some x → ⊥) → o ≡ None
none_if None never = refl
none_if (Some x) never = absurd (never x refl)

pub behind-gives : (words text : List ℕ) (r : Option (Bor (List ℕ)))
    → MatchOption r (LacksTextAt words text 0)
    (λ x. (n : ℕ) × FindsTextPrefix words text (Some n) × (x.now ≡ drop n text) × (length x.now + n ≡ length text))
    → GivesBy (λ (x : Bor (List ℕ)). x.now) (ok_or r Unfit) (behind words text)
behind-gives words text None lacks = none_if (behind words text)
    (λ rest same. lacks rest (behind-sound words text rest same))
behind-gives words text (Some x) found =
    ap (behind words) found.1.1 ∙ behind-append words (drop found.0 text) ∙ ap Some (sym found.2)

pub halves-split : (c : ℕ) (text : List ℕ) (x : Bor (List ℕ) × Bor (List ℕ)) → c < 128
    → IsSplitOnceResult c text (Some x) → halves c text ≡ (x.0.now, Some x.1.now)
halves-split c text x low h = ap (halves_of text) (split-gives c text (Some x) low h)

pub halves-whole : (c : ℕ) (text : List ℕ) → c < 128 → IsSplitOnceResult c text None → halves c text ≡ (text, None)
halves-whole c text low h = ap (halves_of text) (split-gives c text None low h)

pub behind-strip : (words text : List ℕ) (r : Option (Bor (List ℕ)))
    → MatchOption r (LacksTextAt words text 0)
    (λ x. (n : ℕ) × FindsTextPrefix words text (Some n) × (x.now ≡ drop n text) × (length x.now + n ≡ length text))
    → option_copied r ≡ behind words text
behind-strip words text None lacks = sym (behind-gives words text None lacks)
behind-strip words text (Some x) found = sym (behind-gives words text (Some x) found)
