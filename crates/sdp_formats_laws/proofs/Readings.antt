-- What forms read of texts that were put together for them.
use Rattle.std.proofs.Common.{◌≡◌, ◌≤◌, ◌<◌, ◌^◌, ℕ, Bool, true, false, cond, List, [], ◌∷◌, ◌++◌, Option, Some, None}
use Rattle.std.proofs.Common.{decimal, nat_le, nat_lt, map, refl, ◌∙◌, ap, arith, lit<, lit≤}
use Rattle.std.specs.Option.{option_map}
use Rattle.std.proofs.lemmas.Bool.Decides.{nat_tests}
use Rattle.std.proofs.lemmas.List.{append-nil}
use Rattle.sdp_formats_grammar.specs.Bind.{◌>>=◌}
use Rattle.sdp_formats_grammar.specs.Cuts.{split_first-at, split_first-nowhere, parts-at, parts-whole}
use Rattle.sdp_formats_grammar.specs.Form.{Form, both, both_maybe, maybe, cut, cut_maybe, each, separated, passed, told}
use Rattle.sdp_formats_grammar.specs.Joined.{joined}
use Rattle.sdp_formats_grammar.specs.Numbers.{number_below}
use Rattle.sdp_formats_grammar.specs.Split.{Lacks, halves_of, parts}
use Rattle.sdp_formats_reader.specs.Maps.{payload_type, clock_rate}
use Rattle.sdp_formats_laws.proofs.Decimals.{number_below-decimal, Lacks-decimal}
use Rattle.sdp_formats_laws.specs.Printable.{AreBelow}

pub cut_reads : {A B : Type 0} (c : ℕ) (f : Form A) (g : Form B) (front back : List ℕ) (a : A) (b : B) → Lacks c front
    → f.reads front ≡ Some a → g.reads back ≡ Some b → (cut c f g).reads (front ++ c ∷ back) ≡ Some (a, b)
cut_reads c f g front back a b lacks first second =
    ap (λ o. o >>= both f.reads g.reads) (split_first-at c front back lacks)
    ∙ ap (λ o. o >>= λ x. g.reads back >>= λ y. Some (x, y)) first
    ∙ ap (λ o. o >>= λ y. Some (a, y)) second

pub cut_nowhere : {A B : Type 0} (c : ℕ) (f : Form A) (g : Form B) (t : List ℕ) (a : A) → Lacks c t
    → f.reads t ≡ Some a → (cut_maybe c f g).reads t ≡ Some (a, None)
cut_nowhere c f g t a lacks first =
    ap (λ o. both_maybe f.reads (maybe g.reads) (halves_of t o)) (split_first-nowhere c t lacks)
    ∙ ap (λ o. o >>= λ x. Some (x, None)) first

pub cut_somewhere : {A B : Type 0} (c : ℕ) (f : Form A) (g : Form B) (front back : List ℕ) (a : A) (b : B)
    → Lacks c front → f.reads front ≡ Some a → g.reads back ≡ Some b
    → (cut_maybe c f g).reads (front ++ c ∷ back) ≡ Some (a, Some b)
cut_somewhere c f g front back a b lacks first second =
    ap (λ o. both_maybe f.reads (maybe g.reads) (halves_of (front ++ c ∷ back) o)) (split_first-at c front back lacks)
    ∙ ap (λ o. o >>= λ x. option_map Some (g.reads back) >>= λ y. Some (x, y)) first
    ∙ ap (λ o. option_map Some o >>= λ y. Some (a, y)) second

passes : (p : Bool) (n : ℕ) → p ≡ true → cond p (Some n) None ≡ Some n
passes true n h = refl
passes false n h = absurd (cc)

pub type_reads : (pt : ℕ) → pt ≤ 127 → payload_type.reads (decimal pt) ≡ Some pt
type_reads pt low =
    ap (λ o. o >>= passed (λ n. nat_le n 127)) (number_below-decimal (2 ^ 8) pt (omega arith) (lit≤ tt))
    ∙ passes (nat_le pt 127) pt (grind (arith, nat_tests))

pub rate_reads : (rate : ℕ) → 0 < rate → rate < 2 ^ 32 → clock_rate.reads (decimal rate) ≡ Some rate
rate_reads rate some fits =
    ap (λ o. o >>= passed (λ n. nat_lt 0 n)) (number_below-decimal (2 ^ 32) rate fits (lit≤ tt))
    ∙ passes (nat_lt 0 rate) rate (grind (arith, nat_tests))

-- numbers with blanks between
abbrev pub number_32 : List ℕ → Option ℕ
number_32 t = number_below (2 ^ 32) t

pub numbers_read : (s : ℕ) (ss : List ℕ) → AreBelow (2 ^ 32) (s ∷ ss)
    → (separated 32 (told number_32)).reads (joined (32 ∷ []) (map decimal (s ∷ ss))) ≡ Some (s ∷ ss)
numbers_read s [] below =
    ap (λ t. each number_32 (parts 32 t)) (append-nil (decimal s))
    ∙ ap (each number_32) (parts-whole 32 (decimal s) (Lacks-decimal 32 s (lit< tt) (omega (below.0, arith))))
    ∙ ap (λ o. o >>= λ a. Some (a ∷ [])) (number_below-decimal (2 ^ 32) s below.0 (lit≤ tt))
numbers_read s (n ∷ ss) below =
    ap (each number_32) (parts-at 32 (decimal s) (joined (32 ∷ []) (map decimal (n ∷ ss)))
    (Lacks-decimal 32 s (lit< tt) (omega (below.0, arith))))
    ∙ ap (λ o. o >>= λ a. each number_32 (parts 32 (joined (32 ∷ []) (map decimal (n ∷ ss)))) >>= λ as'. Some (a ∷ as'))
    (number_below-decimal (2 ^ 32) s below.0 (lit≤ tt))
    ∙ ap (λ o. o >>= λ as'. Some (s ∷ as')) (numbers_read n ss below.1)

-- values with a sign between each two
abbrev pub AreRead : {A : Type 0} → ℕ → (List ℕ → Option A) → (A → List ℕ) → List A → Type 0
AreRead c read text [] = Unit {0}
AreRead c read text (x ∷ xs) = Lacks c (text x) × (read (text x) ≡ Some x) × AreRead c read text xs

pub list_reads : {A : Type 0} (c : ℕ) (read : List ℕ → Option A) (text : A → List ℕ) (x : A) (xs : List A)
    → AreRead c read text (x ∷ xs)
    → (separated c (told read)).reads (joined (c ∷ []) (map text (x ∷ xs))) ≡ Some (x ∷ xs)
list_reads c read text x [] h =
    ap (λ t. each read (parts c t)) (append-nil (text x))
    ∙ ap (each read) (parts-whole c (text x) h.0)
    ∙ ap (λ o. o >>= λ a. Some (a ∷ [])) h.1
list_reads c read text x (y ∷ ys) h =
    ap (each read) (parts-at c (text x) (joined (c ∷ []) (map text (y ∷ ys))) h.0)
    ∙ ap (λ o. o >>= λ a. each read (parts c (joined (c ∷ []) (map text (y ∷ ys)))) >>= λ as'. Some (a ∷ as')) h.1
    ∙ ap (λ o. o >>= λ as'. Some (x ∷ as')) (list_reads c read text y ys h.2)
