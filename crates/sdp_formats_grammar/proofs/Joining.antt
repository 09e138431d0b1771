-- Texts with a text between each two, one after the other.
use Rattle.std.proofs.Common.{◌≡◌, ℕ, List, [], ◌∷◌, ◌++◌, Option, None, Some, Ok, refl, map, ap, sym, ◌∙◌, subst}
use Rattle.std.proofs.Common.{append_assoc, length}
use Rattle.std.proofs.lemmas.List.{append-nil}
use Rattle.std.specs.declared.fmt.Formatter.{Formatter}
use Rattle.std.specs.Fmt.{HasWritten, DisplaysOnOk, IsPlainFormatter, ◌++?◌}
use Rattle.std.specs.Prelude.{IfSome}
use Rattle.std.proofs.Output.{has_written_append}
use Rattle.sdp_formats_grammar.specs.Joined.{each_behind, joined, outputs_behind, joined_outputs}
use Rattle.sdp_formats_grammar.specs.Bind.{◌>>=◌}
use Rattle.sdp_formats_grammar.specs.Steps.{bind_some, some_same}

pub each_front : (s : List ℕ) (o : Option (List ℕ)) (os : List (Option (List ℕ))) (whole : List ℕ)
    → outputs_behind s (o ∷ os) ≡ Some whole
    → (text more : List ℕ) × (o ≡ Some text) × (outputs_behind s os ≡ Some more) × (whole ≡ s ++ text ++ more)
each_front s o os whole h =
    let first = bind_some o (λ text. outputs_behind s os >>= λ more. Some (s ++ text ++ more)) whole h in
    let rest = bind_some (outputs_behind s os) (λ more. Some (s ++ first.0 ++ more)) whole first.2 in
    (first.0, rest.0, first.1, rest.1, cc)

pub each_next : {A : Type 0} (out : A → Option (List ℕ)) (s : List ℕ) (xs : List A) (x : A) (rest : List A)
    (whole : List ℕ) → xs ≡ x ∷ rest → outputs_behind s (map out xs) ≡ Some whole
    → (text more : List ℕ) × (out x ≡ Some text) × (outputs_behind s (map out rest) ≡ Some more)
    × (whole ≡ s ++ text ++ more)
each_next out s xs x rest whole e h = each_front s (out x) (map out rest) whole
    (ap (λ ys. outputs_behind s (map out ys)) (sym e) ∙ h)

pub written_more : {W : Type 0} (took : W → List ℕ → W → Type 0) (f g h : Formatter W) (u : Unit {0})
    (written separator text : List ℕ) (o : Option (List ℕ)) → HasWritten took f written g → o ≡ Some text
    → DisplaysOnOk took g (Ok u) (Some separator ++? o) h → HasWritten took f (written ++ (separator ++ text)) h
written_more took f g h u written separator text o before same wrote =
    has_written_append took f written g (separator ++ text) h before
    (subst (λ p. DisplaysOnOk took g (Ok u) (Some separator ++? p) h) same wrote before.plain refl)

-- what was written is all once nothing is left
pub all_written : (s written left whole : List ℕ) → outputs_behind s [] ≡ Some left → whole ≡ written ++ left
    → written ≡ whole
all_written s written left whole none w =
    sym (w ∙ ap (λ t. written ++ t) (sym (some_same [] left none)) ∙ append-nil written)

pub one_more : (written s text more left whole : List ℕ) → whole ≡ written ++ left → left ≡ s ++ text ++ more
    → whole ≡ (written ++ (s ++ text)) ++ more
one_more written s text more left whole h e = h ∙ ap (λ t. written ++ t) e ∙ simp append_assoc

if_some : {A : Type 0} (o : Option A) (P : A → Type 0) → ((a : A) → o ≡ Some a → P a) → IfSome o P
if_some None P h = tt
if_some (Some a) P h = h a refl

joined_front : (s : List ℕ) (o : Option (List ℕ)) (os : List (Option (List ℕ))) (whole : List ℕ)
    → joined_outputs s (o ∷ os) ≡ Some whole
    → (text more : List ℕ) × (o ≡ Some text) × (outputs_behind s os ≡ Some more) × (whole ≡ text ++ more)
joined_front s o os whole h =
    let first = bind_some o (λ text. outputs_behind s os >>= λ more. Some (text ++ more)) whole h in
    let rest = bind_some (outputs_behind s os) (λ more. Some (first.0 ++ more)) whole first.2 in
    (first.0, rest.0, first.1, rest.1, sym (some_same _ _ rest.2))

empty_of : {A : Type 0} (xs : List A) → length xs ≡ 0 → xs ≡ []
empty_of [] h = refl
empty_of (x ∷ xs) h = absurd (cc)

-- the first text, and then each other after the separator
pub joined_whole : {W T : Type 0} (took : W → List ℕ → W → Type 0) (out : T → Option (List ℕ)) (s : List ℕ)
    (items : List T) (first : T) (rest left : List T) (f g h : Formatter W) (u v : Unit {0}) → items ≡ first ∷ rest
    → length left ≡ 0 → DisplaysOnOk took f (Ok u) (out first) g
    → ((more : List ℕ) → IsPlainFormatter g → outputs_behind s (map out rest) ≡ Some more
    → (written last : List ℕ) × HasWritten took g written h × (outputs_behind s (map out left) ≡ Some last)
    × (more ≡ written ++ last))
    → DisplaysOnOk took f (Ok v) (joined_outputs s (map out items)) h
joined_whole took out s items first rest left f g h u v are none wrote kept =
    if_some (joined_outputs s (map out items)) _ (λ whole e plain ok.
    let front = joined_front s (out first) (map out rest) whole
    (ap (λ xs. joined_outputs s (map out xs)) (sym are) ∙ e) in
    let one = subst (λ p. DisplaysOnOk took f (Ok u) p g) front.2 wrote plain refl in
    let k = kept front.1 one.plain front.3 in
    let all = all_written s k.0 k.1 front.1
    (ap (λ xs. outputs_behind s (map out xs)) (sym (empty_of left none)) ∙ k.3) k.4 in
    subst (λ t. HasWritten took f t h) (ap (λ t. front.0 ++ t) all ∙ sym front.4)
    (has_written_append took f front.0 g k.0 h one k.2))

-- the same of values that each have a text
pub text_more : {A : Type 0} (s : List ℕ) (text : A → List ℕ) (xs : List A) (x : A) (rest : List A)
    (written whole : List ℕ) → xs ≡ x ∷ rest → whole ≡ written ++ each_behind s (map text xs)
    → whole ≡ (written ++ (s ++ text x)) ++ each_behind s (map text rest)
text_more s text xs x rest written whole are h =
    h ∙ ap (λ ys. written ++ each_behind s (map text ys)) are ∙ simp append_assoc

pub texts_done : {A : Type 0} (s : List ℕ) (text : A → List ℕ) (items : List A) (first : A) (rest left : List A)
    (written : List ℕ) → items ≡ first ∷ rest → length left ≡ 0
    → each_behind s (map text rest) ≡ written ++ each_behind s (map text left)
    → text first ++ written ≡ joined s (map text items)
texts_done s text items first rest left written are none h =
    let last : each_behind s (map text rest) ≡ written =
    h ∙ ap (λ ys. written ++ each_behind s (map text ys)) (empty_of left none) ∙ append-nil written in
    sym (ap (λ ys. joined s (map text ys)) are ∙ ap (λ t. text first ++ t) last)
