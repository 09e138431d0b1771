-- Steps in sequence.
use Rattle.std.proofs.Common.{◌≡◌, Option, None, Some, List, [], ◌∷◌, refl}
use Rattle.std.specs.Option.{option_map}
use Rattle.sdp_formats_grammar.specs.Bind.{◌>>=◌}

pub bind_some : {A B : Type 0} (o : Option A) (f : A → Option B) (b : B) → (o >>= f) ≡ Some b → (a : A)
    × (o ≡ Some a) × (f a ≡ Some b)
bind_some None f b h = absurd (cc)
bind_some (Some a) f b h = (a, refl, h)

pub map_some : {A B : Type 0} (h : A → B) (o : Option A) (b : B) → option_map h o ≡ Some b → (a : A) × (o ≡ Some a)
    × (b ≡ h a)
map_some h None b e = absurd (cc)
map_some h (Some a) b e = (a, refl, cc)

pub none_if : {A : Type 0} (o : Option A) → ((x : A) → o ≡ Some x → ⊥) → o ≡ None
none_if None never = refl
none_if (Some x) never = absurd (never x refl)

pub none_some : {A : Type 0} (x : A) → None ≡ Some x → ⊥
none_some x h = cc

pub some_same : {A : Type 0} (x y : A) → Some x ≡ Some y → x ≡ y
some_same x y h = cc

pub nil_cons : {A : Type 0} (x : A) (xs : List A) → [] ≡ x ∷ xs → ⊥
nil_cons x xs h = cc

pub cons_same : {A : Type 0} (x y : A) (xs ys : List A) → x ∷ xs ≡ y ∷ ys → (x ≡ y) × (xs ≡ ys)
cons_same x y xs ys h = (cc, cc)
