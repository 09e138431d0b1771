-- What iterators hand out.
use Rattle.std.proofs.Common.{◌≡◌, List, map, refl}
use Rattle.std.proofs.lemmas.Iterator.Consumers.{YieldsList-end, YieldsList-from_first}
use Rattle.std.specs.Iterator.{Yields, YieldsFirstBy}
use Rattle.std.specs.Prelude.{None}

-- what was there is handed out
pub all_of_first : {S A B : Type 0} (v : A → B) (rest : S → List B) (s : S) (xs : List A) (t u : S)
    → Yields (YieldsFirstBy v rest) s xs t → YieldsFirstBy v rest t None u → map v xs ≡ rest s
all_of_first v rest s xs t u yielded ends =
    (YieldsList-end (YieldsList-from_first v rest (rest s) refl) xs t yielded None u refl ends).0
