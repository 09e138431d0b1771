-- Decoding order numbers of what leaves.
use Rattle.std.proofs.Common.{◌≡◌, ℕ, ◌+◌, ◌%◌, ◌<◌, List, [], ◌∷◌, ◌++◌, length, refl, ap, ◌∙◌, arith}
use Rattle.std.specs.List.{flat_map}
use Rattle.std.proofs.lemmas.List.{length-append}
use Rattle.h26x_payload_units.specs.Departures.{Departure, units_in}
use Rattle.h26x_payload_units.specs.Numbers.{NumbersLaw, number_after, number_behind, numbered}

pub numbered_append : (n : ℕ) (ds es : List Departure) → numbered n (ds ++ es) ≡ numbered n ds
    ++ numbered (number_after n ds) es
numbered_append n [] es = refl
numbered_append n (d ∷ ds) es = ap (λ rest. record { number = n; departure = d } ∷ rest)
    (numbered_append (number_behind n d) ds es)

pub number_after_append : (n : ℕ) (ds es : List Departure) → number_after n (ds ++ es)
    ≡ number_after (number_after n ds) es
number_after_append n [] es = refl
number_after_append n (d ∷ ds) es = number_after_append (number_behind n d) ds es

counted : (n a b : ℕ) → ((n + a) % 65536 + b) % 65536 ≡ (n + (a + b)) % 65536
counted n a b = omega arith

number_counts : (n : ℕ) (ds : List Departure) → n < 65536 → number_after n ds
    ≡ (n + length (flat_map units_in ds)) % 65536
number_counts n [] small = omega arith
number_counts n (d ∷ ds) small =
    number_counts (number_behind n d) ds (omega arith) ∙ counted n (length (units_in d)) (length (flat_map units_in ds))
    ∙ ap (λ k. (n + k) % 65536) (omega (arith, length-append (units_in d) (flat_map units_in ds)))

pub numbers_law : NumbersLaw
numbers_law n ds es small = (number_counts n ds small, numbered_append n ds es)
