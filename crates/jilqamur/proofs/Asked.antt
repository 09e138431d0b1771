-- No more is asked for than is missing.
use Rattle.std.proofs.Common.{◌≡◌, ◌∙◌, refl, nat_lt, if◌then◌else◌, ℕ, ◌+◌, ◌≤◌, List, [], ◌∷◌, Bool, true, false}
use Rattle.std.proofs.Common.{cond, length, filter, arith}
use Rattle.std.proofs.lemmas.Grind.{common_steps}
use Rattle.rtp_media_nack.specs.Requests.{Requests, due, is_due, request_in}
use Rattle.jilqamur.specs.Codes.{ok, too_small}
use Rattle.jilqamur.specs.Copies.{copy_outcome}

few-step : (b : Bool) (x : ℕ) (ys xs : List ℕ) → length ys ≤ length xs → length (cond b (x ∷ ys) ys) ≤ length (x ∷ xs)
few-step true x ys xs h = omega arith
few-step false x ys xs h = omega arith

filter-few : (p : ℕ → Bool) (xs : List ℕ) → length (filter p xs) ≤ length xs
filter-few p [] = omega arith
filter-few p (x ∷ xs) = few-step (p x) x (filter p xs) xs (filter-few p xs)

pub due-few : (q : Requests) (now round_trip : ℕ) (missing : List ℕ)
    → length (due q now round_trip missing) ≤ length missing
due-few q now round_trip missing =
    filter-few (λ n. is_due q.most q.delay now round_trip (request_in q.entries now n)) missing

not-below : (a b : ℕ) → b ≤ a → nat_lt a b ≡ false
not-below a b h = grind (arith, common_steps)

pick-ok : (b : Bool) → b ≡ false → (if b then too_small else ok) ≡ ok
pick-ok b e = rw e refl

-- So there is room for it where there is room for what is missing.
pub is-ok : (q : Requests) (now round_trip : ℕ) (missing items before : List ℕ) (result : ℕ)
    → items ≡ due q now round_trip missing → length missing ≤ length before → result ≡ copy_outcome items before
    → result ≡ ok
is-ok q now round_trip missing items before result e l r =
    let few : length (due q now round_trip missing) ≤ length missing = due-few q now round_trip missing in
    let fits : length items ≤ length before = rw e (omega arith) in
    r ∙ pick-ok (nat_lt (length before) (length items)) (not-below (length before) (length items) fits)
