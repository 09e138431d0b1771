-- What a requester knows is what the calls before told it.
use Rattle.std.proofs.Common.{◌≡◌, ℕ, ◌+◌, ◌≤◌, ◌==◌, ◌&&◌, ◌||◌, ◌∙◌, nat_lt, if◌then◌else◌, cond, List, [], ◌∷◌}
use Rattle.std.proofs.Common.{Option, Some, Bool, true, false, refl, ap, arith, filter, map}
use Rattle.std.specs.Map.{lookup}
use Rattle.std.specs.BTreeMap.{is_at}
use Rattle.std.specs.Option.{unwrap_or}
use Rattle.std.specs.Ordering.{nat_cmp}
use Rattle.std.proofs.lemmas.Grind.{common_steps}
use Rattle.rtp_media_nack.specs.declared.requests.Request.{Request}
use Rattle.rtp_media_nack.specs.Requests.{Requests, after_turn, first_missing, is_due, request_in}
use Rattle.rtp_media_nack.specs.Runs.{Call, after_calls, is_among, told_of}
use Rattle.rtp_media_nack.proofs.Lookups.{is_at-same}

same-number : (n m : ℕ) → (n == m) ≡ true → m ≡ n
same-number n m e = grind (arith, common_steps)

found-step : (f : ℕ → Request) (d : Request) (n m : ℕ) (rest : Option Request) (tail : Bool) (b : Bool) → (n == m) ≡ b
    → unwrap_or rest d ≡ (if tail then f n else d)
    → unwrap_or (cond b (Some (f m)) rest) d ≡ (if b || tail then f n else d)
found-step f d n m rest tail true e h = ap f (same-number n m e)
found-step f d n m rest tail false e h = h

-- A number is found in entries of numbers if it is among them.
found : (f : ℕ → Request) (d : Request) (n : ℕ) (ms : List ℕ)
    → unwrap_or (lookup (is_at (nat_cmp n)) (map (λ m. (m, f m)) ms)) d ≡ (if is_among n ms then f n else d)
found f d n [] = refl
found f d n (m ∷ ms) =
    ap (λ (b : Bool). unwrap_or (cond b (Some (f m)) (lookup (is_at (nat_cmp n)) (map (λ k. (k, f k)) ms))) d)
    (is_at-same n m)
    ∙ found-step f d n m (lookup (is_at (nat_cmp n)) (map (λ k. (k, f k)) ms)) (is_among n ms) (n == m) refl
    (found f d n ms)

most-same : (most delay : ℕ) (calls : List Call) → (after_calls most delay calls).most ≡ most
most-same most delay [] = refl
most-same most delay (c ∷ before) = most-same most delay before

delay-same : (most delay : ℕ) (calls : List Call) → (after_calls most delay calls).delay ≡ delay
delay-same most delay [] = refl
delay-same most delay (c ∷ before) = delay-same most delay before

told-step : (b : Bool) (first r known : Request) (m d most delay now round_trip : ℕ) → m ≡ most → d ≡ delay → r ≡ known
    → (if b then after_turn m d now round_trip r else first) ≡
    (if b then after_turn most delay now round_trip known else first)
told-step b first r known m d most delay now round_trip e f g = rw (e, f, g) refl

pub told : (most delay n now : ℕ) (calls : List Call)
    → request_in (after_calls most delay calls).entries now n ≡ told_of most delay n now calls
told most delay n now [] = refl
told most delay n now (c ∷ before) =
    let q : Requests = after_calls most delay before in
    found (λ m. after_turn q.most q.delay c.now c.round_trip (request_in q.entries c.now m))
    (first_missing now) n c.missing
    ∙ told-step (is_among n c.missing) (first_missing now) (request_in q.entries c.now n)
    (told_of most delay n c.now before)
    q.most q.delay most delay c.now c.round_trip
    (most-same most delay before) (delay-same most delay before) (told most delay n c.now before)

pick : (b : Bool) (x y : Request) (most : ℕ) → (b ≡ true → x.times ≤ most) → y.times ≤ most
    → (if b then x else y).times ≤ most
pick true x y most f h = f refl
pick false x y most f h = h

below-most : (times most : ℕ) (b : Bool) → (nat_lt times most && b) ≡ true → times + 1 ≤ most
below-most times most b e = grind (arith, common_steps)

turn-times : (most delay now round_trip : ℕ) (r : Request) → r.times ≤ most
    → (after_turn most delay now round_trip r).times ≤ most
turn-times most delay now round_trip r h =
    let x : Request = record r { last = now; times = r.times + 1 } in
    pick (is_due most delay now round_trip r) x r most (λ e. below-most r.times most _ e) h

pub at-most : (most delay n now : ℕ) (calls : List Call) → (told_of most delay n now calls).times ≤ most
at-most most delay n now [] = omega arith
at-most most delay n now (c ∷ before) =
    pick (is_among n c.missing) (after_turn most delay c.now c.round_trip (told_of most delay n c.now before))
    (first_missing now) most
    (λ e. turn-times most delay c.now c.round_trip (told_of most delay n c.now before)
    (at-most most delay n c.now before))
    (omega arith)

or-step : (e r t : Bool) → (r ≡ true → t ≡ true) → (e || r) ≡ true → (e || t) ≡ true
or-step true r t f h = refl
or-step false r t f h = f h

or-right : (e t : Bool) → t ≡ true → (e || t) ≡ true
or-right true t h = refl
or-right false t h = h

among-step : (b : Bool) (n m : ℕ) (xs ms : List ℕ) → (is_among n xs ≡ true → is_among n ms ≡ true)
    → is_among n (cond b (m ∷ xs) xs) ≡ true → is_among n (m ∷ ms) ≡ true
among-step true n m xs ms f h = or-step (n == m) (is_among n xs) (is_among n ms) f h
among-step false n m xs ms f h = or-right (n == m) (is_among n ms) (f h)

-- What passes a test is among all.
pub among-filter : (p : ℕ → Bool) (n : ℕ) (ms : List ℕ) → is_among n (filter p ms) ≡ true → is_among n ms ≡ true
among-filter p n [] h = h
among-filter p n (m ∷ ms) h = among-step (p m) n m (filter p ms) ms (among-filter p n ms) h
