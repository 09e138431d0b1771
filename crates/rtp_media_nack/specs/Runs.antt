-- Runs of calls, the last call first.
use Rattle.std.specs.Prelude.{ℕ, ◌<◌, ◌++◌, ◌==◌, if◌then◌else◌, List, [], ◌∷◌, Bool}
use Rattle.std.specs.List.{list_any}
use Rattle.rtp_media_nack.specs.Histories.{History, Sent, kept, nothing_kept}
use Rattle.rtp_media_nack.specs.Requests.{Requests, after_call, after_turn, first_missing, nothing_missing}
use Rattle.rtp_media_nack.specs.declared.requests.Request.{Request}

-- One call of a requester: what is missing, the time, and the round trip.
pub record Call : Type 0 where
  pub missing : List ℕ
  pub now : ℕ
  pub round_trip : ℕ

abbrev pub after_calls : (most delay : ℕ) → List Call → Requests
after_calls most delay [] = nothing_missing most delay
after_calls most delay (c ∷ before) = after_call (after_calls most delay before) c.now c.round_trip c.missing

abbrev pub is_among : ℕ → List ℕ → Bool
is_among n numbers = list_any (λ m. n == m) numbers

-- What the calls say of a number: it is new unless it was missing at the last call, and the calls before without a
-- break.
abbrev pub told_of : (most delay n now : ℕ) → List Call → Request
told_of most delay n now [] = first_missing now
told_of most delay n now (c ∷ before) =
    if is_among n c.missing then after_turn most delay c.now c.round_trip (told_of most delay n c.now before)
    else first_missing now

-- A history after datagrams were kept one after the other.
abbrev pub after_keeping : (most most_bytes : ℕ) → List Sent → History
after_keeping most most_bytes [] = nothing_kept most most_bytes
after_keeping most most_bytes (p ∷ before) = kept (after_keeping most most_bytes before) p.0 p.1

-- The same datagrams, the first one first.
abbrev pub in_order : List Sent → List Sent
in_order [] = []
in_order (p ∷ before) = in_order before ++ p ∷ []

-- Their numbers are all below one.
abbrev pub AreBelow : ℕ → List Sent → Type 0
AreBelow n [] = Unit {0}
AreBelow n (p ∷ ps) = (p.0 < n) × AreBelow n ps

-- Their numbers rise: each is above those before.
abbrev pub IsRising : List Sent → Type 0
IsRising [] = Unit {0}
IsRising (p ∷ before) = AreBelow p.0 before × IsRising before
