-- Which missing numbers a receiver asks for.
use Rattle.std.specs.Prelude.{ℕ, ◌+◌, ◌-◌, ◌==◌, ◌&&◌, nat_le, nat_lt, if◌then◌else◌, List, [], map, filter}
use Rattle.std.specs.Prelude.{Bool, unwrap_or}
use Rattle.std.specs.BTreeMap.{is_at}
use Rattle.std.specs.Map.{lookup}
use Rattle.std.specs.Ordering.{nat_cmp}
use Rattle.rtp_media_nack.specs.declared.requests.Request.{Request}

-- The numbers that were missing at the last call; how often each is asked for at most; and how long it is waited for
-- before it is asked for.
pub record Requests : Type 0 where
  pub entries : List (ℕ × Request)
  pub most : ℕ
  pub delay : ℕ

-- Nothing is missing.
abbrev pub nothing_missing : (most delay : ℕ) → Requests
nothing_missing most delay = record { entries = []; most = most; delay = delay }

-- A number that is missing from now on.
abbrev pub first_missing : ℕ → Request
first_missing now = record { since = now; last = now; times = 0 }

-- What is known of a missing number.
abbrev pub request_in : List (ℕ × Request) → (now number : ℕ) → Request
request_in entries now number = unwrap_or (lookup (is_at (nat_cmp number)) entries) (first_missing now)

-- Whether it is asked for now: not too often; the first time after the delay, then a round trip after the last time.
abbrev pub is_due : (most delay now round_trip : ℕ) → Request → Bool
is_due most delay now round_trip r = nat_lt r.times most
    && (if r.times == 0 then nat_le delay (now - r.since) else nat_le round_trip (now - r.last))

-- What is known of it after the call.
abbrev pub after_turn : (most delay now round_trip : ℕ) → Request → Request
after_turn most delay now round_trip r =
    if is_due most delay now round_trip r then record r { last = now; times = r.times + 1 } else r

-- The missing numbers that are asked for now.
abbrev pub due : Requests → (now round_trip : ℕ) → List ℕ → List ℕ
due q now round_trip missing = filter (λ n. is_due q.most q.delay now round_trip (request_in q.entries now n)) missing

-- After the call: what isn't missing any more is forgotten.
abbrev pub entry_after : Requests → (now round_trip number : ℕ) → ℕ × Request
entry_after q now round_trip number =
    (number, after_turn q.most q.delay now round_trip (request_in q.entries now number))

abbrev pub after_call : Requests → (now round_trip : ℕ) → List ℕ → Requests
after_call q now round_trip missing = record q { entries = map (entry_after q now round_trip) missing }
