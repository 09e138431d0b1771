-- What tallies count.
use Rattle.std.specs.Prelude.{ℕ, ◌+◌, ◌%◌, ◌^◌, List, fold, length}
use Rattle.benchmarks.specs.declared.tally.Tally.{Tally}

-- Nothing was counted.
abbrev pub empty_tally : Tally
empty_tally = record { packets = 0; bytes = 0 }

-- The tally plus this many payloads with this many bytes in all; both counters wrap at 64 bits.
abbrev pub tally_with : Tally → ℕ → ℕ → Tally
tally_with tally packets bytes = record {
  packets = (tally.packets + packets) % 2 ^ 64;
  bytes = (tally.bytes + bytes) % 2 ^ 64;
}

-- The tally plus these payloads and their bytes.
abbrev pub tally_with_all : Tally → List (List ℕ) → Tally
tally_with_all tally payloads = fold (λ t p. tally_with t 1 (length p)) tally payloads
