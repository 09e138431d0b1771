-- Frames numbered by 15-bit picture ids (RFC 7741 4.2, RFC 9628 4.2).
use Rattle.std.specs.Prelude.{ℕ, ◌+◌, nat_lt, if◌then◌else◌}
use Rattle.payload_core_base.specs.Packing.{Sender}

-- The next id, modulo 32,768.
abbrev pub next_id : ℕ → ℕ
next_id id = if nat_lt id 32767 then id + 1 else 0

-- The number rises by one for each frame that is sent.
abbrev pub after_frame : Sender → Sender
after_frame s = record { number = next_id s.number; waiting = s.waiting }
