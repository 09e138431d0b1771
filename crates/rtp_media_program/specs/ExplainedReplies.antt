-- Which replies are negative.
use Rattle.std.specs.Prelude.{ℕ, ◌||◌, Bool, List, codes}
use Rattle.std.specs.List.{starts_with}
use Rattle.std.specs.Str.{bytes_eq}
use lib.Dec.{eqb}

-- The line wasn't understood, or its conditions failed.
abbrev pub is_error_line : List ℕ → Bool
is_error_line reply = bytes_eq reply (codes "error line")

-- A call was refused, a datagram wasn't taken, or a poll returned a fault.
abbrev pub says_no : List ℕ → Bool
says_no reply =
    starts_with eqb reply (codes "refused ") || bytes_eq reply (codes "unreadable") || bytes_eq reply (codes "foreign")
    || bytes_eq reply (codes "damaged") || bytes_eq reply (codes "refused") || bytes_eq reply (codes "fault Memory")
    || bytes_eq reply (codes "fault Payload")
