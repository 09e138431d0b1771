-- ICE credentials: ufrag and password.
use Rattle.std.specs.Prelude.{ℕ, List, Option, Some, None}
use Rattle.std.specs.Borrow.{Bor}

-- Those that are borrowed.
abbrev pub creds_view : Option (Bor (List ℕ) × Bor (List ℕ)) → Option (List ℕ × List ℕ)
creds_view None = None
creds_view (Some p) = Some (p.0.now, p.1.now)

-- The name and the password if both are given.
abbrev pub with_pass : List ℕ → Option (List ℕ) → Option (List ℕ × List ℕ)
with_pass name None = None
with_pass name (Some pass) = Some (name, pass)

abbrev pub with_name : Option (List ℕ) → Option (List ℕ) → Option (List ℕ × List ℕ)
with_name None pass = None
with_name (Some name) pass = with_pass name pass
