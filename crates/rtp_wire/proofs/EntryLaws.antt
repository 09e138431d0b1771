-- The entries of a map from a number on.
use Rattle.std.proofs.Common.{◌≡◌, ℕ, suc, ◌+◌, ◌-◌, ◌≤◌, ◌<◌, refl, arith, add-one, []}
use Rattle.rtp_wire.specs.Elements.{Numbering, lookup}
use Rattle.rtp_wire.specs.Iteration.{numbered, entry_before}

pub entries_step : (map : Numbering) (id : ℕ) → id ≤ 16 → numbered map id (17 - id)
    ≡ entry_before id (lookup map id) (numbered map (id + 1) (17 - (id + 1)))
entries_step map id h = let k : 17 - id ≡ suc (17 - (id + 1)) = omega arith in rw (k, add-one id) refl

pub entries_end : (map : Numbering) (id : ℕ) → 16 < id → numbered map id (17 - id) ≡ []
entries_end map id h = let k : 17 - id ≡ 0 = omega arith in rw k refl
