use Rattle.std.specs.Prelude.{ℕ, zero, suc, ◌-◌, List, [], ◌∷◌, Option, Some, None}
use Rattle.std.specs.Borrow.{Bor}
use Rattle.rtp_wire.specs.declared.extension.Extension.{Extension}
use Rattle.rtp_wire.specs.declared.iteration.ExtensionMapIter.{ExtensionMapIter}
use Rattle.rtp_wire.specs.Elements.{Numbering, lookup}

-- A number with its extension, before others.
abbrev pub entry_before : ℕ → Option Extension → List (ℕ × Extension) → List (ℕ × Extension)
entry_before id None entries = entries
entry_before id (Some ext) entries = (id, ext) ∷ entries

-- The extensions of the `count` ids from `id` on.
abbrev pub numbered : Numbering → ℕ → ℕ → List (ℕ × Extension)
numbered map id zero = []
numbered map id (suc count) = entry_before id (lookup map id) (numbered map (suc id) count)

-- The entries the iterator has yet to yield.
abbrev pub entries_left : ExtensionMapIter → List (ℕ × Extension)
entries_left it = numbered it.map.now it.id (17 - it.id)

abbrev pub entry_of : ℕ × Bor Extension → ℕ × Extension
entry_of x = (x.0, x.1.now)
