-- Which known extensions the first ids of a map have.
use Rattle.std.specs.Prelude.{ℕ, ◌≡◌, ◌≤◌, Bool, false, List, slice_index_or}
use Rattle.rtp_wire.specs.declared.extension.Extension.{Extension}
use Rattle.rtp_wire.specs.Elements.{Numbering, holds}
use Rattle.rtp_wire.specs.Kinds.{kind_of}

-- Exactly those known extensions are marked that one of the first n ids has.
abbrev pub HasSeen : List Bool → Numbering → ℕ → Type 0
HasSeen seen map n = (ext : Extension) → 1 ≤ kind_of ext → slice_index_or seen (kind_of ext) false ≡ holds map n ext
