-- Names in values.
use Rattle.std.specs.Prelude.{◌≤◌, IfSome, length}
use Rattle.rtp_wire.specs.declared.values.ExtensionValues.{ExtensionValues}

-- Every name that is present is nonempty.
pub record HasFullNames (v : ExtensionValues) : Type 0 where
  pub mid : IfSome v.mid (λ text. 1 ≤ length text)
  pub rid : IfSome v.rid (λ text. 1 ≤ length text)
  pub rid_repair : IfSome v.rid_repair (λ text. 1 ≤ length text)
