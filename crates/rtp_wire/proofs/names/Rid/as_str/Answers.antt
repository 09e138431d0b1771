use Rattle.rtp_wire.proofs.NameLaws.{IsUtf8-name}
use Rattle.rtp_wire.proofs.names.Rid.as_str.Goals as goal

pub name_text-requires : goal.name_text-requires
name_text-requires c = IsUtf8-name 8 _ c.self.invariant.name
