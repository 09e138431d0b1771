use Rattle.std.proofs.Common.{◌∙◌, arith}
use Rattle.media_types.proofs.RowLaws.{profile_of-masked}
use Rattle.media_types.proofs.h264.profile_of.Goals as goal

pub returns : goal.returns
returns c = c.masked_profile.ensures ∙ profile_of-masked c.args.idc c.args.iop (omega arith)
