use Rattle.std.proofs.Common.{refl}
use Rattle.rtp_media_ends.specs.Ends.{receiver_at}
use Rattle.rtp_media_ends.proofs.Isolation.{isolated}
use Rattle.rtp_media_ends.proofs.laws.isolation_law.Goals as goal

pub returns : goal.returns
returns c end datagrams stream known = isolated datagrams end stream (receiver_at end stream) refl known
