use Rattle.std.proofs.Common.{rules}
use Rattle.sdp_formats_values.specs.Keys.{key_named}
use Rattle.sdp_formats_values.proofs.key.Key.named.Goals as goal

pub loop-key-init : goal.loop-key-init
unfolding key_named
loop-key-init c = search rules
