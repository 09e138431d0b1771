use Rattle.std.proofs.Common.{◌≡◌, ◌-◌}
use Rattle.media_files_captures.specs.Pcapng.{option_byte}
use Rattle.media_files_captures.proofs.interfaces.option_byte.Given as goal

-- the options left have the value that all have
abbrev pub invariant-loop-passed : goal.invariant-loop-passed
invariant-loop-passed l =
    option_byte (l.most - l._passed) l.order l.code l.rest ≡ option_byte l.most l.order l.code l.bytes
