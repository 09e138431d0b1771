use Rattle.std.proofs.Common.{◌≡◌, drop}
use Rattle.media_files_captures.specs.Fragments.{piece_at}
use Rattle.media_files_captures.proofs.fragments.piece_at.Given as goal

-- none so far is of the packet and begins there
abbrev pub invariant-loop-one : goal.invariant-loop-one
invariant-loop-one l = piece_at l.fragment l.start (drop l.one-index l.held) ≡ piece_at l.fragment l.start l.held
