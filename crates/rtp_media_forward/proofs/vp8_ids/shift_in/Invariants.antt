use Rattle.std.proofs.Common.{◌≡◌, drop}
use Rattle.rtp_media_forward.specs.Vp8Ids.{no_shift, shift_in}
use Rattle.rtp_media_forward.proofs.vp8_ids.shift_in.Given as goal

-- the parts that are left give the same from here on as all of them
abbrev pub invariant-loop-part : goal.invariant-loop-part
invariant-loop-part l = shift_in l.shift (drop l.part-index l.parts) l.number ≡ shift_in no_shift l.parts l.number
