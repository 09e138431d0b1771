use Rattle.std.proofs.Common.{◌≡◌, take}
use Rattle.std.specs.List.{flat_map}
use Rattle.rtp_media_program.specs.ReplyLines.{reply_text}
use Rattle.rtp_media_program.proofs.reply.print.Given as goal

abbrev pub invariant-loop-reply : goal.invariant-loop-reply
invariant-loop-reply l = l.text.items ≡ flat_map reply_text (take l.reply-index l.replies)
