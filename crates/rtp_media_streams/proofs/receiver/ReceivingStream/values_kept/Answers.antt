use Rattle.std.proofs.Common.{sym, ◌∙◌}
use Rattle.rtp_media_streams.proofs.Unread.{none_read}
use Rattle.rtp_media_streams.proofs.receiver.ReceivingStream.values_kept.Goals as goal

pub returns-then-lacks_extension : goal.returns-then-lacks_extension
returns-then-lacks_extension c =
    c.none.ensures ∙ sym (none_read c.args.self.now.map c.args.datagram.now
    (c.lacks_extension.ensures c.if-lacks_extension.true))
