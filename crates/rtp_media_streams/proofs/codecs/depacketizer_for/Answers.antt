use Rattle.std.proofs.Common.{false}
use Rattle.h26x_payload.specs.Codings.{first_settings}
use Rattle.rtp_media_streams.specs.Rows.{format_of}
use Rattle.rtp_media_streams.proofs.codecs.depacketizer_for.Goals as goal

pub returns-clause-format : goal.returns-clause-format
unfolding format_of
returns-clause-format c =
    c.configure_for.ensures.configured first_settings false c.args.row.now.codec
    (rw c.unwrap-depacketizer.ensures at c.new.ensures.variant)
    ((rw c.unwrap-depacketizer.ensures at c.new.ensures.format) false)
