use Rattle.std.proofs.Common.{◌∙◌}
use Rattle.rtp_media_stream_table.proofs.Indexing.{could-be}
use Rattle.rtp_media_stream_table.proofs.finding.conflicts.Goals as goal

pub returns : goal.returns
returns c =
    c.any_of.ensures
    ∙ could-be c.args.direction c.args.ssrc c.args.types.now c.args.streams.now c.is_open-by_type.result
    c.is_open_as_red-by_red.result c.is_open_as_repair-by_repair.result
    c.is_open-by_type.ensures c.is_open_as_red-by_red.ensures c.is_open_as_repair-by_repair.ensures
