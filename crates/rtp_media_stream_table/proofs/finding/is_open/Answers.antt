use Rattle.std.proofs.Common.{◌∙◌, sym}
use Rattle.rtp_media_stream_table.specs.Indexed.{has_key}
use Rattle.rtp_media_stream_table.proofs.Indexing.{any-at, not-any}
use Rattle.rtp_media_stream_table.proofs.finding.is_open.Goals as goal

pub returns-in-Some : goal.returns-in-Some
returns-in-Some c =
    any-at (has_key c.args.direction) c.args.streams.now c.args.index.now c.requires c.args.ssrc c.args.pt
    c.in-Some.number c.has_key_at.result
    (sym c.number.ensures ∙ c.in-Some.is) c.has_key_at.ensures

pub returns-in-None : goal.returns-in-None
returns-in-None c =
    not-any (has_key c.args.direction) c.args.streams.now c.args.index.now c.requires c.args.ssrc c.args.pt
    (sym c.number.ensures ∙ c.in-None.is)
