use Rattle.std.proofs.Common.{◌∙◌, sym, true, false}
use Rattle.rtp_media_stream_table.specs.Arrivals.{takes}
use Rattle.rtp_media_stream_table.proofs.Indexing.{found-at, none-at}
use Rattle.rtp_media_stream_table.proofs.finding.stream_for.Goals as goal

pub returns-in-Some-clause-stream : goal.returns-in-Some-clause-stream
returns-in-Some-clause-stream c =
    found-at takes c.args.streams.now c.args.receivers.now c.requires c.args.ssrc c.args.pt c.in-Some.number true
    (sym c.number.ensures ∙ c.in-Some.is) (sym c.if-has_key_at.true ∙ c.has_key_at.ensures)

pub returns-in_default-clause-stream : goal.returns-in_default-clause-stream
returns-in_default-clause-stream c =
    found-at takes c.args.streams.now c.args.receivers.now c.requires c.args.ssrc c.args.pt c.in-Some.number false
    (sym c.number.ensures ∙ c.in-Some.is) (sym c.if-has_key_at.false ∙ c.has_key_at.ensures)

pub returns-in_default-2-clause-stream : goal.returns-in_default-2-clause-stream
returns-in_default-2-clause-stream c =
    none-at takes c.args.streams.now c.args.receivers.now c.requires c.args.ssrc c.args.pt
    (sym c.number.ensures ∙ c.in_default.is)
