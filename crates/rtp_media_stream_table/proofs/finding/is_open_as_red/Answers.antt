use Rattle.std.proofs.Common.{◌∙◌, ap, sym, ℕ}
use Rattle.std.specs.Prelude.{Option}
use Rattle.std.specs.List.{list_any}
use Rattle.rtp_media_stream_table.specs.Indexed.{has_key, has_red}
use Rattle.rtp_media_stream_table.proofs.Indexing.{none-red}
use Rattle.rtp_media_stream_table.proofs.finding.is_open_as_red.Goals as goal

pub returns-in-Some : goal.returns-in-Some
returns-in-Some c =
    c.is_open.ensures
    ∙ ap (λ (o : Option ℕ). list_any (has_red (has_key c.args.direction) c.args.ssrc o) c.args.streams.now)
    (sym c.in-Some.is)

pub returns-in-None : goal.returns-in-None
returns-in-None c =
    none-red (has_key c.args.direction) c.args.ssrc c.args.streams.now
    ∙ ap (λ (o : Option ℕ). list_any (has_red (has_key c.args.direction) c.args.ssrc o) c.args.streams.now)
    (sym c.in-None.is)
