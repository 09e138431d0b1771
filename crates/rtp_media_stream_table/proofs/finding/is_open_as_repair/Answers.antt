use Rattle.std.proofs.Common.{◌∙◌, ap, sym}
use Rattle.std.specs.Prelude.{Option}
use Rattle.std.specs.List.{list_any}
use Rattle.rtp_media_streams.specs.declared.types.RepairKey.{RepairKey}
use Rattle.rtp_media_stream_table.specs.Indexed.{has_key, has_repair}
use Rattle.rtp_media_stream_table.proofs.Indexing.{none-repair}
use Rattle.rtp_media_stream_table.proofs.finding.is_open_as_repair.Goals as goal

pub returns-in-Some : goal.returns-in-Some
returns-in-Some c =
    c.is_open.ensures
    ∙ ap (λ (o : Option RepairKey). list_any (has_repair (has_key c.args.direction) o) c.args.streams.now)
    (sym c.in-Some.is)

pub returns-in-None : goal.returns-in-None
returns-in-None c =
    none-repair (has_key c.args.direction) c.args.streams.now
    ∙ ap (λ (o : Option RepairKey). list_any (has_repair (has_key c.args.direction) o) c.args.streams.now)
    (sym c.in-None.is)
