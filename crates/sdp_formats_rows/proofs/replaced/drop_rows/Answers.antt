-- `retain` keeps what a filter by the closure's test keeps.
use Rattle.std.proofs.Common.{rules}
use Rattle.std.proofs.lemmas.Fn.{filter_same}
use Rattle.std.specs.Prelude.{not}
use Rattle.sdp_formats_rows.specs.Codecs.{is_codec}
use Rattle.sdp_formats_rows.proofs.replaced.drop_rows.Goals as goal

pub returns-clause-rows : goal.returns-clause-rows
returns-clause-rows c =
    filter_same _ (λ row. not (is_codec row.spec.codec c.args.codec)) _ (λ row b f w. search rules) _ _
    c.retain.ensures.filtered
