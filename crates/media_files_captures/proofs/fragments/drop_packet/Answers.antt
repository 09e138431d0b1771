use Rattle.std.proofs.Common.{rules}
use Rattle.std.proofs.lemmas.Fn.{filter_same}
use Rattle.media_files_captures.specs.Fragments.{is_other}
use Rattle.media_files_captures.proofs.fragments.drop_packet.Goals as goal

pub returns : goal.returns
returns c =
    filter_same _ (is_other c.args.fragment.now) _ (λ one b f w. search rules) _ _ c.retain.ensures.filtered
