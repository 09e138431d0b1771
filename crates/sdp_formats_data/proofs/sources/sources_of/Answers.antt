use Rattle.std.proofs.Common.{◌∙◌, ap, fold, List, ℕ}
use Rattle.std.specs.List.{filter_map}
use Rattle.sdp_formats_data.proofs.EachOnce.{once}
use Rattle.sdp_formats_data.specs.Distinct.{with_new}
use Rattle.sdp_formats_data.specs.Sources.{repairing_in, source_in}
use Rattle.sdp_formats_data.proofs.sources.sources_of.Goals as goal

pub returns : goal.returns
returns c =
    let attrs = c.args.attributes.now in
    let named = filter_map source_in attrs in
    let repairing = filter_map repairing_in attrs in
    let empty = ap (λ (l : List ℕ). fold with_new l named) c.new-sources.ensures.items in
    let first = c.in_ok-push_sources.ensures.sources ∙ empty in
    c.in_ok-push_repairing.ensures ∙ ap (λ (l : List ℕ). fold with_new l repairing) first ∙ once named repairing
