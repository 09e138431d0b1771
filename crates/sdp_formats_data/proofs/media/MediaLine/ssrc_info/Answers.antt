use Rattle.std.proofs.Common.{◌≡◌, ◌∙◌, [], IfOk, ap, map, subst}
use Rattle.sdp_formats_data.specs.KnownSources.{info_with}
use Rattle.sdp_formats_data.specs.Sources.{info_of, infos_of}
use Rattle.sdp_formats_data.proofs.media.MediaLine.ssrc_info.Goals as goal

pub returns : goal.returns
returns c =
    let sources = c.as_slice.result.now in
    let attributes = c.as_slice-attributes.result.now in
    let same : map (info_with c.in_ok-known.known []) sources ≡ map (info_of attributes) sources
    = λ i. map (λ source. c.in_ok-known.ensures source i) sources in
    let all : map (info_with c.in_ok-known.known []) sources ≡ infos_of c.args.self.now.attrs
    = same ∙ ap (map (info_of attributes)) (c.as_slice.ensures.value ∙ c.in_ok-sources.ensures)
    ∙ ap infos_of c.as_slice-attributes.ensures in
    subst (λ infos. IfOk c.infos_by.result (λ made. made.items ≡ infos)) all c.infos_by.ensures
