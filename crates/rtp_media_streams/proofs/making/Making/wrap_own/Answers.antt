use Rattle.std.proofs.Common.{◌≡◌, ◌∙◌, ap, Bool, true, List, ℕ, [], ◌∷◌}
use Rattle.std.proofs.lemmas.Result.{IfOk-weaker}
use Rattle.rtp_media_streams.specs.Made.{header_with}
use Rattle.rtp_media_streams.proofs.MadeLemmas.{wrapped-datagram}
use Rattle.rtp_media_streams.proofs.making.Making.wrap_own.Goals as goal

pub returns-clause-made : goal.returns-clause-made
returns-clause-made g c =
    let making = c.args.self.now in
    let marks : Bool = (g.P.Packetizer.packing c.args.packetizer.now).marks c.args.sample.now true in
    let header : c.deref.result.now ≡ header_with making.stamp.now making.first marks making.time making.values.now =
    c.deref.ensures.value ∙ c.in_ok-header.ensures
    ∙ ap (λ (m : Bool). header_with making.stamp.now making.first m making.time making.values.now)
    c.is_marker-marker.ensures.marker in
    IfOk-weaker c.one.result _ _ (λ ds is. is ∙ ap (λ (d : List ℕ). d ∷ []) (wrapped-datagram making.stamp.now
    making.first marks making.time making.values.now _ _ _ _ c.args.sample.now _ header
    c.in_ok-datagram.ensures.wrapped))
    c.one.ensures
