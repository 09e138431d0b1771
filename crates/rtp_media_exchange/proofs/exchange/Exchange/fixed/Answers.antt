use Rattle.std.proofs.Common.{◌≡◌, List, arith, subst, sym}
use Rattle.std.proofs.lemmas.Grind.{common_steps}
use Rattle.rtp_wire.specs.Maps.{empty_map}
use Rattle.rtp_wire.specs.Values.{Numbering}
use Rattle.sdp_formats_data.specs.declared.session.Session.{Session}
use Rattle.sdp_formats_rows.specs.Rows.{Row}
use Rattle.rtp_media_exchange.specs.Exchanges.{IsKept, bare_session, fixed}
use Rattle.rtp_media_exchange.proofs.Keeping.{fixed_kept}
use Rattle.rtp_media_exchange.proofs.exchange.Exchange.fixed.Goals as goal

pub invariant_of-result : goal.invariant_of-result
invariant_of-result c =
    let session : c.new.result ≡ bare_session 0 = grind (arith, common_steps) in
    let rows : c.in_ok-config.config.rows ≡ fixed.config.rows = grind (arith, common_steps) in
    let exts : c.empty.result ≡ empty_map = grind (arith, common_steps) in
    subst (λ (s : Session). IsKept s c.empty.result c.in_ok-config.config.rows) (sym session)
    (subst (λ (rs : List Row). IsKept (bare_session 0) c.empty.result rs) (sym rows)
    (subst (λ (m : Numbering). IsKept (bare_session 0) m fixed.config.rows) (sym exts)
    (fixed_kept c.formats_law.ensures.rows)))
