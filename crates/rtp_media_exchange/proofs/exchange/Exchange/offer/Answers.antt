use Rattle.std.proofs.Common.{◌≡◌, None, find, map, subst, sym, arith}
use Rattle.std.proofs.lemmas.Grind.{common_steps}
use Rattle.std.specs.Prelude.{string_bytes}
use Rattle.sdp_formats_data.specs.PrintedSession.{sdp_text}
use Rattle.sdp_formats_rounds.specs.Members.{IsEach}
use Rattle.rtp_media_sections.specs.PrintedSections.{as_read}
use Rattle.rtp_media_exchange.specs.Answering.{HasWidths}
use Rattle.rtp_media_exchange.specs.Exchanges.{Exchanged, IsKept}
use Rattle.rtp_media_exchange.specs.Offers.{offer_of, offered_sections}
use Rattle.rtp_media_exchange.specs.Refusals.{lists_none, no_row_of, not_written}
use Rattle.rtp_media_exchange.specs.Requests.{SaysOffer}
use Rattle.rtp_media_exchange.proofs.Printing.{offer_says}
use Rattle.rtp_media_exchange.proofs.Requested.{are_offers}
use Rattle.rtp_media_exchange.proofs.exchange.Exchange.offer.Goals as goal

pub returns-clause-says : goal.returns-clause-says
unfolding offer_of
returns-clause-says c =
    let x = c.args.self.now in
    let wanted = c.args.sections.items in
    let kept = subst (λ (y : Exchanged). IsKept y.session y.wanted y.config.rows) c.self.view_is c.self.invariant in
    let widths = subst (λ ws. IsEach HasWidths ws) (grind (arith, common_steps)) c.pass_sections.ensures in
    let listed : no_row_of (find (lists_none x.config.rows) wanted) ≡ None = grind (arith, common_steps) in
    let named : not_written wanted ≡ None = grind (arith, common_steps) in
    let text_is : string_bytes c.in_ok-text.text ≡ sdp_text (offer_of x wanted) = grind (arith, common_steps) in
    subst (λ t. SaysOffer t wanted) (sym text_is) (record {
      sections = map as_read (offered_sections x.wanted x.config.rows wanted);
      says = offer_says c.printable_sections_law.ensures.offered c.printed_sections_law.ensures.texts x wanted kept
          widths listed named;
      are_offers = are_offers c.wanted_sections_law.ensures.offered x.wanted x.config.rows wanted c.requires.sound;
    })
