use Rattle.std.proofs.Common.{◌≡◌, ◌∙◌, None, Ok, List, ap, length, map, subst, sym, arith}
use Rattle.std.proofs.lemmas.Grind.{common_steps}
use Rattle.std.specs.Prelude.{IsTrue, string_bytes}
use Rattle.sdp_formats_data.specs.PrintedSession.{sdp_text}
use Rattle.sdp_formats_rounds.specs.Laws.{rounds}
use Rattle.sdp_formats_rounds.specs.Members.{IsEach}
use Rattle.rtp_media_sections.specs.Lines.{remote_of}
use Rattle.rtp_media_sections.specs.Sections.{Section, corresponds}
use Rattle.rtp_media_exchange.specs.Answering.{HasWidths, read_back}
use Rattle.rtp_media_exchange.specs.Exchanges.{Exchanged, IsKept, answered_agreement}
use Rattle.rtp_media_exchange.specs.Offers.{answered_sections, sdp_of}
use Rattle.rtp_media_exchange.specs.Refusals.{no_answer, not_written, refusal_of_answer}
use Rattle.rtp_media_exchange.proofs.AnsweringLemmas.{agrees, answer_text, says_printed, written}
use Rattle.rtp_media_exchange.proofs.Keeping.{rounds_kept}
use Rattle.rtp_media_exchange.proofs.Printing.{as_many}
use Rattle.rtp_media_exchange.proofs.Refusing.{may_answer}
use Rattle.rtp_media_exchange.proofs.exchange.Exchange.answer.Goals as goal

pub returns-clause-accepted : goal.returns-clause-accepted
returns-clause-accepted c =
    let x = c.args.self.now in
    let offer = c.in_ok-offer.offer.items in
    let none : refusal_of_answer x offer c.args.sections.items ≡ None = grind (arith, common_steps) in
    may_answer x c.args.text.now c.args.sections.items offer c.in_ok-offer.ensures.says none

pub written-requires-clause-answer : goal.written-requires-clause-answer
written-requires-clause-answer c =
    let x = c.args.self.now in
    let offer = c.in_ok-offer.offer.items in
    let wanted = c.as_slice-3.result.now in
    let rows = c.in_ok-config.config.rows in
    let answer = c.as_slice-5.result.now in
    let same : length wanted ≡ length offer = grind (arith, common_steps) in
    let answer_is : answer ≡ answered_sections x.wanted rows wanted offer = grind (arith, common_steps) in
    as_many x.wanted rows wanted offer same ∙ sym (ap (λ (ss : List Section). length ss) answer_is)

pub invariant_of-self : goal.invariant_of-self
invariant_of-self c =
    let offer = c.in_ok-offer.offer.items in
    let before = c.self.inside.config.rows in
    let rows = c.in_ok-config.config.rows in
    let rounds_are : rounds (map remote_of offer) before ≡ Ok rows = grind (arith, common_steps) in
    rounds_kept c.read_sections_keep_rows.ensures c.self.inside.session c.self.inside.exts before rows c.args.text.now
    offer c.in_ok-offer.ensures.says rounds_are c.self.invariant

pub returns-clause-text : goal.returns-clause-text
returns-clause-text c =
    let x = c.args.self.now in
    let offer = c.in_ok-offer.offer.items in
    let wanted = c.args.sections.items in
    let rows = c.in_ok-config.config.rows in
    let answer = c.as_slice-5.result.now in
    let rounds_are : rounds (map remote_of offer) x.config.rows ≡ Ok rows = grind (arith, common_steps) in
    let session_is : c.self.inside.session ≡ x.session = grind (arith, common_steps) in
    let wanted_is : c.as_slice-3.result.now ≡ wanted = grind (arith, common_steps) in
    let offer_is : c.as_slice-4.result.now ≡ offer = grind (arith, common_steps) in
    let answer_is : answer ≡ answered_sections x.wanted rows wanted offer = grind (arith, common_steps) in
    let same : length wanted ≡ length offer = grind (arith, common_steps) in
    let widths = subst (λ ws. IsEach HasWidths ws) (grind (arith, common_steps)) c.in_ok-config.ensures.widths in
    let listed : no_answer rows offer ≡ None = grind (arith, common_steps) in
    let written_is : not_written wanted ≡ None = grind (arith, common_steps) in
    let kept = subst (λ (y : Exchanged). IsKept y.session y.wanted y.config.rows) c.self.view_is c.self.invariant in
    let said = says_printed c.printable_sections_law.ensures.answered c.printed_sections_law.ensures.texts
    c.read_sections_keep_rows.ensures x c.args.text.now wanted offer rows c.in_ok-offer.ensures.says rounds_are kept
    widths listed written_is in
    let text_is = answer_text x rows wanted offer c.self.inside.session answer session_is answer_is in
    let text = string_bytes c.in_ok-text.text in
    let agreed = c.in_ok-text.agreed.items in
    let text_of : text ≡ sdp_text (sdp_of c.self.inside.session answer) = c.in_ok-text.ensures.text in
    let agreed_is : agreed
    ≡ answered_agreement wanted offer (map read_back (answered_sections x.wanted rows wanted offer)) =
    grind (arith, common_steps) in
    let shapes : IsTrue (corresponds offer wanted) = grind (arith, common_steps) in
    written c.wanted_sections_law.ensures.answered x c.args.text.now wanted offer rows text agreed _
    c.in_ok-offer.ensures.says rounds_are (text_of ∙ text_is) said same c.requires.sound shapes agreed_is
    (grind (arith, common_steps))

pub returns-clause-agreed : goal.returns-clause-agreed
returns-clause-agreed c =
    let x = c.args.self.now in
    let offer = c.in_ok-offer.offer.items in
    let wanted = c.args.sections.items in
    let rows = c.in_ok-config.config.rows in
    let answer = c.as_slice-5.result.now in
    let rounds_are : rounds (map remote_of offer) x.config.rows ≡ Ok rows = grind (arith, common_steps) in
    let session_is : c.self.inside.session ≡ x.session = grind (arith, common_steps) in
    let wanted_is : c.as_slice-3.result.now ≡ wanted = grind (arith, common_steps) in
    let offer_is : c.as_slice-4.result.now ≡ offer = grind (arith, common_steps) in
    let answer_is : answer ≡ answered_sections x.wanted rows wanted offer = grind (arith, common_steps) in
    let same : length wanted ≡ length offer = grind (arith, common_steps) in
    let widths = subst (λ ws. IsEach HasWidths ws) (grind (arith, common_steps)) c.in_ok-config.ensures.widths in
    let listed : no_answer rows offer ≡ None = grind (arith, common_steps) in
    let written_is : not_written wanted ≡ None = grind (arith, common_steps) in
    let kept = subst (λ (y : Exchanged). IsKept y.session y.wanted y.config.rows) c.self.view_is c.self.invariant in
    let said = says_printed c.printable_sections_law.ensures.answered c.printed_sections_law.ensures.texts
    c.read_sections_keep_rows.ensures x c.args.text.now wanted offer rows c.in_ok-offer.ensures.says rounds_are kept
    widths listed written_is in
    let text_is = answer_text x rows wanted offer c.self.inside.session answer session_is answer_is in
    let text = string_bytes c.in_ok-text.text in
    let agreed = c.in_ok-text.agreed.items in
    let text_of : text ≡ sdp_text (sdp_of c.self.inside.session answer) = c.in_ok-text.ensures.text in
    let agreed_is : agreed
    ≡ answered_agreement wanted offer (map read_back (answered_sections x.wanted rows wanted offer)) =
    grind (arith, common_steps) in
    agrees x wanted offer rows text agreed (text_of ∙ text_is) said same agreed_is
