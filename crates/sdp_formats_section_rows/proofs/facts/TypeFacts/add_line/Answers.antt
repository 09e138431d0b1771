use Rattle.std.proofs.Common.{◌∙◌, sym}
use Rattle.sdp_formats_section_rows.specs.Facts.{facts_after}
use Rattle.sdp_formats_section_rows.proofs.OneWalk.{only_links}
use Rattle.sdp_formats_section_rows.proofs.facts.TypeFacts.add_line.Goals as goal

pub returns-then-is_about : goal.returns-then-is_about
unfolding facts_after
returns-then-is_about c = λ i. record {
  pt = c.args.self.now.pt;
  is_listed = c.args.self.now.is_listed;
  resend = c.linked_by-self.ensures i;
  red = c.linked_by-self-2.ensures i;
  format = c.with_attribute-self.ensures i;
  is_declined = c.is_also_declined-self.ensures i;
  events = c.events_after-self.ensures i;
  feedback = c.feedback_after-self.ensures i;
}

pub returns-else-is_about : goal.returns-else-is_about
returns-else-is_about c =
    let f = c.args.self.now in
    (λ i. record f { resend = c.linked_by-self.ensures i; red = c.linked_by-self-2.ensures i })
    ∙ only_links c.args.resend_types.now c.args.red_types.now f c.args.attribute.now
    (sym c.is_about.ensures ∙ c.if-is_about.false)
