use Rattle.sdp_formats_section_rows.specs.Facts.{feedback_after}
use Rattle.sdp_formats_section_rows.proofs.facts.feedback_after.Goals as goal

pub returns : goal.returns
unfolding feedback_after
returns c = λ i. record {
  transport_cc = c.is_given.ensures i;
  nack = c.is_given-2.ensures i;
  pli = c.is_given-3.ensures i;
  fir = c.is_given-4.ensures i;
  remb = c.is_given-5.ensures i;
}
