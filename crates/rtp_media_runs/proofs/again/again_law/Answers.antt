use Rattle.rtp_media_runs.proofs.Codecs.{all-give-again, first-follow}
use Rattle.rtp_media_runs.proofs.again.again_law.Goals as goal

pub returns : goal.returns
returns c = record {
  again = all-give-again c.cut_law.ensures.units c.cut_law.ensures.comes_back c.av1_packets_law.ensures.sample
      c.av1_law.ensures.kept_once;
  first = first-follow;
}
