use Rattle.rtp_media_browsers.proofs.EndTextLaw.{ends_write_end_texts}
use Rattle.rtp_media_browsers.proofs.laws.end_text_law.Goals as goal

pub returns : goal.returns
returns c = ends_write_end_texts
