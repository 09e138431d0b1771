use Rattle.sdp_formats_laws.proofs.WritableTexts.{writable_texts_back}
use Rattle.sdp_formats_laws.proofs.rows.writable_row_texts_law.Goals as goal

pub returns : goal.returns
returns c = writable_texts_back c.written_row_texts_law.ensures.come_back
