use Rattle.sdp_formats_reader.proofs.One.{session-reads}
use Rattle.sdp_formats_reader.proofs.whole.read_session.Goals as goal

pub returns : goal.returns
returns c = session-reads c.exact_law.ensures c.args.text.now _ c.session.ensures
