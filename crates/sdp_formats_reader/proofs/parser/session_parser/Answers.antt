use Rattle.sdp_formats_reader.proofs.Read.{session-read, session-unread}
use Rattle.sdp_formats_reader.proofs.parser.session_parser.Goals as goal

pub returns-in-Ok : goal.returns-in-Ok
returns-in-Ok c = session-read c.args.text.now _ c.in-Ok.ensures

pub returns-in_ok-text-in-Err-Unfit : goal.returns-in_ok-text-in-Err-Unfit
returns-in_ok-text-in-Err-Unfit c = (
  session-unread c.args.text.now (rw c.in-Err-Unfit.field-0-is at c.in-Err-Unfit.ensures),
  c.in_ok-text-in-Err-Unfit.ensures.says,
)
