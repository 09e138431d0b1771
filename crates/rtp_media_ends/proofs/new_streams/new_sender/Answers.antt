use Rattle.std.proofs.Common.{ap, sym, subst, arith}
use Rattle.std.specs.Prelude.{Option}
use Rattle.sdp_formats_rows.specs.Rows.{Row}
use Rattle.rtp_media_streams.specs.declared.types.PayloadTypes.{PayloadTypes}
use Rattle.rtp_media_ends.specs.Ends.{red_in}
use Rattle.rtp_media_ends.specs.FullArrival.{IsSender}
use Rattle.rtp_media_ends.specs.Params.{IsSound}
use Rattle.rtp_media_ends.proofs.Opened.{carried-fits, opened-sound}
use Rattle.rtp_media_ends.proofs.new_streams.new_sender.Goals as goal

pub returns-clause-sender : goal.returns-clause-sender
returns-clause-sender c =
    let row : Row = c.in_ok-row.row in
    let types : PayloadTypes = c.in_ok-row.types in
    let sound : IsSound row.red c.args.params.now =
    subst (λ (o : Option Row). IsSound (red_in o) c.args.params.now) c.in_ok-row.ensures.row c.requires in
    subst IsSender (sym c.in_ok-sender_of.ensures)
    (opened-sound c.codec_law.ensures.first c.args.ssrc types row c.in_ok-exts.exts c.args.params.now
    (ap (λ (t : PayloadTypes). t.pt) c.in_ok-row.ensures.types)
    (ap (λ (t : PayloadTypes). t.red) c.in_ok-row.ensures.types) c.in_ok-row.ensures.beside
    (carried-fits row c.in_ok-row.ensures.carried) (omega arith) sound)
