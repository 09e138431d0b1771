use Rattle.std.proofs.Common.{◌∙◌, sym}
use Rattle.rtp_media_nack.proofs.Lookups.{asked-at, asked-none}
use Rattle.rtp_media_nack.proofs.history.PacketHistory.asked.Goals as goal

pub returns-in_err-number : goal.returns-in_err-number
returns-in_err-number c = rw (c.from_residual-in_err-number.ensures, ← c.self.view_is)
    (sym (asked-none c.self.inside.packets.entries c.in_ok-newest.newest.now c.args.low
    c.in_ok-newest.field-0-1.now c.in_ok-newest.ensures.last
    c.in_ok-newest.ensures.all_up_to c.in_err-number.ensures.none))

pub returns-in_err-get : goal.returns-in_err-get
returns-in_err-get c = rw (c.from_residual-in_err-get.ensures, ← c.self.view_is)
    (c.in_err-get.ensures.value ∙ sym (asked-at c.self.inside.packets.entries c.in_ok-newest.newest.now c.args.low
    c.in_ok-number.number
    c.in_ok-newest.field-0-1.now c.in_ok-newest.ensures.last
    c.in_ok-newest.ensures.all_up_to c.in_ok-number.ensures.some))

pub returns : goal.returns
returns c = rw (c.as_slice.ensures, ← c.self.view_is)
    (c.in_ok-get.ensures.value ∙ sym (asked-at c.self.inside.packets.entries c.in_ok-newest.newest.now c.args.low
    c.in_ok-number.number
    c.in_ok-newest.field-0-1.now c.in_ok-newest.ensures.last
    c.in_ok-newest.ensures.all_up_to c.in_ok-number.ensures.some))
