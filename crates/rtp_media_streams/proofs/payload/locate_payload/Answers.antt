use Rattle.std.proofs.Common.{◌≡◌, ◌∙◌, ap, subst, List, ℕ}
use Rattle.std.proofs.lemmas.List.{take_rest}
use Rattle.std.specs.Prelude.{Option, Some}
use Rattle.rtp_wire.specs.Header.{payload_in}
use Rattle.rtp_wire.specs.Padding.{unpadded}
use Rattle.rtp_wire.specs.Repairs.{Wrapped}
use Rattle.rtp_media_streams.proofs.Places.{at-place, carried-is}
use Rattle.rtp_media_streams.proofs.payload.locate_payload.Goals as goal

pub returns-clause-brings : goal.returns-clause-brings
returns-clause-brings c =
    let header = c.args.header.now in
    let front = c.in_ok-unpadded.unpadded.now in
    let is : unpadded header.has_padding (payload_in header c.args.datagram.now) ≡ Some front =
    subst (λ (xs : List ℕ). unpadded header.has_padding xs ≡ Some front)
    (take_rest c.args.datagram.now header.header_len) c.in_ok-unpadded.ensures in
    carried-is c.args.ssrc c.args.types.now header c.args.datagram.now (Some front) is
    ∙ c.in_ok-number.ensures.carries
    ∙ ap (λ (p : List ℕ). let w : Option Wrapped = Some (record { number = c.in_ok-number.number; payload = p }) in w)
    (at-place c.args.datagram.now header.header_len header.has_padding front c.in_ok-number.len
    is c.in_ok-number.ensures.within)
