use Rattle.std.proofs.Common.{◌≡◌, ◌<◌, ◌∙◌, ap, sym, arith, Bool, true, List, ℕ, length}
use Rattle.std.proofs.lemmas.Bool.Decides.{nat_tests}
use Rattle.std.specs.Prelude.{Option, Some, if◌then◌else◌}
use Rattle.rtp_wire.specs.Repairs.{Wrapped, wrapped_in}
use Rattle.rtp_media_streams.specs.Receiving.{plain_brought}
use Rattle.rtp_media_streams.specs.Redundant.{unwrapped}
use Rattle.rtp_media_streams.specs.Types.{is_plain_key}
use Rattle.rtp_media_streams.proofs.Places.{last-bytes, no-longer, plain-some, unwrapped-ends}
use Rattle.rtp_media_streams.proofs.payload.carried.Goals as goal

pub returns-clause-carries : goal.returns-clause-carries
returns-clause-carries c =
    let header = c.args.header.now in
    let types = c.args.types.now in
    let payload = c.in_ok-payload.payload.now in
    let plain : is_plain_key c.args.ssrc types header.ssrc header.payload_type ≡ true =
    sym c.is_plain_key.ensures ∙ c.if-not-is_plain_key.false in
    let some : 0 < length payload = grind (arith, nat_tests, c.is_empty.ensures, c.if-is_empty.false) in
    ap (λ (b : Bool). if b then plain_brought header (unwrapped types header.payload_type c.args.unpadded.now)
    else wrapped_in c.args.unpadded.now) plain
    ∙ ap (plain_brought header) c.in_ok-payload.ensures
    ∙ plain-some header payload some
    ∙ ap (λ (p : List ℕ). let w : Option Wrapped = Some (record { number = header.sequence_number; payload = p }) in w)
    (last-bytes c.args.unpadded.now payload
    (unwrapped-ends types header.payload_type c.args.unpadded.now payload c.in_ok-payload.ensures))

pub returns-clause-within : goal.returns-clause-within
returns-clause-within c =
    no-longer c.args.unpadded.now c.in_ok-payload.payload.now
    (unwrapped-ends c.args.types.now c.args.header.now.payload_type c.args.unpadded.now c.in_ok-payload.payload.now
    c.in_ok-payload.ensures)
