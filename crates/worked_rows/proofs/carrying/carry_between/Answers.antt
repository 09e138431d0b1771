use Rattle.std.proofs.Common.{◌≡◌, ℕ, ◌≤◌, ◌∙◌, sym, ap, subst, subst₂, arith, length, true, Option}
use Rattle.std.specs.Prelude.{IfSome}
use Rattle.sdp_formats_rows.specs.Rows.{Row}
use Rattle.rtp_media_sections.specs.Agreement.{agreed_row_of}
use Rattle.rtp_media_streams.specs.Sending.{Sending, packet_limit}
use Rattle.rtp_media_ends.specs.Ends.{EndState, after_open_receiver, agreed_format, agreed_red, sender_types}
use Rattle.rtp_media_ends.specs.Ends.{new_sender}
use Rattle.rtp_media_ends.specs.Ends.{stream_map}
use Rattle.rtp_media_ends.specs.FullArrival.{IsSender, count_of}
use Rattle.rtp_media_ends.specs.OpensAt.{SendsAt}
use Rattle.rtp_media_ends.specs.Params.{IsSound}
use Rattle.rtp_media_runs.specs.Headline.{SendsTo}
use Rattle.rtp_media_runs.specs.Runs.{Hears}
use Rattle.worked_rows.specs.Call.{SendsPieces, sends_pieces, opened_to_hold}
use Rattle.worked_rows.proofs.Streams.{has-room, key-low, sends-pieces, sound-short}
use Rattle.worked_rows.proofs.Three.{count-three}
use Rattle.std.proofs.lemmas.Grind.{common_steps}
use Rattle.worked_rows.proofs.carrying.carry_between.Goals as goal

pub carry_over-requires-clause-pieces : goal.carry_over-requires-clause-pieces
carry_over-requires-clause-pieces c =
    let sends : SendsAt c.args.a.now c.from-mid.result c.from-ssrc.result c.args.pt =
    (c.headline.ensures.sends c.args.a.now c.from-mid.result c.from-ssrc.result c.args.pt).0
    c.in-Ok.ensures.opens in
    let agreed : IfSome (agreed_row_of c.args.a.now.exchange.agreed c.from-mid.result c.args.pt) SendsPieces =
    subst (λ (o : Option Row). IfSome o SendsPieces) c.agreed_row.ensures
    (c.has_pieces.ensures.0 c.if-not-has_pieces.false).1 in
    ap (λ (s : Sending). sends_pieces s.row.codec) c.in-Ok.ensures.stream
    ∙ sends-pieces c.args.a.now c.from-mid.result c.from-ssrc.result c.args.pt c.args.params agreed
    sends

pub carry_over-requires-clause-hears : goal.carry_over-requires-clause-hears
carry_over-requires-clause-hears c =
    let a : EndState = c.args.a.now in
    let agreed : IfSome (agreed_row_of a.exchange.agreed c.from-mid.result c.args.pt) SendsPieces =
    subst (λ (o : Option Row). IfSome o SendsPieces) c.agreed_row.ensures
    (c.has_pieces.ensures.0 c.if-not-has_pieces.false).1 in
    let b : EndState = c.args.b.now in
    let s : Sending = new_sender a c.from-mid.result c.from-ssrc.result c.args.pt c.args.params in
    let sends : SendsAt a c.from-mid.result c.from-ssrc.result c.args.pt =
    (c.headline.ensures.sends a c.from-mid.result c.from-ssrc.result c.args.pt).0 c.in-Ok.ensures.opens in
    let pieces : sends_pieces s.row.codec ≡ true = sends-pieces a c.from-mid.result c.from-ssrc.result c.args.pt
    c.args.params agreed sends in
    let room : 1199 ≤ packet_limit s = has-room c.from-ssrc.result (sender_types a c.from-mid.result c.from-ssrc.result
    c.args.pt)
    (stream_map a c.from-mid.result) (agreed_format a c.from-mid.result c.args.pt) c.args.params
    (agreed_red a c.from-mid.result c.args.pt) c.args.params.red c.requires.mtu in
    let count : count_of s c.args.samples.now ≡ 3 =
    count-three s c.args.samples.now c.requires.three pieces room c.requires.short in
    let sound : IsSound c.agreed_red.result c.args.params = c.is_sound.ensures.sound.0 c.if-not-is_sound.false in
    let to : SendsTo c.requires.exchanged.0 a b c.from-mid.result c.from-ssrc.result c.args.pt c.args.params
    c.args.samples.now = record {
      exchanged = c.requires.exchanged.1;
      sends = sends;
      receives = (c.headline.ensures.receives b c.from-mid.result c.from-ssrc.result c.args.pt).0
          c.in-Ok-open_receiver.ensures.opens;
      ssrc_fits = omega arith;
      repair_fits = key-low a c.from-mid.result c.from-ssrc.result c.args.pt c.args.params
          (subst IsSender c.in-Ok.ensures.stream c.in-Ok.ensures.sender);
      sound_params = subst (λ (red : Option ℕ). IsSound red c.args.params) c.agreed_red.ensures sound;
      sound_samples = sound-short s c.args.samples.now pieces c.requires.short;
      numbers = omega (arith, count, c.requires.first);
    } in
    let hears : Hears (after_open_receiver b c.from-mid.result c.from-ssrc.result c.args.pt opened_to_hold)
    (length b.streams) opened_to_hold s c.args.samples.now =
    c.headline.ensures.hears c.requires.exchanged.0 a b c.from-mid.result c.from-ssrc.result c.args.pt
    c.args.params c.args.samples.now opened_to_hold to in
    subst (λ (t : Sending). Hears c.open_receiver.new.self c.in-Ok-open_receiver.rx opened_to_hold t c.args.samples.now)
    (sym c.in-Ok.ensures.stream)
    (subst₂ (λ (e : EndState) (n : ℕ). Hears e n opened_to_hold s c.args.samples.now)
    (sym c.in-Ok-open_receiver.ensures.after) (sym c.in-Ok-open_receiver.ensures.number) hears)

pub carry_over-requires-clause-sender : goal.carry_over-requires-clause-sender
carry_over-requires-clause-sender c = grind (arith, common_steps)

pub carry_over-requires-clause-receiver : goal.carry_over-requires-clause-receiver
carry_over-requires-clause-receiver c = grind (arith, common_steps)

pub carry_over-requires-clause-first : goal.carry_over-requires-clause-first
carry_over-requires-clause-first c = grind (arith, common_steps)

pub carry_over-requires-clause-limit : goal.carry_over-requires-clause-limit
carry_over-requires-clause-limit c = grind (arith, common_steps)

pub returns-then-not-has_pieces : goal.returns-then-not-has_pieces
returns-then-not-has_pieces c = grind (arith, common_steps)

pub returns-then-not-is_sound : goal.returns-then-not-is_sound
returns-then-not-is_sound c = grind (arith, common_steps)

pub returns-in-Err : goal.returns-in-Err
returns-in-Err c = grind (arith, common_steps)

pub returns-in-Err-open_receiver : goal.returns-in-Err-open_receiver
returns-in-Err-open_receiver c = grind (arith, common_steps)

pub returns : goal.returns
returns c = grind (arith, common_steps)

pub carry_over-requires-clause-three : goal.carry_over-requires-clause-three
carry_over-requires-clause-three c = c.requires.three

pub carry_over-requires-clause-short : goal.carry_over-requires-clause-short
carry_over-requires-clause-short c = c.requires.short
