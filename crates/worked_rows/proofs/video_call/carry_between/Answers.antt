use Rattle.std.proofs.Common.{◌≡◌, ℕ, sym, ap, subst, subst₂, arith, length, List, Option, [], ◌∷◌}
use Rattle.std.specs.Prelude.{IfSome}
use Rattle.sdp_formats_rows.specs.Rows.{Row}
use Rattle.rtp_media_sections.specs.Agreement.{agreed_row_of}
use Rattle.rtp_media_streams.specs.Sending.{Sample, Sending}
use Rattle.rtp_media_ends.specs.Ends.{EndState, after_open_receiver, new_sender}
use Rattle.rtp_media_ends.specs.FullArrival.{IsSender, count_of}
use Rattle.rtp_media_ends.specs.OpensAt.{SendsAt}
use Rattle.rtp_media_ends.specs.Params.{IsSound}
use Rattle.rtp_media_ends.specs.declared.StreamParams.{StreamParams}
use Rattle.rtp_media_runs.specs.Headline.{SendsTo}
use Rattle.rtp_media_runs.specs.Runs.{Hears}
use Rattle.worked_rows.specs.Call.{opened_to_hold}
use Rattle.worked_rows.specs.VideoCall.{IsVp8, SendsFrames, frame_params}
use Rattle.worked_rows.proofs.Streams.{key-low}
use Rattle.worked_rows.proofs.VideoFrame.{frame-sound, sends-frames, two-datagrams}
use Rattle.worked_rows.proofs.video_call.carry_between.Goals as goal

pub carry_over-requires-clause-sends : goal.carry_over-requires-clause-sends
carry_over-requires-clause-sends c =
    let a : EndState = c.args.a.now in
    let agreed : IfSome (agreed_row_of a.exchange.agreed c.from-mid.result c.args.pt) IsVp8 =
    subst (λ (o : Option Row). IfSome o IsVp8) c.agreed_row.ensures (c.is_vp8.ensures.0 c.if-not-is_vp8.false).1 in
    let sends : SendsAt a c.from-mid.result c.from-ssrc.result c.args.pt =
    (c.headline.ensures.sends a c.from-mid.result c.from-ssrc.result c.args.pt).0 c.in-Ok.ensures.opens in
    subst SendsFrames (sym c.in-Ok.ensures.stream)
    (sends-frames a c.from-mid.result c.from-ssrc.result c.args.pt c.frame_params-params.result
    c.frame_params-params.ensures agreed sends)

pub carry_over-requires-clause-hears : goal.carry_over-requires-clause-hears
carry_over-requires-clause-hears c =
    let a : EndState = c.args.a.now in
    let b : EndState = c.args.b.now in
    let p : StreamParams = c.frame_params-params.result in
    let is : p ≡ frame_params = c.frame_params-params.ensures in
    let samples : List Sample = c.args.frame ∷ [] in
    let agreed : IfSome (agreed_row_of a.exchange.agreed c.from-mid.result c.args.pt) IsVp8 =
    subst (λ (o : Option Row). IfSome o IsVp8) c.agreed_row.ensures (c.is_vp8.ensures.0 c.if-not-is_vp8.false).1 in
    let s : Sending = new_sender a c.from-mid.result c.from-ssrc.result c.args.pt p in
    let sends : SendsAt a c.from-mid.result c.from-ssrc.result c.args.pt =
    (c.headline.ensures.sends a c.from-mid.result c.from-ssrc.result c.args.pt).0 c.in-Ok.ensures.opens in
    let frames : SendsFrames s = sends-frames a c.from-mid.result c.from-ssrc.result c.args.pt p is agreed sends in
    let count : count_of s samples ≡ 2 = two-datagrams s c.args.frame frames c.requires.frame in
    let first : p.first ≡ 0 = ap (λ (q : StreamParams). q.first) is in
    let sound : IsSound c.agreed_red.result p = c.is_sound.ensures.sound.0 c.if-not-is_sound.false in
    let to : SendsTo c.requires.exchanged.0 a b c.from-mid.result c.from-ssrc.result c.args.pt p samples = record {
      exchanged = c.requires.exchanged.1;
      sends = sends;
      receives = (c.headline.ensures.receives b c.from-mid.result c.from-ssrc.result c.args.pt).0
          c.in-Ok-open_receiver.ensures.opens;
      ssrc_fits = omega arith;
      repair_fits = key-low a c.from-mid.result c.from-ssrc.result c.args.pt p
          (subst IsSender c.in-Ok.ensures.stream c.in-Ok.ensures.sender);
      sound_params = subst (λ (red : Option ℕ). IsSound red p) c.agreed_red.ensures sound;
      sound_samples = frame-sound s c.args.frame frames c.requires.frame;
      numbers = omega (arith, count, first);
    } in
    let hears : Hears (after_open_receiver b c.from-mid.result c.from-ssrc.result c.args.pt opened_to_hold)
    (length b.streams) opened_to_hold s samples =
    c.headline.ensures.hears c.requires.exchanged.0 a b c.from-mid.result c.from-ssrc.result c.args.pt p samples
    opened_to_hold to in
    subst (λ (t : Sending). Hears c.open_receiver.new.self c.in-Ok-open_receiver.rx opened_to_hold t samples)
    (sym c.in-Ok.ensures.stream)
    (subst₂ (λ (e : EndState) (n : ℕ). Hears e n opened_to_hold s samples)
    (sym c.in-Ok-open_receiver.ensures.after) (sym c.in-Ok-open_receiver.ensures.number) hears)
