-- A stream of an end is asked for one datagram.
use Rattle.std.proofs.Common.{◌≡◌, ℕ, ap, List, Result, Ok, Err, subst}
use Rattle.rtp_media_exchange.specs.Exchanges.{Exchanged}
use Rattle.rtp_media_streams.specs.PacketSteps.{MakesBy, PacketStep}
use Rattle.rtp_media_streams.specs.Sending.{Sending}
use Rattle.rtp_media_stream_table.specs.Streams.{nth_step, nth_sender}
use Rattle.rtp_media_stream_table.specs.declared.OpenStream.{OpenStream}
use Rattle.rtp_media_ends.specs.Ends.{EndState, end_of, sender_at}
use Rattle.rtp_media_ends.specs.PacketSteps.{step_at}

by-end : {E : Type 0} (exchange : Exchanged) (before after : List OpenStream) (n : ℕ) (step : PacketStep Sending E)
    (r : Result (List ℕ) E) → MakesBy (nth_step before n step) after r
    → MakesBy (step_at (end_of exchange before) n step) (end_of exchange after) r
by-end exchange before after n step (Ok datagram) by = (by.0, ap (end_of exchange) by.1)
by-end exchange before after n step (Err error) by = (by.0, ap (end_of exchange) by.1)

-- what is asked of the streams of an end is asked of the end
pub made-at : {E : Type 0} (e : EndState) (exchange : Exchanged) (before after : List OpenStream) (n : ℕ)
    (step : Sending → PacketStep Sending E) (r : Result (List ℕ) E) → end_of exchange before ≡ e
    → MakesBy (nth_step before n (step (nth_sender before n))) after r
    → MakesBy (step_at e n (step (sender_at e n))) (end_of exchange after) r
made-at e exchange before after n step r seen by =
    subst (λ (x : EndState). MakesBy (step_at x n (step (sender_at x n))) (end_of exchange after) r) seen
    (by-end exchange before after n (step (nth_sender before n)) r by)
