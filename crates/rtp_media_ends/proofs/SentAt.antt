-- A sample pushed at a stream of an end.
use Rattle.std.proofs.Common.{◌≡◌, ℕ, ap, List, Ok, Err, subst}
use Rattle.rtp_wire.specs.Time.{Time}
use Rattle.rtp_wire.specs.declared.values.ExtensionValues.{ExtensionValues}
use Rattle.rtp_media_exchange.specs.Exchanges.{Exchanged}
use Rattle.rtp_media_streams.specs.SendSteps.{SendResult, SendsBy}
use Rattle.rtp_media_stream_table.specs.Streams.{nth_send_step}
use Rattle.rtp_media_stream_table.specs.declared.OpenStream.{OpenStream}
use Rattle.rtp_media_ends.specs.Ends.{EndState, end_of}
use Rattle.rtp_media_ends.specs.SendSteps.{send_step_at}

by-end : (exchange : Exchanged) (before after : List OpenStream) (n : ℕ) (time : Time) (values : ExtensionValues)
    (bytes : List ℕ) (r : SendResult) → SendsBy (nth_send_step before n time values bytes) after r
    → SendsBy (send_step_at (end_of exchange before) n time values bytes) (end_of exchange after) r
by-end exchange before after n time values bytes (Ok datagrams) by = (by.0, by.1, ap (end_of exchange) by.2)
by-end exchange before after n time values bytes (Err error) by = (
  λ kept. ((by.0 kept).0, ap (end_of exchange) (by.0 kept).1),
  λ memory. ((by.1 memory).0, ap (end_of exchange) (by.1 memory).1),
)

-- what a sample is to the streams of an end it is to the end
pub sends-at : (e : EndState) (exchange : Exchanged) (before after : List OpenStream) (n : ℕ) (time : Time)
    (values : ExtensionValues) (bytes : List ℕ) (r : SendResult) → end_of exchange before ≡ e
    → SendsBy (nth_send_step before n time values bytes) after r
    → SendsBy (send_step_at e n time values bytes) (end_of exchange after) r
sends-at e exchange before after n time values bytes r seen by =
    subst (λ (x : EndState). SendsBy (send_step_at x n time values bytes) (end_of exchange after) r) seen
    (by-end exchange before after n time values bytes r by)
