-- A sample pushed at one of several streams.
use Rattle.std.proofs.Common.{◌≡◌, ℕ, ◌<◌, refl, sym, ◌∙◌, ap, arith, List, length, Ok, Err, subst}
use Rattle.std.proofs.lemmas.Grind.{common_steps}
use Rattle.std.proofs.lemmas.List.{get_or-set_same, set-get_or}
use Rattle.std.specs.Prelude.{slice_set}
use Rattle.rtp_wire.specs.Time.{Time}
use Rattle.rtp_wire.specs.declared.values.ExtensionValues.{ExtensionValues}
use Rattle.rtp_media_streams.specs.SendSteps.{SendResult, SendsBy, send_step}
use Rattle.rtp_media_streams.specs.Sending.{HasFailed, Sending}
use Rattle.rtp_media_streams.specs.declared.errors.SampleError.TheVariants.{StreamFailed, TimeTooLarge, LimitTooSmall}
use Rattle.rtp_media_streams.specs.declared.errors.SampleError.TheVariants.{Payload, Memory}
use Rattle.rtp_media_stream_table.specs.declared.open_stream.OpenStream.{OpenStream}
use Rattle.rtp_media_stream_table.specs.declared.open_stream.OpenStream.TheVariants.{Sender}
use Rattle.rtp_media_stream_table.specs.declared.stream_index.StreamIndex.{StreamIndex}
use Rattle.rtp_media_stream_table.specs.Indexed.{AreIndexed}
use Rattle.rtp_media_stream_table.specs.Streams.{nth_send_step, nth_sender, nth_stream, sending_of, set_sender}
use Rattle.rtp_media_stream_table.proofs.Indexing.{kept-sender}

-- what a stream is found by stays, whatever comes of a sample
abbrev Same : Sending → Sending → Type 0
Same x y = (y.ssrc ≡ x.ssrc) × (y.types ≡ x.types)

same : {x y : Sending} → y ≡ x → Same x y
same e = (ap (λ (s : Sending). s.ssrc) e, ap (λ (s : Sending). s.types) e)

module _ (x y : Sending) (time : Time) (values : ExtensionValues) (bytes : List ℕ) where
  same-at : (r : SendResult) → SendsBy (send_step x time values bytes) y r → Same x y
  same-at (Ok datagrams) by =
      (ap (λ (s : Sending). s.ssrc) by.2, ap (λ (s : Sending). s.types) by.2)
  same-at (Err Memory) by = (ap (λ (s : Sending). s.ssrc) (by.1 refl), ap (λ (s : Sending). s.types) (by.1 refl))
  same-at (Err StreamFailed) by = same (by.0 (grind (arith, common_steps))).1
  same-at (Err TimeTooLarge) by = same (by.0 (grind (arith, common_steps))).1
  same-at (Err LimitTooSmall) by = same (by.0 (grind (arith, common_steps))).1
  same-at (Err (Payload p)) by = same (by.0 (grind (arith, common_steps))).1

-- the streams stay indexed
pub indexed-after : (senders receivers : StreamIndex) (ss : List OpenStream) (n : ℕ) (x y : Sending) (time : Time)
    (values : ExtensionValues) (bytes : List ℕ) (r : SendResult) → nth_stream ss n ≡ Sender x
    → SendsBy (send_step x time values bytes) y r → AreIndexed senders receivers ss
    → AreIndexed senders receivers (slice_set ss n (Sender y))
indexed-after senders receivers ss n x y time values bytes r is by indexed =
    let kept : Same x y = same-at x y time values bytes r by in
    kept-sender senders receivers ss n x y is kept.0 kept.1 indexed

module _ (ss : List OpenStream) (n : ℕ) (y : Sending) (time : Time) (values : ExtensionValues) (bytes : List ℕ)
    (within : n < length ss) where
  at : nth_sender (set_sender ss n y) n ≡ y
  at = ap sending_of (get_or-set_same ss n (Sender y) _ within)

  -- what a sample at the n-th stream is to them all
  by-nth : (r : SendResult) → set_sender ss n (nth_sender ss n) ≡ ss
      → SendsBy (send_step (nth_sender ss n) time values bytes) y r
      → SendsBy (nth_send_step ss n time values bytes) (set_sender ss n y) r
  by-nth (Ok datagrams) whole by = (by.0, by.1, ap (set_sender ss n) by.2)
  by-nth (Err e) whole by = (
    λ kept. ((by.0 kept).0, ap (set_sender ss n) (by.0 kept).1 ∙ whole),
    λ memory. (
      subst (HasFailed (nth_sender ss n)) (sym at) (by.1 memory),
      ap (set_sender ss n) (sym at),
    ),
  )

pub sends-at : (before ss : List OpenStream) (n : ℕ) (x y : Sending) (time : Time) (values : ExtensionValues)
    (bytes : List ℕ) (r : SendResult) → ss ≡ before → n < length ss → nth_stream ss n ≡ Sender x
    → SendsBy (send_step x time values bytes) y r
    → SendsBy (nth_send_step before n time values bytes) (set_sender ss n y) r
sends-at before ss n x y time values bytes r seen within is by =
    let this : nth_sender ss n ≡ x = ap sending_of is in
    let whole : set_sender ss n (nth_sender ss n) ≡ ss =
    ap (λ (s : Sending). set_sender ss n s) this ∙ ap (λ (o : OpenStream). slice_set ss n o) (sym is)
    ∙ set-get_or ss n _ in
    subst (λ (bs : List OpenStream). SendsBy (nth_send_step bs n time values bytes) (set_sender ss n y) r) seen
    (by-nth ss n y time values bytes within r whole
    (subst (λ (s : Sending). SendsBy (send_step s time values bytes) y r) (sym this) by))
