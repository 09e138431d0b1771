-- One of several streams is asked for one datagram.
use Rattle.std.proofs.Common.{◌≡◌, ℕ, sym, ◌∙◌, ap, List, Result, Ok, Err, subst}
use Rattle.std.proofs.lemmas.List.{set-get_or}
use Rattle.std.specs.Prelude.{slice_set}
use Rattle.rtp_media_streams.specs.PacketSteps.{MakesBy, PacketStep}
use Rattle.rtp_media_streams.specs.Sending.{Sending}
use Rattle.rtp_media_stream_table.specs.declared.open_stream.OpenStream.{OpenStream}
use Rattle.rtp_media_stream_table.specs.declared.open_stream.OpenStream.TheVariants.{Sender}
use Rattle.rtp_media_stream_table.specs.declared.stream_index.StreamIndex.{StreamIndex}
use Rattle.rtp_media_stream_table.specs.Indexed.{AreIndexed}
use Rattle.rtp_media_stream_table.specs.Streams.{nth_sender, nth_step, nth_stream, sending_of, set_sender}
use Rattle.rtp_media_stream_table.proofs.Indexing.{kept-sender}

-- the step starts at the stream, and what the stream is found by stays
pub record IsStepOf {E : Type 0} (x : Sending) (step : PacketStep Sending E) : Type 0 where
  pub before : step.before ≡ x
  pub ssrc : step.next.ssrc ≡ x.ssrc
  pub types : step.next.types ≡ x.types

abbrev Same : Sending → Sending → Type 0
Same x y = (y.ssrc ≡ x.ssrc) × (y.types ≡ x.types)

same-at : {E : Type 0} (x y : Sending) (step : PacketStep Sending E) (r : Result (List ℕ) E) → IsStepOf x step
    → MakesBy step y r → Same x y
same-at x y step (Ok datagram) is by =
    (ap (λ (s : Sending). s.ssrc) by.1 ∙ is.ssrc, ap (λ (s : Sending). s.types) by.1 ∙ is.types)
same-at x y step (Err e) is by =
    (ap (λ (s : Sending). s.ssrc) (by.1 ∙ is.before), ap (λ (s : Sending). s.types) (by.1 ∙ is.before))

-- the streams stay indexed
pub indexed-made : {E : Type 0} (senders receivers : StreamIndex) (ss : List OpenStream) (n : ℕ) (x y : Sending)
    (step : PacketStep Sending E) (r : Result (List ℕ) E) → IsStepOf x step → nth_stream ss n ≡ Sender x
    → MakesBy step y r → AreIndexed senders receivers ss → AreIndexed senders receivers (slice_set ss n (Sender y))
indexed-made senders receivers ss n x y step r of is by indexed =
    let kept : Same x y = same-at x y step r of by in
    kept-sender senders receivers ss n x y is kept.0 kept.1 indexed

by-nth : {E : Type 0} (ss : List OpenStream) (n : ℕ) (y : Sending) (step : PacketStep Sending E)
    (r : Result (List ℕ) E) → set_sender ss n step.before ≡ ss → MakesBy step y r
    → MakesBy (nth_step ss n step) (set_sender ss n y) r
by-nth ss n y step (Ok datagram) whole by = (by.0, ap (set_sender ss n) by.1)
by-nth ss n y step (Err e) whole by = (by.0, ap (set_sender ss n) by.1 ∙ whole)

-- what is asked of the n-th stream is asked of them all
pub made-at : {E : Type 0} (before ss : List OpenStream) (n : ℕ) (x y : Sending)
    (step : Sending → PacketStep Sending E) (r : Result (List ℕ) E) → ss ≡ before → nth_stream ss n ≡ Sender x
    → (step x).before ≡ x → MakesBy (step x) y r
    → MakesBy (nth_step before n (step (nth_sender before n))) (set_sender ss n y) r
made-at before ss n x y step r seen is at by =
    let this : nth_sender ss n ≡ x = ap sending_of is in
    let whole : set_sender ss n (step x).before ≡ ss =
    ap (set_sender ss n) at ∙ ap (λ (o : OpenStream). slice_set ss n o) (sym is) ∙ set-get_or ss n _ in
    subst (λ (bs : List OpenStream). MakesBy (nth_step bs n (step (nth_sender bs n))) (set_sender ss n y) r) seen
    (subst (λ (s : Sending). MakesBy (nth_step ss n (step s)) (set_sender ss n y) r) (sym this)
    (by-nth ss n y (step x) r whole by))
