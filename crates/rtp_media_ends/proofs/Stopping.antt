-- Runs that stop for lack of memory.
use Rattle.std.proofs.Common.{◌≡◌, ℕ, zero, suc, ◌+◌, ◌<◌, sym, ◌∙◌, ap, ap₂, arith, refl, true, List}
use Rattle.std.proofs.Common.{[], ◌∷◌, length, take, add-one, true≢false}
use Rattle.std.specs.Prelude.{slice_index_or}
use Rattle.rtp_media_streams.specs.Polls.{Answers, IsPolled, poll_step}
use Rattle.rtp_media_ends.specs.EndArrivals.{after_datagram}
use Rattle.rtp_media_ends.specs.Ends.{EndState}
use Rattle.rtp_media_stream_table.specs.Streams.{is_receiving, receiving_of}
use Rattle.rtp_media_stream_table.specs.declared.OpenStream.{OpenStream}
use Rattle.rtp_media_stream_table.specs.declared.OpenStream.TheVariants.{Closed, Sender, Receiver}
use Rattle.rtp_media_stream_table.specs.Polled.{AnswersAll}
use Rattle.rtp_media_ends.specs.FullArrival.{after_datagrams}

-- one datagram more
pub after-more : (ds : List (List ℕ)) (e : EndState) (i : ℕ) (d : List ℕ) → i < length ds
    → after_datagrams e (take (suc i) ds) ≡ after_datagram (after_datagrams e (take i ds)) (slice_index_or ds i d)
after-more [] e i d lt = absurd (omega arith)
after-more (x ∷ ds) e zero d lt = refl
after-more (x ∷ ds) e (suc i) d lt = after-more ds (after_datagram e x) i d (omega arith)

-- a stream that receives was polled out
pub out-of : (before after : OpenStream) (answers : Answers) → is_receiving before ≡ true
    → AnswersAll before answers after → IsPolled poll_step (receiving_of before) answers (receiving_of after)
out-of (Sender s) after answers receives out = absurd (true≢false (sym receives))
out-of Closed after answers receives out = absurd (true≢false (sym receives))
out-of (Receiver r) after answers receives out = out.0

-- one datagram more was received
pub received-more : (ds : List (List ℕ)) (e now next : EndState) (i : ℕ) (d bytes : List ℕ)
    → now ≡ after_datagrams e (take i ds) → i < length ds → d ≡ slice_index_or ds i d → bytes ≡ d
    → next ≡ after_datagram now bytes → next ≡ after_datagrams e (take (i + 1) ds)
received-more ds e now next i d bytes so_far lt at same after =
    after ∙ ap₂ after_datagram so_far (same ∙ at) ∙ sym (after-more ds e i d lt)
    ∙ ap (λ (n : ℕ). after_datagrams e (take n ds)) (sym (add-one i))
