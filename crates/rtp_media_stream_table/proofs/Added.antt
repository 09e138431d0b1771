-- A stream after the others.
use Rattle.std.proofs.Common.{◌≡◌, ◌+◌, ap, refl, arith, Bool, true, ◌&&◌, List, [], ◌∷◌, ◌++◌, length, length-append}
use Rattle.std.proofs.lemmas.Bool.Decides.{nat_tests}
use Rattle.std.proofs.lemmas.List.{get_or_push}
use Rattle.std.specs.Prelude.{nat_lt}
use Rattle.rtp_media_streams.specs.Receiving.{Receiving}
use Rattle.rtp_media_streams.specs.Sending.{Sending}
use Rattle.rtp_media_stream_table.specs.declared.open_stream.OpenStream.{OpenStream}
use Rattle.rtp_media_stream_table.specs.declared.open_stream.OpenStream.TheVariants.{Sender, Receiver}
use Rattle.rtp_media_stream_table.specs.Streams.{is_nth_receiver, is_nth_sender, is_receiving, is_sending, no_receiver}
use Rattle.rtp_media_stream_table.specs.Streams.{nth_stream}

within : (ss : List OpenStream) (x : OpenStream) → nat_lt (length ss) (length (ss ++ x ∷ [])) ≡ true
within ss x = let more : length (ss ++ x ∷ []) ≡ length ss + 1 = length-append ss (x ∷ []) in
    grind (arith, nat_tests, more)

pub last-is : (ss : List OpenStream) (x : OpenStream) → nth_stream (ss ++ x ∷ []) (length ss) ≡ x
last-is ss x = get_or_push ss x (Receiver no_receiver) (length ss) refl

both : (a b : Bool) → a ≡ true → b ≡ true → (a && b) ≡ true
both a b x y = rw (x, y) refl

pub sends-at-end : (ss : List OpenStream) (s : Sending) → is_nth_sender (ss ++ Sender s ∷ []) (length ss) ≡ true
sends-at-end ss s =
    both (nat_lt (length ss) (length (ss ++ Sender s ∷ []))) _ (within ss (Sender s))
    (ap is_sending (last-is ss (Sender s)))

pub receives-at-end : (ss : List OpenStream) (r : Receiving)
    → is_nth_receiver (ss ++ Receiver r ∷ []) (length ss) ≡ true
receives-at-end ss r =
    both (nat_lt (length ss) (length (ss ++ Receiver r ∷ []))) _ (within ss (Receiver r))
    (ap is_receiving (last-is ss (Receiver r)))
