-- Packets that are sent on.
use Rattle.std.proofs.Common.{◌≡◌, ℕ, zero, suc, refl, sym, ◌∙◌, ap, subst, inl, inr, Bool, true, false}
use Rattle.std.proofs.Common.{◌&&◌, true≢false, List, [], ◌∷◌, length, Option, Some, None}
use Rattle.std.specs.Prelude.{nat_lt, slice_set}
use Rattle.payload_core_base.specs.Outgoing.{Outgoing}
use Rattle.rtp_media_streams.specs.Forwarding as stream
use Rattle.rtp_media_streams.specs.Forwarding.{refusal_of_packet}
use Rattle.rtp_media_streams.specs.Receiving.{Receiving, taken_number}
use Rattle.rtp_media_streams.specs.declared.errors.ForwardError.{ForwardError}
use Rattle.rtp_media_stream_table.specs.Arrivals.{arrival_at}
use Rattle.rtp_media_stream_table.specs.Streams.{is_receiving, is_sending, nth_stream}
use Rattle.rtp_media_stream_table.specs.declared.open_stream.OpenStream.{OpenStream}
use Rattle.rtp_media_stream_table.specs.declared.open_stream.OpenStream.TheVariants.{Closed, Receiver, Sender}
use Rattle.rtp_media_ends.specs.Ends.{EndState, is_receiver_at, is_sender_at, receiver_at, sender_at, with_receiver}
use Rattle.rtp_media_ends.specs.Stops.{Where}
use Rattle.rtp_media_forward.specs.Forwarding.{Forwarding, after_packet, placed}
use Rattle.rtp_media_forward.specs.declared.forwarder.Placed.{Placed}
use Rattle.rtp_media_program.specs.EndErrorNames.{forward_error_name}
use Rattle.rtp_media_program.specs.Relaying.{Brought, Forwards, ForwardsAt, IsRelayStep, SendsOn, after_sending}
use Rattle.rtp_media_program.specs.Relaying.{arrival_of, ends_frame}
use Rattle.rtp_media_program.specs.Relaying.{forwarder_at, with_forwarder}
use Rattle.rtp_media_program.specs.Relaying.{outgoing_at, placed_step, sending_reply, taken_step, with_number}
use Rattle.rtp_media_program.specs.Replies.{Prints, memory}
use Rattle.rtp_media_program.specs.declared.relay_words.ForwardCommand.{ForwardCommand}
use Rattle.rtp_media_program.specs.declared.reply.Reply.{Reply}
use Rattle.rtp_media_program.specs.declared.reply.Reply.TheVariants as reply

-- a sending stream stays one if a receiving stream changes
sending-kept : (ss : List OpenStream) (n m : ℕ) (r : Receiving) → is_receiving (nth_stream ss n) ≡ true
    → is_sending (nth_stream ss m) ≡ true → is_sending (nth_stream (slice_set ss n (Receiver r)) m) ≡ true
sending-kept [] n m r receives sends = absurd (true≢false (sym sends))
sending-kept (Sender s ∷ ss) zero zero r receives sends = absurd (true≢false (sym receives))
sending-kept (Receiver q ∷ ss) zero zero r receives sends = absurd (true≢false (sym sends))
sending-kept (Closed ∷ ss) zero zero r receives sends = absurd (true≢false (sym sends))
sending-kept (x ∷ ss) zero (suc m) r receives sends = sends
sending-kept (x ∷ ss) (suc n) zero r receives sends = sends
sending-kept (x ∷ ss) (suc n) (suc m) r receives sends = sending-kept ss n m r receives sends

length-kept : (ss : List OpenStream) (n : ℕ) (x : OpenStream) → length (slice_set ss n x) ≡ length ss
length-kept [] n x = refl
length-kept (y ∷ ss) zero x = refl
length-kept (y ∷ ss) (suc n) x = ap suc (length-kept ss n x)

left : (a b : Bool) → (a && b) ≡ true → a ≡ true
left true b both = refl
left false b both = absurd (true≢false (sym both))

right : (a b : Bool) → (a && b) ≡ true → b ≡ true
right true b both = both
right false b both = absurd (true≢false (sym both))

together : (a b : Bool) → a ≡ true → b ≡ true → (a && b) ≡ true
together true b is also = also
together false b is also = absurd (true≢false (sym is))

pub still-sender : (e : EndState) (n : ℕ) (r : Receiving) (tx : ℕ) → is_receiver_at e n ≡ true
    → is_sender_at e tx ≡ true → is_sender_at (with_receiver e n r) tx ≡ true
still-sender e n r tx receives sends =
    together (nat_lt tx (length (slice_set e.streams n (Receiver r)))) _
    (ap (nat_lt tx) (length-kept e.streams n (Receiver r)) ∙ left (nat_lt tx (length e.streams)) _ sends)
    (sending-kept e.streams n tx r (right (nat_lt n (length e.streams)) _ receives)
    (right (nat_lt tx (length e.streams)) _ sends))

pub refused-on : (e : EndState) (tx number : ℕ) (o : Outgoing) (error : ForwardError) (end : EndState) (told : Reply)
    → refusal_of_packet (sender_at e tx) number o ≡ Some error → end ≡ e
    → told ≡ reply.Refused (forward_error_name error) → SendsOn e tx number o end told
refused-on e tx number o error end told because same is = (
  same ∙ ap (λ (r : Option ForwardError). after_sending e tx number r) (sym because),
  is ∙ ap (λ (r : Option ForwardError). sending_reply e tx number o r) (sym because),
)

pub sent-on : (e : EndState) (tx number : ℕ) (o : Outgoing) (end : EndState) (told : Reply)
    → refusal_of_packet (sender_at e tx) number o ≡ None → end ≡ after_sending e tx number None
    → told ≡ sending_reply e tx number o None → SendsOn e tx number o end told
sent-on e tx number o end told none end_is told_is = (
  end_is ∙ ap (λ (r : Option ForwardError). after_sending e tx number r) (sym none),
  told_is ∙ ap (λ (r : Option ForwardError). sending_reply e tx number o r) (sym none),
)

-- the forwarder is there, and so is the stream
pub forwards-there : (e : EndState) (fs : List Forwarding) (c : ForwardCommand) (end : EndState)
    (after : List Forwarding) (replies : List Reply) (f : Forwarding) → nat_lt c.forwarder (length fs) ≡ true
    → is_sender_at e c.stream ≡ true → Forwards e (forwarder_at fs c.forwarder) c end f replies
    → after ≡ with_forwarder fs c.forwarder f → ForwardsAt e fs c end after replies
forwards-there e fs c end after replies f there sends does after_is =
    subst (λ (b : Bool). Where b ((g : Forwarding) × Forwards e (forwarder_at fs c.forwarder) c end g replies
    × (after ≡ with_forwarder fs c.forwarder g)) ((end ≡ e) × (after ≡ fs) × Prints replies reply.ErrorLine))
    (sym (together (nat_lt c.forwarder (length fs)) (is_sender_at e c.stream) there sends)) (f, does, after_is)

module _ (e : EndState) (f : Forwarding) (c : ForwardCommand) (p : Brought)
    (own : arrival_at e.streams c.datagram ≡ arrival_of p) where
  pub not-taken : (end : EndState) (replies : List Reply)
      → taken_number (receiver_at e p.stream).stream p.low ≡ None → end ≡ with_number e p
      → Prints replies reply.NotTaken → Forwards e f c end f replies
  not-taken end replies none end_is printed = inl (
    p,
    (
      own,
      inl (
          subst (λ (o : Option ℕ). IsRelayStep (taken_step (with_number e p) f c.stream p (ends_frame e p) o) end f
          replies) (sym none)
          (end_is, refl, printed)),
    ),
  )

  module _ (number : ℕ) (taken : taken_number (receiver_at e p.stream).stream p.low ≡ Some number) where
    steps : (q : Option Placed) (end : EndState) (forwarding : Forwarding) (replies : List Reply)
        → placed f p.stream number p.time ≡ q
        → IsRelayStep (placed_step (with_number e p) f c.stream p (ends_frame e p) number q) end forwarding replies
        → Forwards e f c end forwarding replies
    steps q end forwarding replies place step = inl (
      p,
      (
        own,
        inl (
            subst (λ (o : Option ℕ). IsRelayStep (taken_step (with_number e p) f c.stream p (ends_frame e p) o) end
            forwarding replies) (sym taken)
            (subst (λ (r : Option Placed). IsRelayStep (placed_step (with_number e p) f c.stream p (ends_frame e p)
            number r) end forwarding replies) (sym place) step)),
      ),
    )

    pub not-placed : (end : EndState) (forwarding : Forwarding) (replies : List Reply)
        → placed f p.stream number p.time ≡ None → end ≡ with_number e p → forwarding ≡ f
        → replies ≡ reply.Came p.stream number ∷ reply.NotSent ∷ [] → Forwards e f c end forwarding replies
    not-placed end forwarding replies none end_is same printed =
        steps None end forwarding replies none (end_is, same, printed)

    pub passed-on : (at : Placed) (mid end : EndState) (forwarding : Forwarding) (told : Reply) (replies : List Reply)
        → placed f p.stream number p.time ≡ Some at → mid ≡ with_number e p
        → forwarding ≡ after_packet f (Some at) (ends_frame e p)
        → SendsOn mid c.stream at.number (outgoing_at p at) end told
        → replies ≡ reply.Came p.stream number ∷ told ∷ [] → Forwards e f c end forwarding replies
    passed-on at mid end forwarding told replies place mid_is forwarding_is sent printed =
        steps (Some at) end forwarding replies place (
          sent.0 ∙ ap (λ (m : EndState). after_sending m c.stream at.number
              (refusal_of_packet (sender_at m c.stream) at.number (outgoing_at p at))) mid_is,
          forwarding_is,
          printed ∙ ap (λ (t : Reply). let rs : List Reply = reply.Came p.stream number ∷ t ∷ [] in rs)
              (sent.1 ∙ ap (λ (m : EndState). sending_reply m c.stream at.number (outgoing_at p at)
              (refusal_of_packet (sender_at m c.stream) at.number (outgoing_at p at))) mid_is),
        )

    pub ran-out : (at : Placed) (mid end : EndState) (forwarding : Forwarding) (replies : List Reply)
        → placed f p.stream number p.time ≡ Some at → mid ≡ with_number e p
        → forwarding ≡ after_packet f (Some at) (ends_frame e p)
        → end ≡ mid → Prints replies (reply.Refused memory) → Forwards e f c end forwarding replies
    ran-out at mid end forwarding replies place mid_is forwarding_is same printed = inl (
      p,
      (
        own,
        inr (record {
          number = number;
          at = at;
          taken = taken;
          place = place;
          end_is = same ∙ mid_is;
          forwarding_is = forwarding_is;
          printed = printed;
        }),
      ),
    )
