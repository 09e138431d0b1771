-- The object that each handle holds.
use Rattle.std.specs.Prelude.{Option}
use Rattle.rtp_media_forward.specs.Forwarding.{Forwarding}
use Rattle.rtp_media_nack.specs.Histories.{History}
use Rattle.rtp_media_nack.specs.Requests.{Requests}
use Rattle.jilqamur.specs.HeldEnds.{HeldEndState}
use Rattle.jilqamur.specs.Inboxes.{InboxState}
use Rattle.jilqamur.specs.Outboxes.{OutboxState}
use Rattle.jilqamur.specs.PacketInboxes.{PacketInboxState}
use Rattle.jilqamur.specs.PacketOutboxes.{PacketOutboxState}
use Rattle.jilqamur.specs.declared.replay.Replay.{Replay}
use Rattle.jilqamur.specs.Objects.{end_of, window_of, sender_of, receiver_of, packetizer_of, depacketizer_of}
use Rattle.jilqamur.specs.Objects.{forwarder_of, history_of, requester_of}
use Rattle.jilqamur.specs.declared.handle.DepacketizerHandle.{DepacketizerHandle}
use Rattle.jilqamur.specs.declared.handle.EndHandle.{EndHandle}
use Rattle.jilqamur.specs.declared.handle.ForwarderHandle.{ForwarderHandle}
use Rattle.jilqamur.specs.declared.handle.HistoryHandle.{HistoryHandle}
use Rattle.jilqamur.specs.declared.handle.PacketizerHandle.{PacketizerHandle}
use Rattle.jilqamur.specs.declared.handle.ReceiverHandle.{ReceiverHandle}
use Rattle.jilqamur.specs.declared.handle.RequesterHandle.{RequesterHandle}
use Rattle.jilqamur.specs.declared.handle.SenderHandle.{SenderHandle}
use Rattle.jilqamur.specs.declared.handle.WindowHandle.{WindowHandle}

abbrev pub end_in : EndHandle → Option HeldEndState
end_in h = end_of h.slot.place.object

abbrev pub window_in : WindowHandle → Option Replay
window_in h = window_of h.slot.place.object

abbrev pub sender_in : SenderHandle → Option OutboxState
sender_in h = sender_of h.slot.place.object

abbrev pub receiver_in : ReceiverHandle → Option InboxState
receiver_in h = receiver_of h.slot.place.object

abbrev pub packetizer_in : PacketizerHandle → Option PacketOutboxState
packetizer_in h = packetizer_of h.slot.place.object

abbrev pub depacketizer_in : DepacketizerHandle → Option PacketInboxState
depacketizer_in h = depacketizer_of h.slot.place.object

abbrev pub forwarder_in : ForwarderHandle → Option Forwarding
forwarder_in h = forwarder_of h.slot.place.object

abbrev pub history_in : HistoryHandle → Option History
history_in h = history_of h.slot.place.object

abbrev pub requester_in : RequesterHandle → Option Requests
requester_in h = requester_of h.slot.place.object
