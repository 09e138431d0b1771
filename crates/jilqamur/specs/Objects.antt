-- What handles hold, by their kinds.
use Rattle.std.specs.Prelude.{Option, Some, None}
use Rattle.rtp_media_forward.specs.Forwarding.{Forwarding}
use Rattle.rtp_media_nack.specs.Histories.{History}
use Rattle.rtp_media_nack.specs.Requests.{Requests}
use Rattle.jilqamur.specs.HeldEnds.{HeldEndState}
use Rattle.jilqamur.specs.Inboxes.{InboxState}
use Rattle.jilqamur.specs.Outboxes.{OutboxState}
use Rattle.jilqamur.specs.PacketInboxes.{PacketInboxState}
use Rattle.jilqamur.specs.PacketOutboxes.{PacketOutboxState}
use Rattle.jilqamur.specs.declared.replay.Replay.{Replay}
use Rattle.jilqamur.specs.declared.object.Object.{Object}
use Rattle.jilqamur.specs.declared.object.Object.TheVariants as object

abbrev pub end_of : Option Object → Option HeldEndState
end_of None = None
end_of (Some (object.End x)) = Some x
end_of (Some (object.Window x)) = None
end_of (Some (object.Sender x)) = None
end_of (Some (object.Receiver x)) = None
end_of (Some (object.Packetizer x)) = None
end_of (Some (object.Depacketizer x)) = None
end_of (Some (object.Forwarder x)) = None
end_of (Some (object.History x)) = None
end_of (Some (object.Requester x)) = None

abbrev pub window_of : Option Object → Option Replay
window_of None = None
window_of (Some (object.End x)) = None
window_of (Some (object.Window x)) = Some x
window_of (Some (object.Sender x)) = None
window_of (Some (object.Receiver x)) = None
window_of (Some (object.Packetizer x)) = None
window_of (Some (object.Depacketizer x)) = None
window_of (Some (object.Forwarder x)) = None
window_of (Some (object.History x)) = None
window_of (Some (object.Requester x)) = None

abbrev pub sender_of : Option Object → Option OutboxState
sender_of None = None
sender_of (Some (object.End x)) = None
sender_of (Some (object.Window x)) = None
sender_of (Some (object.Sender x)) = Some x
sender_of (Some (object.Receiver x)) = None
sender_of (Some (object.Packetizer x)) = None
sender_of (Some (object.Depacketizer x)) = None
sender_of (Some (object.Forwarder x)) = None
sender_of (Some (object.History x)) = None
sender_of (Some (object.Requester x)) = None

abbrev pub receiver_of : Option Object → Option InboxState
receiver_of None = None
receiver_of (Some (object.End x)) = None
receiver_of (Some (object.Window x)) = None
receiver_of (Some (object.Sender x)) = None
receiver_of (Some (object.Receiver x)) = Some x
receiver_of (Some (object.Packetizer x)) = None
receiver_of (Some (object.Depacketizer x)) = None
receiver_of (Some (object.Forwarder x)) = None
receiver_of (Some (object.History x)) = None
receiver_of (Some (object.Requester x)) = None

abbrev pub packetizer_of : Option Object → Option PacketOutboxState
packetizer_of None = None
packetizer_of (Some (object.End x)) = None
packetizer_of (Some (object.Window x)) = None
packetizer_of (Some (object.Sender x)) = None
packetizer_of (Some (object.Receiver x)) = None
packetizer_of (Some (object.Packetizer x)) = Some x
packetizer_of (Some (object.Depacketizer x)) = None
packetizer_of (Some (object.Forwarder x)) = None
packetizer_of (Some (object.History x)) = None
packetizer_of (Some (object.Requester x)) = None

abbrev pub depacketizer_of : Option Object → Option PacketInboxState
depacketizer_of None = None
depacketizer_of (Some (object.End x)) = None
depacketizer_of (Some (object.Window x)) = None
depacketizer_of (Some (object.Sender x)) = None
depacketizer_of (Some (object.Receiver x)) = None
depacketizer_of (Some (object.Packetizer x)) = None
depacketizer_of (Some (object.Depacketizer x)) = Some x
depacketizer_of (Some (object.Forwarder x)) = None
depacketizer_of (Some (object.History x)) = None
depacketizer_of (Some (object.Requester x)) = None

abbrev pub forwarder_of : Option Object → Option Forwarding
forwarder_of None = None
forwarder_of (Some (object.End x)) = None
forwarder_of (Some (object.Window x)) = None
forwarder_of (Some (object.Sender x)) = None
forwarder_of (Some (object.Receiver x)) = None
forwarder_of (Some (object.Packetizer x)) = None
forwarder_of (Some (object.Depacketizer x)) = None
forwarder_of (Some (object.Forwarder x)) = Some x
forwarder_of (Some (object.History x)) = None
forwarder_of (Some (object.Requester x)) = None

abbrev pub history_of : Option Object → Option History
history_of None = None
history_of (Some (object.End x)) = None
history_of (Some (object.Window x)) = None
history_of (Some (object.Sender x)) = None
history_of (Some (object.Receiver x)) = None
history_of (Some (object.Packetizer x)) = None
history_of (Some (object.Depacketizer x)) = None
history_of (Some (object.Forwarder x)) = None
history_of (Some (object.History x)) = Some x
history_of (Some (object.Requester x)) = None

abbrev pub requester_of : Option Object → Option Requests
requester_of None = None
requester_of (Some (object.End x)) = None
requester_of (Some (object.Window x)) = None
requester_of (Some (object.Sender x)) = None
requester_of (Some (object.Receiver x)) = None
requester_of (Some (object.Packetizer x)) = None
requester_of (Some (object.Depacketizer x)) = None
requester_of (Some (object.Forwarder x)) = None
requester_of (Some (object.History x)) = None
requester_of (Some (object.Requester x)) = Some x
