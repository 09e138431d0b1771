use Rattle.rtp_media_streams.proofs.Sent.{datagrams_of-consecutive, payloads-within, still-typed, sent-short}
use Rattle.rtp_media_streams.proofs.Sent.{datagram-read, datagram-payload}
use Rattle.rtp_media_streams.proofs.laws.datagrams_laws.Goals as goal

pub returns-clause-consecutive : goal.returns-clause-consecutive
returns-clause-consecutive c s samples = datagrams_of-consecutive samples s

pub returns-clause-within : goal.returns-clause-within
returns-clause-within c = sent-short

pub returns-clause-reads : goal.returns-clause-reads
returns-clause-reads c = datagram-read

pub returns-clause-payload : goal.returns-clause-payload
returns-clause-payload c = datagram-payload

pub returns-clause-payloads : goal.returns-clause-payloads
returns-clause-payloads c = payloads-within

pub returns-clause-typed : goal.returns-clause-typed
returns-clause-typed c = still-typed
