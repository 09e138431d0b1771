use Rattle.std.proofs.Common.{◌≡◌, take, map}
use Rattle.rtp_media_nack.specs.Requests.{due, entry_after}
use Rattle.rtp_media_nack.proofs.requests.NackRequester.ask.Given as goal

abbrev pub invariant-loop-number : goal.invariant-loop-number
invariant-loop-number l = record {
  due : l.numbers.items ≡ due l.fn.self l.now l.round_trip (take l.number-index l.missing);
  after : l.requests.entries ≡ map (entry_after l.fn.self l.now l.round_trip) (take l.number-index l.missing);
}
