use Rattle.rtp_wire.proofs.Found.{header_in-found}
use Rattle.rtp_wire.proofs.HeaderLaws.{header_in-layout, header_in-spelled, payload_in-spelled, length-spelled_words}
use Rattle.rtp_wire.proofs.HeaderLaws.{length-spelled_least, length-spelled_within}
use Rattle.rtp_wire.proofs.laws.header_laws.Goals as goal

pub returns-clause-found : goal.returns-clause-found
returns-clause-found c = header_in-found

pub returns-clause-only : goal.returns-clause-only
returns-clause-only c = header_in-layout

pub returns-clause-wire_image : goal.returns-clause-wire_image
returns-clause-wire_image c = header_in-spelled

pub returns-clause-payload : goal.returns-clause-payload
returns-clause-payload c = payload_in-spelled

pub returns-clause-whole_words : goal.returns-clause-whole_words
returns-clause-whole_words c = length-spelled_words

pub returns-clause-least : goal.returns-clause-least
returns-clause-least c = length-spelled_least

pub returns-clause-within : goal.returns-clause-within
returns-clause-within c = length-spelled_within
