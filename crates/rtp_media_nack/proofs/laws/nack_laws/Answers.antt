use Rattle.rtp_media_nack.specs.Requests.{is_due, request_in}
use Rattle.rtp_media_nack.proofs.Newest.{newest-kept}
use Rattle.rtp_media_nack.proofs.Requested.{among-filter, at-most, told}
use Rattle.rtp_media_nack.proofs.laws.nack_laws.Goals as goal

pub returns-clause-newest : goal.returns-clause-newest
returns-clause-newest c = newest-kept

pub returns-clause-missing : goal.returns-clause-missing
returns-clause-missing c = λ q now round_trip n missing h.
    among-filter (λ k. is_due q.most q.delay now round_trip (request_in q.entries now k)) n missing h

pub returns-clause-told : goal.returns-clause-told
returns-clause-told c = told

pub returns-clause-at_most : goal.returns-clause-at_most
returns-clause-at_most c = at-most
