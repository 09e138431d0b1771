use Rattle.rtp_media_streams.proofs.Wrapping.{wrapped-brings, wrapped-within, wrapped-wrap}
use Rattle.rtp_media_streams.proofs.laws.redundancy_laws.Goals as goal

pub returns-clause-wraps : goal.returns-clause-wraps
returns-clause-wraps c = wrapped-wrap

pub returns-clause-within : goal.returns-clause-within
returns-clause-within c = wrapped-within

pub returns-clause-brings : goal.returns-clause-brings
returns-clause-brings c = wrapped-brings
