use Rattle.sdp_formats_data.proofs.SameParams.{exact, itself}
use Rattle.sdp_formats_data.proofs.equality.params_law.Goals as goal

pub returns : goal.returns
returns c = λ a b. (exact a b, itself a b)
