use Rattle.std.proofs.Common.{arith}
use Rattle.std.proofs.lemmas.Grind.{common_steps}
use Rattle.sdp_formats_reader.proofs.maps.rtpmap.Goals as goal

pub returns-clause-gives : goal.returns-clause-gives
returns-clause-gives c = grind (arith, common_steps)

pub returns-in_err-pt-clause-gives : goal.returns-in_err-pt-clause-gives
returns-in_err-pt-clause-gives c = grind (arith, common_steps)

pub returns-in_err-pt-clause-never_memory : goal.returns-in_err-pt-clause-never_memory
returns-in_err-pt-clause-never_memory c = grind (arith, common_steps)

pub returns-in_err-pt-2-clause-gives : goal.returns-in_err-pt-2-clause-gives
returns-in_err-pt-2-clause-gives c = grind (arith, common_steps)

pub returns-in_err-pt-2-clause-never_memory : goal.returns-in_err-pt-2-clause-never_memory
returns-in_err-pt-2-clause-never_memory c = grind (arith, common_steps)

pub returns-in_err-codec-clause-gives : goal.returns-in_err-codec-clause-gives
returns-in_err-codec-clause-gives c = grind (arith, common_steps)

pub returns-in_err-codec-clause-never_memory : goal.returns-in_err-codec-clause-never_memory
returns-in_err-codec-clause-never_memory c = grind (arith, common_steps)

pub returns-in_err-some-clause-gives : goal.returns-in_err-some-clause-gives
returns-in_err-some-clause-gives c = grind (arith, common_steps)

pub returns-in_err-some-clause-never_memory : goal.returns-in_err-some-clause-never_memory
returns-in_err-some-clause-never_memory c = grind (arith, common_steps)

pub returns-in_err-clock_rate-clause-gives : goal.returns-in_err-clock_rate-clause-gives
returns-in_err-clock_rate-clause-gives c = grind (arith, common_steps)

pub returns-in_err-clock_rate-clause-never_memory : goal.returns-in_err-clock_rate-clause-never_memory
returns-in_err-clock_rate-clause-never_memory c = grind (arith, common_steps)

pub returns-in_err-channels-clause-gives : goal.returns-in_err-channels-clause-gives
returns-in_err-channels-clause-gives c = grind (arith, common_steps)

pub returns-in_err-channels-clause-never_memory : goal.returns-in_err-channels-clause-never_memory
returns-in_err-channels-clause-never_memory c = grind (arith, common_steps)

pub returns-clause-never_memory : goal.returns-clause-never_memory
returns-clause-never_memory c = grind (arith, common_steps)
