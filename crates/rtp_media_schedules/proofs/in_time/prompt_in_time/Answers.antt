use Rattle.rtp_media_schedules.proofs.PromptSamples.{order-samples, prompt-samples, tame-samples}
use Rattle.rtp_media_schedules.proofs.in_time.prompt_in_time.Goals as goal

pub returns-clause-answers : goal.returns-clause-answers
returns-clause-answers c format holding first samples turns sent fits timely =
    prompt-samples format samples sent holding first turns fits timely

pub returns-clause-in_order : goal.returns-clause-in_order
returns-clause-in_order c format holding first samples turns sent fits ordered =
    prompt-samples format samples sent holding first turns fits
    (order-samples format samples sent holding first turns ordered)

pub returns-clause-tame : goal.returns-clause-tame
returns-clause-tame c format holding first samples turns sent fits tame =
    prompt-samples format samples sent holding first turns fits
    (tame-samples format samples sent holding first turns tame)
