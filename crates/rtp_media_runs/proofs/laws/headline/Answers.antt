use Rattle.std.proofs.Common.{◌∙◌, ap, map, Ok, List, length}
use Rattle.rtp_media_schedules.specs.SentSamples.{Timed}
use Rattle.rtp_media_ends.specs.Ends.{after_open_receiver, new_sender}
use Rattle.rtp_media_runs.specs.Runs.{prompt_answers}
use Rattle.rtp_media_runs.proofs.Exchanged.{alone, hears, units-are-alone}
use Rattle.rtp_media_runs.proofs.WholeRuns.{exact-run, follows-run, legal-run, prompt-run, timely-run}
use Rattle.rtp_media_runs.proofs.laws.headline.Goals as goal

pub returns-clause-units : goal.returns-clause-units
returns-clause-units c = units-are-alone c.codec_law.ensures.codec_in_forms c.codec_law.ensures.first

pub returns-clause-alone : goal.returns-clause-alone
returns-clause-alone c = λ answer a b mid ssrc pt params samples holding schedule to.
    alone c.codec_law.ensures.codec_in_forms c.codec_law.ensures.first answer a b mid ssrc pt params samples
    to holding schedule

pub returns-clause-hears : goal.returns-clause-hears
returns-clause-hears c = λ answer a b mid ssrc pt params samples holding to.
    hears c.codec_law.ensures.codec_in_forms c.codec_law.ensures.first answer a b mid ssrc pt params samples
    to holding

pub returns-clause-legal : goal.returns-clause-legal
returns-clause-legal c = λ answer a b mid ssrc pt params samples holding schedule to sane.
    legal-run c.codec_law.ensures.codec_in_forms (after_open_receiver b mid ssrc pt holding)
    (length b.streams) holding
    (new_sender a mid ssrc pt params) samples
    (hears c.codec_law.ensures.codec_in_forms c.codec_law.ensures.first answer a b mid ssrc pt params samples
    to holding) schedule sane

pub returns-clause-exact : goal.returns-clause-exact
returns-clause-exact c = λ answer a b mid ssrc pt params samples holding schedule to tame.
    exact-run c.codec_law.ensures.codec_in_forms (after_open_receiver b mid ssrc pt holding)
    (length b.streams) holding
    (new_sender a mid ssrc pt params) samples
    (hears c.codec_law.ensures.codec_in_forms c.codec_law.ensures.first answer a b mid ssrc pt params samples
    to holding) schedule tame
    ∙ ap (λ (ts : List Timed). map Ok ts) (units-are-alone c.codec_law.ensures.codec_in_forms
    c.codec_law.ensures.first answer a b mid ssrc pt params samples to)

pub returns-clause-follows : goal.returns-clause-follows
returns-clause-follows c = λ answer a b mid ssrc pt params samples holding schedule to sane.
    follows-run c.codec_law.ensures.codec_in_forms (after_open_receiver b mid ssrc pt holding)
    (length b.streams) holding
    (new_sender a mid ssrc pt params) samples
    (hears c.codec_law.ensures.codec_in_forms c.codec_law.ensures.first answer a b mid ssrc pt params samples
    to holding) schedule sane

pub returns-clause-prompt : goal.returns-clause-prompt
returns-clause-prompt c = λ answer a b mid ssrc pt params samples holding schedule to timely.
    prompt-run c.codec_law.ensures.codec_in_forms (after_open_receiver b mid ssrc pt holding)
    (length b.streams) holding
    (new_sender a mid ssrc pt params) samples
    (hears c.codec_law.ensures.codec_in_forms c.codec_law.ensures.first answer a b mid ssrc pt params samples
    to holding) schedule timely
    ∙ ap (λ (ts : List Timed). prompt_answers (new_sender a mid ssrc pt params) samples schedule ts)
    (units-are-alone c.codec_law.ensures.codec_in_forms
    c.codec_law.ensures.first answer a b mid ssrc pt params samples to)

pub returns-clause-timely : goal.returns-clause-timely
returns-clause-timely c = λ answer a b mid ssrc pt params samples holding schedule to tame.
    timely-run c.codec_law.ensures.codec_in_forms (after_open_receiver b mid ssrc pt holding)
    (length b.streams) holding
    (new_sender a mid ssrc pt params) samples
    (hears c.codec_law.ensures.codec_in_forms c.codec_law.ensures.first answer a b mid ssrc pt params samples
    to holding) schedule _ tame
