use Rattle.std.proofs.Common.{ℕ, refl, ◌∙◌, ap, List, [], ◌∷◌, ◌++◌}
use Rattle.rtp_media_schedules.specs.Samples.{datagrams}
use Rattle.rtp_media_schedules.specs.Sending.{numbered}
use Rattle.rtp_media_forward.specs.Forwarding.{shift_to, start_of}
use Rattle.rtp_media_forward.specs.Relayed.{relayed}
use Rattle.rtp_media_forward.specs.Relaying.{bare_senders, datagrams_at, no_values}
use Rattle.rtp_media_forward.proofs.ValuesAside.{numbers-aside, sent-aside}
use Rattle.rtp_media_forward.proofs.Apart.{apart}
use Rattle.rtp_media_forward.proofs.MorePieces.{ends, keeps, keeps-many, more-pieces, newest, none-free, one-free}
use Rattle.rtp_media_forward.proofs.MorePieces.{passes, skips}
use Rattle.rtp_media_forward.proofs.NextNumbers.{next-is}
use Rattle.rtp_media_forward.proofs.Relaying.{all-as-in, between, sends, stays}
use Rattle.rtp_media_forward.proofs.laws.forwarding_laws.Goals as goal

pub returns-clause-sends : goal.returns-clause-sends
returns-clause-sends c = λ values senders first before parts later f came is fits from within.
    sends values senders first before parts later came f is (all-as-in senders parts came from) within

pub returns-clause-between : goal.returns-clause-between
returns-clause-between c = λ senders out parts f came is fits from within.
    between senders out parts came f is (all-as-in senders parts came from) within

pub returns-clause-apart : goal.returns-clause-apart
returns-clause-apart c = λ senders out parts f p q a b is fits from within e g same.
    apart senders out parts f p q a b is (all-as-in senders parts (p ∷ q ∷ []) from) within e g same

pub returns-clause-next : goal.returns-clause-next
returns-clause-next c = λ senders out parts f last at xs ys is fits from within le e end.
    next-is senders out parts f last at xs ys is (all-as-in senders parts (xs ++ last ∷ ys) from) within le e end

pub returns-clause-stays : goal.returns-clause-stays
returns-clause-stays c = λ senders f came. stays senders came f

pub returns-clause-switches : goal.returns-clause-switches
returns-clause-switches c = λ out number time at parts q f is next from timed.
    more-pieces out (shift_to time at) number q.source (start_of f) parts q f is next from refl timed

pub returns-clause-skips : goal.returns-clause-skips
returns-clause-skips c = skips

pub returns-clause-keeps : goal.returns-clause-keeps
returns-clause-keeps c = keeps

pub returns-clause-ends : goal.returns-clause-ends
returns-clause-ends c = ends

pub returns-clause-passes : goal.returns-clause-passes
returns-clause-passes c = λ out number parts p q f is next fits at small from by timed.
    passes out number parts p q f is next fits at small from by timed

pub returns-clause-aside : goal.returns-clause-aside
returns-clause-aside c = λ values senders first before parts later f came is fits from within.
    sent-aside values senders came f
    ∙ sends no_values (bare_senders senders) first before parts later came f is
    (all-as-in (bare_senders senders) parts came from) within
    ∙ ap (λ (ns : List ℕ). datagrams_at
    (numbered first (datagrams (relayed no_values (before ++ parts ++ later)))) ns)
    (numbers-aside values senders came f)

pub returns-clause-newest : goal.returns-clause-newest
returns-clause-newest c = newest

pub returns-clause-keeps_many : goal.returns-clause-keeps_many
returns-clause-keeps_many c = keeps-many

pub returns-clause-one_free : goal.returns-clause-one_free
returns-clause-one_free c = λ f cut small. one-free f cut small

pub returns-clause-none_free : goal.returns-clause-none_free
returns-clause-none_free c = λ f whole. none-free f whole
