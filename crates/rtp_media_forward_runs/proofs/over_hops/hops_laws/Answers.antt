use Rattle.std.proofs.Common.{◌≡◌, ℕ, sym, ◌∙◌, ap, subst, List, [], ◌∷◌, ◌++◌, map}
use Rattle.rtp_media_schedules.specs.Hearing.{Content, EndsSilent, Event, fresh, handed_out, heard}
use Rattle.rtp_media_schedules.specs.Legal.{IsLegal}
use Rattle.rtp_media_schedules.specs.Orders.{IsTame, first_size}
use Rattle.rtp_media_schedules.specs.SentSamples.{timed_unit}
use Rattle.rtp_media_schedules.specs.Samples.{SentSample, canonical_units, datagrams, frame_sizes}
use Rattle.rtp_media_schedules.specs.Sending.{numbered}
use Rattle.rtp_media_schedules.specs.Turns.{Ask, Turn, event_of}
use Rattle.rtp_media_streams.specs.Rows.{format_of}
use Rattle.rtp_media_forward.specs.Relayed.{count_of, relayed}
use Rattle.rtp_media_forward_runs.specs.Hops.{heard_of, numbered_turns, values_by}
use Rattle.std.proofs.Common.{◌+◌}
use Rattle.rtp_media_forward_runs.proofs.Virtual.{bytes-are}
use Rattle.rtp_media_forward_runs.proofs.Hops.{heard-as, joined-as, turns-are, turns-more}
use Rattle.rtp_media_forward_runs.proofs.over_hops.hops_laws.Goals as goal

pub returns-clause-heard : goal.returns-clause-heard
returns-clause-heard c = λ s holding own senders first before parts later f came plain is fits from within good.
    heard-as s holding own senders
    (numbered first (datagrams (relayed (values_by s own) (before ++ parts ++ later)))) came f plain good
    (c.forwarding_laws.ensures.sends (values_by s own) senders first before parts later f came is fits from within)

pub returns-clause-joined : goal.returns-clause-joined
returns-clause-joined c = joined-as

pub returns-clause-legal : goal.returns-clause-legal
returns-clause-legal c = λ s r holding own first parts ds ys turns are fits hear sane.
    subst (λ (es : List Event). IsLegal (canonical_units first (relayed (values_by s own) parts))
    (heard (format_of s.row) (fresh holding) es))
    (sym (turns-are r (numbered first (datagrams (relayed (values_by s own) parts))) ds ys turns hear))
    (c.relayed_laws.ensures.legal (format_of s.row) holding first (values_by s own) parts (numbered_turns ys turns)
    are fits sane)

pub returns-clause-exact : goal.returns-clause-exact
returns-clause-exact c = λ s r holding own first parts ds ys turns are fits hear tame silent.
    let samples : List SentSample = relayed (values_by s own) parts in
    let sender : ℕ → Content = numbered first (datagrams samples) in
    let ts : List Turn = numbered_turns ys turns in
    let sizes : List ℕ = frame_sizes (format_of s.row) samples in
    let events : heard_of r ds (turns ++ Ask ∷ []) ≡ map (event_of sender) (ts ++ Ask ∷ []) =
    turns-are r sender ds ys (turns ++ Ask ∷ []) hear ∙ ap (map (event_of sender)) (turns-more ys turns) in
    ap (λ (es : List Event). map timed_unit (handed_out (heard (format_of s.row) (fresh holding) es))) events
    ∙ c.relayed_laws.ensures.exact (format_of s.row) holding first (values_by s own) parts ts are fits
    (subst (λ (us : List Turn). IsTame first (count_of parts) holding (first_size sizes) [] first sizes us)
    (turns-more ys turns) tame)
    (subst (λ (es : List Event). EndsSilent (heard (format_of s.row) (fresh holding) es)) events silent)

pub returns-clause-bytes : goal.returns-clause-bytes
returns-clause-bytes c = λ s own senders first before parts later f came is fits from within.
    bytes-are s own senders first before parts later f came
    (c.forwarding_laws.ensures.sends own senders first before parts later f came is fits from within)
    (c.forwarding_laws.ensures.between senders (first + count_of before) parts f came is fits from within)
