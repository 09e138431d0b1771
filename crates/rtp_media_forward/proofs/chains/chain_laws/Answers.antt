use Rattle.std.proofs.Common.{◌≡◌, ℕ, sym, ◌∙◌, ap, subst, arith, List, [], ◌∷◌, ◌++◌, length, map}
use Rattle.rtp_wire.specs.declared.values.ExtensionValues.{ExtensionValues}
use Rattle.rtp_media_schedules.specs.Orders.{IsSane, IsTame, first_size}
use Rattle.rtp_media_schedules.specs.Samples.{AreSentAs, SentSample, frame_sizes, packets_of}
use Rattle.rtp_media_schedules.specs.Turns.{Ask}
use Rattle.rtp_media_schedules.proofs.Samples.{exact-samples, legal-samples}
use Rattle.rtp_media_forward.specs.Chains.{Link, over_links}
use Rattle.rtp_media_forward.specs.Relayed.{Part, count_of, relayed, relayed_sample}
use Rattle.rtp_media_forward.proofs.Links.{again, all-links, links-packets, links-read}
use Rattle.rtp_media_forward.proofs.Relayed.{are-sent, count-is}
use Rattle.rtp_media_forward.proofs.chains.chain_laws.Goals as goal

pub returns-clause-again : goal.returns-clause-again
returns-clause-again c = λ own values parts p is.
    ap (map (relayed_sample own p.shift)) is ∙ again own values p.shift parts

pub returns-clause-read : goal.returns-clause-read
returns-clause-read c = λ format values parts p is are.
    (subst (AreSentAs format) (sym is) (are-sent format values parts are), tt)

pub returns-clause-count : goal.returns-clause-count
returns-clause-count c = λ values parts p is.
    ap (λ (xs : List SentSample). length (packets_of xs)) is ∙ count-is values parts

pub returns-clause-links : goal.returns-clause-links
returns-clause-links c = all-links

count-over : (values : ExtensionValues → ExtensionValues) (parts : List Part) (links : List Link)
    → length (packets_of (over_links links (relayed values parts))) ≡ count_of parts
count-over values parts links = ap length (links-packets links (relayed values parts)) ∙ count-is values parts

pub returns-clause-legal : goal.returns-clause-legal
returns-clause-legal c = λ format holding first values parts links turns are fits sane.
    let samples : List SentSample = over_links links (relayed values parts) in
    let count : length (packets_of samples) ≡ count_of parts = count-over values parts links in
    legal-samples format samples (links-read format links (relayed values parts) (are-sent format values parts are))
    holding first turns (omega (arith, fits, count)) (subst (λ (n : ℕ). IsSane first n [] turns) (sym count) sane)

pub returns-clause-exact : goal.returns-clause-exact
returns-clause-exact c = λ format holding first values parts links turns are fits tame silent.
    let samples : List SentSample = over_links links (relayed values parts) in
    let count : length (packets_of samples) ≡ count_of parts = count-over values parts links in
    exact-samples format samples (links-read format links (relayed values parts) (are-sent format values parts are))
    holding first turns (omega (arith, fits, count))
    (subst (λ (n : ℕ). IsTame first n holding (first_size (frame_sizes format samples)) [] first
    (frame_sizes format samples) (turns ++ Ask ∷ [])) (sym count) tame)
    silent
