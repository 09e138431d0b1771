use Rattle.std.proofs.Common.{ℕ, sym, subst, arith, [], ◌∷◌, ◌++◌}
use Rattle.rtp_media_schedules.specs.Orders.{IsSane, IsTame, first_size}
use Rattle.rtp_media_schedules.specs.Samples.{frame_sizes}
use Rattle.rtp_media_schedules.specs.Turns.{Ask}
use Rattle.rtp_media_schedules.proofs.Samples.{exact-samples, legal-samples}
use Rattle.rtp_media_schedules.proofs.ValuesAside.{exact-aside, legal-aside}
use Rattle.rtp_media_schedules.specs.Bare.{AreAside}
use Rattle.rtp_media_schedules.specs.Samples.{datagrams}
use Rattle.rtp_media_schedules.specs.Sending.{numbered}
use Rattle.rtp_media_forward.specs.Relaying.{no_values}
use Rattle.rtp_media_forward.specs.Relayed.{relayed}
use Rattle.rtp_media_forward.proofs.Relayed.{are-sent, count-is}
use Rattle.rtp_media_forward.proofs.laws.relayed_laws.Goals as goal

pub returns-clause-legal : goal.returns-clause-legal
returns-clause-legal c = λ format holding first values parts turns are fits sane.
    legal-samples format (relayed values parts) (are-sent format values parts are) holding first turns
    (omega (arith, fits, count-is values parts))
    (subst (λ (n : ℕ). IsSane first n [] turns) (sym (count-is values parts)) sane)

pub returns-clause-exact : goal.returns-clause-exact
returns-clause-exact c = λ format holding first values parts turns are fits tame silent.
    exact-samples format (relayed values parts) (are-sent format values parts are) holding first turns
    (omega (arith, fits, count-is values parts))
    (subst (λ (n : ℕ). IsTame first n holding (first_size (frame_sizes format (relayed values parts))) [] first
    (frame_sizes format (relayed values parts)) (turns ++ Ask ∷ [])) (sym (count-is values parts)) tame)
    silent

pub returns-clause-legal_aside : goal.returns-clause-legal_aside
returns-clause-legal_aside c = λ format holding first parts sender turns alike are fits sane.
    legal-aside format holding first (relayed no_values parts) sender turns
    (subst (λ (n : ℕ). AreAside first n sender (numbered first (datagrams (relayed no_values parts))))
    (sym (count-is no_values parts)) alike)
    (are-sent format no_values parts are) (omega (arith, fits, count-is no_values parts))
    (subst (λ (n : ℕ). IsSane first n [] turns) (sym (count-is no_values parts)) sane)

pub returns-clause-exact_aside : goal.returns-clause-exact_aside
returns-clause-exact_aside c = λ format holding first parts sender turns alike are fits tame silent.
    exact-aside format holding first (relayed no_values parts) sender turns
    (subst (λ (n : ℕ). AreAside first n sender (numbered first (datagrams (relayed no_values parts))))
    (sym (count-is no_values parts)) alike)
    (are-sent format no_values parts are) (omega (arith, fits, count-is no_values parts))
    (subst (λ (n : ℕ). IsTame first n holding (first_size (frame_sizes format (relayed no_values parts))) [] first
    (frame_sizes format (relayed no_values parts)) (turns ++ Ask ∷ [])) (sym (count-is no_values parts)) tame)
    silent
