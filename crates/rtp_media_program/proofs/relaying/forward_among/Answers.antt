use Rattle.std.proofs.Common.{◌≡◌, arith, true, length, subst, Result, Ok, Err, IfOk}
use Rattle.std.specs.Prelude.{nat_lt}
use Rattle.std.proofs.lemmas.Grind.{common_steps}
use Rattle.rtp_media_ends.specs.Ends.{is_sender_at}
use Rattle.rtp_media_forward.specs.Forwarding.{Forwarding}
use Rattle.rtp_media_program.specs.Relaying.{Forwards, forwarder_at}
use Rattle.rtp_media_program.proofs.Relayed.{forwards-there}
use Rattle.rtp_media_program.proofs.relaying.forward_among.Goals as goal

if_ok : {A E : Type 0} {P Q : A → Type 0} (r : Result A E) → ((a : A) → P a → Q a) → IfOk r P → IfOk r Q
if_ok (Ok a) f h = f a h
if_ok (Err e) f h = tt

pub returns : goal.returns
returns c =
    let there : nat_lt c.args.command.forwarder (length c.args.forwarders.now.items) ≡ true
    = grind (arith, common_steps) in
    let sends : is_sender_at c.args.end.now c.args.command.stream ≡ true = grind (arith, common_steps) in
    let here : c.index_mut-forwarder.result.now ≡ forwarder_at c.args.forwarders.now.items c.args.command.forwarder =
    grind (arith, common_steps) in
    if_ok c.forward_by.result
    (λ replies does. forwards-there c.args.end.now c.args.forwarders.now.items c.args.command _ _ replies.items
    c.forward_by.new.forwarder there sends
    (subst (λ (f : Forwarding). Forwards c.args.end.now f c.args.command c.forward_by.new.end c.forward_by.new.forwarder
    replies.items) here does) (grind (arith, common_steps))) c.forward_by.ensures
