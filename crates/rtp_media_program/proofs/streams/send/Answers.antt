use Rattle.std.proofs.Common.{◌≡◌, ℕ, List, arith, refl, sym, ◌∙◌, ap, ap₂, true}
use Rattle.std.proofs.Common.{None, Some, Result, [], ◌∷◌, ◌≢◌, Ok, Err, IfOk}
use Rattle.std.specs.Prelude.{Option}
use Rattle.std.proofs.lemmas.Grind.{common_steps}
use Rattle.rtp_wire.specs.Name.{name_of}
use Rattle.rtp_media_ends.specs.Ends.{after_open_sender, agreed_red, refusal_of_open_sender}
use Rattle.rtp_media_ends.specs.declared.OpenError.TheVariants as open_error
use Rattle.rtp_media_program.specs.declared.reply.Reply.{Reply}
use Rattle.rtp_media_program.specs.declared.reply.Reply.TheVariants as reply
use Rattle.rtp_media_ends.specs.Params.{is_sound_params}
use Rattle.rtp_media_ends.specs.declared.StreamParams.{StreamParams}
use Rattle.rtp_media_program.specs.Streams.{is_sound_send, params_of}
use Rattle.rtp_media_program.proofs.Sends.{answered, refused}
use Rattle.rtp_media_program.proofs.streams.send.Goals as goal

if_ok : {A E : Type 0} {P Q : A → Type 0} (r : Result A E) → ((a : A) → P a → Q a) → IfOk r P → IfOk r Q
if_ok (Ok a) f h = f a h
if_ok (Err e) f h = tt

pub returns-in-Ok : goal.returns-in-Ok
returns-in-Ok c =
    let red : agreed_red c.args.end.now (name_of 16 c.args.command.mid) c.args.command.pt ≡ c.agreed_red.result =
    ap₂ (λ (m : List ℕ) (pt : ℕ). agreed_red c.args.end.now m pt)
    (sym (c.from-mid.ensures ∙ ap (name_of 16) c.as_str.ensures)) (sym c.from-pt.ensures) ∙ sym c.agreed_red.ensures in
    let params : params_of c.args.command ≡ c.params_of-params.result = sym c.params_of-params.ensures in
    let sound : is_sound_send c.args.end.now c.args.command ≡ true =
    ap₂ (λ (r : Option ℕ) (p : StreamParams). is_sound_params r p) red params ∙ sym c.if-not-is_sound.ensures.test in
    let none : refusal_of_open_sender c.args.end.now (name_of 16 c.args.command.mid) c.args.command.ssrc
    c.args.command.pt ≡ None = grind (arith, common_steps) in
    let after : c.open_sender.new.self ≡ after_open_sender c.args.end.now (name_of 16 c.args.command.mid)
    c.args.command.ssrc c.args.command.pt (params_of c.args.command) = grind (arith, common_steps) in
    if_ok c.one-in-Ok.result
    (λ replies printed. answered c.args.end.now c.args.command _ replies.items c.in-Ok.stream sound none (rw after refl)
    c.in-Ok.ensures.number printed) c.one-in-Ok.ensures

pub returns-in-Err : goal.returns-in-Err
returns-in-Err c =
    let red : agreed_red c.args.end.now (name_of 16 c.args.command.mid) c.args.command.pt ≡ c.agreed_red.result =
    ap₂ (λ (m : List ℕ) (pt : ℕ). agreed_red c.args.end.now m pt)
    (sym (c.from-mid.ensures ∙ ap (name_of 16) c.as_str.ensures)) (sym c.from-pt.ensures) ∙ sym c.agreed_red.ensures in
    let params : params_of c.args.command ≡ c.params_of-params.result = sym c.params_of-params.ensures in
    let sound : is_sound_send c.args.end.now c.args.command ≡ true =
    ap₂ (λ (r : Option ℕ) (p : StreamParams). is_sound_params r p) red params ∙ sym c.if-not-is_sound.ensures.test in
    let is : c.in-Err.error ≢ open_error.Memory → refusal_of_open_sender c.args.end.now
    (name_of 16 c.args.command.mid) c.args.command.ssrc c.args.command.pt ≡ Some c.in-Err.error =
    λ no. ap₂ (λ (m : List ℕ) (pt : ℕ). refusal_of_open_sender c.args.end.now m c.args.command.ssrc pt)
    (sym (c.from-mid.ensures ∙ ap (name_of 16) c.as_str.ensures)) (sym c.from-pt.ensures)
    ∙ ap (λ (ssrc : ℕ). refusal_of_open_sender c.args.end.now c.from-mid.result ssrc c.from-pt.result)
    (sym c.from-ssrc.ensures)
    ∙ c.in-Err.ensures.refused no in
    if_ok c.one-in-Err.result
    (λ replies printed. refused c.args.end.now c.args.command _ replies.items c.in-Err.error sound is
    c.in-Err.ensures.unchanged (printed ∙ ap (λ (name : List ℕ). let rs : List Reply = reply.Refused name ∷ [] in rs)
    c.open_error_name.ensures)) c.one-in-Err.ensures
