use Rattle.std.proofs.Common.{◌≡◌, [], ◌∷◌, ◌∙◌, ap, sym, true, List, string_bytes}
use Rattle.rtp_media_sections.specs.Sections.{are_sound}
use Rattle.rtp_media_program.specs.declared.reply.Reply.{Reply}
use Rattle.rtp_media_program.proofs.Printed.{answer_printed, if_ok}
use Rattle.rtp_media_program.proofs.exchanging.answer_text.Goals as goal

pub returns-in-Ok : goal.returns-in-Ok
returns-in-Ok c =
    let sound : are_sound c.in_ok-sections.sections.items ≡ true =
    ap are_sound (sym c.as_slice.ensures.value) ∙ sym c.are_sound.ensures ∙ c.if-not-are_sound.false in
    if_ok c.one-in-Ok.result
    (λ replies printed. answer_printed c.args.end.now c.args.text.now c.in_ok-sections.sections.items _
    (string_bytes c.in-Ok.text) c.answer.new.self replies.items c.in_ok-sections.ensures sound
    c.in-Ok.ensures.accepted c.in-Ok.ensures.text c.in-Ok.ensures.streams
    (printed ∙ ap (λ (r : Reply). let rs : List Reply = r ∷ [] in rs) c.text_reply.ensures)) c.one-in-Ok.ensures
