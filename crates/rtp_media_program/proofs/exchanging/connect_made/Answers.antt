use Rattle.std.proofs.Common.{◌≡◌, ◌∙◌, ap, sym, true, string_bytes}
use Rattle.rtp_media_sections.specs.Sections.{are_sound}
use Rattle.rtp_media_program.proofs.Printed.{both_printed, if_ok}
use Rattle.rtp_media_program.proofs.exchanging.connect_made.Goals as goal

pub returns-in-Ok : goal.returns-in-Ok
returns-in-Ok c =
    let sound_a : are_sound c.args.offered.items ≡ true =
    ap are_sound (sym c.as_slice.ensures.value) ∙ sym c.are_sound.ensures ∙ c.if-not-are_sound.false in
    let sound_b : are_sound c.args.answered.items ≡ true =
    ap are_sound (sym c.as_slice-else-not-are_sound.ensures.value) ∙ sym c.are_sound-else-not-are_sound.ensures
    ∙ c.if-not-are_sound-2.false in
    if_ok c.both_texts.result
    (λ replies printed. both_printed c.args.a.now c.args.b.now c.args.offered.items c.args.answered.items
    (string_bytes c.in-Ok.offer) (string_bytes c.in-Ok.answer) c.connect.new.a c.connect.new.b replies.items
    sound_a sound_b c.in-Ok.ensures.texts printed) c.both_texts.ensures
