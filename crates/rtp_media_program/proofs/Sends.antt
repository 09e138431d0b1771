-- What a command that opens a sending stream is answered.
use Rattle.std.proofs.Common.{◌≡◌, ℕ, sym, ◌∙◌, ap, Bool, true, List, [], ◌∷◌, Some, None, length, inl, inr, ◌≢◌}
use Rattle.std.specs.Prelude.{if◌then◌else◌}
use Rattle.rtp_wire.specs.Name.{name_of}
use Rattle.rtp_media_ends.specs.declared.OpenError.{OpenError}
use Rattle.rtp_media_ends.specs.declared.OpenError.TheVariants as open_error
use Rattle.rtp_media_ends.specs.Ends.{EndState, after_open_sender, refusal_of_open_sender}
use Rattle.rtp_media_program.specs.declared.command.Command.TheVariants.{Send}
use Rattle.rtp_media_program.specs.declared.command.SendCommand.{SendCommand}
use Rattle.rtp_media_program.specs.declared.reply.Reply.{Reply}
use Rattle.rtp_media_program.specs.declared.reply.Reply.TheVariants as reply
use Rattle.rtp_media_program.specs.EndErrorNames.{open_error_name}
use Rattle.rtp_media_program.specs.Streams.{EndStep, IsAnswered, is_sound_send, params_of, prints, send_step}
use Rattle.rtp_media_program.specs.Streams.{sender_step}

pub answered : (e : EndState) (c : SendCommand) (end : EndState) (replies : List Reply) (n : ℕ)
    → is_sound_send e c ≡ true → refusal_of_open_sender e (name_of 16 c.mid) c.ssrc c.pt ≡ None
    → end ≡ after_open_sender e (name_of 16 c.mid) c.ssrc c.pt (params_of c) → n ≡ length e.streams
    → replies ≡ reply.Sender n ∷ [] → IsAnswered e (Send c) end replies
answered e c end replies n sound none after number printed =
    let step : send_step e c ≡ prints (after_open_sender e (name_of 16 c.mid) c.ssrc c.pt (params_of c))
    (reply.Sender (length e.streams)) =
    ap (λ (b : Bool). if b then sender_step e c (refusal_of_open_sender e (name_of 16 c.mid) c.ssrc c.pt)
    else prints e reply.ErrorLine) sound
    ∙ ap (sender_step e c) none in
    inl (
      after ∙ sym (ap (λ (s : EndStep). s.end) step),
      printed ∙ ap (λ (m : ℕ). let rs : List Reply = reply.Sender m ∷ [] in rs) number
          ∙ sym (ap (λ (s : EndStep). s.replies) step),
    )

known : (e : EndState) (c : SendCommand) (end : EndState) (replies : List Reply) (error : OpenError)
    → is_sound_send e c ≡ true → refusal_of_open_sender e (name_of 16 c.mid) c.ssrc c.pt ≡ Some error → end ≡ e
    → replies ≡ reply.Refused (open_error_name error) ∷ [] → IsAnswered e (Send c) end replies
known e c end replies error sound is same printed =
    let step : send_step e c ≡ prints e (reply.Refused (open_error_name error)) =
    ap (λ (b : Bool). if b then sender_step e c (refusal_of_open_sender e (name_of 16 c.mid) c.ssrc c.pt)
    else prints e reply.ErrorLine) sound
    ∙ ap (sender_step e c) is in
    inl (same ∙ sym (ap (λ (s : EndStep). s.end) step), printed ∙ sym (ap (λ (s : EndStep). s.replies) step))

-- memory ran out, or the refusal is that of the definition
pub refused : (e : EndState) (c : SendCommand) (end : EndState) (replies : List Reply) (error : OpenError)
    → is_sound_send e c ≡ true
    → (error ≢ open_error.Memory → refusal_of_open_sender e (name_of 16 c.mid) c.ssrc c.pt ≡ Some error) → end ≡ e
    → replies ≡ reply.Refused (open_error_name error) ∷ [] → IsAnswered e (Send c) end replies
refused e c end replies open_error.Memory sound is same printed = inr (sound, same, printed)
refused e c end replies open_error.NoSection sound is same printed =
    known e c end replies _ sound (is (λ same. cc)) same printed
refused e c end replies open_error.RowNotAgreed sound is same printed =
    known e c end replies _ sound (is (λ same. cc)) same printed
refused e c end replies open_error.RowDiffers sound is same printed =
    known e c end replies _ sound (is (λ same. cc)) same printed
refused e c end replies open_error.WrongDirection sound is same printed =
    known e c end replies _ sound (is (λ same. cc)) same printed
refused e c end replies open_error.SsrcNotNamed sound is same printed =
    known e c end replies _ sound (is (λ same. cc)) same printed
refused e c end replies open_error.AlreadyOpen sound is same printed =
    known e c end replies _ sound (is (λ same. cc)) same printed
