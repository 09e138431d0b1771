use Rattle.std.proofs.Common.{◌≡◌, ◌+◌, ◌-◌, ◌*◌, ◌/◌, ◌%◌, ◌++◌, ◌∷◌, [], ap, sym, ◌∙◌, append_assoc, arith}
use Rattle.payload_core_audio.specs.AmrWb.{byte_from, bytes_from}
use Rattle.payload_core_audio.specs.BitBytes.{bits_from, front_of}
use Rattle.payload_core_audio.specs.BitPlaces.{place_of}
use Rattle.payload_core_audio.proofs.BitLemmas.{field-byte, speech-filled, speech-whole}
use Rattle.payload_core_audio.proofs.field.push_speech.Goals as goal

pub returns-in_ok-push : goal.returns-in_ok-push
returns-in_ok-push c =
    let bytes = c.args.bytes.now in
    let place = place_of c.args.place in
    let size = c.args.size in
    let front = bytes_from (bits_from bytes place) (size / 8) in
    let old = c.args.out.now.items in
    let at : place + size / 8 * 8 ≡ place + 8 * (size / 8) = omega arith in
    let left : size % 8 ≡ size - 8 * (size / 8) = omega arith in
    let last = c.front_of.ensures
    ∙ ap (front_of (size % 8)) (c.byte-last.ensures
    ∙ ap (λ p. byte_from (bits_from bytes p) 0) (c.after.ensures ∙ at))
    ∙ ap (λ n. front_of n (byte_from (bits_from bytes (place + 8 * (size / 8))) 0)) left
    ∙ sym (field-byte bytes place size (size / 8) (omega arith)) in
    c.in_ok-push.ensures.items
    ∙ ap (λ xs. xs ++ c.front_of.result ∷ []) (c.in_ok-push_bytes.ensures
    ∙ ap (λ xs. xs ++ front) c.in_ok-reserve.ensures.items)
    ∙ append_assoc old front (c.front_of.result ∷ [])
    ∙ ap (λ xs. old ++ xs) (ap (λ b. front ++ b ∷ []) last ∙ sym (speech-filled bytes place size (omega arith)))

pub returns-else-size-gt0 : goal.returns-else-size-gt0
returns-else-size-gt0 c =
    let bytes = c.args.bytes.now in
    let place = place_of c.args.place in
    let size = c.args.size in
    c.in_ok-push_bytes.ensures
    ∙ ap (λ xs. xs ++ bytes_from (bits_from bytes place) (size / 8)) c.in_ok-reserve.ensures.items
    ∙ ap (λ xs. c.args.out.now.items ++ xs) (sym (speech-whole bytes place size (omega arith)))
