use Rattle.std.proofs.Common.{◌≡◌, ℕ, ◌+◌, ◌-◌, ◌*◌, ◌/◌, ◌%◌, List, ◌++◌, ◌∷◌, [], drop, take, ap, sym, ◌∙◌}
use Rattle.std.proofs.Common.{append_assoc, arith}
use Rattle.payload_core_audio.specs.AmrWb.{byte_from, bytes_from}
use Rattle.payload_core_audio.specs.BitBytes.{bits_from, front_of}
use Rattle.payload_core_audio.proofs.BitLemmas.{field-byte, octet-here, octet-small, octets, speech-filled}
use Rattle.payload_core_audio.proofs.BitLemmas.{speech-whole}
use Rattle.payload_core_audio.proofs.field.push_sample_speech.Goals as goal

less : (n : ℕ) → n + 1 - 1 ≡ n
less n = omega arith

pub returns-in_ok-push : goal.returns-in_ok-push
returns-in_ok-push c =
    let bytes : List ℕ = c.args.bytes.now in
    let size : ℕ = c.args.size in
    let old : List ℕ = c.args.out.now.items in
    let front : List ℕ = bytes_from (bits_from bytes 8) (size / 8) in
    let small = octet-small bytes c.type_inv.bytes in
    let copied : take (size / 8 + 1 - 1) (drop 1 bytes) ≡ front =
    ap (λ n. take n (drop 1 bytes)) (less (size / 8))
    ∙ octets bytes 8 1 (size / 8) (omega arith) (omega (arith, c.requires)) small in
    let left : size % 8 ≡ size - 8 * (size / 8) = omega arith in
    let last = c.front_of.ensures
    ∙ ap (front_of (size % 8)) (sym (octet-here bytes (8 + 8 * (size / 8)) (size / 8 + 1) (omega arith) small))
    ∙ ap (λ n. front_of n (byte_from (bits_from bytes (8 + 8 * (size / 8))) 0)) left
    ∙ sym (field-byte bytes 8 size (size / 8) (omega (arith, c.if-size-gt0.true))) in
    c.in_ok-push.ensures.items
    ∙ ap (λ xs. xs ++ c.front_of.result ∷ []) (c.in_ok-extend_from_slice.ensures.items
    ∙ ap (λ xs. old ++ xs) copied)
    ∙ append_assoc old front (c.front_of.result ∷ [])
    ∙ ap (λ xs. old ++ xs) (ap (λ b. front ++ b ∷ []) last
    ∙ sym (speech-filled bytes 8 size (omega (arith, c.if-size-gt0.true))))

pub returns-else-size-gt0 : goal.returns-else-size-gt0
returns-else-size-gt0 c =
    let bytes : List ℕ = c.args.bytes.now in
    let size : ℕ = c.args.size in
    let small = octet-small bytes c.type_inv.bytes in
    c.in_ok-extend_from_slice.ensures.items
    ∙ ap (λ xs. c.args.out.now.items ++ xs)
    (ap (λ n. take n (drop 1 bytes)) (less (size / 8)) ∙ octets bytes 8 1 (size / 8) (omega arith) (omega (
      arith,
      c.requires,
    )) small
    ∙ sym (speech-whole bytes 8 size (omega (arith, c.if-size-gt0.false))))
