use Rattle.std.proofs.Common.{◌≡◌, ℕ, ◌-◌, ◌/◌, ◌++◌, ◌∷◌, [], List, length, ap, subst, ◌∙◌, arith}
use Rattle.std.proofs.Common.{append_assoc, length-append}
use Rattle.std.specs.Int.{to_be_bytes, w16}
use Rattle.rtp_wire.specs.Values.{block_of}
use Rattle.rtp_wire.specs.Written.{IsWritten}
use Rattle.rtp_wire.proofs.BlockLaws.{block-profile, block_of-length}
use Rattle.rtp_wire.proofs.PatchedLaws.{front-written, patched}
use Rattle.rtp_wire.proofs.map.ExtensionMap.write_headed_block.Goals as goal

pub overflow_cast-words : goal.overflow_cast-words
overflow_cast-words c = omega (
  arith,
  c.write_content-end.ensures.end,
  block_of-length c.args.self.now c.args.values.now c.in_range.ensures,
)

pub returns-clause-written : goal.returns-clause-written
returns-clause-written c = λ text before was at.
    let map = c.args.self.now in
    let v = c.args.values.now in
    let content = (block_of map v).content in
    let profile : c.profile_of.result ≡ (block_of map v).profile =
    c.profile_of.ensures ∙ block-profile map v c.fits_one_byte-one_byte.result c.fits_one_byte-one_byte.ensures in
    let len : c.write_content-end.result - c.put-start.result ≡ length content =
    omega (arith, c.write_content-end.ensures.end) in
    let number = c.to_be_bytes.result in
    let words = c.to_be_bytes-2.result in
    let none : List ℕ = 0 ∷ 0 ∷ [] in
    let one = c.put-count_at.ensures.written text before was at in
    let place : c.put-count_at.result ≡ length (text ++ number) =
    omega (arith, c.put-count_at.ensures.end, length-append text number) in
    let two = c.put-start.ensures.written (text ++ number) before one place in
    let three = c.write_content-end.ensures.written ((text ++ number) ++ none) before two
    (omega (arith, place, c.put-start.ensures.end, length-append (text ++ number) none)) in
    let filled = c.write_content-end.new.buf in
    let again = c.put.ensures.written (text ++ number) filled
    (front-written (text ++ number) (none ++ content) before filled
    (subst (λ (ys : List ℕ). IsWritten ys before filled) (append_assoc (text ++ number) none content) three)) place in
    let four = patched (text ++ number) none words content before filled c.put.new.buf (omega arith) three again in
    let joined : ((text ++ number) ++ words) ++ content ≡ text ++ (number ++ (words ++ content)) =
    append_assoc (text ++ number) words content ∙ append_assoc text number (words ++ content) in
    let numbers : number ≡ to_be_bytes w16 (block_of map v).profile =
    c.to_be_bytes.ensures ∙ ap (to_be_bytes w16) profile in
    let counted : words ≡ to_be_bytes w16 (length content / 4) =
    c.to_be_bytes-2.ensures ∙ ap (λ (n : ℕ). to_be_bytes w16 (n / 4)) len in
    subst (λ (ys : List ℕ). IsWritten ys before c.put.new.buf)
    (joined ∙ (λ i. text ++ (numbers i ++ (counted i ++ content)))) four
