use Rattle.std.proofs.Common.{◌≡◌, ℕ, suc, ◌+◌, List, Some, refl, ap, sym, ◌∙◌, arith}
use Rattle.payload_core_audio.specs.RedReading.{items_from}
use Rattle.payload_core_audio.proofs.LayoutLemmas.{not-red, read-none, read-short, read-some}
use Rattle.payload_core_audio.proofs.SoundLemmas.{items-length, red-sound}
use Rattle.payload_core_audio.proofs.decoder.RedDecoder.decode.Goals as goal

pub returns-in_default-clause-refused : goal.returns-in_default-clause-refused
returns-in_default-clause-refused c = (
  refl,
  not-red c.args.packet.now (read-none c.args.packet.now (sym c.in_default.ensures.value)),
)

pub returns-then-packet-headers-clause-refused : goal.returns-then-packet-headers-clause-refused
returns-then-packet-headers-clause-refused c =
    let short = read-short c.args.packet.now c.in-Some.count (sym c.in-Some.ensures.value)
    (omega (arith, c.if-packet-headers.true, c.size_of_blocks.ensures.value)) in
    (refl, not-red c.args.packet.now short)

pub returns-clause-read : goal.returns-clause-read
returns-clause-read c =
    let n : ℕ = c.in-Some.count in
    let packet : List ℕ = c.args.packet.now in
    let payloads : List ℕ = c.parted.result.1.now in
    let next : suc n ≡ n + 1 = omega arith in
    read-some packet n (sym c.in-Some.ensures.value)
    (omega (arith, c.if-packet-headers.false, c.size_of_blocks.ensures.value))
    ∙ ap (λ p. Some (items_from (suc n) packet p)) (sym c.parted.ensures.behind)
    ∙ ap (λ m. Some (items_from m packet payloads)) next

pub returns-clause-few : goal.returns-clause-few
returns-clause-few c = let few = c.in-Some.ensures.few in
    omega (arith, items-length (c.in-Some.count + 1) c.args.packet.now c.parted.result.1.now)

pub returns-clause-handed_out : goal.returns-clause-handed_out
returns-clause-handed_out c = red-sound c.args.packet.now _ (λ k. let byte = c.type_inv.packet k in omega arith)
    (returns-clause-read c)
