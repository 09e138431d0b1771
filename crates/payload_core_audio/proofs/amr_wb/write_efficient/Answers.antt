use Rattle.std.proofs.Common.{◌≡◌, ℕ, ◌+◌, ◌-◌, ◌*◌, ◌/◌, ◌%◌, List, length, set, get_or, sym, ap, ◌∙◌, arith}
use Rattle.std.proofs.lemmas.List.{length-set}
use Rattle.payload_core_audio.specs.AmrWb.{byte_from}
use Rattle.payload_core_audio.specs.BitBytes.{endless_bit, front_of}
use Rattle.payload_core_audio.proofs.BitLemmas.{octet-small}
use Rattle.payload_core_audio.proofs.EfficientLemmas.{efficient-written, endless-first, endless-next, endless-second}
use Rattle.payload_core_audio.proofs.EfficientLemmas.{written-more}
use Rattle.payload_core_audio.proofs.amr_wb.write_efficient.Goals as goal

pub loop-k-init : goal.loop-k-init
loop-k-init c =
    let bytes : List ℕ = c.args.bytes.now in
    record {
      few = omega arith;
      next = sym (endless-second bytes (octet-small bytes c.type_inv.bytes 1));
      written = written-more bytes c.args.out.now 0 (240 + get_or bytes 0 0 / 16 % 8)
          (omega (arith, c.requires.len)) (λ j none. absurd (omega arith)) (sym (endless-first bytes));
    }

pub loop-k-preserved : goal.loop-k-preserved
loop-k-preserved c =
    let bytes : List ℕ = c.args.bytes.now in
    let k : ℕ = c.loop-k.k in
    let small = octet-small bytes c.type_inv.bytes in
    record {
      few = omega arith;
      next = sym (endless-next bytes k (omega arith) (small k) (small (k + 1)));
      written = written-more bytes c.loop-k.out k (c.loop-k.left * 64 + get_or bytes k 0 / 4)
          (omega (arith, c.loop-k-test.true, c.loop-k.auto.out)) c.loop-k.invariant.written c.loop-k.invariant.next;
    }

pub returns : goal.returns
returns c =
    let bytes : List ℕ = c.args.bytes.now in
    let size : ℕ = c.args.size in
    let last : ℕ = length (set c.args.out.now 0 (240 + get_or bytes 0 0 / 16 % 8)) - 1 in
    let long : last + 1 ≡ (size + 17) / 8 =
    omega (arith, c.requires.len, length-set c.args.out.now 0 (240 + get_or bytes 0 0 / 16 % 8)) in
    let end : c.loop-k.k ≡ last = omega (arith, c.loop-k.auto.k-end, c.loop-k-test.false, long) in
    efficient-written bytes size last c.front_of.result c.loop-k.out long
    (omega (arith, c.loop-k.auto.out, long))
    (λ j lt. c.loop-k.invariant.written j (omega (arith, lt, end)))
    (c.front_of.ensures ∙ ap (λ b. front_of (size + 10 - 8 * last) (c.loop-k.left * 64 + b / 4)) c.octet_at.ensures
    ∙ ap (λ n. front_of (size + 10 - 8 * last) (c.loop-k.left * 64 + get_or bytes n 0 / 4)) (sym end)
    ∙ ap (front_of (size + 10 - 8 * last)) (c.loop-k.invariant.next ∙ ap (byte_from (endless_bit bytes)) end))
