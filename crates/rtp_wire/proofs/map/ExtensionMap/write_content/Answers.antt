use Rattle.std.proofs.Common.{◌≡◌, ℕ, ◌+◌, ◌-◌, ◌%◌, ◌++◌, ◌∷◌, [], List, length, take, ap, sym, subst, ◌∙◌, arith}
use Rattle.std.proofs.Common.{append_assoc, length-append, length-take}
use Rattle.rtp_wire.specs.Elements.{Element, elements_to, place_elements, elements_text, fill}
use Rattle.rtp_wire.specs.Values.{block_of}
use Rattle.rtp_wire.specs.Written.{IsWritten}
use Rattle.rtp_wire.proofs.BlockLaws.{place-fits, room-more, content-length, content-is, written-is}
use Rattle.rtp_wire.proofs.BlockLaws.{text-more, length-text-more}
use Rattle.rtp_wire.proofs.map.ExtensionMap.write_content.Goals as goal

pub write_place-end-requires-clause-fits : goal.write_place-end-requires-clause-fits
write_place-end-requires-clause-fits c =
    λ e. place-fits c.args.self.now c.args.values.now c.loop-place.place (sym c.requires.form ∙ e)
    c.loop-place-test.true

pub write_place-end-requires-clause-room : goal.write_place-end-requires-clause-room
write_place-end-requires-clause-room c =
    let one = c.args.one_byte in
    omega (
      arith,
      c.loop-place.invariant.end,
      room-more one c.args.self.now c.args.values.now c.loop-place.place c.loop-place-test.true,
      content-length c.args.self.now c.args.values.now one c.requires.form,
      c.requires.room,
    )

pub loop-place-preserved : goal.loop-place-preserved
loop-place-preserved c =
    let one = c.args.one_byte in
    let map = c.args.self.now in
    let v = c.args.values.now in
    let n = c.loop-place.place in
    let so_far = elements_text one (elements_to map v n) in
    let here = elements_text one (place_elements map v n) in
    record {
      seen = c.write_place-end.ensures.seen;
      end = omega (arith, c.loop-place.invariant.end, c.write_place-end.ensures.end, length-text-more one map v n);
      room = omega arith;
      written = λ text before was at.
          let place : c.loop-place.end ≡ length (text ++ so_far) =
          omega (arith, c.loop-place.invariant.end, length-append text so_far) in
          let more = c.write_place-end.ensures.written (text ++ so_far) before
          (c.loop-place.invariant.written text before was at) place in
          let joined : (text ++ so_far) ++ here ≡ text ++ elements_text one (elements_to map v (n + 1)) =
          append_assoc text so_far here ∙ ap (λ (ys : List ℕ). text ++ ys) (sym (text-more one map v n)) in
          subst (λ (ys : List ℕ). IsWritten ys before c.write_place-end.new.buf) joined more;
    }

pub put-requires : goal.put-requires
put-requires c =
    let one = c.args.one_byte in
    let whole = written-is c.args.self.now c.args.values.now c.loop-place.place (omega arith) in
    omega (
      arith,
      c.loop-place.invariant.end,
      ap (λ (es : List Element). length (elements_text one es)) whole,
      content-length c.args.self.now c.args.values.now one c.requires.form,
      c.requires.room,
      length-take {A = ℕ} ((4 - (c.loop-place.end - c.args.at) % 4) % 4) (0 ∷ 0 ∷ 0 ∷ []),
    )

pub returns-clause-end : goal.returns-clause-end
returns-clause-end c =
    let one = c.args.one_byte in
    let whole = written-is c.args.self.now c.args.values.now c.loop-place.place (omega arith) in
    omega (
      arith,
      c.loop-place.invariant.end,
      ap (λ (es : List Element). length (elements_text one es)) whole,
      content-length c.args.self.now c.args.values.now one c.requires.form,
      c.put.ensures.end,
      length-take {A = ℕ} ((4 - (c.loop-place.end - c.args.at) % 4) % 4) (0 ∷ 0 ∷ 0 ∷ []),
    )

pub returns-clause-written : goal.returns-clause-written
returns-clause-written c = λ text before was at.
    let one = c.args.one_byte in
    let map = c.args.self.now in
    let v = c.args.values.now in
    let n = c.loop-place.place in
    let so_far = elements_text one (elements_to map v n) in
    let d = c.loop-place.end - c.args.at in
    let count : d ≡ length so_far = omega (arith, c.loop-place.invariant.end) in
    let place : c.loop-place.end ≡ length (text ++ so_far) =
    omega (arith, c.loop-place.invariant.end, length-append text so_far) in
    let more = c.put.ensures.written (text ++ so_far) before (c.loop-place.invariant.written text before was at)
    place in
    let joined : (text ++ so_far) ++ take (fill d) (0 ∷ 0 ∷ 0 ∷ []) ≡ text ++ (block_of map v).content =
    append_assoc text so_far (take (fill d) (0 ∷ 0 ∷ 0 ∷ []))
    ∙ ap (λ (ys : List ℕ). text ++ ys) (content-is map v one n d c.requires.form (omega arith)
    count) in
    subst (λ (ys : List ℕ). IsWritten ys before c.put.new.buf) joined more
