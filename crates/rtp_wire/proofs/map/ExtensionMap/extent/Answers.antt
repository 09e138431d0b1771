use Rattle.std.proofs.Common.{refl, ap, ◌∙◌, List, true, false, length, arith}
use Rattle.rtp_wire.specs.Elements.{Element, are_one_byte, elements_text}
use Rattle.rtp_wire.proofs.BlockLaws.{fits-more, length-text-more, written-is}
use Rattle.rtp_wire.proofs.SeenLaws.{seen_start}
use Rattle.rtp_wire.proofs.map.ExtensionMap.extent.Goals as goal

pub loop-place-init : goal.loop-place-init
loop-place-init c = record {
  seen = seen_start c.args.self.now;
  fits = refl;
  one_byte = refl;
  two_byte = refl;
  few = omega arith;
  short = omega arith;
}

pub loop-place-preserved : goal.loop-place-preserved
loop-place-preserved c =
    let map = c.args.self.now in
    let v = c.args.values.now in
    let n = c.loop-place.place in
    record {
      seen = c.with_place-extent.ensures.seen;
      fits = c.with_place-extent.ensures.fits
          ∙ fits-more map v n _ _ c.loop-place.invariant.fits refl;
      one_byte = omega (
        arith,
        c.loop-place.invariant.one_byte,
        c.with_place-extent.ensures.one_byte,
        length-text-more true map v n,
      );
      two_byte = omega (
        arith,
        c.loop-place.invariant.two_byte,
        c.with_place-extent.ensures.two_byte,
        length-text-more false map v n,
      );
      few = c.with_place-extent.ensures.few;
      short = c.with_place-extent.ensures.short;
    }

pub returns-clause-fits : goal.returns-clause-fits
returns-clause-fits c = c.loop-place.invariant.fits ∙ ap are_one_byte
    (written-is c.args.self.now c.args.values.now c.loop-place.place (omega arith))

pub returns-clause-one_byte : goal.returns-clause-one_byte
returns-clause-one_byte c = c.loop-place.invariant.one_byte
    ∙ ap (λ (es : List Element). length (elements_text true es))
    (written-is c.args.self.now c.args.values.now c.loop-place.place (omega arith))

pub returns-clause-two_byte : goal.returns-clause-two_byte
returns-clause-two_byte c = c.loop-place.invariant.two_byte
    ∙ ap (λ (es : List Element). length (elements_text false es))
    (written-is c.args.self.now c.args.values.now c.loop-place.place (omega arith))
