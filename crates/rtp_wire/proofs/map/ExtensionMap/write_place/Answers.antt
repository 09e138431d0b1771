use Rattle.std.proofs.Common.{ap, length, arith}
use Rattle.rtp_wire.proofs.BlockLaws.{fits-parts}
use Rattle.rtp_wire.proofs.map.ExtensionMap.write_place.Goals as goal

pub overflow_mul-id : goal.overflow_mul-id
overflow_mul-id c = let few = fits-parts c.args.place _ c.in-Some.bytes c.in-Some.ensures.value
    (c.requires.fits c.if-one_byte.true) in omega (arith, few.0)

pub overflow_sub-bytes : goal.overflow_sub-bytes
overflow_sub-bytes c = let few = fits-parts c.args.place _ c.in-Some.bytes c.in-Some.ensures.value
    (c.requires.fits c.if-one_byte.true) in omega (arith, few.1, ap length c.as_slice-bytes.ensures.value)

pub overflow_add-id-then-one_byte : goal.overflow_add-id-then-one_byte
overflow_add-id-then-one_byte c = let few =
    fits-parts c.args.place _ c.in-Some.bytes c.in-Some.ensures.value (c.requires.fits c.if-one_byte.true) in
    omega (arith, few.0, c.as_slice-bytes.ensures.short)
