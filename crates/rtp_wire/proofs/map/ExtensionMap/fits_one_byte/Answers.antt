use Rattle.rtp_wire.proofs.FullNames.{all-fit}
use Rattle.rtp_wire.proofs.map.ExtensionMap.fits_one_byte.Goals as goal

pub returns-then-has_full_names : goal.returns-then-has_full_names
returns-then-has_full_names c =
    all-fit c.args.self.now c.args.values.now c.in_range.ensures
    (c.has_full_names.ensures.full c.if-has_full_names.true)
    (c.ends_by_14.ensures.last c.if-ends_by_14.true) (c.ends_by_14.ensures.very_last c.if-ends_by_14.true)
