use Rattle.std.proofs.Common.{refl}
use Rattle.rtp_wire.proofs.BlockLaws.{block_of-shorter}
use Rattle.rtp_wire.proofs.LayoutLaws.{laid_out-read, layout-of, low_bits_of_orientation}
use Rattle.rtp_wire.proofs.LayoutLaws.{of_other_length}
use Rattle.rtp_wire.proofs.LayoutLaws.{other_profiles, two_byte_profiles}
use Rattle.rtp_wire.proofs.blocks.block_laws.Goals as goal

pub returns : goal.returns
returns c = record {
  laid_out = layout-of;
  read = laid_out-read;
  of_other_length = of_other_length;
  orientation = low_bits_of_orientation;
  one_byte_profile = refl;
  two_byte_profiles = two_byte_profiles;
  other_profiles = other_profiles;
  within = block_of-shorter;
}
