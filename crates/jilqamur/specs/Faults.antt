-- Why a sample or a packet is refused, as a number.
use Rattle.std.specs.Prelude.{ℕ}
use Rattle.payload_core_base.specs.declared.error.PacketError.{PacketError}
use Rattle.payload_core_base.specs.declared.error.PacketError.TheVariants as error
use Rattle.jilqamur.specs.Codes.{memory, packet_too_short, sample_too_large, too_many_references}
use Rattle.jilqamur.specs.Codes.{h265_corrupted, h266_corrupted, aggregate_cut_short, unit_type_not_handled}
use Rattle.jilqamur.specs.Codes.{vp8_corrupted, vp9_corrupted, av1_corrupted, red_corrupted, event_invalid}
use Rattle.jilqamur.specs.Codes.{amr_wb_corrupted}

abbrev pub fault_code : PacketError → ℕ
fault_code error.ErrShortPacket = packet_too_short
fault_code error.ErrPayloadTooLarge = sample_too_large
fault_code error.ErrTooManyPDiff = too_many_references
fault_code error.ErrH265CorruptedPacket = h265_corrupted
fault_code error.ErrH266CorruptedPacket = h266_corrupted
fault_code (error.StapASizeLargerThanBuffer size left) = aggregate_cut_short
fault_code (error.NaluTypeIsNotHandled kind) = unit_type_not_handled
fault_code error.ErrVP8CorruptedPacket = vp8_corrupted
fault_code error.ErrVP9CorruptedPacket = vp9_corrupted
fault_code error.ErrAv1CorruptedPacket = av1_corrupted
fault_code error.ErrRedCorruptedPacket = red_corrupted
fault_code error.InvalidTelephoneEvent = event_invalid
fault_code error.ErrAmrWbCorruptedPacket = amr_wb_corrupted
fault_code error.Memory = memory
