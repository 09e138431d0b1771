-- The names under which the program prints errors of ends and streams: the variant's name, without its data.
use Rattle.std.specs.Prelude.{ℕ, List, codes}
use Rattle.rtp_media_exchange.specs.declared.errors.EndError.{EndError}
use Rattle.rtp_media_exchange.specs.declared.errors.EndError.TheVariants as end_error
use Rattle.rtp_media_ends.specs.declared.OpenError.{OpenError}
use Rattle.rtp_media_ends.specs.declared.OpenError.TheVariants as open_error
use Rattle.rtp_media_streams.specs.declared.errors.SampleError.{SampleError}
use Rattle.rtp_media_streams.specs.declared.errors.SampleError.TheVariants as sample_error
use Rattle.rtp_media_streams.specs.declared.errors.RepairError.{RepairError}
use Rattle.rtp_media_streams.specs.declared.errors.RepairError.TheVariants as repair_error
use Rattle.rtp_media_streams.specs.declared.errors.ForwardError.{ForwardError}
use Rattle.rtp_media_streams.specs.declared.errors.ForwardError.TheVariants as forward_error
use Rattle.rtp_media_forward.specs.declared.forwarder.ReserveError.{ReserveError}
use Rattle.rtp_media_forward.specs.declared.forwarder.ReserveError.TheVariants as reserve_error
use Rattle.rtp_media_streams.specs.declared.errors.PollFault.{PollFault}
use Rattle.rtp_media_streams.specs.declared.errors.PollFault.TheVariants as poll_fault
use Rattle.rtp_media_program.specs.Replies.{memory}

abbrev pub end_error_name : EndError → List ℕ
end_error_name (end_error.RowNotPlain index) = codes "RowNotPlain"
end_error_name (end_error.TypesNotDistinct pt) = codes "TypesNotDistinct"
end_error_name end_error.NotWritable = codes "NotWritable"
end_error_name end_error.Memory = memory

abbrev pub open_error_name : OpenError → List ℕ
open_error_name open_error.NoSection = codes "NoSection"
open_error_name open_error.RowNotAgreed = codes "RowNotAgreed"
open_error_name open_error.RowDiffers = codes "RowDiffers"
open_error_name open_error.WrongDirection = codes "WrongDirection"
open_error_name open_error.SsrcNotNamed = codes "SsrcNotNamed"
open_error_name open_error.AlreadyOpen = codes "AlreadyOpen"
open_error_name open_error.Memory = memory

abbrev pub sample_error_name : SampleError → List ℕ
sample_error_name sample_error.StreamFailed = codes "StreamFailed"
sample_error_name sample_error.TimeTooLarge = codes "TimeTooLarge"
sample_error_name sample_error.LimitTooSmall = codes "LimitTooSmall"
sample_error_name (sample_error.Payload error) = codes "Payload"
sample_error_name sample_error.Memory = memory

abbrev pub repair_error_name : RepairError → List ℕ
repair_error_name repair_error.NoRepair = codes "NoRepair"
repair_error_name repair_error.NotOwn = codes "NotOwn"
repair_error_name repair_error.LimitTooSmall = codes "LimitTooSmall"
repair_error_name repair_error.Memory = memory

abbrev pub forward_error_name : ForwardError → List ℕ
forward_error_name forward_error.AddsRedundancy = codes "AddsRedundancy"
forward_error_name forward_error.NumberTooLarge = codes "NumberTooLarge"
forward_error_name forward_error.NoPayload = codes "NoPayload"
forward_error_name forward_error.LimitTooSmall = codes "LimitTooSmall"
forward_error_name forward_error.Memory = memory

abbrev pub reserve_error_name : ReserveError → List ℕ
reserve_error_name reserve_error.NumberTooLarge = codes "NumberTooLarge"
reserve_error_name reserve_error.Memory = memory

abbrev pub fault_name : PollFault → List ℕ
fault_name (poll_fault.Payload error) = codes "Payload"
fault_name poll_fault.Memory = memory
