-- What a place owns: nothing, or a box of an object.
use base.Fml.{Fml, ftrue}
use base.Stored.{Coded}
use denote.RawPtr.{Ptr}
use Rattle.std.specs.Prelude.{Option, Some, None}
use Rattle.std.specs.Coded.{coded_option}
use Rattle.std.specs.Box.Ownership.{box_owns}
use Rattle.std.specs.Global.{Global}
use Rattle.std.specs.contracts.impls.GlobalAllocator.TheImpl.{ghosts}
use Rattle.jilqamur.specs.contracts.object.Object.{the_row}

abbrev pub owned : Global → Ptr → Option the_row.Denot → Fml
owned alloc at None = ftrue
owned alloc at (Some x) = box_owns (ghosts.dealloc_token alloc) the_row at x

abbrev pub object_coded : Coded (Option the_row.Denot)
object_coded = coded_option the_row.coded
