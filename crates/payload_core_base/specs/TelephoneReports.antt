use Rattle.std.specs.Int.NonZero.{non_zero_u32_get}
use Rattle.std.specs.Prelude.{List}
use Rattle.payload_core_base.specs.declared.telephone_event.TelephoneEvent.{TelephoneEvent}
use Rattle.payload_core_base.specs.declared.telephone_event.TelephoneEvents.{TelephoneEvents}
use Rattle.payload_core_base.specs.Telephone.{events_of}

-- The reports the iterator has yet to yield.
abbrev pub events_left : TelephoneEvents → List TelephoneEvent
events_left events = events_of (non_zero_u32_get events.clock_rate) events.rest.now
