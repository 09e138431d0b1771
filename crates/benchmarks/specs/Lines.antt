-- A line as a payload sink.
use Rattle.std.specs.Prelude.{◌≡◌, ◌+◌, ◌-◌, ◌%◌, ◌^◌, ◌++◌, drop, length, min, slice_index, slice_set, take}
use Rattle.benchmarks.specs.Tallies.{tally_with}
use Rattle.payload_core.specs.Outgoing.{Outgoing}
use Rattle.benchmarks.specs.declared.line.Line.{Line}

-- A payload was taken: as much of it as fits is copied to the front of the buffer, whose first byte then becomes the
-- low byte of the timestamp. One byte of the buffer, a different one each time, is added to the sum; the payload and
-- its bytes are counted.
pub record Takes (old : Line) (o : Outgoing) (new : Line) : Type 0 where
  pub place : let size = min (length o.payload) 1200 in
      new.place ≡ slice_set (take size o.payload ++ drop size old.place) 0 (o.time % 256)
  pub sum : new.sum ≡ (old.sum + slice_index new.place (o.time % 60)) % 2 ^ 64
  pub counted : new.tally ≡ tally_with old.tally 1 (length o.payload)
  pub one_more : new.tally.packets ≡ old.tally.packets + 1

-- A payload was refused because the packet counter is full; nothing changes.
pub record Refuses (old new : Line) : Type 0 where
  pub full : old.tally.packets ≡ 2 ^ 64 - 1
  pub same : new ≡ old
