use Rattle.std.proofs.Common.{◌≡◌, ◌++◌, map}
use Rattle.std.specs.List.{flat_map}
use Rattle.payload_core_base.specs.Packing.{with_prefix}
use Rattle.h26x_payload_units.specs.Units.{units_of}
use Rattle.h26x_payload_units.specs.UnitsLeft.{units_left}
use Rattle.h26x_payload_units.specs.Departures.{departures, waiting_after}
use Rattle.h26x_payload_units.specs.Numbers.{number_after, numbered}
use Rattle.h26x_payload_formats.specs.Packing.{h265_h266_rules, packets_of}
use Rattle.h26x_payload_formats.specs.Waiting.{waiting_in}
use Rattle.h26x_payload_formats.proofs.sender.push_units.Given as goal

-- what left so far, and what leaves of the units that are left
abbrev pub invariant-loop-unit : goal.invariant-loop-unit
invariant-loop-unit l = record {
  packets : map (λ p. p.items) l.packets.items
      ++ with_prefix l.prefix (flat_map (packets_of l.form.layout l.form.donl l.form.limit)
      (numbered l.kept.number (departures (h265_h266_rules l.form.layout l.form.donl) l.form.limit (waiting_in l.kept)
      (units_left l.unit-iterator))))
      ≡ map (λ p. p.items) l.initial.packets.items
      ++ with_prefix l.prefix (flat_map (packets_of l.form.layout l.form.donl l.form.limit)
      (numbered l.initial.kept.number (departures (h265_h266_rules l.form.layout l.form.donl) l.form.limit
      (waiting_in l.initial.kept) (units_of l.sample))));
  number : number_after l.kept.number (departures (h265_h266_rules l.form.layout l.form.donl) l.form.limit
      (waiting_in l.kept)
      (units_left l.unit-iterator))
      ≡ number_after l.initial.kept.number (departures (h265_h266_rules l.form.layout l.form.donl) l.form.limit
      (waiting_in l.initial.kept) (units_of l.sample));
  waiting : waiting_after (h265_h266_rules l.form.layout l.form.donl) (waiting_in l.kept) (units_left l.unit-iterator)
      ≡ waiting_after (h265_h266_rules l.form.layout l.form.donl) (waiting_in l.initial.kept) (units_of l.sample);
}
