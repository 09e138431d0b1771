-- The datagrams of the one sender whose datagrams those are that are sent on.
use Rattle.std.specs.Prelude.{ℕ, ◌-◌, List, [], map, slice_index_or}
use Rattle.std.specs.List.{flat_map}
use Rattle.payload_core_base.specs.Outgoing.{Outgoing, all_outgoing}
use Rattle.rtp_wire.specs.declared.values.ExtensionValues.{ExtensionValues}
use Rattle.rtp_media_schedules.specs.Samples.{SentSample}
use Rattle.rtp_media_streams.specs.Sending.{Sending, datagrams_from}
use Rattle.rtp_media_forward.specs.Relayed.{Part, relayed}

-- The payloads of samples as they are sent: their packets, with the sample's time and values.
abbrev pub payloads_of : List SentSample → List Outgoing
payloads_of ss = flat_map (λ s. all_outgoing s.packets s.time s.values) ss

-- All datagrams of parts that a stream sends on, numbered from here on, with values of its own for those of the
-- sources.
abbrev pub virtual_datagrams : Sending → (ExtensionValues → ExtensionValues) → ℕ → List Part → List (List ℕ)
virtual_datagrams s own first parts = datagrams_from s first (payloads_of (relayed own parts))

-- Those of these numbers.
abbrev pub numbered_datagrams : ℕ → List (List ℕ) → List ℕ → List (List ℕ)
numbered_datagrams first ds ys = map (λ y. slice_index_or ds (y - first) []) ys
