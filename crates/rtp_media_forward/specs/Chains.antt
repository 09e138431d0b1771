-- Streams that one forwarder after another sends on.
use Rattle.std.specs.Prelude.{ℕ, List, [], ◌∷◌, map}
use Rattle.rtp_wire.specs.declared.values.ExtensionValues.{ExtensionValues}
use Rattle.rtp_media_schedules.specs.Samples.{SentSample}
use Rattle.rtp_media_forward.specs.Forwarding.{shifted}
use Rattle.rtp_media_forward.specs.Relayed.{Part, relayed_sample}

-- A forwarder that sends on all that one stream sends: what becomes of header extension values, and what is added to
-- timestamps.
pub record Link : Type 0 where
  pub values : ExtensionValues → ExtensionValues
  pub shift : ℕ

abbrev pub over_link : Link → List SentSample → List SentSample
over_link l samples = map (relayed_sample l.values l.shift) samples

-- What the last link sends, if each sends on what the one before it sends.
abbrev pub over_links : List Link → List SentSample → List SentSample
over_links [] samples = samples
over_links (l ∷ ls) samples = over_links ls (over_link l samples)

-- What all links make of values, and what they add to timestamps.
abbrev pub values_over : List Link → ExtensionValues → ExtensionValues
values_over [] v = v
values_over (l ∷ ls) v = values_over ls (l.values v)

abbrev pub shift_over : List Link → ℕ
shift_over [] = 0
shift_over (l ∷ ls) = shifted (shift_over ls) l.shift

-- A part whose timestamps are shifted once more.
abbrev pub moved : ℕ → Part → Part
moved shift p = record p { shift = shifted shift p.shift }
