-- Without header extensions agreed no bytes are read as their values.
use Rattle.std.proofs.Common.{◌≡◌, ℕ, Bool, true, false, List, refl}
use Rattle.std.proofs.Common.{Some, None, if◌then◌else◌}
use Rattle.rtp_wire.specs.Header.{fields_in, is_header, layout_in}
use Rattle.rtp_wire.specs.Maps.{empty_map}
use Rattle.rtp_wire.specs.Values.{absent}
use Rattle.rtp_wire.proofs.Empty.{no_values}
use Rattle.rtp_media_streams.specs.Receiving.{values_of_header, values_read}

by_header : (bytes : List ℕ) (b : Bool)
    → values_of_header (if b then Some (fields_in empty_map bytes) else None) ≡ absent
by_header bytes true = no_values (layout_in bytes).extension
by_header bytes false = refl

pub nothing_read : (bytes : List ℕ) → values_read empty_map bytes ≡ absent
nothing_read bytes = by_header bytes (is_header bytes)
