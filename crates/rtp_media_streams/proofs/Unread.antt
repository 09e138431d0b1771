-- Where the X bit is clear, no values are read.
use Rattle.std.proofs.Common.{◌≡◌, ◌+◌, ◌*◌, ℕ, Bool, true, false, List, refl, ap, take, drop}
use Rattle.std.specs.Prelude.{Some, None, if◌then◌else◌}
use Rattle.rtp_wire.specs.Header.{block_at, fields_in, has_extension_in, is_header, u16_at, values_in}
use Rattle.rtp_wire.specs.Values.{Block, Numbering, absent}
use Rattle.rtp_media_streams.specs.Receiving.{values_of_header, values_read}

no_block : (map : Numbering) (block : Block) (x : Bool) → x ≡ false
    → values_in map (if x then Some block else None) ≡ absent
no_block map block x e = ap (λ (y : Bool). values_in map (if y then Some block else None)) e

by_header : (map : Numbering) (bytes : List ℕ) (b : Bool) → has_extension_in bytes ≡ false
    → values_of_header (if b then Some (fields_in map bytes) else None) ≡ absent
by_header map bytes true e = no_block map (record {
  profile = u16_at bytes (block_at bytes);
  content = take (4 * u16_at bytes (block_at bytes + 2)) (drop (block_at bytes + 4) bytes);
}) (has_extension_in bytes) e
by_header map bytes false e = refl

pub none_read : (map : Numbering) (bytes : List ℕ) → has_extension_in bytes ≡ false → values_read map bytes ≡ absent
none_read map bytes e = by_header map bytes (is_header bytes) e
