-- Rows without those of a codec.
use Rattle.std.specs.Prelude.{not, List, filter}
use Rattle.media_types.specs.declared.codec.Codec.{Codec}
use Rattle.sdp_formats_rows.specs.Codecs.{is_codec}
use Rattle.sdp_formats_rows.specs.Rows.{Row}

-- The rows of other codecs, in their order.
abbrev pub rows_without : Codec → List Row → List Row
rows_without codec rows = filter (λ row. not (is_codec row.spec.codec codec)) rows
