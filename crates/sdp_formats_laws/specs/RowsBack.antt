-- What holds of rows that a section lists.
use Rattle.std.specs.Prelude.{◌≡◌, Bool, true, false, List, ◌++◌, map}
use Rattle.std.specs.List.{flat_map, list_all, list_any}
use Rattle.sdp_formats_rounds.specs.Laws.{is_distinct}
use Rattle.sdp_formats_rounds.specs.TypeLaws.{types_in}
use Rattle.sdp_formats_rows.specs.Plain.{is_plain}
use Rattle.sdp_formats_rows.specs.Rows.{Row}
use Rattle.sdp_formats_section_rows.specs.Attributes.{attributes_of}
use Rattle.sdp_formats_section_rows.specs.SectionRows.{rows_of}
use Rattle.sdp_formats_data.specs.declared.media.MediaAttribute.{MediaAttribute}
use Rattle.sdp_formats_data.specs.declared.media.MediaAttribute.TheVariants.{RtpMap, RtcpFb, Fmtp}

-- The attributes that list rows, row by row.
abbrev pub attributes_in : List Row → List MediaAttribute
attributes_in rows = flat_map attributes_of rows

-- Whether an attribute names a payload type.
abbrev pub names_type : MediaAttribute → Bool
names_type (RtpMap pt value) = true
names_type (RtcpFb pt value) = true
names_type (Fmtp pt values) = true
names_type _ = false

-- The row as it is before an exchange settles it.
abbrev pub unlocked : Row → Row
unlocked row = record row { locked = false }

-- Plain rows with distinct payload types are read back from a section that lists them: its list has their types, and
-- its attributes are those of the rows, surrounded by others that name no type.
abbrev pub PlainRowsComeBack : Type 0
PlainRowsComeBack = (rows : List Row) (others behind : List MediaAttribute) → list_all is_plain rows ≡ true
    → is_distinct (types_in rows) ≡ true → list_any names_type others ≡ false → list_any names_type behind ≡ false
    → rows_of (types_in rows) (others ++ (attributes_in rows ++ behind)) ≡ map unlocked rows
