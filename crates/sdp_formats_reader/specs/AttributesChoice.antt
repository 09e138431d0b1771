-- The kind of an attribute line: the first kind that matches, in the order tried (RFC 8866 5.13).
use Rattle.std.specs.Prelude.{codes}
use Rattle.sdp_formats_grammar.specs.Form.{Form, any_text, made, after}
use Rattle.sdp_formats_grammar.specs.Kinds.{first_of}
use Rattle.sdp_formats_reader.specs.Kinds.{media_kinds}
use Rattle.sdp_formats_data.specs.declared.media.MediaAttribute.{MediaAttribute}
use Rattle.sdp_formats_data.specs.declared.media.MediaAttribute.TheVariants.{Unused}

unfoldable pub media_attribute : Form MediaAttribute
media_attribute = first_of media_kinds (made Unused any_text)

-- A line `a=`.
abbrev pub attribute_line : Form MediaAttribute
attribute_line = after (codes "a=") media_attribute
