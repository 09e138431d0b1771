-- The kind of an attribute line: the first kind that matches, in the order tried (RFC 8866 5.13).
use Rattle.std.specs.Prelude.{List, [], ◌∷◌, codes, map}
use Rattle.sdp_formats_grammar.specs.Form.{Form, any_text, made, after}
use Rattle.sdp_formats_grammar.specs.Kinds.{Kind, Named, OneOf, made_kind, first_of}
use Rattle.sdp_formats_reader.specs.Transport.{in_session, transport_kinds}
use Rattle.sdp_formats_reader.specs.Groups.{group, msid_semantic}
use Rattle.sdp_formats_data.specs.declared.session.SessionAttribute.{SessionAttribute}
use Rattle.sdp_formats_data.specs.declared.session.SessionAttribute.TheVariants.{IceLite, Unused}

-- In the order in which they are tried.
abbrev pub session_kinds : List (Kind SessionAttribute)
session_kinds =
    Named (codes "group") group
    ∷ Named (codes "msid-semantic") msid_semantic
    ∷ OneOf ((codes "ice-lite", IceLite) ∷ [])
    ∷ map (made_kind in_session) transport_kinds

unfoldable pub session_attribute : Form SessionAttribute
session_attribute = first_of session_kinds (made Unused any_text)

-- A line `a=`.
abbrev pub attribute_line : Form SessionAttribute
attribute_line = after (codes "a=") session_attribute
