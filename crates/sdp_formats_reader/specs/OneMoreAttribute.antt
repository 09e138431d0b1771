-- SDP whose session has one more attribute.
use Rattle.std.specs.Prelude.{◌∷◌}
use Rattle.sdp_formats_data.specs.declared.session.Session.{Session}
use Rattle.sdp_formats_data.specs.declared.session.SessionAttribute.{SessionAttribute}

-- The session with an attribute before its own.
abbrev pub with_first : SessionAttribute → Session → Session
with_first attribute s = record s { attrs = attribute ∷ s.attrs }
