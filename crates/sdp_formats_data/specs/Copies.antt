-- The same attribute with another text.
use Rattle.std.specs.Prelude.{ℕ, List}
use Rattle.sdp_formats_data.specs.declared.media.MediaAttribute.{MediaAttribute}
use Rattle.sdp_formats_data.specs.declared.media.MediaAttribute.TheVariants as a
use Rattle.sdp_formats_data.specs.declared.session.SessionAttribute.{SessionAttribute}
use Rattle.sdp_formats_data.specs.declared.session.SessionAttribute.TheVariants as s

abbrev pub with_text : MediaAttribute → List ℕ → MediaAttribute
with_text (a.Rtcp before) text = a.Rtcp text
with_text (a.IceUfrag before) text = a.IceUfrag text
with_text (a.IcePwd before) text = a.IcePwd text
with_text (a.IceOptions before) text = a.IceOptions text
with_text (a.SctpInit before) text = a.SctpInit text
with_text _ text = a.Unused text

abbrev pub with_session_text : SessionAttribute → List ℕ → SessionAttribute
with_session_text (s.IceUfrag before) text = s.IceUfrag text
with_session_text (s.IcePwd before) text = s.IcePwd text
with_session_text (s.IceOptions before) text = s.IceOptions text
with_session_text _ text = s.Unused text
