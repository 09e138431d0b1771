-- Sessions that can be written (RFC 8866 5).
use Rattle.std.specs.Prelude.{◌≡◌, ◌⊎◌, Bool, true, false, All, IfSome}
use Rattle.sdp_formats_reader.specs.Lines.{bandwidth_line}
use Rattle.sdp_formats_reader.specs.ReaderChoice.{attribute_line}
use Rattle.sdp_formats_values.specs.Lists.{bandwidth_text}
use Rattle.sdp_formats_data.specs.PrintedSession.{attribute_text}
use Rattle.sdp_formats_values.specs.declared.bandwidth.Bandwidth.{Bandwidth}
use Rattle.sdp_formats_data.specs.declared.session.Session.{Session}
use Rattle.sdp_formats_data.specs.declared.session.SessionAttribute.{SessionAttribute}
use Rattle.sdp_formats_data.specs.declared.session.SessionAttribute.TheVariants.{Group, Unused}
use Rattle.sdp_formats_reader.specs.WholeLines.{IsLineOf}

-- A group of sections.
abbrev pub is_group : SessionAttribute → Bool
is_group (Group typ mids) = true
is_group _ = false

-- An attribute of no kind that is known.
abbrev pub is_unused : SessionAttribute → Bool
is_unused (Unused text) = true
is_unused _ = false

-- An attribute's line is read back as the attribute, or as a line of an unknown kind.
abbrev pub ComesBack : SessionAttribute → SessionAttribute → Type 0
ComesBack a b = (is_unused b ≡ true) ⊎ (b ≡ a)

-- An attribute that is no group, and that comes back from its line.
unfoldable pub IsWritableAttribute : SessionAttribute → Type 0
IsWritableAttribute a = (is_group a ≡ false) × IsLineOf attribute_line (attribute_text a) (ComesBack a)

-- A bandwidth whose line is read as it.
unfoldable pub IsWritableBandwidth : Bandwidth → Type 0
IsWritableBandwidth b = IsLineOf bandwidth_line (bandwidth_text b) (λ c. c ≡ b)

-- A session whose bandwidth, if it has one, and attributes are read as they are printed.
abbrev pub IsWritableSession : Session → Type 0
IsWritableSession s = IfSome s.bw IsWritableBandwidth × All IsWritableAttribute s.attrs
