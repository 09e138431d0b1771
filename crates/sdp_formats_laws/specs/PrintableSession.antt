-- Attributes of a session that are read as they are printed.
use Rattle.std.specs.Prelude.{◌≡◌, ℕ, List, [], ◌∷◌, Some}
use Rattle.rtp_wire.specs.Name.{name_of}
use Rattle.sdp_formats_reader.specs.ReaderChoice.{session_attribute}
use Rattle.sdp_formats_data.specs.declared.session.SessionAttribute.{SessionAttribute}
use Rattle.sdp_formats_data.specs.declared.session.SessionAttribute.TheVariants.{Group, MsidSemantic, IceLite}
use Rattle.sdp_formats_data.specs.declared.session.SessionAttribute.TheVariants.{IceUfrag}
use Rattle.sdp_formats_data.specs.declared.session.SessionAttribute.TheVariants.{IcePwd, IceOptions, Setup}
use Rattle.sdp_formats_data.specs.declared.session.SessionAttribute.TheVariants.{Candidate, EndOfCandidates}
use Rattle.sdp_formats_data.specs.declared.session.SessionAttribute.TheVariants.{Fingerprint, Unused}
use Rattle.sdp_formats_laws.specs.Printable.{IsText, IsWord, IsPrintableDigest, IsPrintableCandidate}

abbrev pub AreWords : List (List ℕ) → Type 0
AreWords [] = Unit {0}
AreWords (w ∷ ws) = IsWord w × AreWords ws

-- Names of sections, as they are kept.
abbrev pub AreMids : List (List ℕ) → Type 0
AreMids [] = Unit {0}
AreMids (m ∷ ms) = IsWord m × (name_of 16 m ≡ m) × AreMids ms

-- An attribute that reads back from its line: its texts are allowed in their places, and a line of an unknown kind
-- doesn't look like a known one. `a=extmap-allow-mixed` is excluded: it is read as a line of an unknown kind.
abbrev pub IsPrintable : SessionAttribute → Type 0
IsPrintable (Group typ mids) = IsWord typ × AreMids mids
IsPrintable (MsidSemantic semantic (s ∷ ss)) = IsWord semantic × AreWords (s ∷ ss)
IsPrintable IceLite = Unit {0}
IsPrintable (IceUfrag v) = IsText v
IsPrintable (IcePwd v) = IsText v
IsPrintable (IceOptions v) = IsText v
IsPrintable (Setup v) = Unit {0}
IsPrintable (Candidate c) = IsPrintableCandidate c
IsPrintable EndOfCandidates = Unit {0}
IsPrintable (Fingerprint f) = IsPrintableDigest f.hash_func f.bytes
IsPrintable (Unused v) = IsText v × (session_attribute.reads v ≡ Some (Unused v))
IsPrintable _ = ⊥
