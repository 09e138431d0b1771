-- Media-level attributes that are read back as they were printed.
use Rattle.std.specs.Prelude.{◌≡◌, ◌≢◌, ◌<◌, ◌≤◌, ◌^◌, ℕ, true, false, List, [], ◌∷◌, Some, None, IfSome}
use Rattle.media_types.specs.Codecs.{codec_name, codec_named}
use Rattle.rtp_wire.specs.Kinds.{uri_of, extension_of}
use Rattle.rtp_wire.specs.Name.{name_of}
use Rattle.sdp_formats_grammar.specs.Split.{Lacks}
use Rattle.sdp_formats_reader.specs.AttributesChoice.{media_attribute}
use Rattle.sdp_formats_reader.specs.PrintedPairs.{ArePairs}
use Rattle.sdp_formats_values.specs.declared.Pair.{Pair}
use Rattle.sdp_formats_reader.specs.Names.{has_name_chars}
use Rattle.sdp_formats_laws.specs.ParameterLists.{AreReadable}
use Rattle.sdp_formats_values.specs.declared.candidate.Candidate as candidate
use Rattle.sdp_formats_values.specs.declared.candidate.RelatedAddress.{RelatedAddress}
use Rattle.sdp_formats_values.specs.declared.streams.SimulcastLayer.{SimulcastLayer}
use Rattle.sdp_formats_data.specs.declared.media.RtpMap as map_of
use Rattle.sdp_formats_data.specs.declared.media.MediaAttribute.{MediaAttribute}
use Rattle.sdp_formats_data.specs.declared.media.MediaAttribute.TheVariants.{Rtcp, IceUfrag, IcePwd, IceOptions}
use Rattle.sdp_formats_data.specs.declared.media.MediaAttribute.TheVariants.{Setup, Mid, SctpPort}
use Rattle.sdp_formats_data.specs.declared.media.MediaAttribute.TheVariants.{MaxMessageSize, SctpInit, ExtMap}
use Rattle.sdp_formats_data.specs.declared.media.MediaAttribute.TheVariants.{RecvOnly, SendRecv, SendOnly, Inactive}
use Rattle.sdp_formats_data.specs.declared.media.MediaAttribute.TheVariants.{Msid, RtcpMux, RtcpMuxOnly, RtcpRsize}
use Rattle.sdp_formats_data.specs.declared.media.MediaAttribute.TheVariants.{Candidate, EndOfCandidates, RtpMap}
use Rattle.sdp_formats_data.specs.declared.media.MediaAttribute.TheVariants.{RtcpFb, Fmtp, Rid, Simulcast, SsrcGroup}
use Rattle.sdp_formats_data.specs.declared.media.MediaAttribute.TheVariants.{Fingerprint, Ssrc, Unused}

-- Bytes (maybe none) without a line end.
abbrev pub LacksLineEnds : List ℕ → Type 0
LacksLineEnds t = Lacks 10 t × Lacks 13 t

-- A text for a line: nonempty, without a line end.
abbrev pub IsText : List ℕ → Type 0
IsText t = (t ≢ []) × Lacks 10 t × Lacks 13 t

-- A text without a blank.
abbrev pub IsWord : List ℕ → Type 0
IsWord t = IsText t × Lacks 32 t

-- A codec that its name stands for, with a clock rate and channels that can be written.
abbrev pub IsPrintableMap : map_of.RtpMap → Type 0
IsPrintableMap m = (codec_named (codec_name m.codec) ≡ m.codec) × IsWord (codec_name m.codec)
    × Lacks 47 (codec_name m.codec) × (0 < m.clock_rate) × (m.clock_rate < 2 ^ 32) × IfSome m.channels (λ n. n < 2 ^ 8)

abbrev pub AreBelow : ℕ → List ℕ → Type 0
AreBelow limit [] = Unit {0}
AreBelow limit (n ∷ ns) = (n < limit) × AreBelow limit ns

-- A fingerprint with a named hash function and at least one byte.
abbrev pub IsPrintableDigest : List ℕ → List ℕ → Type 0
IsPrintableDigest name [] = ⊥
IsPrintableDigest name (b ∷ bs) = IsWord name × AreBelow 256 (b ∷ bs)

-- A candidate whose texts are words, with numbers of their width.
abbrev pub IsPrintableRelated : RelatedAddress → Type 0
IsPrintableRelated r = IsWord r.addr × (r.port < 2 ^ 16)

abbrev pub IsPrintableCandidate : candidate.Candidate → Type 0
IsPrintableCandidate c = IsWord c.foundation × (c.component_id < 2 ^ 16) × (c.prio < 2 ^ 32) × IsWord c.addr
    × (c.port < 2 ^ 16) × IfSome c.related IsPrintableRelated × IfSome c.ufrag IsWord

-- A name of letters and numbers (RFC 8851 4), without the characters that separate names.
pub record IsName (t : List ℕ) : Type 0 where
  pub word : IsWord t
  pub name : has_name_chars t ≡ true
  pub comma : Lacks 44 t
  pub semicolon : Lacks 59 t
  pub tilde : Lacks 126 t

-- Restrictions that can be on a line, the first of which doesn't begin with the letter p.
abbrev pub AreOnLine : List Pair → Type 0
AreOnLine [] = Unit {0}
AreOnLine (p ∷ ps) = (IsText p.key × IsText p.value) × AreOnLine ps

abbrev pub HasOtherKey : List ℕ → Type 0
HasOtherKey [] = ⊥
HasOtherKey (b ∷ bs) = b ≢ 112

-- A payload type, or restrictions, or nothing: a type with restrictions would be printed as `pt=99;max-br=1`, which
-- isn't read as a type.
abbrev pub AreLimits : List ℕ → List Pair → Type 0
AreLimits [] [] = Unit {0}
AreLimits [] (p ∷ ps) = ArePairs (p ∷ ps) × AreOnLine (p ∷ ps) × HasOtherKey p.key
AreLimits (pt ∷ []) [] = pt ≤ 127
AreLimits (pt ∷ []) (p ∷ ps) = ⊥
AreLimits (pt ∷ other ∷ pts) ps = ⊥

-- Layers by their names alone.
abbrev pub AreLayers : List SimulcastLayer → Type 0
AreLayers [] = Unit {0}
AreLayers (l ∷ ls) = (IsName l.restriction_id.0 × (l.attributes ≡ None)) × AreLayers ls

-- At least one layer, in either direction.
abbrev pub AreWays : List SimulcastLayer → List SimulcastLayer → Type 0
AreWays [] [] = ⊥
AreWays [] (r ∷ rs) = AreLayers (r ∷ rs)
AreWays (s ∷ ss) rs = AreLayers (s ∷ ss) × AreLayers rs

-- An attribute that reads back from its line: its texts are allowed in their places, the parameters of `a=fmtp` are
-- readable, a line of an unknown kind doesn't look like a known one, and a simulcast has at least one layer.
abbrev pub IsPrintable : MediaAttribute → Type 0
IsPrintable (Rtcp v) = IsText v
IsPrintable (IceUfrag v) = IsText v
IsPrintable (IcePwd v) = IsText v
IsPrintable (IceOptions v) = IsText v
IsPrintable (SctpInit v) = IsText v
IsPrintable (Setup v) = Unit {0}
IsPrintable (Fingerprint f) = IsPrintableDigest f.hash_func f.bytes
IsPrintable (Mid m) = IsText m × (name_of 16 m ≡ m)
IsPrintable (SctpPort p) = p < 2 ^ 16
IsPrintable (MaxMessageSize n) = n < 2 ^ 64
IsPrintable (ExtMap id ext) = (id < 2 ^ 8) × IsWord (uri_of ext) × (extension_of (uri_of ext) ≡ ext)
IsPrintable RecvOnly = Unit {0}
IsPrintable SendRecv = Unit {0}
IsPrintable SendOnly = Unit {0}
IsPrintable Inactive = Unit {0}
IsPrintable (Msid m) = IsWord m.stream_id × IsText m.track_id
IsPrintable RtcpMux = Unit {0}
IsPrintable RtcpMuxOnly = Unit {0}
IsPrintable RtcpRsize = Unit {0}
IsPrintable (Candidate c) = IsPrintableCandidate c
IsPrintable EndOfCandidates = Unit {0}
IsPrintable (RtpMap pt m) = (pt ≤ 127) × IsPrintableMap m
IsPrintable (RtcpFb pt v) = (pt ≤ 127) × IsText v
IsPrintable (Fmtp pt (p ∷ ps)) = (pt ≤ 127) × AreReadable (p ∷ ps)
IsPrintable (Rid id direction pts restrictions) = (id.1 ≡ true) × IsName id.0 × AreLimits pts restrictions
IsPrintable (Simulcast s) = (s.is_munged ≡ false) × AreWays s.send.0 s.recv.0
IsPrintable (SsrcGroup semantics (s ∷ ss)) = IsWord semantics × AreBelow (2 ^ 32) (s ∷ ss)
IsPrintable (Ssrc ssrc attr v) = (ssrc < 2 ^ 32) × IsText attr × Lacks 58 attr × IsText v
IsPrintable (Unused v) = IsText v × (media_attribute.reads v ≡ Some (Unused v))
IsPrintable _ = ⊥
