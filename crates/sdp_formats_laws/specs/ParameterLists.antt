-- Parameter lists that are read back as they were printed (RFC 8866 6.15).
use Rattle.std.specs.Prelude.{◌≡◌, ◌≢◌, ◌<◌, ◌^◌, ◌⊎◌, true, List, [], ◌∷◌, ◌++◌}
use Rattle.sdp_formats_reader.specs.AsRead.{is_level}
use Rattle.sdp_formats_values.specs.declared.param.FormatParam.{FormatParam}
use Rattle.sdp_formats_values.specs.declared.param.FormatParam.TheVariants as param
use Rattle.sdp_formats_laws.specs.Keyed.{AreKeyed, IsOrdinary, pair_of}

-- A parameter without a key, which must be alone: a range of telephone events (RFC 4733 2.4.1), or a RED type (RFC 2198
-- 5); or an unknown parameter, which prints nothing after the blank of its line (RFC 8866 6.15).
abbrev pub StandsAlone : FormatParam → Type 0
StandsAlone (param.TelephoneEvents v) = v < 2 ^ 8
StandsAlone (param.BareRange v) = v < 2 ^ 8
StandsAlone (param.Red v) = v < 2 ^ 8
StandsAlone (param.BarePtList v) = v < 2 ^ 8
StandsAlone param.Unknown = Unit {0}
StandsAlone _ = ⊥

abbrev pub IsAlone : List FormatParam → Type 0
IsAlone [] = ⊥
IsAlone (p ∷ []) = StandsAlone p
IsAlone (p ∷ q ∷ ps) = ⊥

-- None of these has this one's key.
abbrev pub LackKeyOf : FormatParam → List FormatParam → Type 0
LackKeyOf p [] = Unit {0}
LackKeyOf p (q ∷ qs) = ((pair_of p).key ≢ (pair_of q).key) × LackKeyOf p qs

-- Parameters with distinct keys, none of them one of a profile, tier and level.
abbrev pub AreOrdinary : List FormatParam → Type 0
AreOrdinary [] = Unit {0}
AreOrdinary (p ∷ ps) = IsOrdinary p × LackKeyOf p ps × AreOrdinary ps

-- Such parameters with a profile, tier and level (RFC 7798 7.1, RFC 9328 7.2) anywhere among them.
pub record HasOneLevel (ps : List FormatParam) : Type 0 where
  pub front : List FormatParam
  pub level : FormatParam
  pub behind : List FormatParam
  pub list : ps ≡ front ++ level ∷ behind
  pub is_one : is_level level ≡ true
  pub others : AreOrdinary (front ++ behind)

-- Readable parameters: any list of keys with values that fit their widths; or a profile, tier and level among other
-- keys; or a single parameter without a key.
abbrev pub AreReadable : List FormatParam → Type 0
AreReadable ps = AreKeyed ps ⊎ (HasOneLevel ps ⊎ IsAlone ps)
