-- Lists of parameters are read as they are printed.
use Rattle.std.proofs.Common.{◌≡◌, true, ◌⊎◌, List, [], ◌∷◌, ◌++◌, sym, subst, ⊎_elim}
use Rattle.media_types.specs.H265ProfileTierLevel.{ComesBack as ComesBack265}
use Rattle.media_types.specs.H266ProfileTierLevel.{ComesBack as ComesBack266}
use Rattle.media_types.specs.H265Level.{level_id as level_265}
use Rattle.media_types.specs.H265Profile.{profile_id as profile_265}
use Rattle.media_types.specs.Tier.{tier_flag}
use Rattle.media_types.specs.H266Level.{level_id as level_266}
use Rattle.media_types.specs.H266Profile.{profile_id as profile_266}
use Rattle.sdp_formats_grammar.specs.Form.{IsExact}
use Rattle.sdp_formats_reader.specs.AsRead.{is_level}
use Rattle.sdp_formats_reader.specs.PairsSay.{pair_list}
use Rattle.sdp_formats_reader.specs.PrintedPairs.{PairsComeBack}
use Rattle.sdp_formats_values.specs.declared.param.FormatParam.{FormatParam}
use Rattle.sdp_formats_values.specs.declared.param.FormatParam.TheVariants as param
use Rattle.sdp_formats_laws.proofs.KeyedLists.{keyed_on_line, keyed_read}
use Rattle.sdp_formats_laws.proofs.LevelLists.{level_back}
use Rattle.sdp_formats_laws.proofs.LevelNumbers.{reads_265, reads_266}
use Rattle.sdp_formats_laws.proofs.OtherParams.{bare_list_back, bare_range_back, events_back, red_back}
use Rattle.sdp_formats_laws.proofs.OtherParams.{unknown_back}
use Rattle.sdp_formats_laws.proofs.TextBack.{text_back}
use Rattle.sdp_formats_laws.specs.Keyed.{AreKeyed}
use Rattle.sdp_formats_laws.specs.ParameterLists.{AreOrdinary, HasOneLevel, IsAlone}
use Rattle.sdp_formats_laws.specs.PrintedParameters.{IsReadBack, ReadableListsComeBack}

keyed_back : PairsComeBack → (ps : List FormatParam) → AreKeyed ps → IsReadBack ps
keyed_back back [] h = tt
keyed_back back (p ∷ ps) h = text_back p ps (keyed_on_line p ps h) (keyed_read back p ps h)

by_level : PairsComeBack → ComesBack265 → ComesBack266 → (front behind : List FormatParam) (l : FormatParam)
    → is_level l ≡ true → AreOrdinary (front ++ behind) → IsReadBack (front ++ l ∷ behind)
by_level pairs one other front behind (param.H265ProfileTierLevel v) e h =
    level_back pairs front behind (param.H265ProfileTierLevel v) (profile_265 v.profile) (tier_flag v.tier)
    (level_265 v.level) (reads_265 one v) h
by_level pairs one other front behind (param.H266ProfileTierLevel v) e h =
    level_back pairs front behind (param.H266ProfileTierLevel v) (profile_266 v.profile) (tier_flag v.tier)
    (level_266 v.level) (reads_266 other v) h
by_level pairs one other front behind _ e h = absurd (cc)

alone_back : IsExact pair_list → (ps : List FormatParam) → IsAlone ps → IsReadBack ps
alone_back exact [] h = absurd h
alone_back exact (param.TelephoneEvents v ∷ []) h = events_back exact v h
alone_back exact (param.BareRange v ∷ []) h = bare_range_back exact v h
alone_back exact (param.Red v ∷ []) h = red_back exact v h
alone_back exact (param.BarePtList v ∷ []) h = bare_list_back exact v h
alone_back exact (param.Unknown ∷ []) h = unknown_back exact
alone_back exact (_ ∷ []) h = absurd h
alone_back exact (p ∷ q ∷ ps) h = absurd h

pub lists_back : IsExact pair_list → PairsComeBack → ComesBack265 → ComesBack266 → ReadableListsComeBack
lists_back exact pairs one other ps h = ⊎_elim
    (λ (k : AreKeyed ps). keyed_back pairs ps k)
    (λ (k : HasOneLevel ps ⊎ IsAlone ps). ⊎_elim
    (λ (l : HasOneLevel ps). subst IsReadBack (sym l.list) (by_level pairs one other l.front l.behind l.level l.is_one
    l.others))
    (λ (a : IsAlone ps). alone_back exact ps a) k) h
