use Rattle.std.proofs.Common.{◌≡◌, [], ◌∷◌, Option, Some, None, MatchOption, IsSomeAnd, ap}
use Rattle.std.specs.Option.{option_map}
use Rattle.sdp_formats_values.specs.declared.param.FormatParam.{FormatParam}
use Rattle.sdp_formats_values.specs.declared.param.FormatParam.TheVariants as param
use Rattle.sdp_formats_rows.proofs.parameters.each_param.Goals as goal

mapped : {V : Type 0} (kind : V → FormatParam) (value : Option V) (result : Option FormatParam)
    → MatchOption value (result ≡ None) (λ v. IsSomeAnd result (λ r. r ≡ kind v)) → result ≡ option_map kind value
mapped kind None result h = h
mapped kind (Some v) None h = absurd h
mapped kind (Some v) (Some r) h = ap Some h

pub returns : goal.returns
returns c = λ i.
    mapped param.MinPTime _ c.map.result c.map.ensures.cases i
    ∷ mapped param.Stereo _ c.map-2.result c.map-2.ensures.cases i
    ∷ mapped param.SpropStereo _ c.map-3.result c.map-3.ensures.cases i
    ∷ mapped param.UseInbandFec _ c.map-4.result c.map-4.ensures.cases i
    ∷ mapped param.UseDtx _ c.map-5.result c.map-5.ensures.cases i
    ∷ mapped param.LevelAsymmetryAllowed _ c.map-6.result c.map-6.ensures.cases i
    ∷ mapped param.PacketizationMode _ c.map-7.result c.map-7.ensures.cases i
    ∷ mapped param.ProfileLevelId _ c.map-8.result c.map-8.ensures.cases i
    ∷ mapped param.ProfileId _ c.map-9.result c.map-9.ensures.cases i
    ∷ mapped param.Profile _ c.map-10.result c.map-10.ensures.cases i
    ∷ mapped param.LevelIdx _ c.map-11.result c.map-11.ensures.cases i
    ∷ mapped param.Tier _ c.map-12.result c.map-12.ensures.cases i
    ∷ mapped param.H265ProfileTierLevel _ c.map-13.result c.map-13.ensures.cases i
    ∷ mapped param.H266ProfileTierLevel _ c.map-14.result c.map-14.ensures.cases i
    ∷ mapped param.SpropMaxDonDiff _ c.map-15.result c.map-15.ensures.cases i
    ∷ mapped param.TelephoneEvents _ c.map-16.result c.map-16.ensures.cases i
    ∷ mapped param.OctetAlign _ c.map-17.result c.map-17.ensures.cases i
    ∷ mapped param.ModeSet _ c.map-18.result c.map-18.ensures.cases i
    ∷ []
