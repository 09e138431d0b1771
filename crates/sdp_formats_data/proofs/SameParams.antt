-- Format parameters that compare as equal are the same.
use Rattle.std.proofs.Common.{◌≡◌, Bool, true, false, refl, ap, subst, sym, true≢false, arith}
use Rattle.std.proofs.lemmas.Bool.{eqb-true}
use Rattle.std.proofs.lemmas.Grind.{common_steps}
use Rattle.sdp_formats_values.specs.contracts.param.FormatParamEq.TheImpl.Laws.{laws-law}
use Rattle.sdp_formats_values.specs.contracts.param.FormatParamPartialEq.TheImpl as params
use Rattle.sdp_formats_values.specs.declared.param.FormatParam.{FormatParam}
use Rattle.sdp_formats_values.specs.declared.param.FormatParam.TheVariants as p

abbrev same : FormatParam → FormatParam → Bool
same = (params.ghosts).eq

pub itself : (a b : FormatParam) → a ≡ b → same a b ≡ true
itself a b e = subst (λ (x : FormatParam). same a x ≡ true) e (laws-law.refl a)

flags : (x y : Bool) → same (p.Stereo x) (p.Stereo y) ≡ true → x ≡ y
flags true true e = refl
flags false false e = refl
flags _ _ e = absurd (true≢false (sym e))

pub exact : (a b : FormatParam) → same a b ≡ true → a ≡ b
exact (p.MinPTime x) (p.MinPTime y) e = ap p.MinPTime (eqb-true x y e)
exact (p.PacketizationMode x) (p.PacketizationMode y) e = ap p.PacketizationMode (eqb-true x y e)
exact (p.ProfileLevelId x) (p.ProfileLevelId y) e = ap p.ProfileLevelId (eqb-true x y e)
exact (p.ProfileId x) (p.ProfileId y) e = ap p.ProfileId (eqb-true x y e)
exact (p.Profile x) (p.Profile y) e = ap p.Profile (eqb-true x y e)
exact (p.LevelIdx x) (p.LevelIdx y) e = ap p.LevelIdx (eqb-true x y e)
exact (p.Tier x) (p.Tier y) e = ap p.Tier (eqb-true x y e)
exact (p.SpropMaxDonDiff x) (p.SpropMaxDonDiff y) e = ap p.SpropMaxDonDiff (eqb-true x y e)
exact (p.TelephoneEvents x) (p.TelephoneEvents y) e = ap p.TelephoneEvents (eqb-true x y e)
exact (p.BareRange x) (p.BareRange y) e = ap p.BareRange (eqb-true x y e)
exact (p.BarePtList x) (p.BarePtList y) e = ap p.BarePtList (eqb-true x y e)
exact (p.ModeSet x) (p.ModeSet y) e = ap p.ModeSet (eqb-true x y e)
exact (p.Apt x) (p.Apt y) e = ap p.Apt (eqb-true x y e)
exact (p.Red x) (p.Red y) e = ap p.Red (eqb-true x y e)
exact (p.Stereo x) (p.Stereo y) e = ap p.Stereo (flags x y e)
exact (p.SpropStereo x) (p.SpropStereo y) e = ap p.SpropStereo (flags x y e)
exact (p.UseInbandFec x) (p.UseInbandFec y) e = ap p.UseInbandFec (flags x y e)
exact (p.UseDtx x) (p.UseDtx y) e = ap p.UseDtx (flags x y e)
exact (p.LevelAsymmetryAllowed x) (p.LevelAsymmetryAllowed y) e = ap p.LevelAsymmetryAllowed (flags x y e)
exact (p.OctetAlign x) (p.OctetAlign y) e = ap p.OctetAlign (flags x y e)
exact (p.H265ProfileTierLevel x) (p.H265ProfileTierLevel y) e =
    ap p.H265ProfileTierLevel (grind (arith, common_steps, e))
exact (p.H266ProfileTierLevel x) (p.H266ProfileTierLevel y) e =
    ap p.H266ProfileTierLevel (grind (arith, common_steps, e))
exact p.AmrWbUnsupported p.AmrWbUnsupported e = refl
exact p.Unknown p.Unknown e = refl
exact _ _ e = absurd (true≢false (sym e))
