-- The parameters of a format are such that they are read as they are printed.
use Rattle.std.proofs.Common.{◌≡◌, ◌≢◌, ◌<◌, ◌≤◌, ◌^◌, ◌+◌, ℕ, Bool, List, [], ◌∷◌, ◌++◌, Option, Some, None}
use Rattle.std.proofs.Common.{IfSome, map, refl, sym, ◌∙◌, ap, subst, arith, ◌⊎◌, ⊎_elim, inl, inr, lit≤, take, drop}
use Rattle.std.specs.Char.{to_ascii_lowercase}
use Rattle.std.specs.List.{flat_map}
use Rattle.std.specs.Option.{option_map, option_to_list}
use Rattle.std.proofs.lemmas.Grind.{flat_map-append}
use Rattle.media_types.specs.H265ProfileTierLevel.{H265ProfileTierLevel as Level265}
use Rattle.media_types.specs.H266ProfileTierLevel.{H266ProfileTierLevel as Level266}
use Rattle.sdp_formats_values.specs.declared.param.FormatParam.{FormatParam}
use Rattle.sdp_formats_values.specs.declared.param.FormatParam.TheVariants as param
use Rattle.sdp_formats_rows.specs.declared.format.FormatParams.{FormatParams}
use Rattle.sdp_formats_rows.specs.Parameters.{each_param, params_of}
use Rattle.sdp_formats_laws.proofs.KeyRanks.{rank, rank_of, ranked}
use Rattle.sdp_formats_laws.specs.Keyed.{AreKeyed, IsKeyed, IsOrdinary, pair_of}
use Rattle.sdp_formats_laws.specs.ParameterLists.{AreOrdinary, HasOneLevel, LackKeyOf}
use Rattle.sdp_formats_rounds.specs.Ranges.{AtMostOne, IsInRange, IsModes, OneLevel}

-- what isn't given
absent : {V : Type 0} (o : Option V) → o ≡ None → IfSome o (λ v. ⊥)
absent o e = subst (λ x. IfSome x (λ v. ⊥)) (sym e) tt

pub any_flag : (o : Option Bool) → IfSome o (λ v. Unit {0})
any_flag None = tt
any_flag (Some v) = tt

-- one parameter more, given or not
keyed_more : {V : Type 0} (c : V → FormatParam) (P : V → Type 0) → ((v : V) → P v → IsKeyed (c v)) → (o : Option V)
    (rest : List FormatParam) → IfSome o P → AreKeyed rest → AreKeyed (option_to_list (option_map c o) ++ rest)
keyed_more c P h None rest k r = r
keyed_more c P h (Some v) rest k r = (h v k, r)

-- parameters in the order of printing, from one rank up to another
abbrev pub IsRising : ℕ → ℕ → List FormatParam → Type 0
IsRising low high [] = low ≤ high
IsRising low high (p ∷ ps) = IsOrdinary p × (low ≤ rank_of p) × IsRising (rank_of p + 1) high ps

weaker : (low more high : ℕ) (ps : List FormatParam) → low ≤ more → IsRising more high ps → IsRising low high ps
weaker low more high [] h k = omega (h, k, arith)
weaker low more high (p ∷ ps) h k = (k.0, omega (h, k.1, arith), k.2)

rising_both : (low high more last : ℕ) (xs ys : List FormatParam) → high ≤ more → IsRising low high xs
    → IsRising more last ys → IsRising low last (xs ++ ys)
rising_both low high more last [] ys h k l = weaker low more last ys (omega (h, k, arith)) l
rising_both low high more last (x ∷ xs) ys h k l =
    (k.0, k.1, rising_both (rank_of x + 1) high more last xs ys h k.2 l)

other_rank : (p q : FormatParam) → IsOrdinary p → IsOrdinary q → rank_of p < rank_of q
    → (pair_of p).key ≢ (pair_of q).key
other_rank p q h k less e =
    let same : rank_of p ≡ rank_of q = sym (ranked p h) ∙ ap (λ t. rank (map to_ascii_lowercase t)) e ∙ ranked q k in
    omega (less, same, arith)

lack_rising : (p : FormatParam) (low high : ℕ) (ps : List FormatParam) → IsOrdinary p → rank_of p < low
    → IsRising low high ps → LackKeyOf p ps
lack_rising p low high [] h l k = tt
lack_rising p low high (q ∷ qs) h l k = (
  other_rank p q h k.0 (omega (l, k.1, arith)),
  lack_rising p (rank_of q + 1) high qs h (omega (l, k.1, arith)) k.2,
)

rising_ordinary : (low high : ℕ) (ps : List FormatParam) → IsRising low high ps → AreOrdinary ps
rising_ordinary low high [] h = tt
rising_ordinary low high (p ∷ ps) h =
    (h.0, lack_rising p (rank_of p + 1) high ps h.0 (omega arith) h.2, rising_ordinary (rank_of p + 1) high ps h.2)

rising_more : {V : Type 0} (low more high : ℕ) (c : V → FormatParam) (P : V → Type 0)
    → ((v : V) → P v → IsOrdinary (c v)) → ((v : V) → P v → rank_of (c v) ≡ more) → low ≤ more → (o : Option V)
    (rest : List FormatParam) → IfSome o P → IsRising (more + 1) high rest
    → IsRising low high (option_to_list (option_map c o) ++ rest)
rising_more low more high c P h r l None rest k up = weaker low (more + 1) high rest (omega (l, arith)) up
rising_more low more high c P h r l (Some v) rest k up = (
  h v k,
  omega (l, r v k, arith),
  subst (λ n. IsRising (n + 1) high rest) (sym (r v k)) up,
)

-- the parameters from a place on, so many
abbrev pub given : FormatParams → ℕ → ℕ → List FormatParam
given f i n = flat_map option_to_list (take n (drop i (each_param f)))

all_keyed : (f : FormatParams) → IsInRange f → f.h265_profile_tier_level ≡ None → f.h266_profile_tier_level ≡ None
    → f.telephone_event_max ≡ None → AreKeyed (params_of f)
all_keyed f h five six none =
    let k17 : AreKeyed (given f 17 1) =
    keyed_more param.ModeSet IsModes (λ v k. k) f.mode_set (given f 18 0) h.9 tt in
    let k16 : AreKeyed (given f 16 2) =
    keyed_more param.OctetAlign (λ v. Unit {0}) (λ v k. tt) f.octet_align (given f 17 1) (any_flag f.octet_align) k17 in
    let k15 : AreKeyed (given f 15 3) =
    keyed_more param.TelephoneEvents (λ v. ⊥) (λ v k. absurd k) f.telephone_event_max (given f 16 2)
    (absent f.telephone_event_max none) k16 in
    let k14 : AreKeyed (given f 14 4) =
    keyed_more param.SpropMaxDonDiff (λ v. v ≤ 32767) (λ v k. k) f.sprop_max_don_diff (given f 15 3) h.7 k15 in
    let k13 : AreKeyed (given f 13 5) =
    keyed_more param.H266ProfileTierLevel (λ v. ⊥) (λ v k. absurd k) f.h266_profile_tier_level (given f 14 4)
    (absent f.h266_profile_tier_level six) k14 in
    let k12 : AreKeyed (given f 12 6) =
    keyed_more param.H265ProfileTierLevel (λ v. ⊥) (λ v k. absurd k) f.h265_profile_tier_level (given f 13 5)
    (absent f.h265_profile_tier_level five) k13 in
    let k11 : AreKeyed (given f 11 7) =
    keyed_more param.Tier (λ v. v < 2 ^ 8) (λ v k. k) f.tier (given f 12 6) h.6 k12 in
    let k10 : AreKeyed (given f 10 8) =
    keyed_more param.LevelIdx (λ v. v < 2 ^ 8) (λ v k. k) f.level_idx (given f 11 7) h.5 k11 in
    let k9 : AreKeyed (given f 9 9) =
    keyed_more param.Profile (λ v. v < 2 ^ 8) (λ v k. k) f.profile (given f 10 8) h.4 k10 in
    let k8 : AreKeyed (given f 8 10) =
    keyed_more param.ProfileId (λ v. v < 2 ^ 32) (λ v k. k) f.profile_id (given f 9 9) h.3 k9 in
    let k7 : AreKeyed (given f 7 11) =
    keyed_more param.ProfileLevelId (λ v. v < 2 ^ 32) (λ v k. k) f.profile_level_id (given f 8 10) h.2 k8 in
    let k6 : AreKeyed (given f 6 12) =
    keyed_more param.PacketizationMode (λ v. v < 2 ^ 8) (λ v k. k) f.packetization_mode (given f 7 11) h.1 k7 in
    let k5 : AreKeyed (given f 5 13) =
    keyed_more param.LevelAsymmetryAllowed (λ v. Unit {0}) (λ v k. tt) f.level_asymmetry_allowed (given f 6 12)
    (any_flag f.level_asymmetry_allowed) k6 in
    let k4 : AreKeyed (given f 4 14) =
    keyed_more param.UseDtx (λ v. Unit {0}) (λ v k. tt) f.use_dtx (given f 5 13) (any_flag f.use_dtx) k5 in
    let k3 : AreKeyed (given f 3 15) =
    keyed_more param.UseInbandFec (λ v. Unit {0}) (λ v k. tt) f.use_inband_fec (given f 4 14)
    (any_flag f.use_inband_fec) k4 in
    let k2 : AreKeyed (given f 2 16) =
    keyed_more param.SpropStereo (λ v. Unit {0}) (λ v k. tt) f.sprop_stereo (given f 3 15)
    (any_flag f.sprop_stereo) k3 in
    let k1 : AreKeyed (given f 1 17) =
    keyed_more param.Stereo (λ v. Unit {0}) (λ v k. tt) f.stereo (given f 2 16) (any_flag f.stereo) k2 in
    keyed_more param.MinPTime (λ v. v < 2 ^ 8) (λ v k. k) f.min_p_time (given f 1 17) h.0 k1

front_rising : (f : FormatParams) → IsInRange f → f.profile_id ≡ None → IsRising 1 13 (given f 0 12)
front_rising f h none =
    let r11 : IsRising 12 13 (given f 11 1) =
    rising_more 12 12 13 param.Tier (λ v. v < 2 ^ 8) (λ v k. k) (λ v k. refl) (lit≤ tt) f.tier (given f 18 0) h.6
    (lit≤ tt) in
    let r10 : IsRising 11 13 (given f 10 2) =
    rising_more 11 11 13 param.LevelIdx (λ v. v < 2 ^ 8) (λ v k. k) (λ v k. refl) (lit≤ tt) f.level_idx
    (given f 11 1) h.5 r11 in
    let r9 : IsRising 10 13 (given f 9 3) =
    rising_more 10 10 13 param.Profile (λ v. v < 2 ^ 8) (λ v k. k) (λ v k. refl) (lit≤ tt) f.profile
    (given f 10 2) h.4 r10 in
    let r8 : IsRising 9 13 (given f 8 4) =
    rising_more 9 9 13 param.ProfileId (λ v. ⊥) (λ v k. absurd k) (λ v k. absurd k) (lit≤ tt) f.profile_id
    (given f 9 3) (absent f.profile_id none) r9 in
    let r7 : IsRising 8 13 (given f 7 5) =
    rising_more 8 8 13 param.ProfileLevelId (λ v. v < 2 ^ 32) (λ v k. k) (λ v k. refl) (lit≤ tt) f.profile_level_id
    (given f 8 4) h.2 r8 in
    let r6 : IsRising 7 13 (given f 6 6) =
    rising_more 7 7 13 param.PacketizationMode (λ v. v < 2 ^ 8) (λ v k. k) (λ v k. refl)
    (lit≤ tt) f.packetization_mode (given f 7 5) h.1 r7 in
    let r5 : IsRising 6 13 (given f 5 7) =
    rising_more 6 6 13 param.LevelAsymmetryAllowed (λ v. Unit {0}) (λ v k. tt) (λ v k. refl)
    (lit≤ tt) f.level_asymmetry_allowed (given f 6 6) (any_flag f.level_asymmetry_allowed) r6 in
    let r4 : IsRising 5 13 (given f 4 8) =
    rising_more 5 5 13 param.UseDtx (λ v. Unit {0}) (λ v k. tt) (λ v k. refl) (lit≤ tt) f.use_dtx (given f 5 7)
    (any_flag f.use_dtx) r5 in
    let r3 : IsRising 4 13 (given f 3 9) =
    rising_more 4 4 13 param.UseInbandFec (λ v. Unit {0}) (λ v k. tt) (λ v k. refl) (lit≤ tt) f.use_inband_fec
    (given f 4 8) (any_flag f.use_inband_fec) r4 in
    let r2 : IsRising 3 13 (given f 2 10) =
    rising_more 3 3 13 param.SpropStereo (λ v. Unit {0}) (λ v k. tt) (λ v k. refl) (lit≤ tt) f.sprop_stereo
    (given f 3 9) (any_flag f.sprop_stereo) r3 in
    let r1 : IsRising 2 13 (given f 1 11) =
    rising_more 2 2 13 param.Stereo (λ v. Unit {0}) (λ v k. tt) (λ v k. refl) (lit≤ tt) f.stereo (given f 2 10)
    (any_flag f.stereo) r2 in
    rising_more 1 1 13 param.MinPTime (λ v. v < 2 ^ 8) (λ v k. k) (λ v k. refl) (lit≤ tt) f.min_p_time
    (given f 1 11) h.0 r1

back_rising : (f : FormatParams) → IsInRange f → f.telephone_event_max ≡ None → IsRising 16 20 (given f 14 4)
back_rising f h none =
    let r3 : IsRising 19 20 (given f 17 1) =
    rising_more 19 19 20 param.ModeSet IsModes (λ v k. k) (λ v k. refl) (lit≤ tt) f.mode_set (given f 18 0) h.9
    (lit≤ tt) in
    let r2 : IsRising 18 20 (given f 16 2) =
    rising_more 18 18 20 param.OctetAlign (λ v. Unit {0}) (λ v k. tt) (λ v k. refl) (lit≤ tt) f.octet_align
    (given f 17 1) (any_flag f.octet_align) r3 in
    let r1 : IsRising 17 20 (given f 15 3) =
    rising_more 17 17 20 param.TelephoneEvents (λ v. ⊥) (λ v k. absurd k) (λ v k. absurd k)
    (lit≤ tt) f.telephone_event_max (given f 16 2) (absent f.telephone_event_max none) r2 in
    rising_more 16 16 20 param.SpropMaxDonDiff (λ v. v ≤ 32767) (λ v k. k) (λ v k. refl)
    (lit≤ tt) f.sprop_max_don_diff (given f 15 3) h.7 r1

pub by_levels : (f : FormatParams) (a : Option Level265) (b : Option Level266) → f.h265_profile_tier_level ≡ a
    → f.h266_profile_tier_level ≡ b → params_of f ≡ given f 0 12
    ++ (option_to_list (option_map param.H265ProfileTierLevel a)
    ++ (option_to_list (option_map param.H266ProfileTierLevel b) ++ given f 14 4))
by_levels f a b five six = flat_map-append option_to_list (take 12 (each_param f)) (drop 12 (each_param f))
    ∙ (λ i. given f 0 12 ++ (option_to_list (option_map param.H265ProfileTierLevel (five i))
    ++ (option_to_list (option_map param.H266ProfileTierLevel (six i)) ++ given f 14 4)))

-- the others than the profile, tier and level have distinct keys
others_ordinary : (f : FormatParams) → IsInRange f → f.profile_id ≡ None → f.telephone_event_max ≡ None
    → AreOrdinary (given f 0 12 ++ given f 14 4)
others_ordinary f h id none = rising_ordinary 1 20 (given f 0 12 ++ given f 14 4)
    (rising_both 1 13 16 20 (given f 0 12) (given f 14 4) (lit≤ tt) (front_rising f h id) (back_rising f h none))

with_levels : (f : FormatParams) (a : Option Level265) (b : Option Level266) → f.h265_profile_tier_level ≡ a
    → f.h266_profile_tier_level ≡ b → IsInRange f → f.profile_id ≡ None → AtMostOne a b
    → f.telephone_event_max ≡ None → AreKeyed (params_of f) ⊎ HasOneLevel (params_of f)
with_levels f None None five six h id apart none = inl (all_keyed f h five six none)
with_levels f (Some v) None five six h id apart none = inr (record {
  front = given f 0 12;
  level = param.H265ProfileTierLevel v;
  behind = given f 14 4;
  list = by_levels f (Some v) None five six;
  is_one = refl;
  others = others_ordinary f h id none;
})
with_levels f None (Some v) five six h id apart none = inr (record {
  front = given f 0 12;
  level = param.H266ProfileTierLevel v;
  behind = given f 14 4;
  list = by_levels f None (Some v) five six;
  is_one = refl;
  others = others_ordinary f h id none;
})
with_levels f (Some v) (Some w) five six h id apart none = absurd apart

-- so they are read as they are printed
pub format_readable : (f : FormatParams) → IsInRange f → OneLevel f → f.telephone_event_max ≡ None
    → AreKeyed (params_of f) ⊎ HasOneLevel (params_of f)
format_readable f h levels none = ⊎_elim
    (λ (k : (f.h265_profile_tier_level ≡ None) × (f.h266_profile_tier_level ≡ None)).
    inl (all_keyed f h k.0 k.1 none))
    (λ k. with_levels f f.h265_profile_tier_level f.h266_profile_tier_level refl refl h k.0 k.1 none)
    levels
