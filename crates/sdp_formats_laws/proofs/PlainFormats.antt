-- Formats that come back are those whose numbers are of their widths.
use Rattle.std.proofs.Common.{◌≡◌, ◌==◌, ℕ, Bool, true, false, ◌&&◌, Option, Some, None, refl, ◌∙◌, ap}
use Rattle.std.specs.Option.{option_map}
use Rattle.std.proofs.lemmas.Bool.Decides.{Decides-eqb}
use Rattle.sdp_formats_rows.specs.Texts.{numbers_265, numbers_266}
use Rattle.sdp_formats_rows.specs.declared.format.FormatParams.{FormatParams}
use Rattle.sdp_formats_rows.specs.Plain.{comes_back, has_plain_others}
use Rattle.sdp_formats_rows.specs.Same.{same, same_bool, same_flag, same_format, same_numbers}
use Rattle.sdp_formats_laws.proofs.PlainRows.{plain_format}
use Rattle.sdp_formats_laws.specs.PrintedParameters.{FormatsComeBack, PlainFormatsAreInRange}
use Rattle.sdp_formats_laws.specs.PrintedParameters.{RowsAreAsPlainAsTheirOthers}
use Rattle.sdp_formats_rounds.specs.Ranges.{IsInRange, OneLevel}

number_self : (n : ℕ) → (n == n) ≡ true
number_self n = (Decides-eqb n n).1 refl

same_self : (o : Option ℕ) → same o o ≡ true
same_self None = refl
same_self (Some n) = number_self n

bool_self : (b : Bool) → same_bool b b ≡ true
bool_self true = refl
bool_self false = refl

flag_self : (o : Option Bool) → same_flag o o ≡ true
flag_self None = refl
flag_self (Some b) = bool_self b

numbers_self : (o : Option (ℕ × ℕ × ℕ)) → same_numbers o o ≡ true
numbers_self None = refl
numbers_self (Some n) = (λ i. number_self n.0 i && number_self n.1 i && number_self n.2 i)

format_self : (f : FormatParams) → same_format f f ≡ true
format_self f = λ i.
    (same_self f.min_p_time i && flag_self f.stereo i && flag_self f.sprop_stereo i && flag_self f.use_inband_fec i
    && flag_self f.use_dtx i)
    && (flag_self f.octet_align i && same_self f.mode_set i && same_self f.telephone_event_max i)
    && (flag_self f.level_asymmetry_allowed i && same_self f.packetization_mode i && same_self f.profile_level_id i)
    && (same_self f.profile_id i && same_self f.profile i && same_self f.level_idx i && same_self f.tier i
    && same_self f.sprop_max_don_diff i)
    && (numbers_self (option_map numbers_265 f.h265_profile_tier_level) i
    && numbers_self (option_map numbers_266 f.h266_profile_tier_level) i)

comes : FormatsComeBack → (f : FormatParams) → IsInRange f → OneLevel f → comes_back f ≡ true
comes back f h levels = ap (λ g. same_format g f) (back f h levels) ∙ format_self f

pub in_range : FormatsComeBack → PlainFormatsAreInRange
in_range back f = (plain_format f, λ h. comes back f h.0 h.1)

right_true : (a : Bool) → (a && true) ≡ a
right_true true = refl
right_true false = refl

pub as_plain : FormatsComeBack → RowsAreAsPlainAsTheirOthers
as_plain back row h levels =
    ap (λ b. has_plain_others row && b) (comes back row.spec.format h levels) ∙ right_true (has_plain_others row)
