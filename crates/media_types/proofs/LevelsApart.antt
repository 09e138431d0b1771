-- No number of a level of H.265 finds a level of H.266.
use Rattle.std.proofs.Common.{◌≡◌, None, Some, refl, sym, ap, ◌∙◌}
use Rattle.media_types.specs.H265Level.{level_id as h265_level_id}
use Rattle.media_types.specs.H266Level.{level_id as h266_level_id, levels}
use Rattle.media_types.specs.Tables.{with_number}
use Rattle.media_types.specs.LevelsApart.{LevelsApart}
use Rattle.media_types.specs.declared.h265.H265Level.{H265Level}
use Rattle.media_types.specs.declared.h265.H265Level.TheVariants.{Level1}
use Rattle.media_types.specs.declared.h266.H266Level.{H266Level}
use Rattle.media_types.specs.declared.h266.H266Level.TheVariants as other

-- no level of H.266 is found by a number of H.265
none_found : (one : H265Level) → with_number h266_level_id levels (h265_level_id one) ≡ None
none_found Level1 = refl
none_found _ = refl

own_found : (level : H266Level) → with_number h266_level_id levels (h266_level_id level) ≡ Some level
own_found other.Level1 = refl
own_found _ = refl

pub levels_apart : LevelsApart
levels_apart = λ one level same.
    let clash : None ≡ Some level = sym (none_found one) ∙ ap (with_number h266_level_id levels) same
    ∙ own_found level in
    cc
