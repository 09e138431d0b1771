-- What packets are to the fragment that is open before them.
use Rattle.std.proofs.Common.{◌≡◌, ℕ, Bool, true, false, List, [], ◌∷◌, Option, Some, None, Ok, refl, sym, ap, ◌∙◌}
use Rattle.std.specs.Prelude.{◌||◌}
use Rattle.payload_core_base.specs.Format.{Fragment}
use Rattle.payload_core_base.specs.declared.extra.CodecExtra.{CodecExtra}
use Rattle.payload_core_base.specs.declared.extra.CodecExtra.TheVariants.{Av1}
use Rattle.payload_core_av1.specs.Av1Open.{EmptyLaw, FreshLaw}
use Rattle.payload_core_av1.specs.Av1Reading.{begun, count_w, elements_of, has_n, has_y, has_z, read_begun}
use Rattle.payload_core_av1.specs.Av1Reading.{read_elements, was_keyframe}

alike : (first : ℕ) (one other : Fragment) (extra : CodecExtra) (elements : Option (List (List ℕ))) → has_z first
    ≡ false
    → read_elements first one extra elements ≡ read_elements first other extra elements
alike first one other extra None z = refl
alike first one other extra (Some es) z =
    ap (λ b. read_begun (has_y first) (was_keyframe extra || has_n first) (begun b one es)) z
    ∙ sym (ap (λ b. read_begun (has_y first) (was_keyframe extra || has_n first) (begun b other es)) z)

pub fresh_law : FreshLaw
fresh_law first [] one other extra z = refl
fresh_law first (b ∷ bs) one other extra z = alike first one other extra (elements_of (count_w first) (b ∷ bs)) z

-- with Y or without
leaves : (y keyframe : Bool) (fragment : Fragment) → read_begun y keyframe (begun true fragment ([] ∷ []))
    ≡ Ok (record { written = []; extra = Av1 (record { is_keyframe = keyframe }); fragment = fragment })
leaves true keyframe None = refl
leaves true keyframe (Some f) = refl
leaves false keyframe None = refl
leaves false keyframe (Some f) = refl

pub empty_law : EmptyLaw
empty_law first b bs fragment extra z is =
    ap (read_elements first fragment extra) is
    ∙ ap (λ t. read_begun (has_y first) (was_keyframe extra || has_n first) (begun t fragment ([] ∷ []))) z
    ∙ leaves (has_y first) (was_keyframe extra || has_n first) fragment
