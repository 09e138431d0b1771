-- How packets treat the fragment that is open before them (RTP payload format for AV1, 4.4).
use Rattle.std.specs.Prelude.{◌≡◌, ◌||◌, ℕ, true, false, List, [], ◌∷◌, Some, Ok}
use Rattle.payload_core_base.specs.Format.{Fragment}
use Rattle.payload_core_base.specs.declared.extra.CodecExtra.{CodecExtra}
use Rattle.payload_core_base.specs.declared.extra.CodecExtra.TheVariants.{Av1}
use Rattle.payload_core_av1.specs.Av1Reading.{count_w, elements_of, has_n, has_z, read_av1, was_keyframe}

-- A packet without Z is read the same, whatever fragment is open.
abbrev pub FreshLaw : Type 0
FreshLaw = (first : ℕ) (body : List ℕ) (one other : Fragment) (extra : CodecExtra) → has_z first ≡ false
    → read_av1 one extra (first ∷ body) ≡ read_av1 other extra (first ∷ body)

-- A packet with Z whose only element is empty gives nothing, and leaves the open fragment open.
abbrev pub EmptyLaw : Type 0
EmptyLaw = (first b : ℕ) (bs : List ℕ) (fragment : Fragment) (extra : CodecExtra) → has_z first ≡ true
    → elements_of (count_w first) (b ∷ bs) ≡ Some ([] ∷ [])
    → read_av1 fragment extra (first ∷ b ∷ bs)
    ≡ Ok (record {
      written = [];
      extra = Av1 (record { is_keyframe = was_keyframe extra || has_n first });
      fragment =
          fragment;
    })
