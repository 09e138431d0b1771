-- Payload types with a meaning of their own.
use Rattle.std.proofs.Common.{◌≡◌, ◌==◌, ◌||◌, Bool, true, false, Some, None, if◌then◌else◌, refl}
use Rattle.std.specs.Prelude.{is_some}
use Rattle.sdp_formats_laws.specs.StaticTypes.{StaticTypesAgree}

-- one of four, and what the first of them gives
one_of : {A : Type 0} (w x y z : A) (a b c d : Bool) → (a || (b || (c || d)))
    ≡ is_some (if a then Some w else if b then Some x else if c then Some y else if d then Some z else None)
one_of w x y z true b c d = refl
one_of w x y z false true c d = refl
one_of w x y z false false true d = refl
one_of w x y z false false false true = refl
one_of w x y z false false false false = refl

pub static_types_agree : StaticTypesAgree
static_types_agree pt = one_of _ _ _ _ (pt == 0) (pt == 8) (pt == 9) (pt == 13)
