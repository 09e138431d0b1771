-- The bytes after a size are those that AV1's sizes leave.
use Rattle.std.proofs.Common.{◌≡◌, ◌∙◌, ℕ, zero, suc, Bool, true, false, List, [], ◌∷◌, refl, nat_lt}
use Rattle.std.specs.Prelude.{Option, None, Some, if◌then◌else◌}
use Rattle.std.specs.Option.{option_map}
use Rattle.payload_core_av1.specs.Leb128.{Sized, behind_byte, size_within}
use Rattle.packet_info.specs.Layers.{behind_size}
use Rattle.packet_info.specs.Laws.{FollowsSizes}

abbrev rest_of : Option Sized → Option (List ℕ)
rest_of s = option_map (λ (t : Sized). t.rest) s

behind_rest : (b : ℕ) (s : Option Sized) → rest_of (behind_byte b s) ≡ rest_of s
behind_rest b None = refl
behind_rest b (Some s) = refl

by_top : (is_last : Bool) (b : ℕ) (bs : List ℕ) (s : Option Sized) (left : Option (List ℕ)) → rest_of s ≡ left
    → rest_of (if is_last then Some (record { size = b; rest = bs }) else behind_byte b s)
    ≡ (if is_last then Some bs else left)
by_top true b bs s left same = refl
by_top false b bs s left same = behind_rest b s ∙ same

within : (k : ℕ) (bytes : List ℕ) → rest_of (size_within k bytes) ≡ behind_size k bytes
within zero bytes = refl
within (suc k) [] = refl
within (suc k) (b ∷ bs) = by_top (nat_lt b 128) b bs (size_within k bs) (behind_size k bs) (within k bs)

pub follows_sizes : FollowsSizes
follows_sizes bytes = within 8 bytes
