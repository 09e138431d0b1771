-- What has been found so far about payload types, with an entry for each of the 256.
use Rattle.std.specs.Prelude.{◌≡◌, ℕ, Bool, true, false, List, length, slice_index_or, Option, Some, None}
use Rattle.sdp_formats_data.specs.Consistency.{apts_agree_with, is_mapped}
use Rattle.sdp_formats_data.specs.declared.media.MediaAttribute.{MediaAttribute}

-- Each payload type that is marked is mapped as it must be.
pub record KnowsMapped (attrs : List MediaAttribute) (known : List Bool) : Type 0 where
  pub places : length known ≡ 256
  pub mapped : (pt : ℕ) → slice_index_or known pt false ≡ true → is_mapped attrs pt ≡ true

-- If an entry holds an `apt`, no line gives that payload type a different one.
pub record KnowsApts (attrs : List MediaAttribute) (known : List (Option ℕ)) : Type 0 where
  pub places : length known ≡ 256
  pub agree : (pt apt : ℕ) → slice_index_or known pt None ≡ Some apt → apts_agree_with attrs pt apt ≡ true
