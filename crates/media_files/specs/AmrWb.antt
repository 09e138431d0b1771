-- Files of AMR-WB (RFC 4867 5).
use Rattle.std.specs.Prelude.{ℕ, List, [], ◌∷◌, ◌++◌, codes, Option, None, Some}
use Rattle.std.specs.List.{flat_map}

-- A lost frame is stored as NO_DATA: frame type 15, good quality, no speech (RFC 4867 5.3).
abbrev pub stored : Option (List ℕ) → List ℕ
stored None = 0x7c ∷ []
stored (Some frames) = frames

-- The magic number of a file of one channel (RFC 4867 5.1).
unfoldable pub magic : List ℕ
magic = codes "#!AMR-WB\n"

-- The file: its magic number, then each frame with its header.
abbrev pub amr_wb_file : List (Option (List ℕ)) → List ℕ
amr_wb_file frames = magic ++ flat_map stored frames
