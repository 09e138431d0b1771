use Rattle.std.specs.Prelude.{ℕ, ◌≡◌, ◌-◌, ◌≤◌, Bool, ◌&&◌, ◌||◌, ◌==◌, nat_le, if◌then◌else◌, List, ◌++◌, length}
use Rattle.std.specs.Prelude.{take, map, replicate}

-- An ASCII letter or digit, or an underscore.
abbrev pub is_name_byte : ℕ → Bool
is_name_byte b = (nat_le 48 b && nat_le b 57)
    || ((nat_le 65 b && nat_le b 90) || ((nat_le 97 b && nat_le b 122) || (b == 95)))

abbrev pub name_byte : ℕ → ℕ
name_byte b = if is_name_byte b then b else 95

-- The name made from a text: its first `limit` bytes, with an underscore for each byte that is not allowed in a name.
abbrev pub name_of : ℕ → List ℕ → List ℕ
name_of limit text = map name_byte (take limit text)

-- A text that is a name of at most this many bytes.
abbrev pub IsName : ℕ → List ℕ → Type 0
IsName limit text = name_of limit text ≡ text

-- A text padded with zeros.
abbrev pub filled : ℕ → List ℕ → List ℕ
filled limit text = text ++ replicate (limit - length text) 0

-- How a name is stored: padded with zeros.
pub record IsKept (limit len : ℕ) (bytes : List ℕ) : Type 0 where
  pub within : len ≤ length bytes
  pub name : IsName limit (take len bytes)
  pub zeros : bytes ≡ filled limit (take len bytes)
