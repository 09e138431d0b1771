-- Names of streams (RFC 8851 4).
use Rattle.std.specs.Prelude.{◌≡◌, ◌≢◌, ◌⊎◌, ◌↔◌, ℕ, true, List, [], Some, All}
use Rattle.std.specs.Str.{IsUtf8, all_scalars, encode_utf8_all}
use Rattle.ucd_category.specs.GeneralCategory.{general_category}
use Rattle.ucd_category.specs.GeneralCategoryGroup.{in_group}
use Rattle.ucd_category.specs.declared.GeneralCategoryGroup.TheVariants.{Letter, Number}
use Rattle.sdp_formats_reader.specs.Names.{name}
use Rattle.sdp_formats_laws.specs.Printable.{IsName}

-- UTF-8 text (as every `str` is) is read as a name if and only if it is a printable name.
abbrev pub NamesAreRead : Type 0
NamesAreRead = (t : List ℕ) → IsUtf8 t → name.reads t ≡ Some t ↔ IsName t

-- A letter or a number of any script.
abbrev pub IsLetterOrNumber : ℕ → Type 0
IsLetterOrNumber c = (in_group Letter (general_category c) ≡ true) ⊎ (in_group Number (general_category c) ≡ true)

-- The UTF-8 of letters and numbers, at least one.
abbrev pub NameSays : List ℕ → Type 0
NameSays t = (cs : List ℕ) × (cs ≢ []) × (all_scalars cs ≡ true) × All IsLetterOrNumber cs × (t ≡ encode_utf8_all cs)

-- UTF-8 text is read as a name if and only if it consists of letters and numbers.
abbrev pub NamesAreLettersAndNumbers : Type 0
NamesAreLettersAndNumbers = (t : List ℕ) → IsUtf8 t → name.reads t ≡ Some t ↔ NameSays t
