-- Names made of letters and numbers of any script.
use Rattle.std.specs.Prelude.{ℕ, Bool, ◌||◌, List}
use Rattle.std.specs.List.{list_all}
use Rattle.std.specs.Str.{chars}
use Rattle.sdp_formats_grammar.specs.Form.{Form, any_text, only}
use Rattle.ucd_category.specs.GeneralCategory.{general_category}
use Rattle.ucd_category.specs.GeneralCategoryGroup.{in_group}
use Rattle.ucd_category.specs.declared.GeneralCategoryGroup.TheVariants.{Letter, Number}

-- A letter or a number of any script, by its general category.
abbrev pub is_name_char : ℕ → Bool
is_name_char c = in_group Letter (general_category c) || in_group Number (general_category c)

abbrev pub has_name_chars : List ℕ → Bool
has_name_chars t = list_all is_name_char (chars t)

-- One or more letters and numbers.
abbrev pub name : Form (List ℕ)
name = only has_name_chars any_text
