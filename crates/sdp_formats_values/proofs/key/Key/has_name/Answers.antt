use Rattle.std.proofs.Common.{◌≡◌, ◌↔◌, ℕ, Bool, List, map, IsTrue, rules}
use Rattle.std.specs.Char.{to_ascii_lowercase}
use Rattle.std.specs.Str.{str_eq_ignore_ascii_case}
use Rattle.std.proofs.lemmas.Slice.Eq.{bytes_eq-Decides}
use Rattle.sdp_formats_values.specs.Keys.{is_name_of, key_name}
use Rattle.sdp_formats_values.proofs.key.Key.has_name.Goals as goal

told : (name text : List ℕ) (r : Bool) → (IsTrue r ↔ (map to_ascii_lowercase name ≡ map to_ascii_lowercase text)) → r
    ≡ str_eq_ignore_ascii_case name text
told name text r h = search (rules, bytes_eq-Decides)

shown : (name shows text : List ℕ) (r : Bool) → shows ≡ name
    → (IsTrue r ↔ (map to_ascii_lowercase shows ≡ map to_ascii_lowercase text)) → r ≡ str_eq_ignore_ascii_case name text
shown name shows text r e h = rw (← e) (told shows text r h)

pub returns : goal.returns
unfolding is_name_of
returns c = shown (key_name c.args.self.now) _ _ _ c.as_str.ensures c.eq_ignore_ascii_case.ensures.test
