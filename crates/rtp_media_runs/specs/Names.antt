-- The names of sections (RFC 5888 4).
use Rattle.std.specs.Prelude.{◌≡◌, ◌↔◌, ℕ, true, List, [], map}
use Rattle.rtp_media_sections.specs.Sections.{Wanted, are_distinct}
use Rattle.sdp_formats_laws.specs.EachOnce.{AreDistinct}

abbrev pub names_of : List Wanted → List (List ℕ)
names_of wanted = map (λ w. w.mid) wanted

-- Sections pass the check if and only if no two have the same mid.
abbrev pub NamesAreDistinct : Type 0
NamesAreDistinct = (wanted : List Wanted) → (are_distinct [] wanted ≡ true) ↔ AreDistinct (names_of wanted)
