-- The header extensions that sections list (RFC 8285 5 and 8), with their numbers.
use Rattle.std.specs.Prelude.{ℕ, ◌-◌, ◌≡◌, ◌≤◌, Option, None, slice_index_or, ◌&&◌, ◌==◌}
use Rattle.std.specs.Prelude.{nat_le, Bool, not, List, filter, fold, slice_set, is_some}
use Rattle.std.specs.Prelude.{Some, length, if◌then◌else◌}
use Rattle.std.specs.List.{filter_map, last_or, list_all}
use Rattle.rtp_wire.specs.declared.extension.Extension.{Extension}
use Rattle.rtp_wire.specs.Iteration.{numbered}
use Rattle.rtp_wire.specs.Kinds.{uri_of}
use Rattle.rtp_wire.specs.Maps.{empty_map, id_of}
use Rattle.rtp_wire.specs.Values.{Numbering}
use Rattle.sdp_formats_data.specs.declared.media.MediaAttribute.{MediaAttribute}
use Rattle.sdp_formats_data.specs.declared.media.MediaAttribute.TheVariants.{ExtMap}

-- A number with its extension, as a line.
abbrev pub extmap_line : ℕ × Extension → MediaAttribute
extmap_line entry = ExtMap entry.0 entry.1

-- The extensions of a map, by increasing number.
abbrev pub entries_of : Numbering → List (ℕ × Extension)
entries_of exts = numbered exts 1 16

-- Neither a blank nor CR nor LF.
abbrev pub is_word_byte : ℕ → Bool
is_word_byte b = not (b == 32) && (not (b == 13) && not (b == 10))

abbrev pub is_word : List ℕ → Bool
is_word bytes = not (length bytes == 0) && list_all is_word_byte bytes

-- Whether each extension of a map can be in a line.
abbrev pub is_writable_map : Numbering → Bool
is_writable_map exts = list_all (λ entry. is_word (uri_of entry.1)) (entries_of exts)

-- Whether a map can have this number (1 to 16).
abbrev pub is_numbered : ℕ → Bool
is_numbered id = nat_le 1 id && nat_le id 16

-- Whether an end with this map answers an offered extension: it is numbered 1 to 16, and one of the map.
abbrev pub is_answered : Numbering → ℕ × Extension → Bool
is_answered exts entry = is_numbered entry.0 && is_some (id_of exts entry.1)

-- The offered extensions that an end answers, in their order and under their numbers.
abbrev pub answered_extmaps : Numbering → List (ℕ × Extension) → List (ℕ × Extension)
answered_extmaps exts offered = filter (is_answered exts) offered

-- The map after one more entry; a number out of range is ignored.
abbrev pub with_entry : Numbering → ℕ × Extension → Numbering
with_entry exts entry = if is_numbered entry.0 then slice_set exts (entry.0 - 1) (Some entry.1) else exts

-- The map of a section's list; if a number occurs more than once, the last entry counts.
abbrev pub map_of_extmaps : List (ℕ × Extension) → Numbering
map_of_extmaps extmaps = fold with_entry empty_map extmaps

-- The extension that is given this number.
abbrev pub given_to : ℕ → ℕ × Extension → Option Extension
given_to n entry = if entry.0 == n then Some entry.1 else None

-- A number from 1 to 16 has the extension of its last entry, or none.
abbrev pub LastEntriesCount : Type 0
LastEntriesCount = (extmaps : List (ℕ × Extension)) (n : ℕ) → 1 ≤ n → n ≤ 16
    → slice_index_or (map_of_extmaps extmaps) (n - 1) None ≡ last_or None (filter_map (given_to n) extmaps)
