-- The sections that a line names.
use Rattle.std.specs.Prelude.{ℕ, ◌==◌, ◌^◌, if◌then◌else◌, List, [], ◌∷◌, codes, Option, None, Some}
use Rattle.std.specs.List.{slice_split}
use Rattle.std.specs.Str.{bytes_eq}
use Rattle.media_types.specs.declared.codec.MediaKind.{MediaKind}
use Rattle.media_types.specs.declared.codec.MediaKind.TheVariants.{Audio, Video}
use Rattle.rtp_wire.specs.declared.direction.Direction.{Direction}
use Rattle.rtp_wire.specs.declared.direction.Direction.TheVariants.{SendOnly, RecvOnly, SendRecv, Inactive}
use Rattle.rtp_media_program.specs.declared.sections.SectionWord.{SectionWord}
use Rattle.rtp_media_program.specs.declared.sections.SourceWord.{SourceWord}
use Rattle.rtp_media_program.specs.Words.{number_below, each_of, comma_parts, first, ended, ◌>>=◌}

-- `audio` or `video`
abbrev pub kind_of : List ℕ → Option MediaKind
kind_of word = if bytes_eq word (codes "audio") then Some Audio else if bytes_eq word (codes "video") then Some Video
    else None

-- One of the four words of a direction.
abbrev pub direction_of : List ℕ → Option Direction
direction_of word =
    if bytes_eq word (codes "sendrecv") then Some SendRecv
    else if bytes_eq word (codes "sendonly") then Some SendOnly
    else if bytes_eq word (codes "recvonly") then Some RecvOnly
    else if bytes_eq word (codes "inactive") then Some Inactive
    else None

-- What is between single plus signs.
abbrev pub plus_parts : List ℕ → List (List ℕ)
plus_parts word = slice_split (λ b. b == 43) word

-- The parts of the rest of a word; none once its last part has been read.
abbrev pub plus_parts_in : Option (List ℕ) → List (List ℕ)
plus_parts_in None = []
plus_parts_in (Some rest) = plus_parts rest

-- No part, or one that is a 32-bit number.
abbrev pub repair_of : List (List ℕ) → Option (Option ℕ)
repair_of [] = Some None
repair_of (part ∷ parts) = do
  number ← number_below (2 ^ 32) part
  ended parts (Some number)

-- SSRC, or SSRC+REPAIR
unfoldable pub source_of : List ℕ → Option SourceWord
source_of word = do
  ssrc ← first (number_below (2 ^ 32)) (plus_parts word)
  repair ← repair_of ssrc.1
  Some (record { ssrc = ssrc.0; repair = repair })

-- Sources separated by single commas; a dash for none.
abbrev pub sources_of : List ℕ → Option (List SourceWord)
sources_of word = if bytes_eq word (codes "-") then Some [] else each_of source_of (comma_parts word)

-- What is between single colons.
abbrev pub colon_parts : List ℕ → List (List ℕ)
colon_parts word = slice_split (λ b. b == 58) word

-- The parts of the rest of a word; none once its last part has been read.
abbrev pub colon_parts_in : Option (List ℕ) → List (List ℕ)
colon_parts_in None = []
colon_parts_in (Some rest) = colon_parts rest

-- MID:KIND:DIR:SOURCE,SOURCE
unfoldable pub section_of : List ℕ → Option SectionWord
section_of word = do
  mid ← first Some (colon_parts word)
  kind ← first kind_of mid.1
  direction ← first direction_of kind.1
  sources ← first sources_of direction.1
  ended sources.1 (record { mid = mid.0; kind = kind.0; direction = direction.0; sources = sources.0 })

-- Each word as a section.
abbrev pub sections_of : List (List ℕ) → Option (List SectionWord)
sections_of words = each_of section_of words

-- A section for each word before a slash, and the words after it.
abbrev pub sections_then_slash : List (List ℕ) → Option (List SectionWord × List (List ℕ))
sections_then_slash [] = None
sections_then_slash (word ∷ words) =
    if bytes_eq word (codes "/") then Some ([], words)
    else do
      section ← section_of word
      more ← sections_then_slash words
      Some (section ∷ more.0, more.1)
