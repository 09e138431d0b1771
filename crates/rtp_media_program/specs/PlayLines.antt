-- What the lines of whole runs say.
use Rattle.std.specs.Prelude.{ℕ, ◌^◌, if◌then◌else◌, List, codes, Option, None, Some}
use Rattle.std.specs.Option.{option_map}
use Rattle.std.specs.Str.{bytes_eq}
use Rattle.rtp_media_program.specs.declared.command.Command.{Command}
use Rattle.rtp_media_program.specs.declared.command.Command.TheVariants.{Queue, Play}
use Rattle.rtp_media_program.specs.declared.play_words.PlayItem.{PlayItem}
use Rattle.rtp_media_program.specs.declared.play_words.PlayItem.TheVariants.{Arrive, Repair, Foreign, Poll}
use Rattle.rtp_media_program.specs.Words.{behind, each_of, ended, first, hex_of, number_below, ◌>>=◌}

-- What follows an `f`, an `r` or an `a`.
abbrev pub item_behind : Option (List ℕ) → Option (List ℕ) → Option (List ℕ) → Option PlayItem
item_behind (Some bytes) repaired arrived = option_map Foreign (hex_of bytes)
item_behind None (Some number) arrived = option_map Repair (number_below (2 ^ 64) number)
item_behind None None (Some number) = option_map Arrive (number_below (2 ^ 64) number)
item_behind None None None = None

-- `a` and an index, `r` and an index, `f` and bytes, or `p`
unfoldable pub item_of : List ℕ → Option PlayItem
item_of word =
    if bytes_eq word (codes "p") then Some Poll
    else item_behind (behind (codes "f") word) (behind (codes "r") word) (behind (codes "a") word)

-- Each word as an item.
abbrev pub items_of : List (List ℕ) → Option (List PlayItem)
items_of words = each_of item_of words

-- queue TIME HEX
unfoldable pub queue_of : List (List ℕ) → Option Command
queue_of words = do
  time ← first (number_below (2 ^ 64)) words
  sample ← first hex_of time.1
  ended sample.1 (Queue (record { time = time.0; sample = sample.0 }))

-- play TX RX ITEM..
unfoldable pub play_of : List (List ℕ) → Option Command
play_of words = do
  tx ← first (number_below (2 ^ 64)) words
  rx ← first (number_below (2 ^ 64)) tx.1
  items ← items_of rx.1
  Some (Play (record { tx = tx.0; rx = rx.0; items = items }))
