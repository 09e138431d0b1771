-- The program's blocks and payloads as the definitions model them.
use Rattle.std.specs.Prelude.{List}
use Rattle.payload_core_audio.specs.Red.{Block}
use Rattle.payload_core_audio.specs.RedReading.{Item, items_from}
use Rattle.payload_core_audio.specs.declared.block.RedBlock.{RedBlock}
use Rattle.payload_core_audio.specs.declared.block.RedundantBlock.{RedundantBlock}
use Rattle.payload_core_audio.specs.declared.decoder.RedBlocks.{RedBlocks}
use Rattle.payload_core_audio.specs.declared.spelling.OldPayload.{OldPayload}

abbrev pub block_of : RedundantBlock → Block
block_of b = record { pt = b.pt; timestamp_offset = b.timestamp_offset; payload = b.payload.items }

abbrev pub old_block : OldPayload → Block
old_block b = record { pt = b.pt; timestamp_offset = b.timestamp_offset; payload = b.payload.now }

abbrev pub item_of : RedBlock → Item
item_of b = record { pt = b.pt; timestamp_offset = b.timestamp_offset; payload = b.payload.now; primary = b.primary }

-- The payloads the iterator has yet to yield.
abbrev pub items_left : RedBlocks → List Item
items_left blocks = items_from blocks.left blocks.headers.now blocks.payloads.now
