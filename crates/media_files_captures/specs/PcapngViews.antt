-- The models of the program's blocks.
use Rattle.std.specs.Prelude.{◌≡◌, ℕ, List, Option, None, Some, option_map}
use Rattle.media_files_captures.specs.Captures.{Packet, seen}
use Rattle.media_files_captures.specs.Pcapng.{Block, Reader, block, interfaces_of, packets_of, reader}
use Rattle.media_files_captures.specs.Runs.{Holds, HoldsAll}
use Rattle.media_files_captures.specs.declared.captures.CapturedPacket.{CapturedPacket}
use Rattle.media_files_captures.specs.declared.pcapng.PcapngBlock.{PcapngBlock}
use Rattle.media_files_captures.specs.declared.pcapng.PcapngReader.{PcapngReader}
use Rattle.media_files_captures.specs.declared.pcapng.PcapngSection.{PcapngSection}

abbrev pub block_shown : PcapngBlock → Block
block_shown b = record { order = b.order; kind = b.kind; body = b.body.now }

abbrev pub reader_shown : PcapngReader → Reader
reader_shown r = record { order = r.order; rest = r.rest.now }

abbrev pub read_block : Option (PcapngBlock × PcapngReader) → Option (Block × Reader)
read_block None = None
read_block (Some b) = Some (block_shown b.0, reader_shown b.1)

abbrev pub packet_seen : Option CapturedPacket → Option Packet
packet_seen p = option_map seen p

-- Bytes after the blocks that led to a section hold these packets, up to a block that isn't whole; the blocks lead on
-- to the new section.
pub record HoldsBlocks (old new : PcapngSection) (bytes : List ℕ) (packets : List Packet) (unread : List ℕ) : Type 0
  where
    pub blocks : List Block
    pub held : HoldsAll block (reader old.order bytes) blocks (reader new.order unread)
    pub packets_are : packets ≡ packets_of old.interfaces.items blocks
    pub interfaces_are : new.interfaces.items ≡ interfaces_of old.interfaces.items blocks

-- Blocks in front of these bytes lead from one section to another.
pub record LeadsTo (old new : PcapngSection) (bytes : List ℕ) : Type 0 where
  pub blocks : List Block
  pub rest : List ℕ
  pub held : Holds block (reader old.order bytes) blocks (reader new.order rest)
  pub interfaces_are : new.interfaces.items ≡ interfaces_of old.interfaces.items blocks
