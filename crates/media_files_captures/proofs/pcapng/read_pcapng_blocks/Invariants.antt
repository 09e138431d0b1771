use Rattle.std.proofs.Common.{◌≡◌, length, map}
use Rattle.media_files_captures.specs.Captures.{seen}
use Rattle.media_files_captures.specs.PcapngViews.{reader_shown}
use Rattle.media_files_captures.proofs.PcapngLemmas.{IsReadTo}
use Rattle.media_files_captures.proofs.pcapng.read_pcapng_blocks.Given as goal

-- the blocks so far gave these packets and these interfaces, and the section has the byte order of the last
abbrev pub invariant-loop-next : goal.invariant-loop-next
invariant-loop-next l = record {
  read : IsReadTo (reader_shown l.initial.reader) l.initial.section.interfaces.items
      (map seen l.packets.items) l.section.interfaces.items (reader_shown l.reader);
  order : l.section.order ≡ l.reader.order;
}

abbrev pub decreases-loop-next : goal.decreases-loop-next
decreases-loop-next l = length l.reader.rest.now
