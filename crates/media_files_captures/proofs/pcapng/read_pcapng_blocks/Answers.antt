use Rattle.std.proofs.Common.{map, refl, sym}
use Rattle.media_files_captures.specs.Captures.{seen}
use Rattle.media_files_captures.specs.PcapngViews.{block_shown, reader_shown}
use Rattle.media_files_captures.proofs.PcapngLemmas.{read-more}
use Rattle.media_files_captures.proofs.pcapng.read_pcapng_blocks.Goals as goal

pub loop-next-preserved : goal.loop-next-preserved
loop-next-preserved c = record {
  read = read-more _ _ (map seen c.loop-next.packets.items) (map seen c.take_packet.new.packets.items)
      c.loop-next.section.interfaces.items c.take_interface.new.interfaces.items (reader_shown c.loop-next.reader)
      (reader_shown c.in-Some.behind) (block_shown c.in-Some.next) c.loop-next.invariant.read
      (sym c.in-Some.ensures.value) (cc (c.in_ok-take_packet.ensures, c.deref.ensures.value))
      c.in_ok-take_interface.ensures.taken;
  order = refl;
}
