use Rattle.std.proofs.Common.{◌≡◌, ◌-◌, ◌*◌, ◌≤◌, length}
use Rattle.payload_core_audio.specs.AmrWb.{behind, entry_place, frames_from}
use Rattle.payload_core_audio.specs.BitPlaces.{place_of}
use Rattle.payload_core_audio.proofs.amr_wb.frames.Given as goal

-- the frames so far, and those that are left
abbrev pub invariant-loop : goal.invariant-loop
invariant-loop l = record {
  entry : place_of l.entry ≡ entry_place l.octet_align l.counter;
  room : place_of l.place ≤ 8 * length l.packet;
  frames : behind l.out.items (frames_from l.octet_align l.packet (l.count - l.counter) l.counter (place_of l.place))
      ≡ frames_from l.octet_align l.packet l.count 0 (place_of l.fn.speech);
}
