use Rattle.std.proofs.Common.{◌≡◌, ℕ, ◌-◌, ◌*◌, ◌<◌, ◌≤◌, false, length}
use Rattle.payload_core_audio.specs.AmrWb.{entry_place, is_last_entry}
use Rattle.payload_core_audio.specs.BitPlaces.{place_of}
use Rattle.payload_core_audio.proofs.amr_wb.entries.Given as goal

-- the entries so far go on
abbrev pub invariant-loop-place : goal.invariant-loop-place
invariant-loop-place l = record {
  place : place_of l.place ≡ entry_place l.octet_align l.count;
  room : place_of l.place ≤ 8 * length l.packet;
  more : (k : ℕ) → k < l.count → is_last_entry l.octet_align l.packet k ≡ false;
}

abbrev pub decreases-loop-place : goal.decreases-loop-place
decreases-loop-place l = 8 * length l.initial.packet - place_of l.place
