-- What the values of the program show.
use Rattle.media_files.specs.Mkv.{Track, Block}
use Rattle.media_files.specs.declared.mkv_tracks.MkvTrack.{MkvTrack}
use Rattle.media_files.specs.declared.mkv.MkvBlock.{MkvBlock}

abbrev pub track_shown : MkvTrack → Track
track_shown t = record {
  codec = t.codec;
  private = t.private.now;
  delay = t.delay;
  preroll = t.preroll;
  media = t.media;
}

abbrev pub block_shown : MkvBlock → Block
block_shown b = record { track = b.track; time = b.time; is_key = b.is_key; bytes = b.bytes.now }
