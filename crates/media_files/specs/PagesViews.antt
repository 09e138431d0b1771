-- What the pages of the program show.
use Rattle.media_files.specs.Opus.{Playing, playing}
use Rattle.media_files.specs.declared.opus_pages.OpusPages.{OpusPages}

-- Where the packets are.
abbrev pub playing_shown : OpusPages → Playing
playing_shown p = playing p.previous.items p.granule p.sequence
