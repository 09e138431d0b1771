-- What a stream of the program shows.
use Rattle.media_files.specs.Opus.{Stream}
use Rattle.media_files.specs.declared.opus.OpusStream.{OpusStream}

abbrev pub stream_shown : OpusStream → Stream
stream_shown s = record { channels = s.channels; pre_skip = s.pre_skip; serial = s.serial }
