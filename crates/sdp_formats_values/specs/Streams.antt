-- Streams of a section.
use Rattle.sdp_formats_values.specs.declared.streams.Simulcast.{Simulcast}

-- A simulcast as the other end sees it (RFC 8853 5.1).
abbrev pub inverted : Simulcast → Simulcast
inverted s = record { send = s.recv; recv = s.send; is_munged = s.is_munged }
