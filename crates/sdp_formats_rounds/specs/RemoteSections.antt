-- Sections of the other end's text.
use Rattle.rtp_wire.specs.Direction.{receives}
use Rattle.sdp_formats_rounds.specs.Laws.{Section}
use Rattle.sdp_formats_rounds.specs.declared.config.rounds.RemoteSection.{RemoteSection}

-- What a round takes from a section: its rows, and whether it dictates types, which it does if it receives.
abbrev pub section_of : RemoteSection → Section
section_of s = record { rows = s.rows.items; dictated = receives s.dir }
