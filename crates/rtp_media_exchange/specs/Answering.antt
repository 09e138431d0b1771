-- What is agreed if offered sections are answered.
use Rattle.std.specs.Prelude.{◌≡◌, ◌<◌, ◌^◌, List, [], map}
use Rattle.rtp_media_sections.specs.PrintableSections.{IsLowPair}
use Rattle.rtp_media_sections.specs.PrintedSections.{named}
use Rattle.rtp_media_sections.specs.Sections.{Section, Wanted}
use Rattle.rtp_wire.specs.Name.{name_of}
use Rattle.sdp_formats_laws.specs.RowsBack.{unlocked}
use Rattle.sdp_formats_rounds.specs.Members.{IsEach}

-- What an agreement reads from a printed section: its rows, unlocked, and its extensions by URI.
abbrev pub read_back : Section → Section
read_back s = record s { rows = map unlocked s.rows; extmaps = map named s.extmaps; sources = [] }

-- A mid of at most 16 bytes, and 32-bit SSRCs.
abbrev pub HasWidths : Wanted → Type 0
HasWidths w = (name_of 16 w.mid ≡ w.mid) × IsEach (λ ssrc. ssrc < 2 ^ 32) w.ssrcs × IsEach IsLowPair w.repairs
