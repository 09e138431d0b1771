-- Sections that are offered and that answer are printable.
use Rattle.std.proofs.Common.{◌<◌, ◌^◌, ℕ, List, [], ◌∷◌, map}
use Rattle.rtp_media_sections.specs.Answered.{answered_section}
use Rattle.rtp_media_sections.specs.Offered.{offered_section, plain_source, repair_source, sources_wanted}
use Rattle.rtp_media_sections.specs.Sections.{Wanted}
use Rattle.rtp_wire.specs.Values.{Numbering}
use Rattle.sdp_formats_laws.proofs.SoundParams.{each_append}
use Rattle.sdp_formats_rounds.specs.Members.{IsEach}
use Rattle.rtp_media_sections.proofs.Entries as entries
use Rattle.rtp_media_sections.proofs.ListedRows.{answered_printable, offered_printable}
use Rattle.rtp_media_sections.specs.PrintableSections.{AnsweredSectionsArePrintable, CanBeListed, IsLowPair}
use Rattle.rtp_media_sections.specs.PrintableSections.{OfferedSectionsArePrintable}
use Rattle.rtp_media_sections.specs.PrintedSections.{IsLowSource}

plain_low : (ssrcs : List ℕ) → IsEach (λ ssrc. ssrc < 2 ^ 32) ssrcs → IsEach IsLowSource (map plain_source ssrcs)
plain_low [] h = tt
plain_low (s ∷ ssrcs) h = ((h.0, tt), plain_low ssrcs h.1)

repairing_low : (pairs : List (ℕ × ℕ)) → IsEach IsLowPair pairs → IsEach IsLowSource (map repair_source pairs)
repairing_low [] h = tt
repairing_low (p ∷ pairs) h = ((h.0.1, h.0.0), repairing_low pairs h.1)

sources_low : (exts : Numbering) (w : Wanted) → CanBeListed exts w → IsEach IsLowSource (sources_wanted w)
sources_low exts w can =
    each_append IsLowSource (map plain_source w.ssrcs) (map repair_source w.repairs) (plain_low w.ssrcs can.ssrcs)
    (repairing_low w.repairs can.repairs)

pub offered_sections : OfferedSectionsArePrintable
unfolding offered_section
offered_sections exts rows w can all some =
    let rows = offered_printable w.kind rows all in
    record {
      some_name = can.some_name;
      name = can.name;
      some_row = some;
      plain = rows.plain;
      apart = rows.apart;
      sized = rows.sized;
      extmaps = entries.entries_printable exts can.writable;
      sources = sources_low exts w can;
    }

pub answered_sections : AnsweredSectionsArePrintable
unfolding answered_section
answered_sections exts rows w offer can all some =
    let rows = answered_printable rows offer all in
    record {
      some_name = can.some_name;
      name = can.name;
      some_row = some;
      plain = rows.plain;
      apart = rows.apart;
      sized = rows.sized;
      extmaps = entries.answered_printable exts offer.extmaps can.numbers can.writable;
      sources = sources_low exts w can;
    }
