-- Rounds with the sections of a text keep rows plain, apart and of their widths.
use Rattle.std.proofs.Common.{List, [], ◌∷◌, map}
use Rattle.rtp_media_sections.specs.Lines.{remote_of, section_of}
use Rattle.sdp_formats_data.specs.declared.media.MediaLine.{MediaLine}
use Rattle.sdp_formats_laws.specs.PlainRounds.{RoundsKeepPlainRows}
use Rattle.sdp_formats_laws.specs.ReadLines.{HasSoundLines, ReadLinesAreSound, SoundLinesGiveSoundRows}
use Rattle.sdp_formats_rounds.specs.Laws.{Section}
use Rattle.sdp_formats_rounds.specs.Members.{IsEach}
use Rattle.sdp_formats_rounds.specs.PlainLaws.{AreSound}
use Rattle.sdp_formats_rounds.specs.TypeLaws.{RoundsKeepTypesApart}
use Rattle.rtp_media_sections.proofs.NarrowLines.{read_lines_narrow}
use Rattle.rtp_media_sections.proofs.NarrowRows.{sections_narrow}
use Rattle.rtp_media_sections.proofs.SizedRounds.{rounds_sized}
use Rattle.rtp_media_sections.specs.ReadRounds.{ReadSectionsKeepRows}

are_sound : SoundLinesGiveSoundRows → (ms : List MediaLine) → IsEach HasSoundLines ms
    → IsEach AreSound (map remote_of (map section_of ms))
unfolding section_of
are_sound rows [] h = tt
are_sound rows (m ∷ ms) h = (rows m.pts m.attrs h.0, are_sound rows ms h.1)

pub keep_rows : ReadLinesAreSound → SoundLinesGiveSoundRows → RoundsKeepPlainRows → RoundsKeepTypesApart
    → ReadSectionsKeepRows
keep_rows lines sound plain apart text said rest says rows after h e =
    let sections : List Section = map remote_of (map section_of said.media_lines) in
    record {
      plain = plain sections rows after (are_sound sound said.media_lines (lines text said rest says)) h.plain e;
      apart = apart sections rows after h.apart e;
      sized = rounds_sized sections rows after
          (sections_narrow said.media_lines (read_lines_narrow text said rest says)) h.sized e;
    }
