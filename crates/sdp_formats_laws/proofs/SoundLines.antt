-- The lines that are read have values of their widths.
use Rattle.std.proofs.Common.{ℕ, List, codes}
use Rattle.sdp_formats_reader.specs.AttributesChoice.{attribute_line, media_attribute}
use Rattle.sdp_formats_reader.specs.Kinds.{media_kinds}
use Rattle.sdp_formats_reader.specs.Transport.{in_section}
use Rattle.sdp_formats_reader.specs.declared.transport.TransportAttribute.{TransportAttribute}
use Rattle.sdp_formats_reader.specs.declared.transport.TransportAttribute.TheVariants as transport
use Rattle.sdp_formats_reader.specs.Maps.{payload_type}
use Rattle.sdp_formats_reader.specs.Sources.{extmap}
use Rattle.sdp_formats_reader.specs.Parameters.{fmtp, listed_fmtp, parameters, unknown_values}
use Rattle.sdp_formats_data.specs.declared.media.MediaAttribute.{MediaAttribute}
use Rattle.sdp_formats_data.specs.declared.media.MediaAttribute.TheVariants.{Unused}
use Rattle.sdp_formats_data.specs.declared.media.MediaLine.{MediaLine}
use Rattle.sdp_formats_grammar.specs.Form.{Form, any_text}
use Rattle.sdp_formats_grammar.specs.Line.{LineOf}
use Rattle.sdp_formats_reader.specs.Grammar.{SdpSays, SectionSays}
use Rattle.sdp_formats_rounds.specs.Members.{IsEach}
use Rattle.sdp_formats_values.specs.declared.param.FormatParam.{FormatParam}
use Rattle.sdp_formats_laws.specs.ReadLines.{HasSoundLines, IsSoundLine, IsSoundParam, ReadLinesAreSound}
use Rattle.sdp_formats_laws.proofs.Giving.{Gives, KindsGive, after_gives, always, begins_each, behind_gives}
use Rattle.sdp_formats_laws.proofs.Giving.{either_gives, first_of_gives, made_gives, made_of}
use Rattle.sdp_formats_laws.proofs.KnownUris.{extension_own}
use Rattle.sdp_formats_laws.proofs.SoundParams.{params_sound}

abbrev Sound : Form MediaAttribute → Type 0
Sound f = Gives IsSoundLine f

-- header extensions
extmap_sound : Sound extmap
extmap_sound = made_gives IsSoundLine _ _ (λ x. extension_own x.1.0)

-- parameters
parameters_sound : Gives (IsEach IsSoundParam) parameters
parameters_sound =
    either_gives _ _ _ (made_gives (IsEach IsSoundParam) _ _ params_sound)
    (either_gives _ _ _ (made_gives (IsEach IsSoundParam) _ _ (λ x. (tt, tt)))
    (either_gives _ _ _ (made_gives (IsEach IsSoundParam) _ _ (λ x. (tt, tt)))
    (always (IsEach IsSoundParam) unknown_values (tt, tt))))

fmtp_sound : Sound fmtp
fmtp_sound = either_gives IsSoundLine listed_fmtp _
    (made_of (λ (x : ℕ × List FormatParam). IsEach IsSoundParam x.1) IsSoundLine _ _
    (behind_gives (IsEach IsSoundParam) 32 payload_type parameters parameters_sound) (λ x h. h))
    (made_gives IsSoundLine _ payload_type (λ pt. (tt, tt)))

-- attributes of transport
transport_sound : (x : TransportAttribute) → IsSoundLine (in_section x)
transport_sound (transport.IceUfrag v) = tt
transport_sound _ = tt

kinds_sound : KindsGive IsSoundLine media_kinds
kinds_sound = (
  made_gives IsSoundLine in_section _ transport_sound,
  (
    made_gives IsSoundLine in_section _ transport_sound,
    (
      made_gives IsSoundLine in_section _ transport_sound,
      (
        made_gives IsSoundLine in_section _ transport_sound,
        (
          made_gives IsSoundLine in_section _ transport_sound,
          (
            made_gives IsSoundLine _ _ (λ x. tt),
            (
              made_gives IsSoundLine _ _ (λ x. tt),
              (
                made_gives IsSoundLine _ _ (λ x. tt),
                (
                  made_gives IsSoundLine _ _ (λ x. tt),
                  (
                    extmap_sound,
                    (
                      (tt, (tt, (tt, (tt, tt)))),
                      (
                        made_gives IsSoundLine _ _ (λ x. tt),
                        (
                          made_gives IsSoundLine _ _ (λ x. tt),
                          (
                            (tt, (tt, (tt, tt))),
                            (
                              made_gives IsSoundLine in_section _ transport_sound,
                              (
                                (tt, tt),
                                (
                                  made_gives IsSoundLine _ _ (λ x. tt),
                                  (
                                    made_gives IsSoundLine _ _ (λ x. tt),
                                    (
                                      fmtp_sound,
                                      (
                                        made_gives IsSoundLine _ _ (λ x. tt),
                                        (
                                          made_gives IsSoundLine _ _ (λ x. tt),
                                          (
                                            made_gives IsSoundLine _ _ (λ x. tt),
                                            (made_gives IsSoundLine _ _ (λ x. tt), tt),
                                          ),
                                        ),
                                      ),
                                    ),
                                  ),
                                ),
                              ),
                            ),
                          ),
                        ),
                      ),
                    ),
                  ),
                ),
              ),
            ),
          ),
        ),
      ),
    ),
  ),
)

media_sound : Gives IsSoundLine media_attribute
unfolding media_attribute
media_sound = first_of_gives IsSoundLine media_kinds _ kinds_sound (made_gives IsSoundLine Unused any_text (λ x. tt))

line_sound : Sound attribute_line
line_sound = after_gives IsSoundLine (codes "a=") media_attribute media_sound

section_sound : (t : List ℕ) (m : MediaLine) (r : List ℕ) → SectionSays t m r → HasSoundLines m
unfolding SectionSays
section_sound t m r h = begins_each (LineOf attribute_line.Says) IsSoundLine
    (λ u a s line. line_sound.each line.0 a line.2) h.7 m.attrs r h.9.0

pub read_lines_sound : ReadLinesAreSound
unfolding SdpSays
read_lines_sound text sdp rest h =
    begins_each SectionSays HasSoundLines section_sound h.0 sdp.media_lines rest h.2.0
