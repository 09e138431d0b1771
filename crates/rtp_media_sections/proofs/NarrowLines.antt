-- The channels of lines that are read are of eight bits.
use Rattle.std.proofs.Common.{◌<◌, ◌^◌, ◌&&◌, ℕ, List, codes, Option, Some, None, IfSome, nat_lt, subst}
use Rattle.std.specs.Prelude.{length}
use Rattle.std.specs.Str.Parse.{without_leading_plus, digits_value}
use Rattle.sdp_formats_reader.specs.AttributesChoice.{attribute_line, media_attribute}
use Rattle.sdp_formats_reader.specs.Kinds.{media_kinds}
use Rattle.sdp_formats_reader.specs.Transport.{in_section}
use Rattle.sdp_formats_reader.specs.declared.transport.TransportAttribute.{TransportAttribute}
use Rattle.sdp_formats_reader.specs.declared.transport.TransportAttribute.TheVariants as transport
use Rattle.sdp_formats_reader.specs.Maps.{clock_rate, make_map, payload_type, rtpmap}
use Rattle.sdp_formats_reader.specs.Parameters.{fmtp, listed_fmtp}
use Rattle.sdp_formats_data.specs.declared.media.MediaAttribute.{MediaAttribute}
use Rattle.sdp_formats_data.specs.declared.media.MediaAttribute.TheVariants.{RtpMap, Unused}
use Rattle.sdp_formats_data.specs.declared.media.MediaLine.{MediaLine}
use Rattle.sdp_formats_data.specs.declared.session.Sdp.{Sdp}
use Rattle.sdp_formats_grammar.specs.Form.{Form, SaysMaybe, any_text, cut, cut_maybe, number}
use Rattle.sdp_formats_grammar.specs.Line.{LineOf}
use Rattle.sdp_formats_grammar.specs.Numbers.{all_digits, number_below}
use Rattle.sdp_formats_laws.proofs.FormatRanges.{cond_in}
use Rattle.sdp_formats_laws.proofs.Giving.{Gives, KindsGive, after_gives, begins_each, behind_gives, either_gives}
use Rattle.sdp_formats_laws.proofs.Giving.{first_of_gives, made_gives, made_of}
use Rattle.sdp_formats_reader.specs.Grammar.{SdpSays, SectionSays}
use Rattle.sdp_formats_rounds.specs.Members.{IsEach}
use Rattle.rtp_media_sections.proofs.SizedRounds.{IsNarrow}

abbrev pub IsNarrowLine : MediaAttribute → Type 0
IsNarrowLine (RtpMap pt value) = IsNarrow value.channels
IsNarrowLine _ = Unit {0}

abbrev Narrow : Form MediaAttribute → Type 0
Narrow f = Gives IsNarrowLine f

-- numbers
number_low : (limit : ℕ) (t : List ℕ) → IfSome (number_below limit t) (λ n. n < limit)
number_low limit t =
    cond_in (nat_lt 0 (length (without_leading_plus t)) && all_digits (without_leading_plus t))
    (digits_value 10 (without_leading_plus t)) limit

number_gives : (limit : ℕ) → Gives (λ n. n < limit) (number limit)
number_gives limit = record { each = λ t n e. subst (λ o. IfSome o (λ m. m < limit)) e (number_low limit t) }

maybe_gives : {A B : Type 0} (Q : B → Type 0) (c : ℕ) (f : Form A) (g : Form B) → Gives Q g
    → Gives (λ (x : A × Option B). IfSome x.1 Q) (cut_maybe c f g)
maybe_gives {A} {B} Q c f g x = record { each = λ t ab s. by t ab.0 ab.1 s }
  where
    by : (t : List ℕ) (a : A) (b : Option B) → SaysMaybe c f.Says g.Says t a b → IfSome b Q
    by t a None s = tt
    by t a (Some b) s = x.each s.1 b s.5

map_narrow : Narrow rtpmap
map_narrow = made_of (λ (x : ℕ × (List ℕ × (ℕ × Option ℕ))). IsNarrow x.1.1.1) IsNarrowLine
    (λ x. RtpMap x.0 (make_map x.1))
    (cut 32 payload_type (cut 47 any_text (cut_maybe 47 clock_rate (number (2 ^ 8)))))
    (behind_gives (λ (x : List ℕ × (ℕ × Option ℕ)). IsNarrow x.1.1) 32 payload_type
    (cut 47 any_text (cut_maybe 47 clock_rate (number (2 ^ 8))))
    (behind_gives (λ (x : ℕ × Option ℕ). IsNarrow x.1) 47 any_text (cut_maybe 47 clock_rate (number (2 ^ 8)))
    (maybe_gives (λ n. n < 2 ^ 8) 47 clock_rate (number (2 ^ 8)) (number_gives (2 ^ 8)))))
    (λ x h. h)

fmtp_narrow : Narrow fmtp
fmtp_narrow = either_gives IsNarrowLine listed_fmtp _ (made_gives IsNarrowLine _ _ (λ x. tt))
    (made_gives IsNarrowLine _ payload_type (λ pt. tt))

-- attributes of transport
transport_narrow : (x : TransportAttribute) → IsNarrowLine (in_section x)
transport_narrow (transport.IceUfrag v) = tt
transport_narrow (transport.IcePwd v) = tt
transport_narrow (transport.IceOptions v) = tt
transport_narrow (transport.Fingerprint v) = tt
transport_narrow (transport.Setup v) = tt
transport_narrow (transport.Candidate v) = tt
transport_narrow transport.EndOfCandidates = tt

kinds_narrow : KindsGive IsNarrowLine media_kinds
kinds_narrow = (
  made_gives IsNarrowLine in_section _ transport_narrow,
  (
    made_gives IsNarrowLine in_section _ transport_narrow,
    (
      made_gives IsNarrowLine in_section _ transport_narrow,
      (
        made_gives IsNarrowLine in_section _ transport_narrow,
        (
          made_gives IsNarrowLine in_section _ transport_narrow,
          (
            made_gives IsNarrowLine _ _ (λ x. tt),
            (
              made_gives IsNarrowLine _ _ (λ x. tt),
              (
                made_gives IsNarrowLine _ _ (λ x. tt),
                (
                  made_gives IsNarrowLine _ _ (λ x. tt),
                  (
                    made_gives IsNarrowLine _ _ (λ x. tt),
                    (
                      (tt, (tt, (tt, (tt, tt)))),
                      (
                        made_gives IsNarrowLine _ _ (λ x. tt),
                        (
                          made_gives IsNarrowLine _ _ (λ x. tt),
                          (
                            (tt, (tt, (tt, tt))),
                            (
                              made_gives IsNarrowLine in_section _ transport_narrow,
                              (
                                (tt, tt),
                                (
                                  map_narrow,
                                  (
                                    made_gives IsNarrowLine _ _ (λ x. tt),
                                    (
                                      fmtp_narrow,
                                      (
                                        made_gives IsNarrowLine _ _ (λ x. tt),
                                        (
                                          made_gives IsNarrowLine _ _ (λ x. tt),
                                          (
                                            made_gives IsNarrowLine _ _ (λ x. tt),
                                            (made_gives IsNarrowLine _ _ (λ x. tt), tt),
                                          ),
                                        ),
                                      ),
                                    ),
                                  ),
                                ),
                              ),
                            ),
                          ),
                        ),
                      ),
                    ),
                  ),
                ),
              ),
            ),
          ),
        ),
      ),
    ),
  ),
)

media_narrow : Gives IsNarrowLine media_attribute
unfolding media_attribute
media_narrow = first_of_gives IsNarrowLine media_kinds _ kinds_narrow
    (made_gives IsNarrowLine Unused any_text (λ x. tt))

line_narrow : Narrow attribute_line
line_narrow = after_gives IsNarrowLine (codes "a=") media_attribute media_narrow

section_narrow : (t : List ℕ) (m : MediaLine) (r : List ℕ) → SectionSays t m r → IsEach IsNarrowLine m.attrs
unfolding SectionSays
section_narrow t m r h = begins_each (LineOf attribute_line.Says) IsNarrowLine
    (λ u a s line. line_narrow.each line.0 a line.2) h.7 m.attrs r h.9.0

pub read_lines_narrow : (text : List ℕ) (sdp : Sdp) (rest : List ℕ) → SdpSays text sdp rest
    → IsEach (λ (m : MediaLine). IsEach IsNarrowLine m.attrs) sdp.media_lines
unfolding SdpSays
read_lines_narrow text sdp rest h =
    begins_each SectionSays (λ (m : MediaLine). IsEach IsNarrowLine m.attrs) section_narrow h.0 sdp.media_lines rest
    h.2.0
