-- The text of printable sections says these sections.
use Rattle.std.proofs.Common.{◌≡◌, ℕ, List, [], ◌∷◌, ◌++◌, map, codes, refl, ap, subst}
use Rattle.rtp_media_sections.specs.Lines.{line_of, section_of}
use Rattle.rtp_media_sections.specs.Sections.{Section}
use Rattle.sdp_formats_data.specs.PrintedSession.{sdp_text, session_text}
use Rattle.sdp_formats_data.specs.declared.session.Sdp.{Sdp}
use Rattle.sdp_formats_data.specs.declared.session.SessionAttribute.TheVariants.{Group}
use Rattle.sdp_formats_grammar.specs.Joined.{joined}
use Rattle.sdp_formats_laws.proofs.Printed.{lacks}
use Rattle.sdp_formats_laws.specs.OneReading.{TextsHaveOneReading}
use Rattle.sdp_formats_laws.specs.Printable.{IsWord}
use Rattle.sdp_formats_laws.specs.ReadTexts.{section_as_read, text_read}
use Rattle.sdp_formats_laws.specs.WrittenSession.{GroupedRowTextsComeBack, grouped}
use Rattle.sdp_formats_reader.specs.Grammar.{SdpSays}
use Rattle.sdp_formats_reader.specs.OneMoreAttribute.{with_first}
use Rattle.sdp_formats_rounds.specs.Members.{IsEach}
use Rattle.rtp_media_sections.proofs.Names.{are_mids}
use Rattle.rtp_media_sections.proofs.PrintedLines.{each_lists, each_once}
use Rattle.rtp_media_sections.proofs.SameTexts.{sections_print_same}
use Rattle.rtp_media_sections.specs.PrintedSections.{IsPrintable, PrintedSectionsComeBack, TextsSaySections}
use Rattle.rtp_media_sections.specs.PrintedSections.{as_read, bundle_text, with_names}

bundle : IsWord (codes "BUNDLE")
bundle = (
  ((λ e. cc), lacks 10 (codes "BUNDLE") refl, lacks 13 (codes "BUNDLE") refl),
  lacks 32 (codes "BUNDLE") refl,
)

all_back : PrintedSectionsComeBack → (ss : List Section) → IsEach IsPrintable ss
    → map section_of (map section_as_read (map line_of (map with_names ss))) ≡ map as_read ss
all_back back [] h = refl
all_back back (s ∷ ss) h = (λ i. back s h.0 i ∷ all_back back ss h.1 i)

pub texts_say : GroupedRowTextsComeBack → PrintedSectionsComeBack → TextsHaveOneReading → TextsSaySections
texts_say texts back one session ss id writable h =
    let mids : List (List ℕ) = map (λ (s : Section). s.mid) ss in
    let sdp : Sdp = record { session = session; media_lines = map line_of (map with_names ss) } in
    let whole = texts sdp (map (λ (s : Section). s.rows) ss) (codes "BUNDLE") mids id writable bundle (are_mids ss h)
    (each_lists ss h) (each_once (map with_names ss)) in
    let said : Sdp = text_read (grouped (codes "BUNDLE") mids sdp) (Group (codes "BUNDLE") mids ∷ whole.0) in
    let same : sdp_text (grouped (codes "BUNDLE") mids sdp) ≡ bundle_text session ss =
    ap (λ sections. session_text (with_first (Group (codes "BUNDLE") mids) session) ++ joined [] sections)
    (sections_print_same ss) in
    let says : SdpSays (bundle_text session ss) said [] = subst (λ t. SdpSays t said []) same whole.1 in
    record {
      said = said;
      says = says;
      only = λ other rest k. (one (bundle_text session ss) other said rest [] k says).0;
      sections_are = all_back back ss h;
    }
