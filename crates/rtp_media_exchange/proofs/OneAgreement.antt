-- Two ends that agreed on one text have agreed on the same rows and maps.
use Rattle.std.proofs.Common.{◌≡◌, ℕ, List, map, sym, ◌∙◌, ap}
use Rattle.rtp_media_exchange.specs.Says.{AgreesOnText, SaysSections}
use Rattle.rtp_media_sections.specs.Agreement.{Agreed, agreed_map_of, agreed_row_of, map_of_text, row_of_text}
use Rattle.rtp_media_sections.specs.Lines.{section_of}
use Rattle.rtp_media_sections.specs.Sections.{Section}

-- a text says one list of sections
pub said_once : (text : List ℕ) (some others : List Section) → SaysSections text some → SaysSections text others
    → some ≡ others
said_once text some others x y =
    x.sections_are ∙ ap (map section_of) (y.says.only x.lines x.says.says) ∙ sym y.sections_are

pub same_rows : (text : List ℕ) (a b : List Agreed) → AgreesOnText text a → AgreesOnText text b
    → (mid : List ℕ) (pt : ℕ) → agreed_row_of a mid pt ≡ agreed_row_of b mid pt
same_rows text a b x y mid pt =
    x.agrees.rows mid pt
    ∙ ap (λ (ss : List Section). row_of_text ss mid pt) (said_once text x.sections y.sections x.says y.says)
    ∙ sym (y.agrees.rows mid pt)

pub same_maps : (text : List ℕ) (a b : List Agreed) → AgreesOnText text a → AgreesOnText text b
    → (mid : List ℕ) → agreed_map_of a mid ≡ agreed_map_of b mid
same_maps text a b x y mid =
    x.agrees.maps mid
    ∙ ap (λ (ss : List Section). map_of_text ss mid) (said_once text x.sections y.sections x.says y.says)
    ∙ sym (y.agrees.maps mid)
