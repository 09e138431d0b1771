-- Agreed sections that take their rows from a text (RFC 3264 6.1: each section of an answer has types of its own).
use Rattle.std.specs.Prelude.{◌≡◌, ℕ, List, map}
use Rattle.rtp_media_exchange.specs.Exchanges.{Exchanged}
use Rattle.rtp_media_exchange.specs.Says.{SaysSections}
use Rattle.rtp_media_sections.specs.Agreement.{with_text}
use Rattle.rtp_media_sections.specs.Sections.{Section}

-- Each agreed section has the rows of the text's section of its name, as far as the end has such rows; all else stays.
pub record TakesTypes (x : Exchanged) (text : List ℕ) (after : Exchanged) : Type 0 where
  pub sections : List Section
  pub says : SaysSections text sections
  pub after_is : after ≡ record x { agreed = map (with_text x.config.rows sections) x.agreed }
