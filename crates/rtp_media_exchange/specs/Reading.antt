-- Why a text isn't read.
use Rattle.std.specs.Prelude.{◌≡◌, ℕ, List}
use Rattle.std.specs.String.{string_bytes}
use Rattle.sdp_formats_reader.specs.ReaderErrors.{SaysNothing, text_fault}
use Rattle.sdp_formats_data.specs.declared.error.SdpError.TheVariants as sdp
use Rattle.rtp_media_exchange.specs.declared.errors.ExchangeError.{ExchangeError}
use Rattle.rtp_media_exchange.specs.declared.errors.ExchangeError.TheVariants as error

-- The text says nothing, and the error tells why in these words; or memory ran out.
abbrev pub IsUnread : List ℕ → ExchangeError → Type 0
IsUnread text (error.Unreadable (sdp.ParseError t)) = SaysNothing text × (string_bytes t ≡ text_fault)
IsUnread text error.Memory = Unit {0}
IsUnread text _ = ⊥
