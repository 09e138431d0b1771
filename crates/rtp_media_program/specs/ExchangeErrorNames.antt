-- The names under which the program prints errors of exchanges: the variant's name, without its data.
use Rattle.std.specs.Prelude.{ℕ, List, codes}
use Rattle.rtp_media_exchange.specs.declared.errors.ExchangeError.{ExchangeError}
use Rattle.rtp_media_exchange.specs.declared.errors.ExchangeError.TheVariants as exchange_error
use Rattle.rtp_media_program.specs.Replies.{memory}

abbrev pub exchange_error_name : ExchangeError → List ℕ
exchange_error_name (exchange_error.Unreadable error) = codes "Unreadable"
exchange_error_name exchange_error.OutOfTurn = codes "OutOfTurn"
exchange_error_name (exchange_error.NotMedia mid) = codes "NotMedia"
exchange_error_name exchange_error.NotCorresponding = codes "NotCorresponding"
exchange_error_name (exchange_error.Round error) = codes "Round"
exchange_error_name (exchange_error.NoCommonRow mid) = codes "NoCommonRow"
exchange_error_name exchange_error.NotWritable = codes "NotWritable"
exchange_error_name exchange_error.Memory = memory
