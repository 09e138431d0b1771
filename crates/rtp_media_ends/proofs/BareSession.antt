-- A session with neither attributes nor bandwidth can be written, so that it is no reason to refuse an end.
use Rattle.std.proofs.Common.{◌≡◌, ℕ, List, Some, inl, inr, arith}
use Rattle.rtp_media_exchange.specs.Exchanges.{bare_session}
use Rattle.rtp_media_exchange.specs.Refusals.{RefusesNew, refusal_of_new}
use Rattle.rtp_media_exchange.specs.declared.EndError.{EndError}
use Rattle.rtp_wire.specs.Values.{Numbering}
use Rattle.sdp_formats_rows.specs.Rows.{Row}
use Rattle.sdp_formats_reader.specs.Writable.{IsWritableSession}

bare_writable : (id : ℕ) → IsWritableSession (bare_session id)
bare_writable id = (tt, λ k d h. absurd (omega (arith, h)))

pub refused_bare : (rows : List Row) (id : ℕ) (exts : Numbering) (e : EndError)
    → RefusesNew rows (bare_session id) exts e → refusal_of_new rows exts ≡ Some e
refused_bare rows id exts e (inl why) = why
refused_bare rows id exts e (inr why) = absurd (why.2 (bare_writable id))
