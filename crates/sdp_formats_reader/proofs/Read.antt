-- What the reader below answers, told as this one's answer.
use Rattle.std.proofs.Common.{ℕ, List, Ok, Err, Bor}
use Rattle.sdp_formats_grammar.specs.declared.refusal.Refusal.TheVariants.{Unfit}
use Rattle.sdp_formats_reader.specs.Grammar.{ReadsSdp, ReadsSession, SessionSays}
use Rattle.sdp_formats_data.specs.declared.session.Sdp.{Sdp}
use Rattle.sdp_formats_data.specs.declared.session.Session.{Session}
use Rattle.sdp_formats_reader.specs.ReaderErrors.{ParsesSdp, ParsesSession, SaysNothing}

pub read : (t : List ℕ) (r : Sdp × Bor (List ℕ)) → ReadsSdp t (Ok r) → ParsesSdp t (Ok r)
unfolding ReadsSdp
read t r h = h

pub unread : (t : List ℕ) → ReadsSdp t (Err Unfit) → SaysNothing t
unfolding ReadsSdp
unread t h = h

pub session-read : (t : List ℕ) (r : Session × Bor (List ℕ)) → ReadsSession t (Ok r) → ParsesSession t (Ok r)
unfolding ReadsSession
session-read t r h = h

pub session-unread : (t : List ℕ) → ReadsSession t (Err Unfit) → (session : Session) (rest : List ℕ)
    → SessionSays t session rest → ⊥
unfolding ReadsSession
session-unread t h = h
