-- Whether a text says a value.
use Rattle.std.proofs.Common.{◌≡◌, ◌↔◌, ℕ, Bool, true, false, IsTrue, List, [], subst, sym}
use Rattle.sdp_formats_data.specs.declared.session.Sdp.{Sdp}
use Rattle.sdp_formats_reader.specs.ReaderErrors.{SaysNothing}
use Rattle.rtp_media_browsers.specs.Reading.{LeavesRest, SaysWhole}

pub said_iff : (text : List ℕ) (said sdp : Sdp) (b : Bool) → SaysWhole text said → (IsTrue b ↔ (said ≡ sdp))
    → IsTrue b ↔ SaysWhole text sdp
said_iff text said sdp b whole same = (
  λ t. subst (SaysWhole text) (same.0 t) whole,
  λ other. same.1 (sym (whole.1 sdp [] other.0).0),
)

not_true : {A : Type 0} → false ≡ true → A
not_true h = cc

pub nothing_said : (text : List ℕ) (sdp : Sdp) → SaysNothing text → IsTrue false ↔ SaysWhole text sdp
nothing_said text sdp nothing = (λ t. not_true t, λ other. absurd (nothing sdp [] other.0))

pub rest_said : (text : List ℕ) (sdp : Sdp) → LeavesRest text → IsTrue false ↔ SaysWhole text sdp
rest_said text sdp leaves = (λ t. not_true t, λ other. absurd (leaves.1.2 (other.1 leaves.0 leaves.1.0 leaves.1.1).1))
