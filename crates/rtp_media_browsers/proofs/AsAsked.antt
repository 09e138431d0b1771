-- Sections as they are asked for.
use Rattle.std.proofs.Common.{◌≡◌, ◌∙◌, ◌<◌, ◌≤◌, ◌+◌, ◌||◌, ap, sym, refl, ℕ, zero, suc, Bool, true, false, not}
use Rattle.std.proofs.Common.{List, [], ◌∷◌, Option, None, Some, slice_get, drop, get_or, length, arith, add-one}
use Rattle.std.proofs.Math.Seq.{drop-cons}
use Rattle.std.specs.List.{list_any}
use Rattle.sdp_formats_data.specs.declared.media.MediaLine.{MediaLine}
use Rattle.sdp_formats_data.specs.declared.session.Sdp.{Sdp}
use Rattle.rtp_media_browsers.specs.Laws.{AllAccepted}
use Rattle.rtp_media_browsers.specs.Places.{is_accepted}
use Rattle.rtp_media_browsers.specs.Received.{all_as_asked, as_asked, asked_of, is_received}
use Rattle.rtp_media_browsers.specs.declared.request.SectionRequest.{SectionRequest}
use Rattle.rtp_media_browsers.specs.declared.request.SectionRequest.TheVariants.{Accept, Receive, Reject}
use Rattle.rtp_media_browsers.proofs.Named.{not_true}
use Rattle.rtp_media_browsers.proofs.Returning.{off}
use Rattle.rtp_media_browsers.proofs.WithTransport.{both_of}

pub asked_step : (requests : List SectionRequest) (n : ℕ) (ms : List MediaLine) (m : MediaLine)
    → n < length ms → m ≡ get_or ms n m
    → all_as_asked requests n (drop n ms)
    ≡ as_asked (slice_get requests n) m ∷ all_as_asked requests (n + 1) (drop (n + 1) ms)
asked_step requests n ms m within is =
    ap (all_as_asked requests n)
    (drop-cons ms n m within ∙ ap (λ (x : MediaLine). x ∷ drop (suc n) ms) (sym is))
    ∙ (λ i. as_asked (slice_get requests n) m ∷ all_as_asked requests (sym (add-one n) i)
    (drop (sym (add-one n) i) ms))

same_as_asked : (o : Option SectionRequest) (m : MediaLine) → is_received o ≡ false → as_asked o m ≡ m
same_as_asked None m h = refl
same_as_asked (Some (Accept direction ssrcs repairs)) m h = refl
same_as_asked (Some Receive) m h = not_true (sym h)
same_as_asked (Some Reject) m h = refl

pub all_same : (requests : List SectionRequest) (n : ℕ) (ms : List MediaLine)
    → ((k : ℕ) → n ≤ k → k < n + length ms → is_received (slice_get requests k) ≡ false)
    → all_as_asked requests n ms ≡ ms
all_same requests n [] none = refl
all_same requests n (m ∷ ms) none =
    λ i. same_as_asked (slice_get requests n) m (none n (omega arith) (omega arith)) i
    ∷ all_same requests (suc n) ms (λ k low high. none k (omega arith) (omega arith)) i

both_off : (a b : Bool) → (a || b) ≡ false → (a ≡ false) × (b ≡ false)
both_off true b h = not_true (sym h)
both_off false b h = (refl, h)

none_there : (ws : List SectionRequest) (n : ℕ) → list_any (λ w. is_received (Some w)) ws ≡ false
    → is_received (slice_get ws n) ≡ false
none_there [] n h = refl
none_there (w ∷ ws) zero h = (both_off (is_received (Some w)) (list_any (λ x. is_received (Some x)) ws) h).0
none_there (w ∷ ws) (suc n) h =
    none_there ws n (both_off (is_received (Some w)) (list_any (λ x. is_received (Some x)) ws) h).1

-- if none is only received in, all are as the offer has them
pub none_received : (requests : List SectionRequest) (ms : List MediaLine)
    → list_any (λ w. is_received (Some w)) requests ≡ false → all_as_asked requests 0 ms ≡ ms
none_received requests ms h = all_same requests 0 ms (λ k low high. none_there requests k h)

pub accepted_whole : (requests : List SectionRequest) (sdp : Sdp) → AllAccepted requests (length sdp.media_lines)
    → asked_of requests sdp ≡ sdp
accepted_whole requests sdp all =
    λ i. record sdp {
      media_lines = all_same requests 0 sdp.media_lines
          (λ k low high. off (is_received (slice_get requests k)) (both_of (is_accepted (slice_get requests k))
          (not (is_received (slice_get requests k))) (all k (omega (arith, high)))).1) i;
    }
