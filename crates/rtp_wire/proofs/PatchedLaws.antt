-- Bytes written twice.
use Rattle.std.proofs.Common.{◌≡◌, ℕ, refl, sym, ap, ◌∙◌, arith, List, ◌++◌, length, drop, append_assoc}
use Rattle.std.proofs.Common.{length-append}
use Rattle.std.proofs.lemmas.List.{drop_at}
use Rattle.rtp_wire.specs.Written.{IsWritten}

-- what is in front is written over what is there now
pub front-written : (front behind before bytes : List ℕ) → IsWritten (front ++ behind) before bytes
    → IsWritten front bytes bytes
front-written front behind before bytes w =
    let back = drop (length (front ++ behind)) before in
    let whole : bytes ≡ front ++ (behind ++ back) = w.is ∙ append_assoc front behind back in
    record {
      is = whole ∙ ap (λ (ys : List ℕ). front ++ ys)
          (sym (ap (drop (length front)) whole ∙ drop_at front (behind ++ back) (length front) refl));
      fits = omega (arith, ap length whole, length-append front (behind ++ back));
    }

-- a part is written again, as long as before
pub patched : (front old new behind before bytes last : List ℕ) → length old ≡ length new
    → IsWritten ((front ++ old) ++ behind) before bytes → IsWritten (front ++ new) bytes last
    → IsWritten ((front ++ new) ++ behind) before last
patched front old new behind before bytes last same w again =
    let back = drop (length ((front ++ old) ++ behind)) before in
    let first : length (front ++ old) ≡ length (front ++ new) =
    omega (arith, length-append front old, length-append front new, same) in
    let all : length ((front ++ old) ++ behind) ≡ length ((front ++ new) ++ behind) =
    omega (arith, length-append (front ++ old) behind, length-append (front ++ new) behind, first) in
    let rest : drop (length (front ++ new)) bytes ≡ behind ++ back =
    ap (drop (length (front ++ new))) (w.is ∙ append_assoc (front ++ old) behind back)
    ∙ drop_at (front ++ old) (behind ++ back) (length (front ++ new)) first in
    record {
      is = again.is ∙ ap (λ (ys : List ℕ). (front ++ new) ++ ys) rest
          ∙ sym (append_assoc (front ++ new) behind back)
          ∙ ap (λ (n : ℕ). ((front ++ new) ++ behind) ++ drop n before) all;
      fits = omega (arith, w.fits, all);
    }
