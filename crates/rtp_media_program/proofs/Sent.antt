-- Bytes that come and go in several pieces.
use Rattle.std.proofs.Common.{◌≡◌, List, ℕ, ◌++◌, Option, take, sym, ◌∙◌, ap, subst, append_assoc, append-nil}
use Rattle.std.specs.Io.KnownBytes.{Consumes}
use Rattle.std.proofs.KnownBytes.{Appends-trans, Consumes-trans}
use Rattle.rtp_media_program.specs.Writes.{LeavesRest}

-- two writes, one after the other
pub LeavesRest-trans : (a b c : Option (List ℕ)) (bytes mid rest : List ℕ) → LeavesRest a b bytes mid
    → LeavesRest b c mid rest → LeavesRest a c bytes rest
LeavesRest-trans a b c bytes mid rest first second = (
  first.0 ++ second.0,
  first.1 ∙ ap (λ l. first.0 ++ l) second.1 ∙ sym (append_assoc first.0 second.0 rest),
  Appends-trans a b c first.0 second.0 first.2 second.2,
)

-- a read that gave no byte
pub Consumes-none : (a b c : Option (List ℕ)) (seen piece : List ℕ) (count : ℕ) → count ≡ 0 → Consumes a b seen
    → Consumes b c (take count piece) → Consumes a c seen
Consumes-none a b c seen piece count none first second =
    let all = Consumes-trans a b c seen (take count piece) first second in
    subst (Consumes a c) (ap (λ n. seen ++ take n piece) none ∙ append-nil seen) all
