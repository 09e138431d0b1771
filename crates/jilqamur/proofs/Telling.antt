-- A line that is told.
use Rattle.std.proofs.Common.{◌≡◌, ℕ, List, Option, Some, IfSome, inr, refl, subst}
use Rattle.sdp_formats_faults.specs.Faults.{IsFaultyLine}
use Rattle.sdp_formats_faults.specs.declared.fault.FaultyLine.{FaultyLine}
use Rattle.jilqamur.specs.Copies.{IsCopied}
use Rattle.jilqamur.specs.FaultyLines.{TellsLine, line_fault}

pub told : (text said before buffer shown : List ℕ) (o : Option FaultyLine) (line : FaultyLine)
    (result needed fault : ℕ) → IfSome o (IsFaultyLine said) → o ≡ Some line → said ≡ text → shown ≡ line.text.now
    → IsCopied shown before result needed buffer → fault ≡ line_fault line.fault
    → TellsLine text before result needed line.number fault buffer
told text said before buffer shown o line result needed fault is found same bytes copied number = inr (record {
  told = line;
  is_faulty = subst (λ t. IsFaultyLine t line) same (subst (λ x. IfSome x (IsFaultyLine said)) found is);
  copied = subst (λ b. IsCopied b before result needed buffer) bytes copied;
  number_is = refl;
  fault_is = number;
})
