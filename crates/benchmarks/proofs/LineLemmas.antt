-- What a line counts of payloads that it took.
use Rattle.std.proofs.Common.{◌≡◌, ℕ, List, [], ◌∷◌, map, ◌∙◌, ap, refl}
use Rattle.benchmarks.specs.Tallies.{tally_with_all}
use Rattle.payload_core.specs.Outgoing.{Outgoing, TakesAll}
use Rattle.payload_core.specs.Packing.{Packing}
use Rattle.payload_core.specs.Sending.{outgoing_from}
use Rattle.rtp_wire.specs.declared.ExtensionValues.{ExtensionValues}
use Rattle.benchmarks.specs.Lines.{Takes}
use Rattle.benchmarks.specs.declared.line.Line.{Line}

abbrev pub payloads : List Outgoing → List (List ℕ)
payloads os = map (λ o. o.payload) os

-- each of them
pub tally-TakesAll : (old : Line) (os : List Outgoing) (new : Line) → TakesAll Takes old os new
    → new.tally ≡ tally_with_all old.tally (payloads os)
tally-TakesAll old [] new same = ap (λ (l : Line). l.tally) same
tally-TakesAll old (o ∷ os) new taken =
    tally-TakesAll taken.0 os new taken.2 ∙ ap (λ t. tally_with_all t (payloads os)) taken.1.counted

-- what goes out of packets has their bytes
pub payloads-outgoing_from : (packing : Packing) (ps : List (List ℕ)) (time : ℕ) (values : ExtensionValues)
    → payloads (outgoing_from packing ps time values) ≡ ps
payloads-outgoing_from packing [] time values = refl
payloads-outgoing_from packing (p ∷ ps) time values = ap (λ qs. p ∷ qs) (payloads-outgoing_from packing ps time values)
