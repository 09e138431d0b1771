use Rattle.std.proofs.Common.{◌≡◌, ◌++◌, length}
use Rattle.std.specs.Prelude.{◌||◌, option_map}
use Rattle.payload_core_av1.specs.Av1Packing.{texts_of}
use Rattle.payload_core_av1.specs.Samples.{begins_sequence, kept_of}
use Rattle.payload_core_av1.proofs.av1_sender.kept_of.Given as goal

-- the units so far, and those that are left
abbrev pub invariant-loop-rest : goal.invariant-loop-rest
invariant-loop-rest l = record {
  texts : option_map (λ os. l.kept.texts.items ++ texts_of os) (kept_of l.rest)
      ≡ option_map texts_of (kept_of l.sample);
  begins : option_map (λ os. l.kept.begins || begins_sequence os) (kept_of l.rest)
      ≡ option_map begins_sequence (kept_of l.sample);
}

abbrev pub decreases-loop-rest : goal.decreases-loop-rest
decreases-loop-rest l = length l.rest
