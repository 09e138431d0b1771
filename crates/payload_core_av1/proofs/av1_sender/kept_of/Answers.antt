use Rattle.std.proofs.Common.{ℕ, ◌++◌, Bool, List, ap, ◌∙◌}
use Rattle.std.specs.Prelude.{◌||◌, option_map}
use Rattle.payload_core_av1.specs.Av1Packing.{texts_of}
use Rattle.payload_core_av1.specs.Obus.{Obu, ObuCut, obu_cut}
use Rattle.payload_core_av1.specs.Samples.{begins_sequence, kept_of}
use Rattle.payload_core_av1.proofs.SampleLemmas.{begins-go, texts-go}
use Rattle.payload_core_av1.proofs.av1_sender.kept_of.Goals as goal

pub loop-rest-preserved : goal.loop-rest-preserved
loop-rest-preserved c =
    let inv = c.loop-rest.invariant in
    let rest : List ℕ = c.loop-rest.rest.now in
    let cut : ObuCut = obu_cut c.in-Some.obu.header c.in-Some.obu.extension c.in-Some.obu.payload.now
    c.in-Some.behind.now in
    let before : List (List ℕ) = c.loop-rest.kept.texts.items in
    record {
      texts = ap (λ (ts : List (List ℕ)). option_map (λ (os : List Obu). ts ++ texts_of os) (kept_of cut.rest))
          c.in_ok-keep.ensures.texts ∙ texts-go rest cut before c.in-Some.ensures.value ∙ inv.texts;
      begins = ap (λ (b : Bool). option_map (λ (os : List Obu). b || begins_sequence os) (kept_of cut.rest))
          c.in_ok-keep.ensures.begins ∙ begins-go rest cut c.loop-rest.kept.begins c.in-Some.ensures.value ∙ inv.begins;
    }
