use Rattle.payload_core_av1.proofs.PacketsLaw.{header_law, packets_law, prefix_law, refused_law}
use Rattle.payload_core_av1.proofs.SampleLemmas.{sample_law}
use Rattle.payload_core_av1.proofs.laws.av1_packets_law.Goals as goal

pub returns : goal.returns
returns c = record {
  sample = sample_law;
  packets = packets_law;
  refused = refused_law;
  header = header_law;
  prefix =
      prefix_law;
}
