-- How the sender's code stores the held-back parameter sets.
use Rattle.std.specs.Prelude.{◌∷◌, [], option_map}
use Rattle.h26x_payload_units.specs.Departures.{Waiting}
use Rattle.h26x_payload_formats.specs.declared.h264_sender.WaitingSets.{WaitingSets}

abbrev pub waiting_in : WaitingSets → Waiting
waiting_in sets = option_map (λ s. s.now) sets.sps ∷ option_map (λ s. s.now) sets.pps ∷ []
