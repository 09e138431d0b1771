-- How the sender's code stores the held-back parameter sets and those sent together, and the form in which it sends.
use Rattle.std.specs.Prelude.{ℕ, Bool, List, ◌∷◌, ◌++◌, [], Option, None, Some, option_map}
use Rattle.h26x_payload_units.specs.Aggregates.{sized}
use Rattle.h26x_payload_units.specs.Departures.{Rules, Waiting, sets_in}
use Rattle.h26x_payload_units.specs.declared.layout.Layout.{Layout}
use Rattle.h26x_payload_formats.specs.declared.sender.Kept.{Kept}
use Rattle.h26x_payload_units.specs.Numbers.{Numbered, dond_bytes}
use Rattle.h26x_payload_formats.specs.declared.packets.Form.{Form}
use Rattle.h26x_payload_formats.specs.Packing.{h265_h266_rules, packets_of}

abbrev pub waiting_in : Kept → Waiting
waiting_in kept = option_map (λ s. s.now) kept.vps ∷ option_map (λ s. s.now) kept.sps
    ∷ option_map (λ s. s.now) kept.pps ∷ []

-- A VPS, if one waits, then an SPS and a PPS.
abbrev pub joining : Option (List ℕ) → List ℕ → List ℕ → List (List ℕ)
joining vps sps pps = sets_in (vps ∷ Some sps ∷ Some pps ∷ [])

-- What precedes an SPS if there is a VPS: the VPS with its size, and DOND if it is sent.
abbrev pub sized_before : Layout → Bool → Option (List ℕ) → List ℕ
sized_before l donl None = []
sized_before l donl (Some set) = sized set ++ dond_bytes l donl

-- The rules by which units are sent in this form, and the packets of what leaves.
abbrev pub rules_in : Form → Rules
rules_in form = h265_h266_rules form.layout form.donl

abbrev pub packets_in : Form → Numbered → List (List ℕ)
packets_in form = packets_of form.layout form.donl form.limit
