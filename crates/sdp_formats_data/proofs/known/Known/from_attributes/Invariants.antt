use Rattle.std.proofs.Common.{◌≡◌, ℕ, drop}
use Rattle.sdp_formats_data.specs.KnownSources.{info_with}
use Rattle.sdp_formats_data.specs.Sources.{info_of}
use Rattle.sdp_formats_data.proofs.known.Known.from_attributes.Given as goal

-- what is known so far, with the attributes that are left
abbrev pub invariant-loop-attribute : goal.invariant-loop-attribute
invariant-loop-attribute l =
    (source : ℕ) → info_with l.known (drop l.attribute-index l.attributes) source ≡ info_of l.attributes source
