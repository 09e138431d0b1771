use Rattle.std.proofs.Common.{◌≡◌, drop}
use Rattle.std.specs.Prelude.{fold}
use Rattle.std.specs.Option.{option_copied}
use Rattle.sdp_formats_data.specs.Preference.{better, best_of}
use Rattle.sdp_formats_data.specs.Sections.{fingerprint_in}
use Rattle.sdp_formats_data.proofs.section_lookups.best_fingerprint.Given as goal

-- the best so far, and then the rest, is the best of all
abbrev pub invariant-loop-attribute : goal.invariant-loop-attribute
invariant-loop-attribute l =
    fold (better fingerprint_in) (option_copied l.best) (drop l.attribute-index l.attributes)
    ≡ best_of fingerprint_in l.attributes
