-- The tiers of H.265 and H.266, and their flags in session texts (RFC 7798 7.1, RFC 9328 7.2).
use Rattle.std.specs.Prelude.{ℕ, List, [], ◌∷◌}
use Rattle.media_types.specs.declared.tier.Tier.{Tier}
use Rattle.media_types.specs.declared.tier.Tier.TheVariants.{Main, High}

abbrev pub tiers : List Tier
tiers = Main ∷ High ∷ []

abbrev pub tier_flag : Tier → ℕ
tier_flag Main = 0
tier_flag High = 1
