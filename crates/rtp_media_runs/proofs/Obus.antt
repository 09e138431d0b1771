-- Kept units of AV1 that are sent again.
use Rattle.std.proofs.Common.{◌≡◌, ℕ, ◌<◌, Bool, true, false, List, [], ◌∷◌, ◌++◌, length, map, refl, ap}
use Rattle.std.proofs.Common.{◌∙◌, arith, Option, Some, None}
use Rattle.std.specs.Prelude.{filter, nat_lt, option_map, if◌then◌else◌}
use Rattle.std.specs.List.{flat_map}
use Rattle.payload_core_base.specs.Law.{joined}
use Rattle.payload_core_base.specs.Packing.{Sender}
use Rattle.payload_core_av1.specs.Av1Coding.{IsSample, av1_coding, av1_units, unit_of}
use Rattle.payload_core_av1.specs.Obus.{Obu, is_kept, with_its_size}
use Rattle.payload_core_av1.specs.Samples.{KeptOnce, SampleLaw, kept_of, kept_text, obus_of}
use Rattle.rtp_media_runs.specs.Again.{AnySample, ComesAgain, GivesAgain, IsSame}
use Rattle.rtp_media_runs.proofs.Whole.{from-one, none-sent, one-sent}

joined-map : (os : List Obu) → joined (map with_its_size os) ≡ flat_map with_its_size os
joined-map [] = refl
joined-map (o ∷ os) = ap (λ t. with_its_size o ++ t) (joined-map os)

-- the text of some units has a byte
some-byte : (o : Obu) (os : List Obu) → 0 < length (flat_map with_its_size (o ∷ os))
some-byte o os = omega arith

-- units that are all of a text make a sample of it
text-is-sample : SampleLaw → (y : List ℕ) (q : Option (List Obu)) → obus_of y ≡ q → 0 < length y
    → option_map (λ os. flat_map with_its_size os) (option_map (λ os. filter is_kept os) q) ≡ Some y → IsSample y
text-is-sample law y None e some is = absurd (cc)
text-is-sample law y (Some os) e some is = (some, (os, (law y os).1 e))

-- a text that is all kept is its own unit
own-unit : (y : List ℕ) (q : Option (List Obu)) → 0 < length y → option_map (λ os. flat_map with_its_size os) q
    ≡ Some y → map joined (unit_of q) ≡ y ∷ []
own-unit y None some is = absurd (cc)
own-unit y (Some []) some is = let none : [] ≡ y = cc in absurd (omega (arith, ap length none))
own-unit y (Some (o ∷ os)) some is =
    let same : flat_map with_its_size (o ∷ os) ≡ y = cc in ap (λ t. t ∷ []) (joined-map (o ∷ os) ∙ same)

module _ (law : SampleLaw) (once : KeptOnce) (s : Sender) (limit : ℕ) (x : List ℕ) where
  kept-again : (q : Option (List Obu)) → kept_of x ≡ q → nat_lt limit 2 ≡ false
      → ComesAgain av1_coding IsSame limit s s x
  kept-again None e room =
      none-sent av1_coding s limit x
      (ap (λ (b : Bool). if b then [] else unit_of (kept_of x)) room ∙ ap unit_of e) refl
  kept-again (Some []) e room =
      none-sent av1_coding s limit x
      (ap (λ (b : Bool). if b then [] else unit_of (kept_of x)) room ∙ ap unit_of e) refl
  kept-again (Some (o ∷ os)) e room =
      let y : List ℕ = flat_map with_its_size (o ∷ os) in
      let text : kept_text x ≡ Some y = ap (λ q. option_map (λ os. flat_map with_its_size os) q) e in
      let own : kept_text y ≡ Some y = once x y text in
      let some : 0 < length y = some-byte o os in
      let sends : (z : List ℕ) → av1_units s limit z ≡ unit_of (kept_of z) =
      λ z. ap (λ (b : Bool). if b then [] else unit_of (kept_of z)) room in
      one-sent av1_coding s limit x y
      (ap (λ us. map joined us) (sends x ∙ ap unit_of e) ∙ ap (λ t. t ∷ []) (joined-map (o ∷ os)))
      (text-is-sample law y (obus_of y) refl some own)
      (ap (λ us. map joined us) (sends y) ∙ own-unit y (kept_of y) some own) refl

  by-limit : (b : Bool) → nat_lt limit 2 ≡ b → ComesAgain av1_coding IsSame limit s s x
  by-limit true e = none-sent av1_coding s limit x (ap (λ (b : Bool). if b then [] else unit_of (kept_of x)) e) refl
  by-limit false e = kept-again (kept_of x) refl e

pub av1-again : SampleLaw → KeptOnce → GivesAgain av1_coding IsSame AnySample
av1-again law once = from-one av1_coding AnySample
    (λ s limit x good. by-limit law once s limit x (nat_lt limit 2) refl)
