-- Streams that are sent on once more.
use Rattle.std.proofs.Common.{◌≡◌, ℕ, refl, ◌∙◌, ap, ap₂, arith, List, [], ◌∷◌, ◌++◌}
use Rattle.std.proofs.Common.{map}
use Rattle.payload_core_base.specs.Format.{Format}
use Rattle.rtp_wire.specs.declared.values.ExtensionValues.{ExtensionValues}
use Rattle.rtp_media_schedules.specs.Samples.{AreSentAs, SentSample, packets_of}
use Rattle.rtp_media_forward.specs.Chains.{Link, moved, over_links, shift_over, values_over}
use Rattle.rtp_media_forward.specs.Forwarding.{shifted}
use Rattle.rtp_media_forward.specs.Relayed.{Part, relayed, relayed_sample, relayed_samples}
use Rattle.rtp_media_forward.proofs.Relayed.{same-packets, same-read}

shift-twice : (a b time : ℕ) → shifted b (shifted a time) ≡ shifted (shifted b a) time
shift-twice a b time = omega arith

map-on : {A B : Type 0} (f : A → B) (xs ys : List A) → map f (xs ++ ys) ≡ map f xs ++ map f ys
map-on f [] ys = refl
map-on {B = B} f (x ∷ xs) ys = ap (λ (zs : List B). f x ∷ zs) (map-on f xs ys)

abbrev sample_at : (ExtensionValues → ExtensionValues) → SentSample → ℕ → SentSample
sample_at values x time = record { time = time; values = values x.values; packets = x.packets; units = x.units }

relay-twice : (own values : ExtensionValues → ExtensionValues) (a b : ℕ) (xs : List SentSample)
    → map (relayed_sample own b) (map (relayed_sample values a) xs)
    ≡ map (relayed_sample (λ v. own (values v)) (shifted b a)) xs
relay-twice own values a b [] = refl
relay-twice own values a b (x ∷ xs) =
    ap₂ (λ (t : ℕ) (ys : List SentSample). sample_at (λ v. own (values v)) x t ∷ ys) (shift-twice a b x.time)
    (relay-twice own values a b xs)

-- relayed samples that are sent on are the parts' samples, with other shifts and values
pub again : (own values : ExtensionValues → ExtensionValues) (shift : ℕ) (parts : List Part)
    → map (relayed_sample own shift) (relayed values parts)
    ≡ relayed (λ v. own (values v)) (map (moved shift) parts)
again own values shift [] = refl
again own values shift (p ∷ ps) =
    map-on (relayed_sample own shift) (relayed_samples values p) (relayed values ps)
    ∙ ap₂ (λ (xs ys : List SentSample). xs ++ ys) (relay-twice own values p.shift shift p.samples)
    (again own values shift ps)

-- a shift of nothing
same-samples : (values : ExtensionValues → ExtensionValues) (a : ℕ) (xs : List SentSample)
    → map (relayed_sample values a) xs ≡ map (relayed_sample values (shifted 0 a)) xs
same-samples values a [] = refl
same-samples values a (x ∷ xs) =
    let e : shifted a x.time ≡ shifted (shifted 0 a) x.time = omega arith in
    ap₂ (λ (t : ℕ) (ys : List SentSample). sample_at values x t ∷ ys) e (same-samples values a xs)

unmoved : (values : ExtensionValues → ExtensionValues) (parts : List Part)
    → relayed values parts ≡ relayed values (map (moved 0) parts)
unmoved values [] = refl
unmoved values (p ∷ ps) =
    ap₂ (λ (xs ys : List SentSample). xs ++ ys) (same-samples values p.shift p.samples) (unmoved values ps)

moved-twice : (a b : ℕ) (parts : List Part) → map (moved b) (map (moved a) parts) ≡ map (moved (shifted b a)) parts
moved-twice a b [] = refl
moved-twice a b (p ∷ ps) =
    ap₂ (λ (n : ℕ) (qs : List Part). record p { shift = n } ∷ qs) (shift-twice a b p.shift) (moved-twice a b ps)

pub all-links : (links : List Link) (values : ExtensionValues → ExtensionValues) (parts : List Part)
    → over_links links (relayed values parts)
    ≡ relayed (λ v. values_over links (values v)) (map (moved (shift_over links)) parts)
all-links [] values parts = unmoved values parts
all-links (l ∷ ls) values parts =
    ap (over_links ls) (again l.values values l.shift parts)
    ∙ all-links ls (λ v. l.values (values v)) (map (moved l.shift) parts)
    ∙ ap (relayed (λ v. values_over ls (l.values (values v)))) (moved-twice l.shift (shift_over ls) parts)

pub links-read : (format : Format) (links : List Link) (xs : List SentSample) → AreSentAs format xs
    → AreSentAs format (over_links links xs)
links-read format [] xs are = are
links-read format (l ∷ ls) xs are =
    links-read format ls (map (relayed_sample l.values l.shift) xs) (same-read format l.values l.shift xs are)

pub links-packets : (links : List Link) (xs : List SentSample) → packets_of (over_links links xs) ≡ packets_of xs
links-packets [] xs = refl
links-packets (l ∷ ls) xs =
    links-packets ls (map (relayed_sample l.values l.shift) xs) ∙ same-packets l.values l.shift xs
