-- Units that are sent again as samples.
use Rattle.std.proofs.Common.{◌≡◌, ℕ, List, [], ◌∷◌, ◌++◌, map, refl, sym, ap, ap₂, subst, ◌∙◌}
use Rattle.payload_core_base.specs.Law.{Coding, joined}
use Rattle.payload_core_base.specs.Packing.{Sender}
use Rattle.rtp_wire.specs.Values.{Numbering}
use Rattle.rtp_wire.specs.declared.values.ExtensionValues.{ExtensionValues}
use Rattle.rtp_media_schedules.specs.SentSamples.{Timed, timed}
use Rattle.rtp_media_schedules.specs.Samples.{AreWellFormed}
use Rattle.rtp_media_runs.specs.Units.{units_by}
use Rattle.rtp_media_runs.specs.Again.{AreSentWhole, ComesAgain, GivesAgain, IsKeptBy, Relation, unit_bytes}
use Rattle.rtp_media_runs.specs.Hops.{carried_again}

-- what is so of each time with its values
abbrev pub EachTimed : (ℕ → ExtensionValues → Type 0) → List Timed → Type 0
EachTimed P [] = Unit {0}
EachTimed P (x ∷ xs) = P x.time x.values × EachTimed P xs

each-behind : (P : ℕ → ExtensionValues → Type 0) (xs ys : List Timed) → EachTimed P xs → EachTimed P ys
    → EachTimed P (xs ++ ys)
each-behind P [] ys all others = others
each-behind P (x ∷ xs) ys all others = (all.0, each-behind P xs ys all.1 others)

each-part : (P : ℕ → ExtensionValues → Type 0) (time : ℕ) (values : ExtensionValues) (us : List (List (List ℕ)))
    → P time values → EachTimed P (map (λ parts. timed time values (joined parts)) us)
each-part P time values [] is = tt
each-part P time values (u ∷ us) is = (is, each-part P time values us is)

-- it is so of the units
pub each-unit : (P : ℕ → ExtensionValues → Type 0) (coding : Coding) (limit : ℕ) (s : Sender) (xs : List Timed)
    → EachTimed P xs → EachTimed P (units_by coding limit s xs)
each-unit P coding limit s [] all = tt
each-unit P coding limit s (x ∷ xs) all =
    each-behind P (map (λ parts. timed x.time x.values (joined parts)) (coding.units s limit x.bytes))
    (units_by coding limit (coding.after s limit x.bytes) xs)
    (each-part P x.time x.values (coding.units s limit x.bytes) all.0)
    (each-unit P coding limit (coding.after s limit x.bytes) xs all.1)

map-behind : (m : Numbering) (xs ys : List Timed) → map (carried_again m) (xs ++ ys)
    ≡ map (carried_again m) xs ++ map (carried_again m) ys
map-behind m [] ys = refl
map-behind m (x ∷ xs) ys = ap (λ (ts : List Timed). carried_again m x ∷ ts) (map-behind m xs ys)

carried-parts : (m : Numbering) (x : Timed) (us : List (List (List ℕ)))
    → map (λ parts. timed (carried_again m x).time (carried_again m x).values (joined parts)) us
    ≡ map (carried_again m) (map (λ parts. timed x.time x.values (joined parts)) us)
carried-parts m x [] = refl
carried-parts m x (u ∷ us) =
    ap (λ (ts : List Timed). carried_again m (timed x.time x.values (joined u)) ∷ ts) (carried-parts m x us)

-- units of samples whose values are carried again
pub units-carried : (coding : Coding) (limit : ℕ) (s : Sender) (m : Numbering) (xs : List Timed)
    → units_by coding limit s (map (carried_again m) xs) ≡ map (carried_again m) (units_by coding limit s xs)
units-carried coding limit s m [] = refl
units-carried coding limit s m (x ∷ xs) =
    ap₂ (λ (us vs : List Timed). us ++ vs) (carried-parts m x (coding.units s limit x.bytes))
    (units-carried coding limit (coding.after s limit x.bytes) m xs)
    ∙ sym (map-behind m (map (λ parts. timed x.time x.values (joined parts)) (coding.units s limit x.bytes))
    (units_by coding limit (coding.after s limit x.bytes) xs))

pub well-formed-carried : (coding : Coding) (limit : ℕ) (m : Numbering) (xs : List Timed)
    → AreWellFormed coding limit xs → AreWellFormed coding limit (map (carried_again m) xs)
well-formed-carried coding limit m [] good = tt
well-formed-carried coding limit m (x ∷ xs) good = (good.0, well-formed-carried coding limit m xs good.1)

parts-bytes : (time : ℕ) (values : ExtensionValues) (us : List (List (List ℕ)))
    → map (λ parts. timed time values (joined parts)) us ≡ map (timed time values) (map joined us)
parts-bytes time values [] = refl
parts-bytes time values (u ∷ us) = ap (λ (ts : List Timed). timed time values (joined u) ∷ ts)
    (parts-bytes time values us)

-- each sample is kept
abbrev pub EachKept : IsKeptBy → ℕ → List Timed → Type 0
EachKept IsKept limit [] = Unit {0}
EachKept IsKept limit (x ∷ xs) = IsKept limit x.bytes × EachKept IsKept limit xs

-- these are their own units from a state on, and each is well-formed
pub record AreOwnUnits (coding : Coding) (limit : ℕ) (s : Sender) (xs : List Timed) : Type 0 where
  pub good : AreWellFormed coding limit xs
  pub own : units_by coding limit s xs ≡ xs

module _ (coding : Coding) (limit time : ℕ) (values : ExtensionValues) where
  sent-behind : (t after : Sender) (us : List (List ℕ)) (rest : List Timed) → AreSentWhole coding limit t us after
      → AreOwnUnits coding limit after rest → AreOwnUnits coding limit t (map (timed time values) us ++ rest)
  sent-behind t after [] rest whole others = subst (λ (s : Sender). AreOwnUnits coding limit s rest) whole others
  sent-behind t after (u ∷ us) rest whole others =
      let next : Sender = coding.after t limit u in
      let more : AreOwnUnits coding limit next (map (timed time values) us ++ rest) =
      sent-behind next after us rest whole.2 others in
      record {
        good = (whole.0, more.good);
        own =
            ap₂ (λ (as' bs : List Timed). as' ++ bs)
            (parts-bytes time values (coding.units t limit u) ∙ ap (map (timed time values)) whole.1) more.own;
      }

-- the units of kept samples are their own units at a second packetizer
pub own-units : (coding : Coding) (Follows : Relation) (IsKept : IsKeptBy) → GivesAgain coding Follows IsKept
    → (limit : ℕ) (xs : List Timed) (s t : Sender) → Follows s t → AreWellFormed coding limit xs
    → EachKept IsKept limit xs → AreOwnUnits coding limit t (units_by coding limit s xs)
own-units coding Follows IsKept gives limit [] s t follows good kept = record { good = tt; own = refl }
own-units coding Follows IsKept gives limit (x ∷ xs) s t follows good kept =
    let comes : ComesAgain coding Follows limit s t x.bytes = gives s t limit x.bytes follows good.0 kept.0 in
    let rest : List Timed = units_by coding limit (coding.after s limit x.bytes) xs in
    subst (λ (us : List Timed). AreOwnUnits coding limit t (us ++ rest))
    (sym (parts-bytes x.time x.values (coding.units s limit x.bytes)))
    (sent-behind coding limit x.time x.values t comes.after (unit_bytes coding s limit x.bytes) rest comes.whole
    (own-units coding Follows IsKept gives limit xs (coding.after s limit x.bytes) comes.after comes.follows good.1
    kept.1))
