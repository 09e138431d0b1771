-- Units of a codec after start codes, which a second sender sends as they are.
use Rattle.std.proofs.Common.{◌≡◌, ℕ, zero, false, List, [], ◌∷◌, ◌++◌, map, refl, sym, ap, ap₂, subst, ◌∙◌}
use Rattle.h26x_payload_units.specs.Cut.{AreUnits, text_of}
use Rattle.h26x_payload_units.specs.Units.{ComesBack, UnitsLaw, units_of}
use Rattle.h26x_payload_units.specs.Departures.{EachUnit, Rules, Waiting, are_ready, emptied, sets_in, units_sent}
use Rattle.h26x_payload_units.specs.Departures.{waiting_after}
use Rattle.h26x_payload_units.specs.Fragments.{behind_code}
use Rattle.payload_core_base.specs.Law.{Coding, joined}
use Rattle.payload_core_base.specs.Packing.{Sender}
use Rattle.rtp_media_runs.specs.Again.{AreSentWhole, ComesAgain, unit_bytes}
use Rattle.rtp_media_runs.specs.Kept.{AreInPlace, AreKept, HasNone, IsSoundSet}
use Rattle.rtp_media_runs.proofs.Sets.{AreSame, each-sent, each-waiting, in-place-after, same-again}

-- the text of units, unless there are none
abbrev pub texts : List (List ℕ) → List (List ℕ)
texts [] = []
texts (u ∷ us) = text_of (u ∷ us) ∷ []

pub joined-codes : (us : List (List ℕ)) → joined (map behind_code us) ≡ text_of us
joined-codes [] = refl
joined-codes (u ∷ us) = ap (λ t. behind_code u ++ t) (joined-codes us)

-- what the codec has to be, for this
pub record IsByRules (coding : Coding) (rules : Rules) (IsSendable : List ℕ → Type 0) (limit_of : ℕ → ℕ) : Type 0 where
  pub bytes : (s : Sender) (limit : ℕ) (x : List ℕ)
      → unit_bytes coding s limit x ≡ texts (units_sent rules (limit_of limit) s.waiting (units_of x))
  pub waits : (s : Sender) (limit : ℕ) (x : List ℕ)
      → (coding.after s limit x).waiting ≡ waiting_after rules s.waiting (units_of x)
  pub sendable : (limit : ℕ) (x : List ℕ) → coding.IsWellFormed limit x → EachUnit IsSendable (units_of x)
  pub good : (limit : ℕ) (x : List ℕ) → EachUnit IsSendable (units_of x) → coding.IsWellFormed limit x
  pub none_ready : (ws : Waiting) → are_ready rules.needed (emptied ws) ≡ false

module _ (rules : Rules) (IsSendable : List ℕ → Type 0) (limit : ℕ) where
  -- units of a text that can be sent and are kept
  sound-units : (us : List (List ℕ)) → AreUnits us → EachUnit IsSendable us → AreKept rules limit us
      → EachUnit (IsSoundSet IsSendable) us
  sound-units [] are can kept = tt
  sound-units (u ∷ []) are can kept = (record { unit = are; sendable = can.0; end = kept.0.end }, tt)
  sound-units (u ∷ v ∷ us) are can kept = (
    record { unit = are.0.0; sendable = can.0; end = kept.0.end },
    sound-units (v ∷ us) are.1 can.1 kept.1,
  )

are-units : (IsSendable : List ℕ → Type 0) (us : List (List ℕ)) → EachUnit (IsSoundSet IsSendable) us → AreUnits us
are-units IsSendable [] all = tt
are-units IsSendable (u ∷ []) all = all.0.unit
are-units IsSendable (u ∷ v ∷ us) all = ((all.0.unit, all.0.end), are-units IsSendable (v ∷ us) all.1)

are-sendable : (IsSendable : List ℕ → Type 0) (us : List (List ℕ)) → EachUnit (IsSoundSet IsSendable) us
    → EachUnit IsSendable us
are-sendable IsSendable [] all = tt
are-sendable IsSendable (u ∷ us) all = (all.0.sendable, are-sendable IsSendable us all.1)

module _ (units_law : UnitsLaw) (back : ComesBack) (coding : Coding) (rules : Rules) (IsSendable : List ℕ → Type 0)
    (limit_of : ℕ → ℕ) (by : IsByRules coding rules IsSendable limit_of) (s t : Sender) (limit : ℕ) (x : List ℕ)
    (follows : HasNone rules IsSendable s t) (good : coding.IsWellFormed limit x)
    (kept : AreKept rules (limit_of limit) (units_of x)) where
  all-sound : EachUnit (IsSoundSet IsSendable) (units_of x)
  all-sound = sound-units rules IsSendable (limit_of limit) (units_of x) (units_law x) (by.sendable limit x good) kept

  -- the sets that wait after, if the second sender has none
  none-behind : (after : Sender) → after.waiting ≡ emptied (waiting_after rules s.waiting (units_of x))
      → HasNone rules IsSendable (coding.after s limit x) after
  none-behind after none =
      let waits : waiting_after rules s.waiting (units_of x) ≡ (coding.after s limit x).waiting =
      sym (by.waits s limit x) in
      record {
        in_place =
            subst (AreInPlace rules zero) waits (in-place-after rules (limit_of limit) s.waiting (units_of x)
            follows.in_place);
        sound =
            subst (λ (ws : Waiting). EachUnit (IsSoundSet IsSendable) (sets_in ws)) waits
            (each-waiting rules (limit_of limit) (IsSoundSet IsSendable) s.waiting (units_of x) follows.sound
            all-sound);
        none = none ∙ ap emptied waits;
      }

  by-sent : (sent : List (List ℕ)) → unit_bytes coding s limit x ≡ texts sent → EachUnit (IsSoundSet IsSendable) sent
      → AreSame rules (limit_of limit) (emptied s.waiting) sent (emptied (waiting_after rules s.waiting (units_of x)))
      → ComesAgain coding (HasNone rules IsSendable) limit s t x
  by-sent [] bytes sound same = record {
    after = t;
    whole = subst (λ (us : List (List ℕ)). AreSentWhole coding limit t us t) (sym bytes) refl;
    follows = none-behind t (follows.none ∙ same.waiting);
  }
  by-sent (v ∷ vs) bytes sound same =
      let y : List ℕ = text_of (v ∷ vs) in
      let units : units_of y ≡ v ∷ vs = back (v ∷ vs) (are-units IsSendable (v ∷ vs) sound) in
      let own : unit_bytes coding t limit y ≡ y ∷ [] =
      by.bytes t limit y
      ∙ ap₂ (λ (ws : Waiting) (us : List (List ℕ)). texts (units_sent rules (limit_of limit) ws us)) follows.none units
      ∙ ap texts same.units in
      let after : Sender = coding.after t limit y in
      let none : after.waiting ≡ emptied (waiting_after rules s.waiting (units_of x)) =
      by.waits t limit y
      ∙ ap₂ (λ (ws : Waiting) (us : List (List ℕ)). waiting_after rules ws us) follows.none units ∙ same.waiting in
      record {
        after = after;
        whole = subst (λ (us : List (List ℕ)). AreSentWhole coding limit t us after) (sym bytes) (
          by.good limit y
              (subst (EachUnit IsSendable) (sym units) (are-sendable IsSendable (v ∷ vs) sound)),
          own,
          refl,
        );
        follows = none-behind after none;
      }

  pub comes-again : ComesAgain coding (HasNone rules IsSendable) limit s t x
  comes-again =
      by-sent (units_sent rules (limit_of limit) s.waiting (units_of x)) (by.bytes s limit x)
      (each-sent rules (limit_of limit) (IsSoundSet IsSendable) s.waiting (units_of x) follows.sound all-sound)
      (same-again rules (limit_of limit) by.none_ready s.waiting (units_of x) follows.in_place kept)
