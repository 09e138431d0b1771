-- Parameter sets that wait, leave with a unit, and wait again at a second sender.
use Rattle.std.proofs.Common.{◌≡◌, ℕ, zero, suc, ◌+◌, Bool, true, false, List, [], ◌∷◌, ◌++◌, length, refl, sym}
use Rattle.std.proofs.Common.{ap, ap₂, subst, subst₂, ◌∙◌, arith, append_assoc, Some, None}
use Rattle.std.specs.Prelude.{if◌then◌else◌}
use Rattle.std.specs.List.{flat_map}
use Rattle.std.proofs.lemmas.List.{length-append}
use Rattle.h26x_payload_units.specs.Departures.{Departure, EachUnit, Role, Rules, Waiting, are_ready, departing}
use Rattle.h26x_payload_units.specs.Departures.{departures, emptied, put_at, sets_in, units_in, units_sent}
use Rattle.h26x_payload_units.specs.Departures.{waiting_after, waiting_behind}
use Rattle.h26x_payload_units.specs.Departures.Departure.{Alone, Together}
use Rattle.h26x_payload_units.specs.Departures.Role.{Leaves, Unsent, Waits}
use Rattle.rtp_media_runs.specs.Kept.{AreInPlace, AreKept}

pub emptied-twice : (ws : Waiting) → emptied (emptied ws) ≡ emptied ws
emptied-twice [] = refl
emptied-twice (w ∷ ws) = ap (λ (vs : Waiting). None ∷ vs) (emptied-twice ws)

emptied-put : (k : ℕ) (set : List ℕ) (ws : Waiting) → emptied (put_at k set ws) ≡ emptied ws
emptied-put k set [] = refl
emptied-put zero set (w ∷ ws) = refl
emptied-put (suc k) set (w ∷ ws) = ap (λ (vs : Waiting). None ∷ vs) (emptied-put k set ws)

no-sets : (ws : Waiting) → sets_in (emptied ws) ≡ []
no-sets [] = refl
no-sets (w ∷ ws) = no-sets ws

none-in-place : (rules : Rules) (k : ℕ) (ws : Waiting) → AreInPlace rules k (emptied ws)
none-in-place rules k [] = tt
none-in-place rules k (w ∷ ws) = none-in-place rules (suc k) ws

put-in-place : (rules : Rules) (k j n : ℕ) (set : List ℕ) (ws : Waiting) → rules.role set ≡ Waits n → n ≡ k + j
    → AreInPlace rules k ws → AreInPlace rules k (put_at j set ws)
put-in-place rules k j n set [] is at are = tt
put-in-place rules k zero n set (None ∷ ws) is at are = (is ∙ ap Waits (omega arith), are)
put-in-place rules k zero n set (Some old ∷ ws) is at are = (is ∙ ap Waits (omega arith), are.1)
put-in-place rules k (suc j) n set (None ∷ ws) is at are =
    put-in-place rules (suc k) j n set ws is (omega arith) are
put-in-place rules k (suc j) n set (Some old ∷ ws) is at are =
    (are.0, put-in-place rules (suc k) j n set ws is (omega arith) are.1)

pub each-put : (P : List ℕ → Type 0) (k : ℕ) (set : List ℕ) (ws : Waiting) → P set → EachUnit P (sets_in ws)
    → EachUnit P (sets_in (put_at k set ws))
each-put P k set [] is all = all
each-put P zero set (None ∷ ws) is all = (is, all)
each-put P zero set (Some old ∷ ws) is all = (is, all.1)
each-put P (suc k) set (None ∷ ws) is all = each-put P k set ws is all
each-put P (suc k) set (Some old ∷ ws) is all = (all.0, each-put P k set ws is all.1)

pub each-behind : (P : List ℕ → Type 0) (us vs : List (List ℕ)) → EachUnit P us → EachUnit P vs → EachUnit P (us ++ vs)
each-behind P [] vs all others = others
each-behind P (u ∷ us) vs all others = (all.0, each-behind P us vs all.1 others)

-- a set is put after as many places
put-behind : (front : Waiting) (set : List ℕ) (ws : Waiting) → put_at (length front) set (front ++ None ∷ ws)
    ≡ front ++ Some set ∷ ws
put-behind [] set ws = refl
put-behind (w ∷ front) set ws = ap (λ (vs : Waiting). w ∷ vs) (put-behind front set ws)

module _ (rules : Rules) (limit : ℕ) where
  -- what sets in place do to places without sets: they wait there again, and nothing leaves
  refilled : (front ws : Waiting) → AreInPlace rules (length front) ws → (rest : List (List ℕ)) →
      (departures rules limit (front ++ emptied ws) (sets_in ws ++ rest) ≡ departures rules limit (front ++ ws) rest)
      × (waiting_after rules (front ++ emptied ws) (sets_in ws ++ rest) ≡ waiting_after rules (front ++ ws) rest)
  refilled front [] are rest = (refl, refl)
  refilled front (None ∷ ws) are rest =
      let one : Waiting = front ++ None ∷ [] in
      let more : length one ≡ suc (length front) = omega (arith, length-append front (None ∷ [])) in
      let there = refilled one ws (subst (λ (n : ℕ). AreInPlace rules n ws) (sym more) are) rest in
      let a : front ++ None ∷ emptied ws ≡ one ++ emptied ws = sym (append_assoc front (None ∷ []) (emptied ws)) in
      let b : one ++ ws ≡ front ++ None ∷ ws = append_assoc front (None ∷ []) ws in (
        ap (λ (v : Waiting). departures rules limit v (sets_in ws ++ rest)) a ∙ there.0
            ∙ ap (λ (v : Waiting). departures rules limit v rest) b,
        ap (λ (v : Waiting). waiting_after rules v (sets_in ws ++ rest)) a ∙ there.1
            ∙ ap (λ (v : Waiting). waiting_after rules v rest) b,
      )
  refilled front (Some set ∷ ws) are rest =
      let one : Waiting = front ++ Some set ∷ [] in
      let more : length one ≡ suc (length front) = omega (arith, length-append front (Some set ∷ [])) in
      let there = refilled one ws (subst (λ (n : ℕ). AreInPlace rules n ws) (sym more) are.1) rest in
      let old : Waiting = front ++ None ∷ emptied ws in
      let gone : departing rules limit (rules.role set) old set ≡ [] =
      ap (λ (r : Role). departing rules limit r old set) are.0 in
      let a : waiting_behind rules (rules.role set) old set ≡ one ++ emptied ws =
      ap (λ (r : Role). waiting_behind rules r old set) are.0 ∙ put-behind front set (emptied ws)
      ∙ sym (append_assoc front (Some set ∷ []) (emptied ws)) in
      let b : one ++ ws ≡ front ++ Some set ∷ ws = append_assoc front (Some set ∷ []) ws in (
        ap₂ (λ (ds : List Departure) (v : Waiting). ds ++ departures rules limit v (sets_in ws ++ rest)) gone a
            ∙ there.0 ∙ ap (λ (v : Waiting). departures rules limit v rest) b,
        ap (λ (v : Waiting). waiting_after rules v (sets_in ws ++ rest)) a ∙ there.1
            ∙ ap (λ (v : Waiting). waiting_after rules v rest) b,
      )

  -- one unit more
  step : (r : Role) (ws : Waiting) (u : List ℕ) (us : List (List ℕ)) → rules.role u ≡ r →
      (departures rules limit ws (u ∷ us)
      ≡ departing rules limit r ws u ++ departures rules limit (waiting_behind rules r ws u) us)
      × (waiting_after rules ws (u ∷ us) ≡ waiting_after rules (waiting_behind rules r ws u) us)
  step r ws u us is = (
    ap (λ (q : Role). departing rules limit q ws u ++ departures rules limit (waiting_behind rules q ws u) us) is,
    ap (λ (q : Role). waiting_after rules (waiting_behind rules q ws u) us) is,
  )

  -- the sets that a unit takes out, and the places after it
  abbrev taken : Bool → Bool → Waiting → List (List ℕ)
  taken ready joins ws = if ready then (if joins then sets_in ws else []) else []

  abbrev left : Bool → Waiting → Waiting
  left ready ws = if ready then emptied ws else ws

  abbrev with-tests : Bool → Bool → Bool → Waiting → List ℕ → List (List ℕ) → List (List ℕ)
  with-tests ready joins leaves ws u us = flat_map units_in
      (((if ready then (if joins then Together (sets_in ws) ∷ [] else []) else [])
      ++ (if leaves then Alone u ∷ [] else [])) ++ departures rules limit (left ready ws) us)

  computed : (ready joins : Bool) (ws : Waiting) (u : List ℕ) (us : List (List ℕ)) → with-tests ready joins true ws u us
      ≡ taken ready joins ws ++ (u ∷ units_sent rules limit (left ready ws) us)
  computed true true ws u us = refl
  computed true false ws u us = refl
  computed false joins ws u us = refl

  leaving : (ready joins : Bool) (ws : Waiting) (u : List ℕ) (us : List (List ℕ)) → rules.role u ≡ Leaves
      → rules.can_leave limit u ≡ true → are_ready rules.needed ws ≡ ready → rules.can_join limit (sets_in ws) ≡ joins →
      (units_sent rules limit ws (u ∷ us) ≡ taken ready joins ws ++ (u ∷ units_sent rules limit (left ready ws) us))
      × (waiting_after rules ws (u ∷ us) ≡ waiting_after rules (left ready ws) us)
  leaving ready joins ws u us is can r j = (
    ap (λ (ds : List Departure). flat_map units_in ds) (step Leaves ws u us is).0
        ∙ ap (λ (b : Bool). with-tests b (rules.can_join limit (sets_in ws)) (rules.can_leave limit u) ws u us) r
        ∙ ap (λ (b : Bool). with-tests ready b (rules.can_leave limit u) ws u us) j
        ∙ ap (λ (b : Bool). with-tests ready joins b ws u us) can
        ∙ computed ready joins ws u us,
    (step Leaves ws u us is).1 ∙ ap (λ (b : Bool). waiting_after rules (left b ws) us) r,
  )

  -- from these waiting sets the units are sent as they are, and leave those
  pub record AreSame (before : Waiting) (sent : List (List ℕ)) (after : Waiting) : Type 0 where
    pub units : units_sent rules limit before sent ≡ sent
    pub waiting : waiting_after rules before sent ≡ after

  -- a unit in front that finds no sets
  alone-again : (ws after : Waiting) (u : List ℕ) (us : List (List ℕ)) → rules.role u ≡ Leaves
      → rules.can_leave limit u ≡ true → are_ready rules.needed ws ≡ false → AreSame ws us after
      → AreSame ws (u ∷ us) after
  alone-again ws after u us is can none same =
      let there = leaving false (rules.can_join limit (sets_in ws)) ws u us is can none refl in
      record {
        units = there.0 ∙ ap (λ vs. u ∷ vs) same.units;
        waiting = there.1 ∙ same.waiting;
      }

  -- a unit after the sets that it takes out
  together-again : (ws after : Waiting) (u : List ℕ) (us : List (List ℕ)) → AreInPlace rules zero ws
      → rules.role u ≡ Leaves → rules.can_leave limit u ≡ true → are_ready rules.needed ws ≡ true
      → rules.can_join limit (sets_in ws) ≡ true → AreSame (emptied ws) us after
      → AreSame (emptied ws) (sets_in ws ++ (u ∷ us)) after
  together-again ws after u us are is can ready joins same =
      let full = refilled [] ws are (u ∷ us) in
      let there = leaving true true ws u us is can ready joins in
      record {
        units = ap (λ (ds : List Departure). flat_map units_in ds) full.0 ∙ there.0
            ∙ ap (λ vs. sets_in ws ++ (u ∷ vs)) same.units;
        waiting = full.1 ∙ there.1 ∙ same.waiting;
      }

  -- what is so of all units and of the sets that wait is so of the units that are sent
  module _ (P : List ℕ → Type 0) where
    each-tests : (ready joins leaves : Bool) (ws : Waiting) (u : List ℕ) (us : List (List ℕ)) → EachUnit P (sets_in ws)
        → P u → EachUnit P (units_sent rules limit (left ready ws) us)
        → EachUnit P (with-tests ready joins leaves ws u us)
    each-tests true true true ws u us sets is others =
        each-behind P (sets_in ws) (u ∷ units_sent rules limit (emptied ws) us) sets (is, others)
    each-tests true true false ws u us sets is others =
        each-behind P (sets_in ws) (units_sent rules limit (emptied ws) us) sets others
    each-tests true false true ws u us sets is others = (is, others)
    each-tests true false false ws u us sets is others = others
    each-tests false joins true ws u us sets is others = (is, others)
    each-tests false joins false ws u us sets is others = others

    each-left : (ready : Bool) (ws : Waiting) → EachUnit P (sets_in ws) → EachUnit P (sets_in (left ready ws))
    each-left true ws sets = subst (EachUnit P) (sym (no-sets ws)) tt
    each-left false ws sets = sets

    each-behind-role : (r : Role) (ws : Waiting) (u : List ℕ) → EachUnit P (sets_in ws) → P u
        → EachUnit P (sets_in (waiting_behind rules r ws u))
    each-behind-role Unsent ws u sets is = sets
    each-behind-role (Waits k) ws u sets is = each-put P k u ws is sets
    each-behind-role Leaves ws u sets is = each-left (are_ready rules.needed ws) ws sets

    each-departing : (r : Role) (ws : Waiting) (u : List ℕ) (us : List (List ℕ)) → EachUnit P (sets_in ws) → P u
        → EachUnit P (units_sent rules limit (waiting_behind rules r ws u) us)
        → EachUnit P (flat_map units_in
        (departing rules limit r ws u ++ departures rules limit (waiting_behind rules r ws u) us))
    each-departing Unsent ws u us sets is others = others
    each-departing (Waits k) ws u us sets is others = others
    each-departing Leaves ws u us sets is others =
        each-tests (are_ready rules.needed ws) (rules.can_join limit (sets_in ws)) (rules.can_leave limit u) ws u us
        sets is others

    pub each-sent : (ws : Waiting) (us : List (List ℕ)) → EachUnit P (sets_in ws) → EachUnit P us
        → EachUnit P (units_sent rules limit ws us)
    each-sent ws [] sets all = tt
    each-sent ws (u ∷ us) sets all =
        each-departing (rules.role u) ws u us sets all.0
        (each-sent (waiting_behind rules (rules.role u) ws u) us
        (each-behind-role (rules.role u) ws u sets all.0) all.1)

    pub each-waiting : (ws : Waiting) (us : List (List ℕ)) → EachUnit P (sets_in ws) → EachUnit P us
        → EachUnit P (sets_in (waiting_after rules ws us))
    each-waiting ws [] sets all = sets
    each-waiting ws (u ∷ us) sets all =
        each-waiting (waiting_behind rules (rules.role u) ws u) us
        (each-behind-role (rules.role u) ws u sets all.0) all.1

  left-in-place : (ready : Bool) (ws : Waiting) → AreInPlace rules zero ws → AreInPlace rules zero (left ready ws)
  left-in-place true ws are = none-in-place rules zero ws
  left-in-place false ws are = are

  in-place-behind : (r : Role) (ws : Waiting) (u : List ℕ) → rules.role u ≡ r → AreInPlace rules zero ws
      → AreInPlace rules zero (waiting_behind rules r ws u)
  in-place-behind Unsent ws u e are = are
  in-place-behind (Waits k) ws u e are = put-in-place rules zero k k u ws e (omega arith) are
  in-place-behind Leaves ws u e are = left-in-place (are_ready rules.needed ws) ws are

  pub in-place-after : (ws : Waiting) (us : List (List ℕ)) → AreInPlace rules zero ws
      → AreInPlace rules zero (waiting_after rules ws us)
  in-place-after ws [] are = are
  in-place-after ws (u ∷ us) are = in-place-after (waiting_behind rules (rules.role u) ws u) us
      (in-place-behind (rules.role u) ws u refl are)

  module _ (none-ready : (ws : Waiting) → are_ready rules.needed (emptied ws) ≡ false) where
    by-tests : (ready joins : Bool) (ws : Waiting) (u : List ℕ) (us : List (List ℕ)) → AreInPlace rules zero ws
        → rules.role u ≡ Leaves → rules.can_leave limit u ≡ true → are_ready rules.needed ws ≡ ready
        → rules.can_join limit (sets_in ws) ≡ joins
        → AreSame (emptied ws) (units_sent rules limit (left ready ws) us)
        (emptied (waiting_after rules (left ready ws) us))
        → AreSame (emptied ws) (taken ready joins ws ++ (u ∷ units_sent rules limit (left ready ws) us))
        (emptied (waiting_after rules (left ready ws) us))
    by-tests true true ws u us are is can r j same =
        together-again ws _ u (units_sent rules limit (emptied ws) us) are is can r j same
    by-tests true false ws u us are is can r j same =
        alone-again (emptied ws) _ u (units_sent rules limit (emptied ws) us) is can (none-ready ws) same
    by-tests false joins ws u us are is can r j same =
        alone-again (emptied ws) _ u (units_sent rules limit ws us) is can (none-ready ws) same

    left-empty : (ready : Bool) (ws : Waiting) → emptied (left ready ws) ≡ emptied ws
    left-empty true ws = emptied-twice ws
    left-empty false ws = refl

    pub same-again : (ws : Waiting) (us : List (List ℕ)) → AreInPlace rules zero ws → AreKept rules limit us
        → AreSame (emptied ws) (units_sent rules limit ws us) (emptied (waiting_after rules ws us))
    same-again ws [] are kept = record { units = refl; waiting = refl }
    same-again ws (u ∷ us) are kept =
        by-role (λ vs placed. same-again vs us placed kept.1) (rules.role u) refl where
          by-role : ((vs : Waiting) → AreInPlace rules zero vs
              → AreSame (emptied vs) (units_sent rules limit vs us) (emptied (waiting_after rules vs us)))
              → (r : Role) → rules.role u ≡ r
              → AreSame (emptied ws) (units_sent rules limit ws (u ∷ us)) (emptied (waiting_after rules ws (u ∷ us)))
          by-role others Unsent e =
              let at = step Unsent ws u us e in
              subst₂ (λ (s : List (List ℕ)) (a : Waiting). AreSame (emptied ws) s (emptied a))
              (sym (ap (λ (ds : List Departure). flat_map units_in ds) at.0)) (sym at.1) (others ws are)
          by-role others (Waits k) e =
              let at = step (Waits k) ws u us e in
              let put : Waiting = put_at k u ws in
              subst₂ (λ (s : List (List ℕ)) (a : Waiting). AreSame (emptied ws) s (emptied a))
              (sym (ap (λ (ds : List Departure). flat_map units_in ds) at.0)) (sym at.1)
              (subst (λ (v : Waiting). AreSame v (units_sent rules limit put us) (emptied (waiting_after rules put us)))
              (emptied-put k u ws) (others put (put-in-place rules zero k k u ws e (omega arith) are)))
          by-role others Leaves e =
              let ready : Bool = are_ready rules.needed ws in
              let joins : Bool = rules.can_join limit (sets_in ws) in
              let can : rules.can_leave limit u ≡ true = kept.0.leaves e in
              let at = leaving ready joins ws u us e can refl refl in
              let rest : Waiting = left ready ws in
              subst₂ (λ (s : List (List ℕ)) (a : Waiting). AreSame (emptied ws) s (emptied a)) (sym at.0) (sym at.1)
              (by-tests ready joins ws u us are e can refl refl
              (subst (λ (v : Waiting). AreSame v (units_sent rules limit rest us)
              (emptied (waiting_after rules rest us))) (left-empty ready ws)
              (others rest (left-in-place ready ws are))))
