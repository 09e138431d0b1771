use Rattle.std.proofs.Common.{◌≡◌, ℕ, ◌+◌, ◌≤◌, List, [], ◌∷◌, get_or, length, map, ap, ◌∙◌, arith}
use Rattle.std.specs.Option.{option_to_list}
use Rattle.std.specs.Prelude.{option_map}
use Rattle.payload_core_audio.specs.RedHistory.{Kept, kept_of}
use Rattle.payload_core_audio.specs.RedViews.{old_block}
use Rattle.payload_core_audio.specs.RedWrapping.{bytes_of, levels}
use Rattle.payload_core_audio.proofs.RepeatLemmas.{bytes-none, bytes-some, first, reach-ends, reach-stops}
use Rattle.payload_core_audio.proofs.repeated.reach.Goals as goal
use Rattle.payload_core_audio.proofs.repeated.reach.Goals.{in-Some+else-budget-len, in_default}

pub returns-then-budget-len-clause-longest : goal.returns-then-budget-len-clause-longest
returns-then-budget-len-clause-longest c =
    reach-stops (map kept_of c.args.history.now) c.args.distances.now c.args.time c.args.budget c.args.size
    c.loop-i.len c.loop-i.i (old_block c.in-Some.old) c.loop-i-test.true c.in-Some.ensures
    c.loop-i.invariant.long c.loop-i.invariant.within c.if-budget-len.true

pub loop-i-preserved : goal.loop-i-preserved
loop-i-preserved c =
    let h : List Kept = map kept_of c.args.history.now in
    let ds : List ℕ = c.args.distances.now in
    elim c.match-fitting_level.branch [
      | in-Some+else-budget-len w ↦
          let there : levels h (get_or ds c.loop-i.i 0 ∷ []) c.args.time ≡ old_block w.in-Some.old ∷ [] =
          c.fitting_level.ensures ∙ ap (λ o. option_to_list (option_map old_block o)) w.in-Some.is in
          let more = bytes-some h ds c.args.time c.loop-i.i (old_block w.in-Some.old) c.loop-i-test.true there in
          record {
            long = omega (arith, w.len-is, more, c.loop-i.invariant.long);
            within = omega (arith, w.len-is, w.if-budget-len.false, c.loop-i.invariant.within);
          }
      | in_default w ↦
          let there : levels h (get_or ds c.loop-i.i 0 ∷ []) c.args.time ≡ [] =
          c.fitting_level.ensures ∙ ap (λ o. option_to_list (option_map old_block o)) w.in_default.is in
          let same = bytes-none h ds c.args.time c.loop-i.i c.loop-i-test.true there in
          record {
            long = omega (arith, w.len-is, same, c.loop-i.invariant.long);
            within = omega (arith, w.len-is, c.loop-i.invariant.within);
          }
    ]

-- the loop ends after the last distance
at-end : (i n : ℕ) → n ≤ i → i ≤ n → i ≡ n
at-end i n le ge = omega arith

pub returns-clause-longest : goal.returns-clause-longest
returns-clause-longest c =
    let h : List Kept = map kept_of c.args.history.now in
    let ds : List ℕ = c.args.distances.now in
    let end = at-end c.loop-i.i (length ds) c.loop-i-test.false c.loop-i.auto.i-end in
    reach-ends h ds c.args.time c.args.budget c.args.size c.loop-i.len (length ds) (omega arith)
    (c.loop-i.invariant.long ∙ ap (λ i. 1 + bytes_of (first h ds c.args.time i) + c.args.size) end)
    c.loop-i.invariant.within

pub returns-clause-len : goal.returns-clause-len
returns-clause-len c =
    let h : List Kept = map kept_of c.args.history.now in
    let ds : List ℕ = c.args.distances.now in
    let end = at-end c.loop-i.i (length ds) c.loop-i-test.false c.loop-i.auto.i-end in
    c.loop-i.invariant.long ∙ ap (λ i. 1 + bytes_of (first h ds c.args.time i) + c.args.size) end
