use Rattle.std.proofs.Common.{◌≡◌, ℕ, ◌∷◌, [], ◌++◌, List, Some, None, get_or, map, ap, sym, ◌∙◌}
use Rattle.std.specs.Prelude.{option_map}
use Rattle.std.proofs.lemmas.List.{map_push}
use Rattle.payload_core_audio.specs.RedHistory.{Kept, kept_of}
use Rattle.payload_core_audio.specs.RedViews.{old_block}
use Rattle.payload_core_audio.specs.RedWrapping.{level}
use Rattle.payload_core_audio.proofs.LevelLemmas.{levels-none, levels-some, levels-unfit}
use Rattle.payload_core_audio.proofs.history.levels.Goals as goal
use Rattle.payload_core_audio.proofs.history.levels.Goals.{in-Some+then-fields_fit+in_ok-push, in-Some+else-fields_fit}
use Rattle.payload_core_audio.proofs.history.levels.Goals.{in_default}

pub loop-distance-preserved : goal.loop-distance-preserved
loop-distance-preserved c =
    let history : List Kept = map kept_of c.args.history.now in
    let distances : List ℕ = c.args.distances.now in
    let time : ℕ = c.args.time in
    let i : ℕ = c.loop-distance.distance-index in
    let lt = c.loop-distance-test.true in
    let whole = c.loop-distance.invariant in
    elim c.match-level.branch [
      | in-Some+then-fields_fit+in_ok-push w ↦
          let there : level history time (get_or distances i 0) ≡ Some (old_block w.in-Some.old) =
          sym c.level.ensures ∙ ap (option_map old_block) w.in-Some.is in
          ap (λ v. map old_block v.items) w.olds-is
          ∙ ap (map old_block) w.in_ok-push.ensures.items
          ∙ map_push old_block c.loop-distance.olds.items w.in-Some.old
          ∙ ap (λ bs. bs ++ old_block w.in-Some.old ∷ []) whole
          ∙ sym (levels-some history distances time i (old_block w.in-Some.old) lt there
          (sym w.fields_fit.ensures ∙ w.if-fields_fit.true))
      | in-Some+else-fields_fit w ↦
          let there : level history time (get_or distances i 0) ≡ Some (old_block w.in-Some.old) =
          sym c.level.ensures ∙ ap (option_map old_block) w.in-Some.is in
          ap (λ v. map old_block v.items) w.olds-is ∙ whole
          ∙ sym (levels-unfit history distances time i (old_block w.in-Some.old) lt there
          (sym w.fields_fit.ensures ∙ w.if-fields_fit.false))
      | in_default w ↦
          let there : level history time (get_or distances i 0) ≡ None =
          sym c.level.ensures ∙ ap (option_map old_block) w.in_default.is in
          ap (λ v. map old_block v.items) w.olds-is ∙ whole ∙ sym (levels-none history distances time i lt there)
    ]
