use Rattle.std.proofs.Common.{◌≡◌, ℕ, ◌%◌, List, map, reverse, take, length, ap, sym, subst, ◌∙◌, arith}
use Rattle.std.specs.Prelude.{All, IfOk}
use Rattle.std.proofs.lemmas.List.{length-map, length-reverse, length-take, take-map}
use Rattle.std.proofs.lemmas.List.Elements.{All-take}
use Rattle.std.proofs.lemmas.Result.{IfOk-weaker}
use Rattle.payload_core_audio.specs.Red.{Block, HasRoom, IsRed}
use Rattle.payload_core_audio.specs.RedHistory.{AreDistances, Redundancy, kept_of}
use Rattle.payload_core_audio.specs.RedSending.{masked}
use Rattle.payload_core_audio.specs.RedViews.{old_block}
use Rattle.payload_core_audio.specs.RedWrapping.{IsLongestPrefix, levels}
use Rattle.payload_core_audio.specs.declared.spelling.OldPayload.{OldPayload}
use Rattle.payload_core_audio.proofs.FitLemmas.{All-unmap}
use Rattle.payload_core_audio.proofs.WrapLemmas.{All-reverse, levels-few, levels-room, map-reverse}
use Rattle.payload_core_audio.proofs.sender.RedSender.wrapped.Goals as goal

abbrev R : Block → Type 0
R b = HasRoom (masked b)

pub longest_prefix-count-requires-clause-room : goal.longest_prefix-count-requires-clause-room
longest_prefix-count-requires-clause-room c =
    let olds : List OldPayload = c.in_ok-olds.olds.items in
    let room : All R (map old_block olds) = subst (All R) (sym c.in_ok-olds.ensures)
    (levels-room (map kept_of c.deref.result.now) c.deref-2.result.now c.args.time) in
    subst (All (λ b. R (old_block b))) (sym c.deref-3.ensures.value) (All-unmap R old_block olds room)

pub spell-requires-clause-room : goal.spell-requires-clause-room
spell-requires-clause-room c =
    let olds : List OldPayload = c.in_ok-olds.olds.items in
    let Q : OldPayload → Type 0 = λ b. R (old_block b) in
    let room : All R (map old_block olds) = subst (All R) (sym c.in_ok-olds.ensures)
    (levels-room (map kept_of c.deref.result.now) c.deref-2.result.now c.args.time) in
    let sent : c.deref-4.result.now ≡ reverse (take c.longest_prefix-count.result olds) =
    c.deref-4.ensures.value ∙ c.reverse.ensures.items ∙ ap reverse c.truncate.ensures.items in
    subst (All Q) (sym sent) (All-reverse Q (take c.longest_prefix-count.result olds)
    (All-take Q c.longest_prefix-count.result olds (All-unmap R old_block olds room)))

pub spell-requires-clause-few : goal.spell-requires-clause-few
spell-requires-clause-few c =
    let olds : List OldPayload = c.in_ok-olds.olds.items in
    let count : ℕ = c.longest_prefix-count.result in
    let sent : c.deref-4.result.now ≡ reverse (take count olds) =
    c.deref-4.ensures.value ∙ c.reverse.ensures.items ∙ ap reverse c.truncate.ensures.items in
    let are : AreDistances c.deref-2.result.now = subst AreDistances (sym c.deref-2.ensures.value) c.self.invariant in
    let few = levels-few (map kept_of c.deref.result.now) c.deref-2.result.now c.args.time are in
    omega (
      arith,
      ap length sent,
      length-reverse (take count olds),
      length-take count olds,
      length-map olds old_block,
      ap length c.in_ok-olds.ensures,
      few,
    )

pub returns : goal.returns
returns c =
    let olds : List OldPayload = c.in_ok-olds.olds.items in
    let count : ℕ = c.longest_prefix-count.result in
    let sent : c.deref-4.result.now ≡ reverse (take count olds) =
    c.deref-4.ensures.value ∙ c.reverse.ensures.items ∙ ap reverse c.truncate.ensures.items in
    let pt : ℕ = c.args.pt % 128 in
    let payload : List ℕ = c.args.payload.now in
    let r : Redundancy = c.args.self.now in
    let ls : List Block = levels r.history r.distances c.args.time in
    let found : map old_block olds ≡ ls =
    c.in_ok-olds.ensures
    ∙ ap (λ h. levels (map kept_of h) c.deref-2.result.now c.args.time) c.deref.ensures.value
    ∙ ap (λ ds. levels (map kept_of c.self.inside.history.items) ds c.args.time) c.deref-2.ensures.value
    ∙ ap (λ (v : Redundancy). levels v.history v.distances c.args.time) c.self.view_is in
    let blocks : map old_block c.deref-4.result.now ≡ reverse (take count ls) =
    ap (map old_block) sent ∙ map-reverse old_block (take count olds)
    ∙ ap reverse (sym (take-map old_block count olds)) ∙ ap (λ bs. reverse (take count bs)) found in
    let P : List Block → Type 0 = λ bs. IfOk c.spell.result (λ packet. IsRed packet.items (map masked bs) pt payload) in
    let longest : IsLongestPrefix c.args.budget (length payload) ls count =
    let L : List Block → Type 0 = λ bs. IsLongestPrefix c.args.budget (length payload) bs count in
    subst L (ap (map old_block) c.deref-3.ensures.value ∙ found) c.longest_prefix-count.ensures in
    IfOk-weaker c.spell.result _ _ (λ packet is. record {
      wrapped = λ le. record { count = count; longest = longest; is_red = is };
      unwrapped = λ lt. absurd (omega (arith, lt, c.if-budget-payload.false));
    }) (subst P blocks c.spell.ensures)
