use Rattle.std.proofs.Common.{◌≡◌, ℕ, ◌-◌, ◌<◌, List, ◌∷◌, Some, get_or, map, set, take, ap, sym, ◌∙◌, arith}
use Rattle.payload_core_audio.specs.RedHistory.{kept_of}
use Rattle.payload_core_audio.specs.declared.history.KeptPayload.{KeptPayload}
use Rattle.payload_core_audio.proofs.KeepLemmas.{kept-newest}
use Rattle.payload_core_audio.proofs.history.keep.Goals as goal

some-is : (a b : KeptPayload) → Some a ≡ Some b → a ≡ b
some-is a b same = cc

pub returns-in_ok-insert-2-clause-kept : goal.returns-in_ok-insert-2-clause-kept
returns-in_ok-insert-2-clause-kept c =
    let items : List KeptPayload = c.args.history.now.items in
    let newest : KeptPayload = c.in-Some.newest in
    let n : ℕ = c.truncate.new.self.len - 1 in
    let many = c.if-len-lt-DEPTH.false in
    let some : 0 < c.truncate.new.self.len = omega (arith, many, c.truncate.ensures.len) in
    let last : newest ≡ get_or (take 8 (set items 7 c.refill.new.self)) n newest =
    some-is newest (get_or c.truncate.new.self.items n newest) (sym c.in-Some.is ∙ c.pop.ensures.value newest some)
    ∙ ap (λ xs. get_or xs n newest) c.truncate.ensures.items in
    ap (map kept_of) c.in_ok-insert-2.ensures.items
    ∙ kept-newest items c.pop.new.self.items c.refill.new.self newest n (omega (arith, many))
    (omega (arith, many, c.truncate.ensures.len)) last
    (c.pop.ensures.rest ∙ ap (take n) c.truncate.ensures.items)
    ∙ ap (λ k. k ∷ take 7 (map kept_of items)) c.in_ok-refill.ensures.refilled
