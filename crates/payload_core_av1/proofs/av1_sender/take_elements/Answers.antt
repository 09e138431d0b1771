use Rattle.std.proofs.Common.{◌≡◌, ℕ, ◌+◌, ◌-◌, ◌≤◌, ◌++◌, ◌∷◌, List, length, vec_len, ap, sym, ◌∙◌, arith}
use Rattle.payload_core_av1.specs.Leb128.{spelling}
use Rattle.payload_core_av1.specs.Av1Packing.{back, front, is_cut}
use Rattle.payload_core_av1.specs.Av1Packets.{greatest_part}
use Rattle.payload_core_av1.proofs.PackingLemmas.{taken-whole}
use Rattle.payload_core_av1.proofs.PrefixLemmas.{greedy, longest-greedy}
use Rattle.payload_core_av1.proofs.av1_sender.take_elements.Goals as goal

pub loop-text-init : goal.loop-text-init
loop-text-init c =
    let texts : List (List ℕ) = c.args.texts.now.items in
    let same = sym (longest-greedy c.args.room texts c.requires) in
    let none = c.clear.ensures in
    record {
      texts = c.requires;
      elements = ap (λ es. es ++ front (greedy (vec_len c.clear.new.self) c.args.room texts) texts) none.items
          ∙ ap (λ n. front (greedy n c.args.room texts) texts) none.len ∙ ap (λ n. front n texts) same;
      cut = ap (λ n. is_cut (greedy n c.args.room texts) texts) none.len ∙ ap (λ n. is_cut n texts) same;
      behind = ap (λ n. back (greedy n c.args.room texts) texts) none.len ∙ ap (λ n. back n texts) same;
    }

pub loop-text-preserved : goal.loop-text-preserved
loop-text-preserved c =
    let inv = c.loop-text.invariant in
    let before : List (List ℕ) = c.loop-text.texts.items in
    let others : List (List ℕ) = c.pop_front.new.self.items in
    let elements : List (List ℕ) = c.loop-text.elements.items in
    let e : List ℕ = c.in-Some.text in
    let is : before ≡ e ∷ others = c.in-Some.ensures.items in
    let place : ℕ = vec_len c.loop-text.elements in
    let p : ℕ = vec_len c.push.new.self in
    let len : c.len-len.result ≡ length e = c.len-len.ensures in
    let part : c.fitting-part.result ≡ greatest_part place c.loop-text.left (length e) =
    c.fitting-part.ensures ∙ ap (λ n. greatest_part n c.loop-text.left c.len-len.result) c.len.ensures
    ∙ ap (greatest_part place c.loop-text.left) len in
    let ge : length e ≤ greatest_part place c.loop-text.left (length e) = omega (arith, part, len) in
    let next : p ≡ place + 1 = c.in_ok-push.ensures.len in
    let left : c.saturating_sub-left.result ≡ c.loop-text.left - (length (spelling (length e)) + length e) =
    omega (arith, c.saturating_sub-left.ensures, c.size_len.ensures.value, ap (λ n. length (spelling n)) len, len) in
    let taken = taken-whole place c.loop-text.left p c.saturating_sub-left.result e others before elements is
    inv.texts ge next left in
    record {
      texts = taken.texts_are;
      elements = ap (λ es. es ++ front (greedy p c.saturating_sub-left.result others) others)
          c.in_ok-push.ensures.items ∙ taken.elements_are ∙ inv.elements;
      cut = taken.cut_is ∙ inv.cut;
      behind = taken.behind_is ∙ inv.behind;
    }
