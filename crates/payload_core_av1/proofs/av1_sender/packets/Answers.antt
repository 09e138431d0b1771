use Rattle.std.proofs.Common.{◌≡◌, ℕ, ◌+◌, ◌-◌, ◌<◌, ◌++◌, ◌∷◌, [], false, List, Vec, Global, map, length}
use Rattle.std.proofs.Common.{ap, sym, subst, ◌∙◌, arith}
use Rattle.std.proofs.lemmas.List.{map_push}
use Rattle.payload_core_base.specs.Law.{joined}
use Rattle.payload_core_base.specs.Packing.{with_prefix}
use Rattle.payload_core_av1.specs.Av1Packing.{back, front, is_cut, longest, packet_of, packets_within}
use Rattle.payload_core_av1.specs.Av1Packets.{AreTexts}
use Rattle.payload_core_av1.proofs.PackingLemmas.{packets-go, total-less}
use Rattle.payload_core_av1.proofs.PrefixLemmas.{texts-back, texts-front}
use Rattle.payload_core_av1.proofs.ReaderLemmas.{not_empty}
use Rattle.payload_core_av1.proofs.av1_sender.packets.Goals as goal

pub packet-requires : goal.packet-requires
packet-requires c =
    let texts : List (List ℕ) = c.loop-alloc.texts.items in
    let limit : c.args.limit - 1 + 1 ≡ c.args.limit = omega (arith, c.requires.limit) in
    let elements = c.deref.ensures.value ∙ c.in_ok-y.ensures.elements ∙ ap (λ n. front (longest n texts) texts) limit in
    subst AreTexts (sym elements) (texts-front (longest c.args.limit texts) texts c.loop-alloc.invariant.texts)

pub loop-alloc-smaller : goal.loop-alloc-smaller
loop-alloc-smaller c =
    let texts : List (List ℕ) = c.loop-alloc.texts.items in
    let limit : c.args.limit - 1 + 1 ≡ c.args.limit = omega (arith, c.requires.limit) in
    let left = c.in_ok-y.ensures.left ∙ ap (λ n. back (longest n texts) texts) limit in
    let there : 0 < c.loop-alloc.texts.len =
    not_empty c.loop-alloc.texts.len c.is_empty.result c.is_empty.ensures c.loop-alloc-test.true in
    let some : 0 < length texts = omega (arith, c.loop-alloc.texts.ok.0) in
    let less = total-less c.args.limit texts c.requires.limit c.loop-alloc.invariant.texts some in
    omega (arith, less, ap (λ ts. length (joined ts)) left)

pub loop-alloc-preserved : goal.loop-alloc-preserved
loop-alloc-preserved c =
    let texts : List (List ℕ) = c.loop-alloc.texts.items in
    let limit : c.args.limit - 1 + 1 ≡ c.args.limit = omega (arith, c.requires.limit) in
    let size : ℕ = longest c.args.limit texts in
    let left = c.in_ok-y.ensures.left ∙ ap (λ n. back (longest n texts) texts) limit in
    let cut : c.in_ok-y.y ≡ is_cut size texts =
    c.in_ok-y.ensures.cut ∙ ap (λ n. is_cut (longest n texts) texts) limit in
    let elements = c.deref.ensures.value ∙ c.in_ok-y.ensures.elements ∙ ap (λ n. front (longest n texts) texts) limit in
    let there : 0 < c.loop-alloc.texts.len =
    not_empty c.loop-alloc.texts.len c.is_empty.result c.is_empty.ensures c.loop-alloc-test.true in
    let some : 0 < length texts = omega (arith, c.loop-alloc.texts.ok.0) in
    let before : List (List ℕ) = map (λ (p : Vec ℕ Global). p.items) c.loop-alloc.packets.items in
    let prefix : List ℕ = c.args.prefix.now in
    let z = c.loop-alloc.z in
    let n = c.loop-alloc.n in
    let packet = c.in_ok-packet.ensures
    ∙ ap (λ es. prefix ++ packet_of z c.in_ok-y.y n es) elements
    ∙ ap (λ y. prefix ++ packet_of z y n (front size texts)) cut in
    let pushed = ap (λ (ps : List (Vec ℕ Global)). map (λ (p : Vec ℕ Global). p.items) ps) c.in_ok-push.ensures.items
    ∙ map_push (λ (p : Vec ℕ Global). p.items) c.loop-alloc.packets.items c.in_ok-packet.field-0
    ∙ ap (λ p. before ++ p ∷ []) packet in
    let sent : List (List ℕ) = before ++ (prefix ++ packet_of z (is_cut size texts) n (front size texts)) ∷ [] in
    record {
      texts = subst AreTexts (sym left) (texts-back size texts c.loop-alloc.invariant.texts);
      packets =
          ap (λ (ps : List (List ℕ)). ps ++ with_prefix prefix (packets_within
          (length (joined c.take_elements.new.texts.items)) c.args.limit c.in_ok-y.y false
          c.take_elements.new.texts.items)) pushed
          ∙ ap (λ ts. sent ++ with_prefix prefix (packets_within (length (joined ts)) c.args.limit c.in_ok-y.y false
          ts)) left
          ∙ ap (λ y. sent ++ with_prefix prefix (packets_within (length (joined (back size texts))) c.args.limit y
          false (back size texts))) cut
          ∙ packets-go prefix c.args.limit z n texts before c.requires.limit c.loop-alloc.invariant.texts some
          ∙ c.loop-alloc.invariant.packets;
    }
