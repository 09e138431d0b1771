use Rattle.std.proofs.Common.{ℕ, List, ◌++◌, map, sym, ap, ◌∙◌, append_assoc}
use Rattle.std.proofs.lemmas.List.{map-append}
use Rattle.payload_core_base.specs.Packing.{with_prefix}
use Rattle.std.specs.List.{flat_map}
use Rattle.h26x_payload_units.specs.UnitsLeft.{units_left}
use Rattle.h26x_payload_units.specs.Departures.{Departure, Rules, Waiting, departing, departures, waiting_after}
use Rattle.h26x_payload_units.specs.Departures.{waiting_behind}
use Rattle.h26x_payload_units.specs.Numbers.{Numbered, number_after, numbered}
use Rattle.h26x_payload_units.proofs.NumberLemmas.{number_after_append}
use Rattle.h26x_payload_formats.specs.Packing.{h265_h266_rules, packets_of, role_by}
use Rattle.h26x_payload_units.specs.Headers.{unit_type}
use Rattle.h26x_payload_formats.specs.Waiting.{waiting_in}
use Rattle.h26x_payload_formats.proofs.SendingLemmas.{packets_append}
use Rattle.h26x_payload_formats.proofs.sender.push_units.Goals as goal

pub loop-unit-preserved : goal.loop-unit-preserved
loop-unit-preserved c =
    let whole = c.loop-unit.invariant in
    let steps = c.in-Some.ensures.steps in
    let sent = c.in_ok-kept.ensures in
    let kept = c.in_ok-kept.kept in
    let limit : ℕ = c.args.form.limit in
    let rules : Rules = h265_h266_rules c.args.form.layout c.args.form.donl in
    let packets : Numbered → List (List ℕ) = packets_of c.args.form.layout c.args.form.donl limit in
    let u : List ℕ = c.in-Some.unit.now in
    let us : List (List ℕ) = units_left c.next.new.self in
    let n : ℕ = c.loop-unit.kept.number in
    let w : Waiting = waiting_in c.loop-unit.kept in
    let ds : List Departure = departing rules limit (role_by c.args.form.layout (unit_type c.args.form.layout u)) w u in
    let v : Waiting = waiting_behind rules (role_by c.args.form.layout (unit_type c.args.form.layout u)) w u in
    let before : List (List ℕ) = map (λ p. p.items) c.loop-unit.packets.items in
    let prefix : List ℕ = c.args.prefix.now in
    let now : List (List ℕ) = flat_map packets (numbered n ds) in
    let later : List (List ℕ) = flat_map packets (numbered (number_after n ds) (departures rules limit v us)) in
    let sent_now : List (List ℕ) = with_prefix prefix now in
    record {
      packets =
          ap (λ t. t ++ with_prefix prefix
          (flat_map packets (numbered kept.number (departures rules limit (waiting_in kept) us)))) sent.packets
          ∙ ap (λ m. (before ++ sent_now) ++ with_prefix prefix
          (flat_map packets (numbered m (departures rules limit (waiting_in kept) us)))) sent.number
          ∙ ap (λ x. (before ++ sent_now) ++ with_prefix prefix
          (flat_map packets (numbered (number_after n ds) (departures rules limit x us)))) sent.waiting
          ∙ append_assoc before sent_now (with_prefix prefix later)
          ∙ ap (λ t. before ++ t) (sym (map-append (λ p. prefix ++ p) now later))
          ∙ ap (λ t. before ++ with_prefix prefix t) (sym (packets_append packets n ds (departures rules limit v us)))
          ∙ ap (λ vs. before ++ with_prefix prefix (flat_map packets (numbered n (departures rules limit w vs))))
          (sym steps)
          ∙ whole.packets;
      number =
          ap (λ m. number_after m (departures rules limit (waiting_in kept) us)) sent.number
          ∙ ap (λ x. number_after (number_after n ds) (departures rules limit x us)) sent.waiting
          ∙ sym (number_after_append n ds (departures rules limit v us))
          ∙ ap (λ vs. number_after n (departures rules limit w vs)) (sym steps)
          ∙ whole.number;
      waiting = ap (λ x. waiting_after rules x us) sent.waiting ∙ ap (waiting_after rules w) (sym steps)
          ∙ whole.waiting;
    }
