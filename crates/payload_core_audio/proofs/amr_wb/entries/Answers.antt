use Rattle.std.proofs.Common.{◌≡◌, ◌+◌, ◌-◌, length, Some, refl, ap, sym, ◌∙◌, arith}
use Rattle.std.proofs.lemmas.Grind.{common_steps}
use Rattle.std.proofs.lemmas.Bool.{eq-eqb, eqb-true}
use Rattle.payload_core_audio.specs.AmrWb.{bit_of, entry_place, head_size}
use Rattle.payload_core_audio.specs.BitPlaces.{place_of}
use Rattle.payload_core_audio.proofs.AmrWbLemmas.{empty_room, first_entry, is_room, last_found, last_none, no_room}
use Rattle.payload_core_audio.proofs.amr_wb.entries.Goals as goal

pub returns-then-is_empty-clause-absent : goal.returns-then-is_empty-clause-absent
returns-then-is_empty-clause-absent c = last_none c.args.octet_align c.args.packet.now 0
    (head_size c.args.octet_align) (first_entry c.args.octet_align _ refl)
    (empty_room c.args.octet_align (length c.args.packet.now)
    (eqb-true (length c.args.packet.now) 0 (sym c.is_empty.ensures ∙ c.if-is_empty.true)))
    (λ j lt. absurd (omega arith))

pub returns-then-more-eq0-clause-found : goal.returns-then-more-eq0-clause-found
returns-then-more-eq0-clause-found c =
    let at = c.loop-place.invariant.place in
    let clear : bit_of c.args.packet.now (entry_place c.args.octet_align c.loop-place.count) ≡ 0 =
    ap (bit_of c.args.packet.now) (sym at) ∙ sym c.bit-more.ensures.value ∙ c.if-more-eq0.true in
    let same : c.loop-place.count ≡ c.loop-place.count + 1 - 1 = omega arith in (
      last_found c.args.octet_align c.args.packet.now c.loop-place.count (place_of c.loop-place.place) at
          (omega (arith, is_room _ _ (sym c.has_room.ensures ∙ c.loop-place-test.true), c.entry_size-size.ensures))
          c.loop-place.invariant.more (eq-eqb _ 0 clear) ∙ ap Some same,
      omega arith,
    )

pub returns-clause-absent : goal.returns-clause-absent
returns-clause-absent c = last_none c.args.octet_align c.args.packet.now c.loop-place.count
    (place_of c.loop-place.place) c.loop-place.invariant.place
    (omega (arith, no_room _ _ (sym c.has_room.ensures ∙ c.loop-place-test.false), c.entry_size-size.ensures))
    c.loop-place.invariant.more

pub returns-then-is_empty-clause-found : goal.returns-then-is_empty-clause-found
returns-then-is_empty-clause-found c = grind (arith, common_steps)

pub returns-then-is_empty-clause-place : goal.returns-then-is_empty-clause-place
returns-then-is_empty-clause-place c = grind (arith, common_steps)

pub loop-place-init : goal.loop-place-init
loop-place-init c = grind (arith, common_steps)

pub has_room-requires-clause-few : goal.has_room-requires-clause-few
has_room-requires-clause-few c = grind (arith, common_steps)

pub has_room-requires-clause-room : goal.has_room-requires-clause-room
has_room-requires-clause-room c = grind (arith, common_steps)

pub bit-more-requires : goal.bit-more-requires
bit-more-requires c = grind (arith, common_steps)

pub after-place-requires-clause-few : goal.after-place-requires-clause-few
after-place-requires-clause-few c = grind (arith, common_steps)

pub after-place-requires-clause-room : goal.after-place-requires-clause-room
after-place-requires-clause-room c = grind (arith, common_steps)

pub returns-then-more-eq0-clause-place : goal.returns-then-more-eq0-clause-place
returns-then-more-eq0-clause-place c = grind (arith, common_steps)

pub returns-then-more-eq0-clause-absent : goal.returns-then-more-eq0-clause-absent
returns-then-more-eq0-clause-absent c = grind (arith, common_steps)

pub loop-place-preserved : goal.loop-place-preserved
loop-place-preserved c = grind (arith, common_steps)

pub returns-clause-found : goal.returns-clause-found
returns-clause-found c = grind (arith, common_steps)

pub returns-clause-place : goal.returns-clause-place
returns-clause-place c = grind (arith, common_steps)
