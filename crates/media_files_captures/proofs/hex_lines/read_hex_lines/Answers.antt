use Rattle.std.proofs.Common.{◌≡◌, ◌<◌, ◌+◌, ℕ, List, Option, Bor, map, length, option_map, refl, ap, sym, ◌∙◌, arith}
use Rattle.media_files_captures.specs.HexLines.{datagram_shown, line_shown}
use Rattle.media_files_captures.specs.declared.hex_lines.HexDatagram.{HexDatagram}
use Rattle.media_files_captures.proofs.HexLemmas.{read-more, read-all, read-bad}
use Rattle.media_files_captures.proofs.hex_lines.read_hex_lines.Goals as goal

pub returns-in_default-clause-refused : goal.returns-in_default-clause-refused
returns-in_default-clause-refused c other =
    let some : 0 < length c.loop-rest.rest.now = grind (arith, c.loop-rest-test.ensures) in (
      c.loop-rest.number + 1,
      refl,
      read-bad c.args.text.now (map datagram_shown c.loop-rest.datagrams.items)
          c.loop-rest.number c.loop-rest.rest.now c.loop-rest.invariant.sofar
          (sym c.in_ok-said.ensures.value
          ∙ ap (λ (l : Option (Option HexDatagram × Bor (List ℕ))). line_shown l) c.in_default.is) some,
    )

pub loop-rest-preserved : goal.loop-rest-preserved
loop-rest-preserved c =
    let shorter : length c.in-Some.behind.now < length c.loop-rest.rest.now =
    rw c.in-Some.is at c.in_ok-said.ensures.shorter in
    record {
      few = omega (arith, shorter, c.loop-rest.invariant.few);
      sofar = read-more c.args.text.now (map datagram_shown c.loop-rest.datagrams.items)
          (map datagram_shown c.take_said.new.datagrams.items) c.loop-rest.number c.loop-rest.rest.now
          c.in-Some.behind.now (option_map datagram_shown c.in-Some.said) c.loop-rest.invariant.sofar
          (sym c.in_ok-said.ensures.value
          ∙ ap (λ (l : Option (Option HexDatagram × Bor (List ℕ))). line_shown l) c.in-Some.is)
          c.in_ok-take_said.ensures;
    }

pub returns-clause-value : goal.returns-clause-value
returns-clause-value c =
    let none : length c.loop-rest.rest.now ≡ 0 = grind (arith, c.loop-rest-test.ensures) in
    read-all c.args.text.now (map datagram_shown c.loop-rest.datagrams.items) c.loop-rest.number c.loop-rest.rest.now
    c.loop-rest.invariant.sofar none
