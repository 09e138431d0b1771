-- The parts and the full place own what a box at the same types owns.
use mir.Syntax.{impl, tnil, dnil}
use mathlib.Core.List.{[]}
use denote.Signature.{Slot, plain}
use Rattle.std.proofs.BoxSteps.Form.{Bx}
use Rattle.std.specs.contracts.alloc.Global as Heap
use Rattle.std.specs.contracts.impls.GlobalAllocator.TheImpl.{ghosts, dict}
use Rattle.std.proofs.alloc.Global.TheLaws as heap
use Rattle.jilqamur.specs.contracts.object.Object as Object
use Rattle.jilqamur.proofs.object.Object.TheLaws as object
use Rattle.jilqamur.specs.contracts.parts.Parts as Parts
use Rattle.jilqamur.specs.contracts.place.Place as Place

abbrev pub E : Bx
E = record {
  row = Object.the_row;
  laws = object.the_row_laws;
  al = record {
    row = Heap.the_row;
    laws =
        heap.the_row_laws;
    g = ghosts;
    d = dict;
    drops = impl [] tnil dnil;
  };
}

abbrev pub FromParts : Slot 0
FromParts = plain (λ _. Parts.the_row Object.the_row Heap.the_row ghosts)

abbrev pub FromPlace : Slot 0
FromPlace = plain (λ _. Place.the_row)
