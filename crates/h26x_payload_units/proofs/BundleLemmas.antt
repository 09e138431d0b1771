-- Bundles of packets, each of which begins with its only head, and gives parts by itself.
use Rattle.std.proofs.Common.{◌≡◌, ℕ, zero, suc, ◌+◌, ◌<◌, true, false, List, [], ◌∷◌, ◌++◌, length, drop, None, refl}
use Rattle.std.proofs.Common.{sym, ap, subst, ◌∙◌, arith}
use Rattle.std.specs.Prelude.{slice_index_or}
use mathlib.Core.Bool.{false≢true}
use Rattle.std.specs.List.{flat_map}
use Rattle.std.proofs.lemmas.List.{length-append}
use Rattle.std.proofs.lemmas.List.Concat.{flat_map-append}
use Rattle.payload_core_base.specs.Format.{Format, Run, read_all, run_behind}
use Rattle.payload_core_base.specs.Packing.{Packing, marked}
use Rattle.payload_core_base.specs.Law.{GivesFrom, HeadsGiveFinalRuns, IsFrameOf, joined, packet_at, payloads_of}
use Rattle.payload_core_base.specs.declared.extra.CodecExtra.{CodecExtra}
use Rattle.payload_core_base.proofs.FrameLemmas.{TailsAtMarker, marker-tails}

-- none of these packets is a head
abbrev pub NoHeads : Format → List (List ℕ) → Type 0
NoHeads format [] = Unit {0}
NoHeads format (p ∷ ps) = (format.head p ≡ false) × NoHeads format ps

-- with no fragment open, these packets give these parts, and leave none open
abbrev pub GivesParts : Format → List (List ℕ) → List (List ℕ) → Type 0
GivesParts format ps parts = (extra : CodecExtra) (qs : List (List ℕ)) → (x : CodecExtra)
    × (read_all format None extra (ps ++ qs) ≡ run_behind (joined parts) (read_all format None x qs))

abbrev pub IsBundle : Format → List (List ℕ) → List (List ℕ) → Type 0
IsBundle format [] parts = ⊥
IsBundle format (p ∷ ps) parts = (format.head p ≡ true) × NoHeads format ps × (0 < length parts)
    × GivesParts format (p ∷ ps) parts

-- a run that is over, with these bytes
abbrev pub ended : List ℕ → CodecExtra → Run
ended written extra = record { written = written; extra = extra; fragment = None; fault = None }

drop-front : (xs ys : List (List ℕ)) (m : ℕ) → drop (length xs + m) (xs ++ ys) ≡ drop m ys
drop-front [] ys m = ap (λ n. drop n ys) (omega arith)
drop-front (x ∷ xs) ys m = let e : suc (length xs) + m ≡ suc (length xs + m) = omega arith in
    ap (λ n. drop n (x ∷ (xs ++ ys))) e ∙ drop-front xs ys m

-- a head after packets without heads
record IsBehind (format : Format) (all rest : List (List ℕ)) (i : ℕ) : Type 0 where
  place : ℕ
  same : drop i all ≡ drop place rest
  within : place < length rest
  head : format.head (slice_index_or rest place []) ≡ true

behind : (format : Format) (ps rest : List (List ℕ)) → NoHeads format ps → (i : ℕ) → i < length (ps ++ rest)
    → format.head (slice_index_or (ps ++ rest) i []) ≡ true → IsBehind format (ps ++ rest) rest i
behind format [] rest none i lt head = record { place = i; same = refl; within = lt; head = head }
behind format (p ∷ ps) rest none zero lt head = absurd (false≢true (sym none.0 ∙ head))
behind format (p ∷ ps) rest none (suc i) lt head =
    let b = behind format ps rest none.1 i (omega arith) head in
    record { place = b.place; same = b.same; within = b.within; head = b.head }

from_start : (run : Run) (written : List ℕ) (x : CodecExtra) (parts : List (List ℕ)) → 0 < length parts → run
    ≡ ended written x → written ≡ joined parts → GivesFrom run parts 0
from_start run written x parts some is same =
    let G : Run → Type 0 = λ run. GivesFrom run parts 0 in
    subst G (sym is) (record { some_part = some; no_fault = refl; written = same; closed = refl })

module _ (format : Format) (A : Type 0) (packets parts : A → List (List ℕ)) where
  abbrev pub AreBundles : List A → Type 0
  AreBundles [] = Unit {0}
  AreBundles (a ∷ bs) = IsBundle format (packets a) (parts a) × AreBundles bs

  gives_one : (ps given : List (List ℕ)) → IsBundle format ps given → GivesParts format ps given
  gives_one [] given is = absurd is
  gives_one (p ∷ ps) given is = is.3

  -- read one after the other, they give all their parts
  pub bundles-give : (bs : List A) → AreBundles bs → (extra : CodecExtra) → (x : CodecExtra)
      × (read_all format None extra (flat_map packets bs) ≡ ended (joined (flat_map parts bs)) x)
  bundles-give [] are extra = (extra, refl)
  bundles-give (a ∷ bs) are extra =
      let g = gives_one (packets a) (parts a) are.0 extra (flat_map packets bs) in
      let h = bundles-give bs are.1 g.0 in (
        h.0,
        g.1 ∙ ap (run_behind (joined (parts a))) h.1
            ∙ ap (λ w. ended w h.0) (sym (flat_map-append (λ p. p) (parts a) (flat_map parts bs))),
      )

  -- from a head on, they give a final run of them
  abbrev HeadGives : List (List ℕ) → List (List ℕ) → Type 0
  HeadGives ps given = (j : ℕ) (extra : CodecExtra) → j < length ps → format.head (slice_index_or ps j []) ≡ true
      → (m : ℕ) × GivesFrom (read_all format None extra (drop j ps)) given m

  head_in : (ps given qs others : List (List ℕ)) → IsBundle format ps given
      → ((extra : CodecExtra) → (x : CodecExtra) × (read_all format None extra qs ≡ ended (joined others) x))
      → HeadGives qs others
      → HeadGives (ps ++ qs) (given ++ others)
  head_in [] given qs others is all later j extra lt head = absurd is
  head_in (p ∷ ps) given qs others is all later zero extra lt head =
      let g = is.3 extra qs in
      let h = all g.0 in (
        0,
        from_start (read_all format None extra ((p ∷ ps) ++ qs)) (joined given ++ joined others) h.0
            (given ++ others) (omega (arith, is.2, length-append given others))
            (g.1 ∙ ap (run_behind (joined given)) h.1) (sym (flat_map-append (λ p. p) given others)),
      )
  head_in (p ∷ ps) given qs others is all later (suc i) extra lt head =
      let b = behind format ps qs is.1 i (omega arith) head in
      let l = later b.place extra b.within b.head in
      let G : List (List ℕ) → Type 0 = λ rs. GivesFrom (read_all format None extra rs) (given ++ others)
      (length given + l.0) in (
        length given + l.0,
        subst G (sym b.same) (record {
          some_part = omega (arith, l.1.some_part, length-append given others);
          no_fault = l.1.no_fault;
          written = l.1.written ∙ ap joined (sym (drop-front given others l.0));
          closed = l.1.closed;
        }),
      )

  pub bundles-heads : (bs : List A) → AreBundles bs → HeadGives (flat_map packets bs) (flat_map parts bs)
  bundles-heads [] are = λ j extra lt head. absurd (omega arith)
  bundles-heads (a ∷ bs) are = head_in (packets a) (parts a) (flat_map packets bs) (flat_map parts bs) are.0
      (bundles-give bs are.1) (bundles-heads bs are.1)

  some_packet : (ps given : List (List ℕ)) (rest : List (List ℕ)) → IsBundle format ps given
      → (0 < length (ps ++ rest)) × (format.head (slice_index_or (ps ++ rest) 0 []) ≡ true) × (0 < length given)
  some_packet [] given rest is = absurd is
  some_packet (p ∷ ps) given rest is = (omega arith, is.0, is.2)

  payload_at : (packing : Packing) (ps : List (List ℕ)) (k : ℕ) → (packet_at (marked packing ps) k).payload
      ≡ slice_index_or ps k []
  payload_at packing [] k = refl
  payload_at packing (p ∷ ps) zero = refl
  payload_at packing (p ∷ ps) (suc k) = payload_at packing ps k

  pub payloads_left : (packing : Packing) (ps : List (List ℕ)) (k : ℕ) → payloads_of (drop k (marked packing ps))
      ≡ drop k ps
  payloads_left packing [] zero = refl
  payloads_left packing [] (suc k) = refl
  payloads_left packing (p ∷ ps) zero = ap (λ qs. p ∷ qs) (payloads_left packing ps zero)
  payloads_left packing (p ∷ ps) (suc k) = payloads_left packing ps k

  length-marked : (packing : Packing) (ps : List (List ℕ)) → length (marked packing ps) ≡ length ps
  length-marked packing [] = refl
  length-marked packing (p ∷ ps) = ap suc (length-marked packing ps)

  -- if the marker makes the tail, at least one bundle is the frame of a unit
  pub bundled-frame : (packing : Packing) → TailsAtMarker packing format → (a : A) (bs : List A)
      → AreBundles (a ∷ bs) → IsFrameOf format (marked packing (flat_map packets (a ∷ bs))) (flat_map parts (a ∷ bs))
  bundled-frame packing at_marker a bs are =
      let ps : List (List ℕ) = flat_map packets (a ∷ bs) in
      let given : List (List ℕ) = flat_map parts (a ∷ bs) in
      let some = some_packet (packets a) (parts a) (flat_map packets bs) are.0 in
      let heads : HeadsGiveFinalRuns format (marked packing ps) given = λ k extra lt head.
      let h = bundles-heads (a ∷ bs) are k extra (omega (arith, length-marked packing ps))
      (ap format.head (sym (payload_at packing ps k)) ∙ head) in
      let G : List (List ℕ) → Type 0 = λ qs. GivesFrom (read_all format None extra qs) given h.0 in
      (h.0, subst G (sym (payloads_left packing ps k)) h.1) in
      let all : (extra : CodecExtra) → GivesFrom (read_all format None extra (payloads_of (marked packing ps))) given
      0 = λ extra.
      let g = bundles-give (a ∷ bs) are extra in
      let G : List (List ℕ) → Type 0 = λ qs. GivesFrom (read_all format None extra qs) given 0 in
      subst G (sym (payloads_left packing ps 0))
      (from_start (read_all format None extra ps) (joined given) g.0 given
      (omega (arith, some.2, length-append (parts a) (flat_map parts bs))) g.1 refl) in
      record {
        not_empty = omega (arith, some.0, length-marked packing ps);
        first_is_head = ap format.head (payload_at packing ps 0) ∙ some.1;
        last_alone_is_tail = marker-tails packing format at_marker ps;
        heads_give_final_runs = heads;
        first_gives_all = all;
      }
