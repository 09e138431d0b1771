-- What makes H.265 and H.266 keep the codec law.
use Rattle.std.proofs.Common.{◌≡◌, ℕ, zero, suc, ◌+◌, ◌-◌, ◌<◌, ◌≤◌, Bool, true, false, leb, List, [], ◌∷◌, ◌++◌, map}
use Rattle.std.proofs.Common.{length, take, drop, None, if◌then◌else◌, refl, sym, ap, subst, ◌∙◌, arith}
use Rattle.std.specs.Prelude.{◌&&◌, ◌||◌}
use Rattle.std.specs.List.{All, flat_map}
use Rattle.std.proofs.lemmas.Bool.Decides.{nat_tests}
use Rattle.std.proofs.lemmas.List.{append-nil, drop_all, length-append, length-drop, length-take, map-append}
use Rattle.std.proofs.lemmas.List.{take-append-drop, take_all}
use Rattle.std.proofs.lemmas.List.Elements.{All-append, All-cons, All-head, All-nil, All-tail, All-weaker}
use Rattle.h26x_payload_units.specs.Units.{units_of}
use Rattle.h26x_payload_units.proofs.UnitLemmas.{units_law}
use Rattle.payload_core_base.specs.Format.{Run, read_all, run_behind}
use Rattle.payload_core_base.specs.Law.{AreFramesOf, AreFull, AreWithin, IsFrameOf, joined}
use Rattle.payload_core_base.specs.Packing.{MarkedPacket, Sender, is_none_left, marked}
use Rattle.payload_core_base.specs.Pieces.{pieces}
use Rattle.payload_core_base.proofs.PieceLemmas.{joined-pieces, pieces-empty, pieces-full, pieces-within}
use Rattle.h26x_payload_units.specs.Aggregates.{in_aggregate, sized}
use Rattle.h26x_payload_units.specs.Departures.{Departure, units_in}
use Rattle.h26x_payload_units.specs.Departures.Departure.{Together, Alone}
use Rattle.h26x_payload_units.specs.Fragments.{behind_code, in_fragments}
use Rattle.h26x_payload_units.specs.Numbers.{Numbered, number_behind, numbered}
use Rattle.h26x_payload_units.proofs.BundleLemmas.{AreBundles, GivesParts, IsBundle, bundled-frame, bundles-give}
use Rattle.h26x_payload_units.proofs.DepartureLemmas.{Each}
use Rattle.h26x_payload_units.specs.declared.layout.Layout.{Layout}
use Rattle.h26x_payload_units.specs.Given.{GivesUnits, unit_of}
use Rattle.h26x_payload_formats.specs.Coding.{AreSendable, FullLaw, IsSendable, KeepsCodecLaw, UnitsLaw}
use Rattle.h26x_payload_formats.specs.Coding.{WithinLaw, h265_h266_units_sent}
use Rattle.h26x_payload_units.specs.Numbers.{dond_bytes, donl_bytes, donl_size}
use Rattle.h26x_payload_formats.specs.Packing.{aggregate, can_leave, departure_packets, fragment, fragments_of}
use Rattle.h26x_payload_formats.specs.Packing.{h265_h266_packing, least_limit, leaving, packets_of, packets_sent}
use Rattle.h26x_payload_formats.specs.Packing.{parts_of, single}
use Rattle.h26x_payload_formats.specs.Reading.{h265_h266_format}
use Rattle.h26x_payload_formats.proofs.LayoutDepartureLemmas.{IsFitting, IsGood, departures-fit, departures-good}
use Rattle.h26x_payload_formats.proofs.RunLaw.{aggregate_given, aggregate_head, fragments_bundle, given-run}
use Rattle.h26x_payload_formats.proofs.RunLaw.{number_size, single_given, single_kind}
use Rattle.h26x_payload_units.specs.Reading.{begins_by}
use Rattle.h26x_payload_units.proofs.ReadingLemmas.{IsWithin, have_bytes, joined_codes, some_parts}

abbrev parts_in : Numbered → List (List ℕ)
parts_in n = map behind_code (units_in n.departure)

aggregate_bundle : (l : Layout) (donl : Bool) (n : ℕ) (sets : List (List ℕ)) → 0 < length sets
    → IsBundle (h265_h266_format l donl) (aggregate l donl n sets ∷ []) (map behind_code sets)
aggregate_bundle l donl n sets some = (aggregate_head l donl n sets, tt, some_parts sets some, gives_all)
  where
    gives_all : GivesParts (h265_h266_format l donl) (aggregate l donl n sets ∷ []) (map behind_code sets)
    gives_all extra qs =
        let g = given-run l donl None None extra (aggregate l donl n sets) (flat_map behind_code sets) qs
        (aggregate_given l donl n sets None) in
        (g.0, g.1 ∙ ap (λ t. run_behind t (read_all (h265_h266_format l donl) None g.0 qs)) (sym (joined_codes sets)))

-- a unit that is alone
single_is : (donl : Bool) (n high low : ℕ) (body : List ℕ) → 0 < length body → single donl n (high ∷ low ∷ body)
    ≡ high ∷ low ∷ (donl_bytes donl n ++ body)
single_is donl n high low body some =
    let t : leb (length (high ∷ low ∷ body)) 2 ≡ false = grind (arith, nat_tests) in
    ap (λ t. if t then high ∷ low ∷ body else take 2 (high ∷ low ∷ body)
    ++ (donl_bytes donl n ++ drop 2 (high ∷ low ∷ body))) t

single_bundle : (l : Layout) (donl : Bool) (n high low : ℕ) (body : List ℕ) → IsSendable l (high ∷ low ∷ body)
    → IsBundle (h265_h266_format l donl) (single donl n (high ∷ low ∷ body) ∷ []) (behind_code (high ∷ low ∷ body) ∷ [])
single_bundle l donl n high low body is =
    let B : List ℕ → Type 0 = λ p. IsBundle (h265_h266_format l donl) (p ∷ []) (behind_code (high ∷ low ∷ body) ∷ []) in
    subst B (sym (single_is donl n high low body is.2))
    (ap (λ k. begins_by k (donl_bytes donl n ++ body)) (single_kind l high low is.1), tt, omega arith, gives_all)
  where
    gives_all : GivesParts (h265_h266_format l donl) ((high ∷ low ∷ (donl_bytes donl n ++ body)) ∷ [])
        (behind_code (high ∷ low ∷ body) ∷ [])
    gives_all extra qs =
        let g = given-run l donl None None extra (high ∷ low ∷ (donl_bytes donl n ++ body))
        (behind_code (high ∷ low ∷ body)) qs (single_given l donl n high low body None is.0 is.1 is.2) in (
          g.0,
          g.1 ∙ ap (λ t. run_behind t (read_all (h265_h266_format l donl) None g.0 qs))
              (sym (append-nil (behind_code (high ∷ low ∷ body)))),
        )

joined_parts : (donl : Bool) (limit : ℕ) (body : List ℕ) → 3 < limit → joined (parts_of donl limit body) ≡ body
joined_parts donl limit body room =
    let size : ℕ = limit - 3 - donl_size donl in
    ap (λ t. take size body ++ t) (joined-pieces (limit - 3) (omega arith) (drop size body))
    ∙ take-append-drop size body

-- the number changes no length
single_size : (donl : Bool) (n : ℕ) (unit : List ℕ) → length (single donl n unit) ≡ length (single donl 0 unit)
single_size donl n unit = by_size (leb (length unit) 2)
  where
    by_size : (t : Bool) → length (if t then unit else take 2 unit ++ (donl_bytes donl n ++ drop 2 unit))
        ≡ length (if t then unit else take 2 unit ++ (donl_bytes donl 0 ++ drop 2 unit))
    by_size true = refl
    by_size false = omega (
      arith,
      length-append (take 2 unit) (donl_bytes donl n ++ drop 2 unit),
      length-append (take 2 unit) (donl_bytes donl 0 ++ drop 2 unit),
      length-append (donl_bytes donl n) (drop 2 unit),
      length-append (donl_bytes donl 0) (drop 2 unit),
      number_size donl n,
      number_size donl 0,
    )

aggregate_size : (l : Layout) (donl : Bool) (n : ℕ) (sets : List (List ℕ)) → length (aggregate l donl n sets)
    ≡ length (aggregate l donl 0 sets)
aggregate_size l donl n [] = refl
aggregate_size l donl n (u ∷ us) =
    let rest : List ℕ = sized u ++ in_aggregate (dond_bytes l donl) (dond_bytes l donl) us in
    omega (
      arith,
      length-append (donl_bytes donl n) rest,
      length-append (donl_bytes donl 0) rest,
      number_size donl n,
      number_size donl 0,
    )

unit_bundle : (l : Layout) (donl : Bool) (limit n : ℕ) (unit : List ℕ) → IsSendable l unit
    → can_leave donl limit unit ≡ true
    → IsBundle (h265_h266_format l donl) (departure_packets l donl limit n (Alone unit)) (behind_code unit ∷ [])
unit_bundle l donl limit n [] is leaves = absurd is
unit_bundle l donl limit n (high ∷ []) is leaves = absurd is
unit_bundle l donl limit n (high ∷ low ∷ body) is leaves =
    by_size (leb (length (single donl n (high ∷ low ∷ body))) limit) refl
    (ap (λ k. leb k limit || leb (4 + donl_size donl) limit) (single_size donl n (high ∷ low ∷ body)) ∙ leaves)
  where
    by_size : (t : Bool) → leb (length (single donl n (high ∷ low ∷ body))) limit ≡ t
        → (t || leb (4 + donl_size donl) limit) ≡ true
        → IsBundle (h265_h266_format l donl) (if t then single donl n (high ∷ low ∷ body) ∷ []
        else fragments_of l donl limit n (high ∷ low ∷ body)) (behind_code (high ∷ low ∷ body) ∷ [])
    by_size true e can = single_bundle l donl n high low body is
    by_size false e can =
        let room : 4 + donl_size donl ≤ limit = grind (arith, nat_tests) in
        fragments_bundle l donl n high low body (parts_of donl limit body) (is.0, is.1) (omega arith)
        (joined_parts donl limit body (omega (arith, room)))

departure_bundle : (l : Layout) (donl : Bool) (limit n : ℕ) (d : Departure) → IsFitting l donl limit d → IsGood l d
    → IsBundle (h265_h266_format l donl) (departure_packets l donl limit n d) (map behind_code (units_in d))
departure_bundle l donl limit n (Together sets) fits good = aggregate_bundle l donl n sets fits.0
departure_bundle l donl limit n (Alone unit) fits good = unit_bundle l donl limit n unit good fits.1

bundles : (l : Layout) (donl : Bool) (limit n : ℕ) (ds : List Departure) → Each (IsFitting l donl limit) ds
    → Each (IsGood l) ds
    → AreBundles (h265_h266_format l donl) Numbered (packets_of l donl limit) parts_in (numbered n ds)
bundles l donl limit n [] fits good = tt
bundles l donl limit n (d ∷ ds) fits good =
    (departure_bundle l donl limit n d fits.0 good.0, bundles l donl limit (number_behind n d) ds fits.1 good.1)

all_parts : (n : ℕ) (ds : List Departure) → flat_map parts_in (numbered n ds) ≡ map behind_code (flat_map units_in ds)
all_parts n [] = refl
all_parts n (d ∷ ds) = ap (λ t. map behind_code (units_in d) ++ t) (all_parts (number_behind n d) ds)
    ∙ sym (map-append behind_code (units_in d) (flat_map units_in ds))

fragment_size : (l : Layout) (donl : Bool) (n high low : ℕ) (first last : Bool) (part : List ℕ)
    → length (fragment l donl n high low first last part) ≡ 3 + donl_size (first && donl) + length part
fragment_size l donl n high low first last part =
    omega (arith, length-append (donl_bytes (first && donl) n) part, number_size (first && donl) n)

later_within : (l : Layout) (donl : Bool) (n high low limit : ℕ) (ps : List (List ℕ)) → 3 < limit
    → All (IsWithin (limit - 3)) ps
    → AreWithin limit (in_fragments (fragment l donl n high low) false ps)
later_within l donl n high low limit [] room fits = All-nil _
later_within l donl n high low limit (p ∷ ps) room fits =
    let here = All-head (IsWithin (limit - 3)) p ps fits in
    All-cons (IsWithin limit) (fragment l donl n high low false (is_none_left ps) p)
    (in_fragments (fragment l donl n high low) false ps)
    (omega arith, omega (arith, here.1, fragment_size l donl n high low false (is_none_left ps) p))
    (later_within l donl n high low limit ps room (All-tail (IsWithin (limit - 3)) p ps fits))

fragments_within : (l : Layout) (donl : Bool) (n high low limit : ℕ) (body : List ℕ) → 4 + donl_size donl ≤ limit
    → AreWithin limit (in_fragments (fragment l donl n high low) true (parts_of donl limit body))
fragments_within l donl n high low limit body room =
    let size : ℕ = limit - 3 - donl_size donl in
    let rest : List (List ℕ) = pieces (limit - 3) (drop size body) in
    let part : length (take size body) ≤ size = omega (arith, length-take size body) in
    let more : 0 < limit - 3 = omega (arith, room) in
    All-cons (IsWithin limit) (fragment l donl n high low true (is_none_left rest) (take size body))
    (in_fragments (fragment l donl n high low) false rest)
    (omega arith, omega (arith, room, part, fragment_size l donl n high low true (is_none_left rest) (take size body)))
    (later_within l donl n high low limit rest (omega (arith, room)) (pieces-within (limit - 3) more (drop size body)))

some_single : (donl : Bool) (n : ℕ) (unit : List ℕ) → 0 < length unit → 0 < length (single donl n unit)
some_single donl n unit some = by_size (leb (length unit) 2) refl
  where
    by_size : (t : Bool) → leb (length unit) 2 ≡ t
        → 0 < length (if t then unit else take 2 unit ++ (donl_bytes donl n ++ drop 2 unit))
    by_size true e = some
    by_size false e =
        let long : 2 < length unit = grind (arith, nat_tests) in
        omega (arith, long, length-append (take 2 unit) (donl_bytes donl n ++ drop 2 unit), length-take 2 unit)

alone_within : (l : Layout) (donl : Bool) (limit n : ℕ) (unit : List ℕ) → 0 < length unit
    → can_leave donl limit unit ≡ true
    → AreWithin limit (departure_packets l donl limit n (Alone unit))
alone_within l donl limit n unit some leaves =
    by_size (leb (length (single donl n unit)) limit) refl
    (ap (λ k. leb k limit || leb (4 + donl_size donl) limit) (single_size donl n unit) ∙ leaves)
  where
    by_unit : (unit : List ℕ) → 4 + donl_size donl ≤ limit → AreWithin limit (fragments_of l donl limit n unit)
    by_unit [] room = All-nil _
    by_unit (high ∷ []) room = All-nil _
    by_unit (high ∷ low ∷ body) room = fragments_within l donl n high low limit body room

    by_size : (t : Bool) → leb (length (single donl n unit)) limit ≡ t → (t || leb (4 + donl_size donl) limit) ≡ true
        → AreWithin limit (if t then single donl n unit ∷ [] else fragments_of l donl limit n unit)
    by_size true e can = All-cons (IsWithin limit) (single donl n unit) []
        (some_single donl n unit some, grind (arith, nat_tests)) (All-nil _)
    by_size false e can = by_unit unit (grind (arith, nat_tests))

departure_within : (l : Layout) (donl : Bool) (limit n : ℕ) (d : Departure) → IsFitting l donl limit d
    → AreWithin limit (departure_packets l donl limit n d)
departure_within l donl limit n (Together sets) fits =
    All-cons (IsWithin limit) (aggregate l donl n sets) []
    (omega arith, omega (arith, fits.1, aggregate_size l donl n sets)) (All-nil _)
departure_within l donl limit n (Alone unit) fits = alone_within l donl limit n unit fits.0 fits.1

all_within : (l : Layout) (donl : Bool) (limit n : ℕ) (ds : List Departure) → Each (IsFitting l donl limit) ds
    → AreWithin limit (flat_map (packets_of l donl limit) (numbered n ds))
all_within l donl limit n [] fits = All-nil _
all_within l donl limit n (d ∷ ds) fits = All-append (IsWithin limit) (departure_packets l donl limit n d)
    (flat_map (packets_of l donl limit) (numbered (number_behind n d) ds)) (departure_within l donl limit n d fits.0)
    (all_within l donl limit (number_behind n d) ds fits.1)

fits_of : (l : Layout) (donl : Bool) (s : Sender) (mtu : ℕ) (sample : List ℕ)
    → Each (IsFitting l donl (least_limit mtu)) (leaving l donl s mtu sample)
fits_of l donl s mtu sample = departures-fit l donl (least_limit mtu) s.waiting (units_of sample)
    (have_bytes (units_of sample) (units_law sample))

bundles_of : (l : Layout) (donl : Bool) (s : Sender) (mtu : ℕ) (sample : List ℕ) → AreSendable l (units_of sample)
    → AreBundles (h265_h266_format l donl) Numbered (packets_of l donl (least_limit mtu)) parts_in
    (numbered s.number (leaving l donl s mtu sample))
bundles_of l donl s mtu sample are = bundles l donl (least_limit mtu) s.number (leaving l donl s mtu sample)
    (fits_of l donl s mtu sample) (departures-good l donl (least_limit mtu) s.waiting (units_of sample) are)

pub within_law : WithinLaw
within_law l donl s mtu sample = all_within l donl (least_limit mtu) s.number (leaving l donl s mtu sample)
    (fits_of l donl s mtu sample)

pub units_law_of_h265_h266 : UnitsLaw
units_law_of_h265_h266 l donl s mtu sample extra are =
    let ds : List Departure = leaving l donl s mtu sample in
    let g = bundles-give (h265_h266_format l donl) Numbered (packets_of l donl (least_limit mtu)) parts_in
    (numbered s.number ds) (bundles_of l donl s mtu sample are) extra in
    let units : List (List ℕ) = h265_h266_units_sent l donl s mtu sample in
    let written : joined (flat_map parts_in (numbered s.number ds)) ≡ flat_map behind_code units =
    ap joined (all_parts s.number ds) ∙ joined_codes units in
    let G : Run → Type 0 = λ run. GivesUnits run units in
    subst G (sym g.1) (record { no_fault = refl; written = written; closed = refl })

one_frame : (l : Layout) (donl : Bool) (ps : List MarkedPacket) (parts : List (List ℕ))
    → IsFrameOf (h265_h266_format l donl) ps parts
    → AreFramesOf (h265_h266_format l donl) ps (parts ∷ [])
one_frame l donl ps parts frame =
    let F : List MarkedPacket → Type 0 = λ qs. IsFrameOf (h265_h266_format l donl) qs parts in
    (length ps, subst F (sym (take_all (length ps) ps (omega arith))) frame, drop_all (length ps) ps (omega arith))

frames_of : (l : Layout) (donl : Bool) (limit n : ℕ) (ds : List Departure)
    → AreBundles (h265_h266_format l donl) Numbered (packets_of l donl limit) parts_in (numbered n ds)
    → Each (IsFitting l donl limit) ds
    → AreFramesOf (h265_h266_format l donl) (marked (h265_h266_packing l donl) (flat_map (packets_of l donl limit)
    (numbered n ds)))
    (unit_of (flat_map units_in ds))
frames_of l donl limit n [] are fits = refl
frames_of l donl limit n (d ∷ ds) are fits =
    by_units (flat_map units_in (d ∷ ds)) (some_units d fits.0) (all_parts n (d ∷ ds))
  where
    some_units : (d : Departure) → IsFitting l donl limit d → 0 < length (flat_map units_in (d ∷ ds))
    some_units (Together sets) fits = omega (arith, fits.0, length-append sets (flat_map units_in ds))
    some_units (Alone unit) fits = omega arith

    by_units : (us : List (List ℕ)) → 0 < length us → flat_map parts_in (numbered n (d ∷ ds)) ≡ map behind_code us
        → AreFramesOf (h265_h266_format l donl) (marked (h265_h266_packing l donl)
        (flat_map (packets_of l donl limit) (numbered n (d ∷ ds)))) (unit_of us)
    by_units [] some same = absurd (omega arith)
    by_units (u ∷ us) some same =
        let F : List (List ℕ) → Type 0 = λ parts. IsFrameOf (h265_h266_format l donl)
        (marked (h265_h266_packing l donl) (flat_map (packets_of l donl limit) (numbered n (d ∷ ds)))) parts in
        one_frame l donl (marked (h265_h266_packing l donl) (flat_map (packets_of l donl limit) (numbered n (d ∷ ds))))
        (map behind_code (u ∷ us))
        (subst F same (bundled-frame (h265_h266_format l donl) Numbered (packets_of l donl limit) parts_in
        (h265_h266_packing l donl)
        (record { marks = λ q last. refl; tail = λ marker q. refl }) (record { number = n; departure = d })
        (numbered (number_behind n d) ds) are))

pub h265_h266_codec_law : KeepsCodecLaw
h265_h266_codec_law l donl s mtu sample reached are = record {
  reached = tt;
  within = All-weaker (IsWithin (least_limit mtu)) (IsWithin mtu) (λ p fits. (fits.0, omega (arith, fits.1)))
      (packets_sent l donl s mtu sample) (within_law l donl s mtu sample);
  frames = frames_of l donl (least_limit mtu) s.number (leaving l donl s mtu sample)
      (bundles_of l donl s mtu sample are)
      (fits_of l donl s mtu sample);
  leaves = refl;
}

later_full : (l : Layout) (donl : Bool) (n high low limit : ℕ) (ps : List (List ℕ)) → 3 < limit → AreFull (limit - 3) ps
    → AreFull limit (in_fragments (fragment l donl n high low) false ps)
later_full l donl n high low limit [] room full k lt = absurd (omega arith)
later_full l donl n high low limit (p ∷ []) room full k lt = absurd (omega arith)
later_full l donl n high low limit (p ∷ q ∷ ps) room full zero lt =
    omega (arith, full 0 (omega arith), fragment_size l donl n high low false (is_none_left (q ∷ ps)) p)
later_full l donl n high low limit (p ∷ q ∷ ps) room full (suc k) lt =
    later_full l donl n high low limit (q ∷ ps) room (λ j less. full (suc j) (omega arith)) k (omega arith)

first_full : (l : Layout) (donl : Bool) (n high low limit size : ℕ) (body : List ℕ) (ps : List (List ℕ)) → 3 < limit
    → size + 3 + donl_size donl ≡ limit → (0 < length ps → size ≤ length body) → AreFull (limit - 3) ps
    → AreFull limit (in_fragments (fragment l donl n high low) true (take size body ∷ ps))
first_full l donl n high low limit size body [] room is more full k lt = absurd (omega arith)
first_full l donl n high low limit size body (p ∷ ps) room is more full zero lt =
    omega (
      arith,
      is,
      more (omega arith),
      length-take size body,
      fragment_size l donl n high low true (is_none_left (p ∷ ps)) (take size body),
    )
first_full l donl n high low limit size body (p ∷ ps) room is more full (suc k) lt =
    later_full l donl n high low limit (p ∷ ps) room full k (omega arith)

some_left : (size n : ℕ) (body : List ℕ) → 0 < n → 0 < length (pieces n (drop size body)) → size ≤ length body
some_left size n body some_size some = by_rest (drop size body) (length-drop size body) some
  where
    none_left : 0 < length (pieces n []) → ⊥
    none_left some = absurd (omega (arith, some, ap (λ (ps : List (List ℕ)). length ps) (pieces-empty n)))

    by_rest : (rest : List ℕ) → length rest ≡ length body - size → 0 < length (pieces n rest) → size ≤ length body
    by_rest [] is some = absurd (none_left some)
    by_rest (b ∷ bs) is some = omega (arith, is)

pub full_law : FullLaw
full_law l donl limit n [] room = λ k lt. absurd (omega arith)
full_law l donl limit n (high ∷ []) room = λ k lt. absurd (omega arith)
full_law l donl limit n (high ∷ low ∷ body) room =
    let size : ℕ = limit - 3 - donl_size donl in
    let more : 0 < limit - 3 = omega (arith, room) in
    first_full l donl n high low limit size body (pieces (limit - 3) (drop size body)) (omega (arith, room))
    (omega (arith, room)) (some_left size (limit - 3) body more) (pieces-full (limit - 3) more (drop size body))
