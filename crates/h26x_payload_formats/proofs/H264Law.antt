-- What makes H.264 keep the codec law.
use Rattle.std.proofs.Common.{◌≡◌, ℕ, zero, suc, ◌-◌, ◌<◌, ◌≤◌, Bool, true, false, leb, List, [], ◌∷◌, ◌++◌, map}
use Rattle.std.proofs.Common.{length, drop, None, if◌then◌else◌, refl, sym, ap, subst, ◌∙◌, arith}
use Rattle.std.specs.Prelude.{◌||◌, option_map}
use Rattle.std.specs.List.{All, flat_map}
use Rattle.std.proofs.lemmas.Bool.Decides.{nat_tests}
use Rattle.std.proofs.lemmas.List.{append-nil, drop_all, length-append, map-append, take_all}
use Rattle.std.proofs.lemmas.List.Elements.{All-append, All-cons, All-head, All-nil, All-tail}
use Rattle.h26x_payload_units.specs.Units.{units_of}
use Rattle.h26x_payload_units.proofs.UnitLemmas.{units_law}
use Rattle.payload_core_base.specs.Format.{Fragment, Run, read_all, run_behind}
use Rattle.payload_core_base.specs.Law.{AreFramesOf, AreFull, AreWithin, CodecLaw, IsFrameOf, joined}
use Rattle.payload_core_base.specs.Packing.{MarkedPacket, Sender, is_none_left, marked}
use Rattle.payload_core_base.specs.Pieces.{pieces}
use Rattle.payload_core_base.proofs.PieceLemmas.{joined-pieces, pieces-full, pieces-step, pieces-within}
use Rattle.h26x_payload_units.specs.Aggregates.{Aggregated, sized}
use Rattle.h26x_payload_units.specs.Departures.{Departure, departures, units_in}
use Rattle.h26x_payload_units.specs.Departures.Departure.{Together, Alone}
use Rattle.h26x_payload_units.specs.Fragments.{behind_code, in_fragments}
use Rattle.h26x_payload_units.specs.Given.{GivesUnits, unit_of}
use Rattle.h26x_payload_formats.specs.H264Coding.{AreSendable, FullLaw, IsSendable, UnitsLaw, WithinLaw}
use Rattle.h26x_payload_formats.specs.H264Coding.{h264_coding, h264_units_sent}
use Rattle.h26x_payload_formats.specs.H264Headers.{kind_of}
use Rattle.h26x_payload_formats.specs.H264Packing.{can_leave, fragments_of, fu_a, h264_packing, h264_rules, packets_of}
use Rattle.h26x_payload_formats.specs.H264Packing.{stap_a}
use Rattle.h26x_payload_formats.specs.StapA.{refusal_of}
use Rattle.h26x_payload_formats.specs.H264Reading.{given, given_units, h264_format}
use Rattle.h26x_payload_formats.proofs.StapALemmas.{all_sized}
use Rattle.h26x_payload_units.proofs.BundleLemmas.{AreBundles, GivesParts, IsBundle, bundled-frame, bundles-give}
use Rattle.h26x_payload_units.proofs.DepartureLemmas.{Each}
use Rattle.h26x_payload_formats.proofs.H264DepartureLemmas.{IsFitting, IsGood, departures-fit, departures-good}
use Rattle.h26x_payload_formats.proofs.H264RunLaw.{fragments_bundle, given-run, kind_is, single_kind}
use Rattle.h26x_payload_units.specs.declared.layout.PacketKind.TheVariants.{Single}
use Rattle.h26x_payload_units.specs.Reading.{begins_by, gives}
use Rattle.h26x_payload_units.proofs.ReadingLemmas.{IsWithin, have_bytes, joined_codes, some_parts}

stap_given : (fragment : Fragment) (sets : List (List ℕ)) → given fragment (stap_a sets)
    ≡ gives (flat_map behind_code sets) fragment
stap_given fragment sets =
    let body : List ℕ = flat_map sized sets in
    ap (λ (a : Aggregated). given_units fragment a.units
    (option_map (λ fault. refusal_of fault (drop (length (flat_map sized a.units)) body)) a.fault)) (all_sized sets)

abbrev parts_in : Departure → List (List ℕ)
parts_in d = map behind_code (units_in d)

stap_bundle : (sets : List (List ℕ)) → 0 < length sets → IsBundle h264_format (stap_a sets ∷ []) (map behind_code sets)
stap_bundle sets some = (refl, tt, some_parts sets some, gives_all)
  where
    gives_all : GivesParts h264_format (stap_a sets ∷ []) (map behind_code sets)
    gives_all extra qs =
        let g = given-run None None extra (stap_a sets) (flat_map behind_code sets) qs (stap_given None sets) in
        (g.0, g.1 ∙ ap (λ t. run_behind t (read_all h264_format None g.0 qs)) (sym (joined_codes sets)))

-- a unit that is alone
whole_bundle : (header : ℕ) (body : List ℕ) → IsSendable (header ∷ body)
    → IsBundle h264_format ((header ∷ body) ∷ []) (behind_code (header ∷ body) ∷ [])
whole_bundle header body is = (ap (λ k. begins_by k body) kind, tt, omega arith, gives_all)
  where
    kind : kind_of header ≡ Single
    kind = single_kind header is.1 is.2

    gives_all : GivesParts h264_format ((header ∷ body) ∷ []) (behind_code (header ∷ body) ∷ [])
    gives_all extra qs =
        let g = given-run None None extra (header ∷ body) (behind_code (header ∷ body)) qs
        (kind_is Single None header body kind) in (
          g.0,
          g.1 ∙ ap (λ t. run_behind t (read_all h264_format None g.0 qs))
              (sym (append-nil (behind_code (header ∷ body)))),
        )

some_pieces : (size : ℕ) (text : List ℕ) → 0 < size → 0 < length text → 0 < length (pieces size text)
some_pieces size text some_size some = omega (arith, ap length (pieces-step size text some_size some))

unit_bundle : (limit : ℕ) (unit : List ℕ) → IsSendable unit → can_leave limit unit ≡ true
    → IsBundle h264_format (packets_of limit (Alone unit)) (behind_code unit ∷ [])
unit_bundle limit [] is leaves = absurd is
unit_bundle limit (header ∷ body) is leaves = by_size (leb (length (header ∷ body)) limit) refl leaves
  where
    by_size : (t : Bool) → leb (length (header ∷ body)) limit ≡ t → (t || leb 3 limit) ≡ true
        → IsBundle h264_format (if t then (header ∷ body) ∷ [] else fragments_of limit (header ∷ body))
        (behind_code (header ∷ body) ∷ [])
    by_size true e can = whole_bundle header body is
    by_size false e can =
        let long : limit < length (header ∷ body) = grind (arith, nat_tests) in
        let room : 3 ≤ limit = grind (arith, nat_tests) in
        let size : 0 < limit - 2 = omega arith in
        fragments_bundle header body (pieces (limit - 2) body) is.0 (some_pieces (limit - 2) body size (omega arith))
        (joined-pieces (limit - 2) size body)

departure_bundle : (limit : ℕ) (d : Departure) → IsFitting limit d → IsGood d
    → IsBundle h264_format (packets_of limit d) (parts_in d)
departure_bundle limit (Together sets) fits good = stap_bundle sets fits.0
departure_bundle limit (Alone unit) fits good = unit_bundle limit unit good fits.1

bundles : (limit : ℕ) (ds : List Departure) → Each (IsFitting limit) ds → Each IsGood ds
    → AreBundles h264_format Departure (packets_of limit) parts_in ds
bundles limit [] fits good = tt
bundles limit (d ∷ ds) fits good = (departure_bundle limit d fits.0 good.0, bundles limit ds fits.1 good.1)

all_parts : (ds : List Departure) → flat_map parts_in ds ≡ map behind_code (flat_map units_in ds)
all_parts [] = refl
all_parts (d ∷ ds) = ap (λ t. parts_in d ++ t) (all_parts ds)
    ∙ sym (map-append behind_code (units_in d) (flat_map units_in ds))

fragments_within : (header : ℕ) (first : Bool) (limit : ℕ) (ps : List (List ℕ)) → 3 ≤ limit
    → All (IsWithin (limit - 2)) ps → AreWithin limit (in_fragments (fu_a header) first ps)
fragments_within header first limit [] room fits = All-nil _
fragments_within header first limit (p ∷ ps) room fits =
    let here = All-head (IsWithin (limit - 2)) p ps fits in
    All-cons (IsWithin limit) (fu_a header first (is_none_left ps) p) (in_fragments (fu_a header) false ps)
    (omega arith, omega (arith, here.1)) (fragments_within header false limit ps room
    (All-tail (IsWithin (limit - 2)) p ps fits))

alone_within : (limit : ℕ) (unit : List ℕ) → 0 < length unit → can_leave limit unit ≡ true
    → AreWithin limit (packets_of limit (Alone unit))
alone_within limit [] some leaves = absurd (omega arith)
alone_within limit (header ∷ body) some leaves = by_size (leb (length (header ∷ body)) limit) refl leaves
  where
    by_size : (t : Bool) → leb (length (header ∷ body)) limit ≡ t → (t || leb 3 limit) ≡ true
        → AreWithin limit (if t then (header ∷ body) ∷ [] else fragments_of limit (header ∷ body))
    by_size true e can = All-cons (IsWithin limit) (header ∷ body) [] (omega arith, grind (arith, nat_tests))
        (All-nil _)
    by_size false e can =
        let room : 3 ≤ limit = grind (arith, nat_tests) in
        fragments_within header true limit (pieces (limit - 2) body) room (pieces-within (limit - 2) (omega arith) body)

departure_within : (limit : ℕ) (d : Departure) → IsFitting limit d → AreWithin limit (packets_of limit d)
departure_within limit (Together sets) fits =
    All-cons (IsWithin limit) (stap_a sets) [] (omega arith, fits.1) (All-nil _)
departure_within limit (Alone unit) fits = alone_within limit unit fits.0 fits.1

all_within : (limit : ℕ) (ds : List Departure) → Each (IsFitting limit) ds
    → AreWithin limit (flat_map (packets_of limit) ds)
all_within limit [] fits = All-nil _
all_within limit (d ∷ ds) fits = All-append (IsWithin limit) (packets_of limit d) (flat_map (packets_of limit) ds)
    (departure_within limit d fits.0) (all_within limit ds fits.1)

abbrev leaving : Sender → ℕ → List ℕ → List Departure
leaving s limit sample = departures h264_rules limit s.waiting (units_of sample)

fits_of : (s : Sender) (limit : ℕ) (sample : List ℕ) → Each (IsFitting limit) (leaving s limit sample)
fits_of s limit sample = departures-fit limit s.waiting (units_of sample)
    (have_bytes (units_of sample) (units_law sample))

bundles_of : (s : Sender) (limit : ℕ) (sample : List ℕ) → AreSendable (units_of sample)
    → AreBundles h264_format Departure (packets_of limit) parts_in (leaving s limit sample)
bundles_of s limit sample are = bundles limit (leaving s limit sample) (fits_of s limit sample)
    (departures-good limit s.waiting (units_of sample) are)

pub within_law : WithinLaw
within_law s limit sample = all_within limit (leaving s limit sample) (fits_of s limit sample)

pub units_law_of_h264 : UnitsLaw
units_law_of_h264 s limit sample extra are =
    let ds : List Departure = leaving s limit sample in
    let g = bundles-give h264_format Departure (packets_of limit) parts_in ds (bundles_of s limit sample are) extra in
    let units : List (List ℕ) = h264_units_sent s limit sample in
    let written : joined (flat_map parts_in ds) ≡ flat_map behind_code units =
    ap joined (all_parts ds) ∙ joined_codes units in
    let G : Run → Type 0 = λ run. GivesUnits run units in
    subst G (sym g.1) (record { no_fault = refl; written = written; closed = refl })

one_frame : (ps : List MarkedPacket) (parts : List (List ℕ)) → IsFrameOf h264_format ps parts
    → AreFramesOf h264_format ps (parts ∷ [])
one_frame ps parts frame =
    let F : List MarkedPacket → Type 0 = λ qs. IsFrameOf h264_format qs parts in
    (length ps, subst F (sym (take_all (length ps) ps (omega arith))) frame, drop_all (length ps) ps (omega arith))

frames_of : (limit : ℕ) (ds : List Departure) → AreBundles h264_format Departure (packets_of limit) parts_in ds
    → Each (IsFitting limit) ds → AreFramesOf h264_format (marked h264_packing (flat_map (packets_of limit) ds))
    (unit_of (flat_map units_in ds))
frames_of limit [] are fits = refl
frames_of limit (d ∷ ds) are fits =
    by_units (flat_map units_in (d ∷ ds)) (some_units d fits.0) (all_parts (d ∷ ds))
  where
    some_units : (d : Departure) → IsFitting limit d → 0 < length (flat_map units_in (d ∷ ds))
    some_units (Together sets) fits = omega (arith, fits.0, length-append sets (flat_map units_in ds))
    some_units (Alone unit) fits = omega arith

    by_units : (us : List (List ℕ)) → 0 < length us → flat_map parts_in (d ∷ ds) ≡ map behind_code us
        → AreFramesOf h264_format (marked h264_packing (flat_map (packets_of limit) (d ∷ ds))) (unit_of us)
    by_units [] some same = absurd (omega arith)
    by_units (u ∷ us) some same =
        let F : List (List ℕ) → Type 0 = λ parts. IsFrameOf h264_format
        (marked h264_packing (flat_map (packets_of limit) (d ∷ ds))) parts in
        one_frame (marked h264_packing (flat_map (packets_of limit) (d ∷ ds))) (map behind_code (u ∷ us))
        (subst F same (bundled-frame h264_format Departure (packets_of limit) parts_in h264_packing
        (record { marks = λ q last. refl; tail = λ marker q. refl }) d ds are))

pub h264_codec_law : CodecLaw h264_coding
h264_codec_law s limit sample reached are = record {
  reached = tt;
  within = within_law s limit sample;
  frames = frames_of limit (leaving s limit sample) (bundles_of s limit sample are) (fits_of s limit sample);
  leaves = refl;
}

full_by : (header : ℕ) (first : Bool) (limit : ℕ) (ps : List (List ℕ)) → 3 ≤ limit → AreFull (limit - 2) ps
    → AreFull limit (in_fragments (fu_a header) first ps)
full_by header first limit [] room full k lt = absurd (omega arith)
full_by header first limit (p ∷ []) room full k lt = absurd (omega arith)
full_by header first limit (p ∷ q ∷ ps) room full zero lt = omega (arith, full 0 (omega arith))
full_by header first limit (p ∷ q ∷ ps) room full (suc k) lt =
    full_by header false limit (q ∷ ps) room (λ j less. full (suc j) (omega arith)) k (omega arith)

pub full_law : FullLaw
full_law limit [] room = λ k lt. absurd (omega arith)
full_law limit (header ∷ body) room = full_by header true limit (pieces (limit - 2) body) room
    (pieces-full (limit - 2) (omega arith) body)
