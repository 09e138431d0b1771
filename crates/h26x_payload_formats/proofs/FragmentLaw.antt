-- Which units fragments write.
use Rattle.std.proofs.Common.{◌≡◌, ℕ, Bool, true, false, List, [], ◌∷◌, ◌++◌, None, Some, Ok, Err, Option, Result}
use Rattle.std.proofs.Common.{if◌then◌else◌, refl, sym, ap, subst, ◌∙◌}
use Rattle.std.specs.Prelude.{◌||◌}
use mathlib.Core.Bool.{false≢true}
use Rattle.payload_core_base.specs.Format.{Fragment, Reading, Run, read_all, run_after}
use Rattle.payload_core_base.specs.declared.error.PacketError.{PacketError}
use Rattle.payload_core_base.specs.declared.extra.CodecExtra.{CodecExtra}
use Rattle.h26x_payload_units.specs.declared.layout.Layout.{Layout}
use Rattle.h26x_payload_units.specs.declared.layout.PacketKind.{PacketKind}
use Rattle.h26x_payload_units.specs.declared.layout.PacketKind.TheVariants.{Single, Aggregate}
use Rattle.h26x_payload_units.specs.declared.layout.PacketKind.TheVariants.{Fragment as FragmentKind, Unhandled}
use Rattle.h26x_payload_units.specs.declared.aggregates.AggregateFault.{AggregateFault}
use Rattle.h26x_payload_units.specs.Fragments.{open_after, put_behind, written_at}
use Rattle.h26x_payload_formats.specs.Fragments.{FragmentLaw, h265_h266_view, header_by, is_fragment}
use Rattle.h26x_payload_formats.specs.Fragments.{part_by, run_of}
use Rattle.h26x_payload_units.specs.Headers.{has_f, kind_of}
use Rattle.h26x_payload_formats.specs.Reading.{aggregated_in, given, given_by, given_from, given_units}
use Rattle.h26x_payload_formats.specs.Reading.{h265_h266_format, is_cut_short, shows_irap, extra_after}
use Rattle.h26x_payload_formats.specs.Reading.{extra_of, was_keyframe}
use Rattle.h26x_payload_units.specs.FragmentRuns.{WritesComplete, open_behind, open_behind_all, written_by}
use Rattle.h26x_payload_units.proofs.FragmentRunLemmas.{fragments_law}
use Rattle.h26x_payload_units.specs.Reading.{Given, ends_by, is_fragment_kind, starts_by}
use Rattle.h26x_payload_units.proofs.ReadingLemmas.{nothing_goes_on, open_of, refused_not, written_of}

-- an accepted packet was not refused for its length or for F
accepted : (short forbidden : Bool) (e d : PacketError) (r : Result Given PacketError) (g : Given)
    → (if short then Err e else (if forbidden then Err d else r)) ≡ Ok g → r ≡ Ok g
accepted true forbidden e d r g is = refused_not e g is
accepted false true e d r g is = refused_not d g is
accepted false false e d r g is = is

units_open : (l : Layout) (f : Fragment) (units : List (List ℕ)) (fault : Option AggregateFault) (g : Given)
    → given_units l f units fault ≡ Ok g → g.fragment ≡ f
units_open l f units None g is = sym (ap open_of is)
units_open l f units (Some e) g is = refused_not _ g is

-- the open unit after a packet of each kind
open_by : (l : Layout) (donl : Bool) (kind : PacketKind) (f : Fragment) (high low : ℕ) (body : List ℕ) (g : Given)
    → given_by l donl kind f high low body ≡ Ok g
    → g.fragment ≡ open_after (ends_by kind body)
    (put_behind (starts_by kind body) (header_by l kind high low body) (part_by donl kind body) f)
open_by l donl Single f high low body g is = sym (ap open_of is) ∙ nothing_goes_on f
open_by l donl Aggregate f high low body g is =
    units_open l f (aggregated_in l donl body).units (aggregated_in l donl body).fault g is ∙ nothing_goes_on f
open_by l donl FragmentKind f high low [] g is = refused_not _ g is
open_by l donl FragmentKind f high low (fu ∷ part) g is = sym (ap open_of is)
open_by l donl Unhandled f high low body g is = refused_not _ g is

written_in : (l : Layout) (donl : Bool) (kind : PacketKind) (f : Fragment) (high low : ℕ) (body : List ℕ) (g : Given)
    → is_fragment_kind kind ≡ true → given_by l donl kind f high low body ≡ Ok g
    → g.written ≡ written_at (ends_by kind body)
    (put_behind (starts_by kind body) (header_by l kind high low body) (part_by donl kind body) f)
written_in l donl Single f high low body g fragment is = absurd (false≢true fragment)
written_in l donl Aggregate f high low body g fragment is = absurd (false≢true fragment)
written_in l donl FragmentKind f high low [] g fragment is = refused_not _ g is
written_in l donl FragmentKind f high low (fu ∷ part) g fragment is = sym (ap written_of is)
written_in l donl Unhandled f high low body g fragment is = absurd (false≢true fragment)

by_kind : (l : Layout) (donl : Bool) (kind : PacketKind) (f : Fragment) (high low : ℕ) (body : List ℕ) (g : Given)
    → given_from l donl kind f high low body ≡ Ok g → given_by l donl kind f high low body ≡ Ok g
by_kind l donl kind f high low body g is =
    accepted (is_cut_short l donl kind body) (has_f high) _ _ (given_by l donl kind f high low body) g is

open_is : (l : Layout) (donl : Bool) (f : Fragment) (p : List ℕ) (g : Given) → given l donl f p ≡ Ok g → g.fragment
    ≡ open_behind (h265_h266_view l donl) p f
open_is l donl f [] g is = refused_not _ g is
open_is l donl f (high ∷ []) g is = refused_not _ g is
open_is l donl f (high ∷ low ∷ body) g is =
    open_by l donl (kind_of l high low) f high low body g (by_kind l donl (kind_of l high low) f high low body g is)

written_is : (l : Layout) (donl : Bool) (f : Fragment) (p : List ℕ) (g : Given) → is_fragment l p ≡ true
    → given l donl f p ≡ Ok g
    → g.written ≡ written_by (h265_h266_view l donl) p f
written_is l donl f [] g fragment is = refused_not _ g is
written_is l donl f (high ∷ []) g fragment is = refused_not _ g is
written_is l donl f (high ∷ low ∷ body) g fragment is =
    written_in l donl (kind_of l high low) f high low body g fragment (by_kind l donl
    (kind_of l high low) f high low body g is)

abbrev keyframe_of : Layout → Bool → CodecExtra → List ℕ → Bool
keyframe_of l donl extra p = was_keyframe l extra || shows_irap l donl p

fault_of : Option PacketError → Bool
fault_of None = false
fault_of (Some e) = true

-- a packet, and the packets after it
abbrev rest_of : Layout → Bool → List (List ℕ) → Fragment → CodecExtra → Run
rest_of l donl ps f extra = read_all (h265_h266_format l donl) f extra ps

run_after_packet : (l : Layout) (donl : Bool) (p : List ℕ) (ps : List (List ℕ)) (f : Fragment) (extra : CodecExtra)
    (r : Result Given PacketError) → given l donl f p ≡ r
    → ((g : Given) (x : CodecExtra) → (rest_of l donl ps g.fragment x).fault ≡ None
    → (rest_of l donl ps g.fragment x).fragment ≡ open_behind_all (h265_h266_view l donl) ps g.fragment)
    → (run_after f extra (extra_after l (keyframe_of l donl extra p) r) (rest_of l donl ps)).fault ≡ None
    → (run_after f extra (extra_after l (keyframe_of l donl extra p) r) (rest_of l donl ps)).fragment
    ≡ open_behind_all (h265_h266_view l donl) ps (open_behind (h265_h266_view l donl) p f)
unfolding fault_of
run_after_packet l donl p ps f extra (Err e) is later none = absurd (false≢true (ap fault_of (sym none)))
run_after_packet l donl p ps f extra (Ok g) is later none =
    later g (extra_of l (keyframe_of l donl extra p)) none
    ∙ ap (open_behind_all (h265_h266_view l donl) ps) (open_is l donl f p g is)

-- packets without a refusal leave open what their fragments do
run_open : (l : Layout) (donl : Bool) (ps : List (List ℕ)) (f : Fragment) (extra : CodecExtra)
    → (rest_of l donl ps f extra).fault
    ≡ None → (rest_of l donl ps f extra).fragment ≡ open_behind_all (h265_h266_view l donl) ps f
run_open l donl [] f extra none = refl
run_open l donl (p ∷ ps) f extra none = run_after_packet l donl p ps f extra (given l donl f p) refl
    (λ g x left. run_open l donl ps g.fragment x left) none

reading_of : Result Reading PacketError → List ℕ
reading_of (Ok r) = r.written
reading_of (Err e) = []

is_read : Result Reading PacketError → Bool
is_read (Ok r) = true
is_read (Err e) = false

-- an accepted packet gave what was read
gave : (l : Layout) (r : Result Given PacketError) (k : Bool) (reading : Reading) → extra_after l k r ≡ Ok reading
    → (g : Given)
    × ((r ≡ Ok g) × (reading.written ≡ g.written))
unfolding reading_of is_read
gave l (Ok g) k reading is = (g, (refl, sym (ap reading_of is)))
gave l (Err e) k reading is = absurd (false≢true (ap is_read is))

pub fragment_law : FragmentLaw
fragment_law l donl ps last extra after reading none fragment is =
    let f : Fragment = (run_of l donl ps extra).fragment in
    let g = gave l (given l donl f last) (keyframe_of l donl after last) reading is in
    let open_is : f ≡ open_behind_all (h265_h266_view l donl) ps None = run_open l donl ps None extra none in
    subst (WritesComplete (h265_h266_view l donl) (ps ++ last ∷ []))
    (sym (g.1.1 ∙ written_is l donl f last g.0 fragment g.1.0 ∙ ap (written_by (h265_h266_view l donl) last) open_is))
    (fragments_law (h265_h266_view l donl) ps last)
