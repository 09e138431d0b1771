-- Which units fragments write.
use Rattle.std.proofs.Common.{◌≡◌, ℕ, Bool, true, false, List, [], ◌∷◌, ◌++◌, None, Some, Ok, Err, Option, Result}
use Rattle.std.proofs.Common.{refl, sym, ap, subst, ◌∙◌}
use Rattle.std.specs.Prelude.{◌||◌}
use mathlib.Core.Bool.{false≢true}
use Rattle.payload_core_base.specs.Format.{Fragment, Reading, Run, read_all, run_after}
use Rattle.payload_core_base.specs.declared.error.PacketError.{PacketError}
use Rattle.payload_core_base.specs.declared.extra.CodecExtra.{CodecExtra}
use Rattle.payload_core_base.specs.declared.extra.CodecExtra.TheVariants.{H264}
use Rattle.h26x_payload_units.specs.declared.layout.PacketKind.{PacketKind}
use Rattle.h26x_payload_units.specs.declared.layout.PacketKind.TheVariants.{Single, Aggregate}
use Rattle.h26x_payload_units.specs.declared.layout.PacketKind.TheVariants.{Fragment as FragmentKind, Unhandled}
use Rattle.h26x_payload_units.specs.Aggregates.{aggregated}
use Rattle.h26x_payload_units.specs.Fragments.{open_after, put_behind, written_at}
use Rattle.h26x_payload_formats.specs.H264Fragments.{FragmentLaw, h264_view, header_by}
use Rattle.h26x_payload_formats.specs.H264Fragments.{is_fu_a, part_by, run_of}
use Rattle.h26x_payload_formats.specs.H264Headers.{kind_of}
use Rattle.h26x_payload_formats.specs.StapA.{stap_a_fault}
use Rattle.h26x_payload_formats.specs.H264Reading.{given, given_by, given_units, h264_format, shows_type}
use Rattle.h26x_payload_formats.specs.H264Reading.{extra_after, was_keyframe}
use Rattle.h26x_payload_units.specs.FragmentRuns.{WritesComplete, open_behind, open_behind_all, written_by}
use Rattle.h26x_payload_units.proofs.FragmentRunLemmas.{fragments_law}
use Rattle.h26x_payload_units.specs.Reading.{Given, ends_by, is_fragment_kind, starts_by}
use Rattle.h26x_payload_units.proofs.ReadingLemmas.{nothing_goes_on, open_of, refused_not, written_of}

units_open : (f : Fragment) (units : List (List ℕ)) (fault : Option PacketError) (g : Given)
    → given_units f units fault ≡ Ok g → g.fragment ≡ f
units_open f units None g is = sym (ap open_of is)
units_open f units (Some e) g is = refused_not e g is

-- the open unit after a packet of each kind
open_by : (kind : PacketKind) (f : Fragment) (first : ℕ) (body : List ℕ) (g : Given) → given_by kind f first body ≡ Ok g
    → g.fragment ≡ open_after (ends_by kind body)
    (put_behind (starts_by kind body) (header_by kind first body) (part_by kind body) f)
open_by Single f first body g is = sym (ap open_of is) ∙ nothing_goes_on f
open_by Aggregate f first body g is = units_open f (aggregated 0 0 body).units (stap_a_fault body) g is
    ∙ nothing_goes_on f
open_by FragmentKind f first [] g is = refused_not _ g is
open_by FragmentKind f first (fu ∷ part) g is = sym (ap open_of is)
open_by Unhandled f first body g is = refused_not _ g is

written_in : (kind : PacketKind) (f : Fragment) (first : ℕ) (body : List ℕ) (g : Given) → is_fragment_kind kind
    ≡ true → given_by kind f first body ≡ Ok g
    → g.written ≡ written_at (ends_by kind body)
    (put_behind (starts_by kind body) (header_by kind first body) (part_by kind body) f)
written_in Single f first body g fragment is = absurd (false≢true fragment)
written_in Aggregate f first body g fragment is = absurd (false≢true fragment)
written_in FragmentKind f first [] g fragment is = refused_not _ g is
written_in FragmentKind f first (fu ∷ part) g fragment is = sym (ap written_of is)
written_in Unhandled f first body g fragment is = absurd (false≢true fragment)

open_is : (f : Fragment) (p : List ℕ) (g : Given) → given f p ≡ Ok g → g.fragment ≡ open_behind h264_view p f
open_is f [] g is = refused_not _ g is
open_is f (first ∷ body) g is = open_by (kind_of first) f first body g is

written_is : (f : Fragment) (p : List ℕ) (g : Given) → is_fu_a p ≡ true → given f p ≡ Ok g → g.written
    ≡ written_by h264_view p f
written_is f [] g fragment is = refused_not _ g is
written_is f (first ∷ body) g fragment is = written_in (kind_of first) f first body g fragment is

abbrev keyframe_of : CodecExtra → List ℕ → Bool
keyframe_of extra p = was_keyframe extra || shows_type 5 p

fault_of : Option PacketError → Bool
fault_of None = false
fault_of (Some e) = true

-- a packet, and the packets after it
abbrev rest_of : List (List ℕ) → Fragment → CodecExtra → Run
rest_of ps f extra = read_all h264_format f extra ps

run_after_packet : (p : List ℕ) (ps : List (List ℕ)) (f : Fragment) (extra : CodecExtra)
    (r : Result Given PacketError) → given f p ≡ r
    → ((g : Given) (x : CodecExtra) → (rest_of ps g.fragment x).fault ≡ None → (rest_of ps g.fragment x).fragment
    ≡ open_behind_all h264_view ps g.fragment)
    → (run_after f extra (extra_after (keyframe_of extra p) r) (rest_of ps)).fault ≡ None
    → (run_after f extra (extra_after (keyframe_of extra p) r) (rest_of ps)).fragment
    ≡ open_behind_all h264_view ps (open_behind h264_view p f)
unfolding fault_of
run_after_packet p ps f extra (Err e) is later none = absurd (false≢true (ap fault_of (sym none)))
run_after_packet p ps f extra (Ok g) is later none =
    later g (H264 (record { is_keyframe = keyframe_of extra p })) none
    ∙ ap (open_behind_all h264_view ps) (open_is f p g is)

-- packets without a refusal leave open what their fragments do
run_open : (ps : List (List ℕ)) (f : Fragment) (extra : CodecExtra) → (rest_of ps f extra).fault ≡ None
    → (rest_of ps f extra).fragment ≡ open_behind_all h264_view ps f
run_open [] f extra none = refl
run_open (p ∷ ps) f extra none = run_after_packet p ps f extra (given f p) refl
    (λ g x left. run_open ps g.fragment x left) none

reading_of : Result Reading PacketError → List ℕ
reading_of (Ok r) = r.written
reading_of (Err e) = []

is_read : Result Reading PacketError → Bool
is_read (Ok r) = true
is_read (Err e) = false

-- an accepted packet gave what was read
gave : (r : Result Given PacketError) (k : Bool) (reading : Reading) → extra_after k r ≡ Ok reading → (g : Given)
    × ((r ≡ Ok g) × (reading.written ≡ g.written))
unfolding reading_of is_read
gave (Ok g) k reading is = (g, (refl, sym (ap reading_of is)))
gave (Err e) k reading is = absurd (false≢true (ap is_read is))

pub fragment_law : FragmentLaw
fragment_law ps last extra after reading none fragment is =
    let f : Fragment = (run_of ps extra).fragment in
    let g = gave (given f last) (keyframe_of after last) reading is in
    let open_is : f ≡ open_behind_all h264_view ps None = run_open ps None extra none in
    subst (WritesComplete h264_view (ps ++ last ∷ []))
    (sym (g.1.1 ∙ written_is f last g.0 fragment g.1.0 ∙ ap (written_by h264_view last) open_is))
    (fragments_law h264_view ps last)
