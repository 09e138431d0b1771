-- What the packets of what leaves give a receiver.
use Rattle.std.proofs.Common.{◌≡◌, ℕ, ◌+◌, ◌*◌, ◌/◌, ◌%◌, ◌<◌, ◌≤◌, Bool, true, false, leb, ltb, eqb, List, [], ◌∷◌}
use Rattle.std.proofs.Common.{◌++◌, length, drop, None, Some, Err, Result, if◌then◌else◌, refl, sym, ap, ◌∙◌}
use Rattle.std.proofs.Common.{append_assoc, arith}
use Rattle.std.specs.Prelude.{◌&&◌, ◌||◌}
use Rattle.std.specs.List.{flat_map}
use Rattle.std.proofs.lemmas.Bool.Decides.{nat_tests}
use Rattle.std.proofs.lemmas.List.{append-nil, length-append}
use Rattle.payload_core_base.specs.Format.{Fragment, Run, read_all, run_after, run_behind}
use Rattle.payload_core_base.specs.Law.{joined}
use Rattle.payload_core_base.specs.Packing.{is_none_left}
use Rattle.payload_core_base.specs.declared.error.PacketError.{PacketError}
use Rattle.payload_core_base.specs.declared.error.PacketError.TheVariants.{ErrShortPacket}
use Rattle.payload_core_base.specs.declared.extra.CodecExtra.{CodecExtra}
use Rattle.h26x_payload_units.specs.declared.layout.Layout.{Layout}
use Rattle.h26x_payload_units.specs.declared.layout.Layout.TheVariants.{H265, H266}
use Rattle.h26x_payload_units.specs.declared.layout.PacketKind.{PacketKind}
use Rattle.h26x_payload_units.specs.declared.layout.PacketKind.TheVariants.{Single, Aggregate}
use Rattle.h26x_payload_units.specs.declared.layout.PacketKind.TheVariants.{Fragment as FragmentKind, Unhandled}
use Rattle.h26x_payload_units.specs.Aggregates.{Aggregated, aggregated, in_aggregate}
use Rattle.h26x_payload_units.specs.Fragments.{behind_code, in_fragments, open_after, put_behind, written_at}
use Rattle.h26x_payload_units.proofs.AggregateLemmas.{all_sized}
use Rattle.h26x_payload_units.proofs.BundleLemmas.{GivesParts, IsBundle, NoHeads}
use Rattle.h26x_payload_units.specs.Headers.{aggregate_high, aggregate_low, aggregate_type, fragment_type, fu_byte}
use Rattle.h26x_payload_units.specs.Headers.{fu_type, has_end, has_f, has_start, high_with, kind_by, kind_of}
use Rattle.h26x_payload_units.specs.Headers.{last_alone, layer_of, low_with, tid_of, type_of}
use Rattle.h26x_payload_units.specs.Numbers.{dond_bytes, dond_size, donl_bytes, donl_size}
use Rattle.h26x_payload_formats.specs.Packing.{aggregate, fragment, least}
use Rattle.h26x_payload_formats.specs.Reading.{aggregated_in, corrupted, ends_short, extra_after}
use Rattle.h26x_payload_formats.specs.Reading.{extra_of, given, given_by, given_from, given_units}
use Rattle.h26x_payload_formats.specs.Reading.{h265_h266_format, is_cut_short, shows_irap, was_keyframe}
use Rattle.h26x_payload_units.specs.Reading.{Given, begins_by, gives}

-- what a packet that gives this does to a run
pub given-run : (l : Layout) (donl : Bool) (f after : Fragment) (extra : CodecExtra) (p written : List ℕ) (qs : List
    (List ℕ))
    → given l donl f p ≡ gives written after
    → (x : CodecExtra) × (read_all (h265_h266_format l donl) f extra (p ∷ qs)
    ≡ run_behind written (read_all (h265_h266_format l donl) after x qs))
given-run l donl f after extra p written qs is =
    let keyframe : Bool = was_keyframe l extra || shows_irap l donl p in (
      extra_of l keyframe,
      ap (λ g. run_after f extra (extra_after l keyframe g) (λ f x. read_all (h265_h266_format l donl) f x qs)) is,
    )

pub single_kind : (l : Layout) (high low : ℕ) → type_of l high low ≤ last_alone l → kind_of l high low ≡ Single
single_kind l high low small =
    let type : ℕ = type_of l high low in
    let t : leb type (last_alone l) ≡ true = grind (arith, nat_tests) in
    ap (λ t. if t then Single else (if eqb type (aggregate_type l) then Aggregate
    else (if eqb type (fragment_type l) then FragmentKind else Unhandled))) t

-- a packet that is not cut short, and has F clear
whole_given : (l : Layout) (donl : Bool) (kind : PacketKind) (f : Fragment) (high low : ℕ) (body : List ℕ)
    → kind_of l high low ≡ kind
    → is_cut_short l donl kind body ≡ false → high < 128 → given l donl f (high ∷ low ∷ body)
    ≡ given_by l donl kind f high low body
whole_given l donl kind f high low body is whole small =
    let clear : has_f high ≡ false = grind (arith, nat_tests) in
    ap (λ k. given_from l donl k f high low body) is
    ∙ ap (λ b. if b then Err ErrShortPacket else
    (if has_f high then Err (corrupted l) else given_by l donl kind f high low body)) whole
    ∙ ap (λ b. if b then Err (corrupted l) else given_by l donl kind f high low body) clear

-- decoding order numbers are passed over
pub number_size : (donl : Bool) (n : ℕ) → length (donl_bytes donl n) ≡ donl_size donl
number_size true n = refl
number_size false n = refl

behind_number : (donl : Bool) (n : ℕ) (part : List ℕ) → drop (donl_size donl) (donl_bytes donl n ++ part) ≡ part
behind_number true n part = refl
behind_number false n part = refl

not_short : (donl : Bool) (n : ℕ) (part : List ℕ) → ltb (length (donl_bytes donl n ++ part)) (donl_size donl) ≡ false
not_short donl n part =
    let size : length (donl_bytes donl n ++ part) ≡ donl_size donl + length part =
    length-append (donl_bytes donl n) part ∙ ap (λ k. k + length part) (number_size donl n) in
    let le : donl_size donl ≤ length (donl_bytes donl n ++ part) = omega (arith, size) in
    grind (arith, nat_tests)

has_body : (donl : Bool) (n : ℕ) (body : List ℕ) → 0 < length body
    → leb (length (donl_bytes donl n ++ body)) (donl_size donl) ≡ false
has_body donl n body some =
    let size : length (donl_bytes donl n ++ body) ≡ donl_size donl + length body =
    length-append (donl_bytes donl n) body ∙ ap (λ k. k + length body) (number_size donl n) in
    let less : donl_size donl < length (donl_bytes donl n ++ body) = omega (arith, size) in
    grind (arith, nat_tests)

-- what a unit alone gives
pub single_given : (l : Layout) (donl : Bool) (n high low : ℕ) (body : List ℕ) (f : Fragment) → high < 128
    → type_of l high low ≤ last_alone l
    → 0 < length body → given l donl f (high ∷ low ∷ (donl_bytes donl n ++ body))
    ≡ gives (behind_code (high ∷ low ∷ body)) f
single_given l donl n high low body f small type some =
    whole_given l donl Single f high low (donl_bytes donl n ++ body) (single_kind l high low type)
    (has_body donl n body some)
    small
    ∙ ap (λ t. gives (behind_code (high ∷ low ∷ t)) f) (behind_number donl n body)

-- what an aggregate gives
dond_is : (l : Layout) (donl : Bool) → length (dond_bytes l donl) ≡ dond_size l donl
dond_is H265 true = refl
dond_is H265 false = refl
dond_is H266 donl = refl

aggregate_kind : (l : Layout) (layer tid : ℕ) → kind_of l (aggregate_high l layer) (aggregate_low l layer tid)
    ≡ Aggregate
aggregate_kind H265 layer tid = let type : (96 + layer / 32 % 2) / 2 % 64 ≡ 48 = omega arith in ap (kind_by H265) type
aggregate_kind H266 layer tid = let type : (224 + tid % 8) / 8 ≡ 28 = omega arith in ap (kind_by H266) type

aggregate_clear : (l : Layout) (layer : ℕ) → aggregate_high l layer < 128
aggregate_clear H265 layer = omega arith
aggregate_clear H266 layer = omega arith

sized_in : (l : Layout) (donl : Bool) (n : ℕ) (units : List (List ℕ))
    → aggregated_in l donl (in_aggregate (donl_bytes donl n) (dond_bytes l donl) units)
    ≡ record { units = units; fault = None }
sized_in l donl n units =
    let body : List ℕ = in_aggregate (donl_bytes donl n) (dond_bytes l donl) units in
    ap (λ k. aggregated k (dond_size l donl) body) (sym (number_size donl n))
    ∙ ap (λ k. aggregated (length (donl_bytes donl n)) k body) (sym (dond_is l donl))
    ∙ all_sized (donl_bytes donl n) (dond_bytes l donl) units

pub aggregate_given : (l : Layout) (donl : Bool) (n : ℕ) (units : List (List ℕ)) (f : Fragment)
    → given l donl f (aggregate l donl n units) ≡ gives (flat_map behind_code units) f
aggregate_given l donl n units f =
    let layer : ℕ = least (layer_of l) units in
    let tid : ℕ = least tid_of units in
    whole_given l donl Aggregate f (aggregate_high l layer) (aggregate_low l layer tid)
    (in_aggregate (donl_bytes donl n) (dond_bytes l donl) units) (aggregate_kind l layer tid)
    (ap (λ (a : Aggregated). ends_short a.fault) (sized_in l donl n units)) (aggregate_clear l layer)
    ∙ ap (λ (a : Aggregated). given_units l f a.units a.fault) (sized_in l donl n units)

pub aggregate_head : (l : Layout) (donl : Bool) (n : ℕ) (units : List (List ℕ))
    → (h265_h266_format l donl).head (aggregate l donl n units) ≡ true
aggregate_head l donl n units = ap (λ k. begins_by k (in_aggregate (donl_bytes donl n) (dond_bytes l donl) units))
    (aggregate_kind l (least (layer_of l) units) (least tid_of units))

-- the FU header
starts_is : (l : Layout) (first last : Bool) (type : ℕ) → has_start (fu_byte l first last type) ≡ first
starts_is H265 true true type = let e : (128 + 64 + type % 64) / 128 % 2 ≡ 1 = omega arith in ap (λ n. eqb n 1) e
starts_is H265 true false type = let e : (128 + 0 + type % 64) / 128 % 2 ≡ 1 = omega arith in ap (λ n. eqb n 1) e
starts_is H265 false true type = let e : (0 + 64 + type % 64) / 128 % 2 ≡ 0 = omega arith in ap (λ n. eqb n 1) e
starts_is H265 false false type = let e : (0 + 0 + type % 64) / 128 % 2 ≡ 0 = omega arith in ap (λ n. eqb n 1) e
starts_is H266 true true type = let e : (128 + 64 + type % 32) / 128 % 2 ≡ 1 = omega arith in ap (λ n. eqb n 1) e
starts_is H266 true false type = let e : (128 + 0 + type % 32) / 128 % 2 ≡ 1 = omega arith in ap (λ n. eqb n 1) e
starts_is H266 false true type = let e : (0 + 64 + type % 32) / 128 % 2 ≡ 0 = omega arith in ap (λ n. eqb n 1) e
starts_is H266 false false type = let e : (0 + 0 + type % 32) / 128 % 2 ≡ 0 = omega arith in ap (λ n. eqb n 1) e

ends_is : (l : Layout) (first last : Bool) (type : ℕ) → has_end (fu_byte l first last type) ≡ last
ends_is H265 true true type = let e : (128 + 64 + type % 64) / 64 % 2 ≡ 1 = omega arith in ap (λ n. eqb n 1) e
ends_is H265 true false type = let e : (128 + 0 + type % 64) / 64 % 2 ≡ 0 = omega arith in ap (λ n. eqb n 1) e
ends_is H265 false true type = let e : (0 + 64 + type % 64) / 64 % 2 ≡ 1 = omega arith in ap (λ n. eqb n 1) e
ends_is H265 false false type = let e : (0 + 0 + type % 64) / 64 % 2 ≡ 0 = omega arith in ap (λ n. eqb n 1) e
ends_is H266 true true type = let e : (128 + 64 + type % 32) / 64 % 2 ≡ 1 = omega arith in ap (λ n. eqb n 1) e
ends_is H266 true false type = let e : (128 + 0 + type % 32) / 64 % 2 ≡ 0 = omega arith in ap (λ n. eqb n 1) e
ends_is H266 false true type = let e : (0 + 64 + type % 32) / 64 % 2 ≡ 1 = omega arith in ap (λ n. eqb n 1) e
ends_is H266 false false type = let e : (0 + 0 + type % 32) / 64 % 2 ≡ 0 = omega arith in ap (λ n. eqb n 1) e

-- a type that a header can have
abbrev IsType : Layout → ℕ → Type 0
IsType H265 type = type < 64
IsType H266 type = type < 32

type_is : (l : Layout) (first last : Bool) (type : ℕ) → IsType l type → fu_type l (fu_byte l first last type) ≡ type
type_is H265 true true type small = omega arith
type_is H265 true false type small = omega arith
type_is H265 false true type small = omega arith
type_is H265 false false type small = omega arith
type_is H266 true true type small = omega arith
type_is H266 true false type small = omega arith
type_is H266 false true type small = omega arith
type_is H266 false false type small = omega arith

-- the header of a unit that is alone, with F clear
abbrev pub IsClear : Layout → ℕ → ℕ → Type 0
IsClear l high low = (high < 128) × (type_of l high low ≤ last_alone l)

has_type : (l : Layout) (high low : ℕ) → IsClear l high low → IsType l (type_of l high low)
has_type H265 high low clear = omega arith
has_type H266 high low clear = let small = clear.1 in omega (arith, small)

high_is : (l : Layout) (high low fu : ℕ) → IsClear l high low → fu_type l fu ≡ type_of l high low
    → high_with l (high_with l high (fragment_type l)) (fu_type l fu) ≡ high
high_is H265 high low fu clear same = let small = clear.0 in omega (arith, small, same)
high_is H266 high low fu clear same = refl

low_is : (l : Layout) (high low fu : ℕ) → IsClear l high low → fu_type l fu ≡ type_of l high low
    → low_with l (low_with l low (fragment_type l)) (fu_type l fu) ≡ low
low_is H265 high low fu clear same = refl
low_is H266 high low fu clear same = let small = clear.1 in omega (arith, small, same)

fragment_kind : (l : Layout) (high low : ℕ) → IsClear l high low
    → kind_of l (high_with l high (fragment_type l)) (low_with l low (fragment_type l)) ≡ FragmentKind
fragment_kind H265 high low clear =
    let small = clear.0 in
    let type : (high / 128 * 128 + 49 % 64 * 2 + high % 2) / 2 % 64 ≡ 49 = omega (arith, small) in
    ap (kind_by H265) type
fragment_kind H266 high low clear =
    let type : (29 % 32 * 8 + low % 8) / 8 ≡ 29 = omega arith in
    ap (kind_by H266) type

fragment_clear : (l : Layout) (high low : ℕ) → IsClear l high low → high_with l high (fragment_type l) < 128
fragment_clear H265 high low clear = let small = clear.0 in omega (arith, small)
fragment_clear H266 high low clear = clear.0

-- what a fragment of a unit gives
fragment_given : (l : Layout) (donl : Bool) (n high low : ℕ) (first last : Bool) (part : List ℕ) (f : Fragment)
    → IsClear l high low
    → given l donl f (fragment l donl n high low first last part)
    ≡ gives (written_at last (put_behind first (high ∷ low ∷ []) part f))
    (open_after last (put_behind first (high ∷ low ∷ []) part f))
fragment_given l donl n high low first last part f clear =
    let front : ℕ = high_with l high (fragment_type l) in
    let second : ℕ = low_with l low (fragment_type l) in
    let type : ℕ = type_of l high low in
    let fu : ℕ = fu_byte l first last type in
    let bytes : List ℕ = donl_bytes (first && donl) n ++ part in
    let same : fu_type l fu ≡ type = type_is l first last type (has_type l high low clear) in
    let start : has_start fu ≡ first = starts_is l first last type in
    let F : Bool → ℕ → ℕ → List ℕ → Bool → Result Given PacketError =
    λ s h m t e. gives (written_at e (put_behind s (h ∷ m ∷ []) t f))
    (open_after e (put_behind s (h ∷ m ∷ []) t f)) in
    whole_given l donl FragmentKind f front second (fu ∷ bytes) (fragment_kind l high low clear)
    (ap (λ s. ltb (length bytes) (donl_size (s && donl))) start ∙ not_short (first && donl) n part)
    (fragment_clear l high low clear)
    ∙ ap (λ s. F s (high_with l front (fu_type l fu)) (low_with l second (fu_type l fu))
    (drop (donl_size (s && donl)) bytes) (has_end fu)) start
    ∙ ap (λ h. F first h (low_with l second (fu_type l fu)) (drop (donl_size (first && donl)) bytes) (has_end fu))
    (high_is l high low fu clear same)
    ∙ ap (λ m. F first high m (drop (donl_size (first && donl)) bytes) (has_end fu)) (low_is l high low fu clear same)
    ∙ ap (λ t. F first high low t (has_end fu)) (behind_number (first && donl) n part)
    ∙ ap (F first high low part) (ends_is l first last type)

abbrev fragments : Layout → Bool → ℕ → ℕ → ℕ → Bool → List (List ℕ) → List (List ℕ)
fragments l donl n high low first parts = in_fragments (fragment l donl n high low) first parts

run_none : (run : Run) → run_behind [] run ≡ run
run_none run = refl

-- what the later fragments of a unit give, after the bytes that are open
later_run : (l : Layout) (donl : Bool) (n high low : ℕ) (unit p : List ℕ) (ps : List (List ℕ)) (extra : CodecExtra)
    (qs : List (List ℕ)) → IsClear l high low
    → (x : CodecExtra) × (read_all (h265_h266_format l donl) (Some unit) extra
    (fragments l donl n high low false (p ∷ ps) ++ qs)
    ≡ run_behind (unit ++ joined (p ∷ ps)) (read_all (h265_h266_format l donl) None x qs))
later_run l donl n high low unit p [] extra qs small =
    let g = given-run l donl (Some unit) None extra (fragment l donl n high low false true p) (unit ++ p) qs
    (fragment_given l donl n high low false true p (Some unit) small) in
    (g.0, g.1 ∙ ap (λ t. run_behind (unit ++ t) (read_all (h265_h266_format l donl) None g.0 qs)) (sym (append-nil p)))
later_run l donl n high low unit p (q ∷ ps) extra qs small =
    let g = given-run l donl (Some unit) (Some (unit ++ p)) extra (fragment l donl n high low false false p) []
    (fragments l donl n high low false (q ∷ ps) ++ qs)
    (fragment_given l donl n high low false false p (Some unit) small) in
    let more = later_run l donl n high low (unit ++ p) q ps g.0 qs small in (
      more.0,
      g.1 ∙ run_none (read_all (h265_h266_format l donl) (Some (unit ++ p)) g.0
          (fragments l donl n high low false (q ∷ ps) ++ qs)) ∙ more.1
          ∙ ap (λ t. run_behind t (read_all (h265_h266_format l donl) None more.0 qs)) (append_assoc unit p (joined
          (q ∷ ps))),
    )

-- and all of them
fragments_run : (l : Layout) (donl : Bool) (n high low : ℕ) (parts : List (List ℕ)) (extra : CodecExtra) (qs : List
    (List ℕ))
    → IsClear l high low → 0 < length parts
    → (x : CodecExtra) × (read_all (h265_h266_format l donl) None extra (fragments l donl n high low true parts ++ qs)
    ≡ run_behind (behind_code (high ∷ low ∷ joined parts)) (read_all (h265_h266_format l donl) None x qs))
fragments_run l donl n high low [] extra qs small some = absurd (omega arith)
fragments_run l donl n high low (p ∷ []) extra qs small some =
    let g = given-run l donl None None extra (fragment l donl n high low true true p) (behind_code (high ∷ low ∷ p)) qs
    (fragment_given l donl n high low true true p None small) in (
      g.0,
      g.1 ∙ ap (λ t. run_behind (behind_code (high ∷ low ∷ t)) (read_all (h265_h266_format l donl) None g.0 qs))
          (sym (append-nil p)),
    )
fragments_run l donl n high low (p ∷ q ∷ ps) extra qs small some =
    let g = given-run l donl None (Some (behind_code (high ∷ low ∷ p))) extra (fragment l donl n high low true false p)
    [] (fragments l donl n high low false (q ∷ ps) ++ qs) (fragment_given l donl n high low true false p None small) in
    let more = later_run l donl n high low (behind_code (high ∷ low ∷ p)) q ps g.0 qs small in (
      more.0,
      g.1 ∙ run_none (read_all (h265_h266_format l donl) (Some (behind_code (high ∷ low ∷ p))) g.0
          (fragments l donl n high low false (q ∷ ps) ++ qs)) ∙ more.1,
    )

-- the first fragment alone is a head
fragment_head : (l : Layout) (donl : Bool) (n high low : ℕ) (first last : Bool) (part : List ℕ) → IsClear l high low
    → (h265_h266_format l donl).head (fragment l donl n high low first last part) ≡ first
fragment_head l donl n high low first last part clear =
    ap (λ k. begins_by k (fu_byte l first last (type_of l high low) ∷ (donl_bytes (first && donl) n ++ part)))
    (fragment_kind l high low clear) ∙ starts_is l first last (type_of l high low)

no_later_heads : (l : Layout) (donl : Bool) (n high low : ℕ) (parts : List (List ℕ)) → IsClear l high low
    → NoHeads (h265_h266_format l donl) (fragments l donl n high low false parts)
no_later_heads l donl n high low [] clear = tt
no_later_heads l donl n high low (p ∷ ps) clear =
    (fragment_head l donl n high low false (is_none_left ps) p clear, no_later_heads l donl n high low ps clear)

pub fragments_bundle : (l : Layout) (donl : Bool) (n high low : ℕ) (body : List ℕ) (parts : List (List ℕ))
    → IsClear l high low → 0 < length parts → joined parts ≡ body
    → IsBundle (h265_h266_format l donl) (fragments l donl n high low true parts) (behind_code (high ∷ low ∷ body) ∷ [])
fragments_bundle l donl n high low body [] small some whole = absurd (omega arith)
fragments_bundle l donl n high low body (p ∷ ps) small some whole = (
  fragment_head l donl n high low true (is_none_left ps) p small,
  no_later_heads l donl n high low ps small,
  omega arith,
  gives_all,
)
  where
    gives_all : GivesParts (h265_h266_format l donl) (fragments l donl n high low true (p ∷ ps))
        (behind_code (high ∷ low ∷ body) ∷ [])
    gives_all extra qs =
        let g = fragments_run l donl n high low (p ∷ ps) extra qs small some in (
          g.0,
          g.1 ∙ ap (λ t. run_behind (behind_code (high ∷ low ∷ t)) (read_all (h265_h266_format l donl) None g.0 qs))
              (whole ∙ sym (append-nil body)),
        )
