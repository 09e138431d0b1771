-- What the packets of what leaves give a receiver.
use Rattle.std.proofs.Common.{◌≡◌, ℕ, ◌+◌, ◌*◌, ◌/◌, ◌%◌, ◌<◌, ◌≤◌, Bool, true, false, leb, eqb, List, [], ◌∷◌, ◌++◌}
use Rattle.std.proofs.Common.{length, None, Some, Result, if◌then◌else◌, refl, sym, ap, ◌∙◌, append_assoc, arith}
use Rattle.std.specs.Prelude.{◌&&◌, ◌||◌}
use Rattle.std.proofs.lemmas.Bool.Decides.{nat_tests}
use Rattle.std.proofs.lemmas.List.{append-nil}
use Rattle.payload_core_base.specs.Format.{Fragment, Run, read_all, run_after, run_behind}
use Rattle.payload_core_base.specs.Law.{joined}
use Rattle.payload_core_base.specs.Packing.{is_none_left}
use Rattle.payload_core_base.specs.declared.error.PacketError.{PacketError}
use Rattle.payload_core_base.specs.declared.extra.CodecExtra.{CodecExtra}
use Rattle.payload_core_base.specs.declared.extra.CodecExtra.TheVariants.{H264}
use Rattle.h26x_payload_units.specs.declared.layout.PacketKind.{PacketKind}
use Rattle.h26x_payload_units.specs.declared.layout.PacketKind.TheVariants.{Single, Aggregate}
use Rattle.h26x_payload_units.specs.declared.layout.PacketKind.TheVariants.{Fragment as FragmentKind, Unhandled}
use Rattle.h26x_payload_units.specs.Fragments.{behind_code, in_fragments, open_after, put_behind, written_at}
use Rattle.h26x_payload_formats.specs.H264Headers.{begun_header, kind_of, type_of}
use Rattle.h26x_payload_units.specs.Headers.{has_end, has_start}
use Rattle.h26x_payload_formats.specs.H264Packing.{fu_a}
use Rattle.h26x_payload_formats.specs.H264Reading.{given, given_by, h264_format, shows_type}
use Rattle.h26x_payload_formats.specs.H264Reading.{extra_after, was_keyframe}
use Rattle.h26x_payload_units.proofs.BundleLemmas.{GivesParts, IsBundle, NoHeads}
use Rattle.h26x_payload_units.specs.Reading.{Given, begins_by, gives}

-- what a packet that gives this does to a run
pub given-run : (fragment after : Fragment) (extra : CodecExtra) (p written : List ℕ) (qs : List (List ℕ))
    → given fragment p ≡ gives written after
    → (x : CodecExtra) × (read_all h264_format fragment extra (p ∷ qs)
    ≡ run_behind written (read_all h264_format after x qs))
given-run fragment after extra p written qs is =
    let keyframe : Bool = was_keyframe extra || shows_type 5 p in (
      H264 (record { is_keyframe = keyframe }),
      ap (λ g. run_after fragment extra (extra_after keyframe g) (λ f x. read_all h264_format f x qs)) is,
    )

-- what a packet is by its type
abbrev kind_at : ℕ → PacketKind
kind_at type = if eqb type 24 then Aggregate
    else (if eqb type 28 then FragmentKind else (if leb 1 type && leb type 23 then Single else Unhandled))

pub kind_is : (kind : PacketKind) (fragment : Fragment) (header : ℕ) (body : List ℕ) → kind_of header ≡ kind
    → given fragment (header ∷ body) ≡ given_by kind fragment header body
kind_is kind fragment header body is = ap (λ k. given_by k fragment header body) is

pub single_kind : (header : ℕ) → 1 ≤ type_of header → type_of header ≤ 23 → kind_of header ≡ Single
single_kind header low high = by_tests (eqb (type_of header) 24) (eqb (type_of header) 28) (leb 1 (type_of header))
    (leb (type_of header) 23) (grind (arith, nat_tests)) (grind (arith, nat_tests)) (grind (arith, nat_tests))
    (grind (arith, nat_tests))
  where
    by_tests : (a b c d : Bool) → a ≡ false → b ≡ false → c ≡ true → d ≡ true
        → (if a then Aggregate else (if b then FragmentKind else (if c && d then Single else Unhandled))) ≡ Single
    by_tests a b c d e f g h = ap (λ a. if a then Aggregate
        else (if b then FragmentKind else (if c && d then Single else Unhandled))) e
        ∙ ap (λ b. if b then FragmentKind else (if c && d then Single else Unhandled)) f
        ∙ ap (λ c. if c && d then Single else Unhandled) g ∙ ap (λ d. if d then Single else Unhandled) h

-- the FU header
abbrev fu_byte : Bool → Bool → ℕ → ℕ
fu_byte first last type = (if first then 128 else 0) + (if last then 64 else 0) + type

starts_is : (first last : Bool) (type : ℕ) → type < 32 → has_start (fu_byte first last type) ≡ first
starts_is true true type small = let e : (128 + 64 + type) / 128 % 2 ≡ 1 = omega arith in ap (λ n. eqb n 1) e
starts_is true false type small = let e : (128 + 0 + type) / 128 % 2 ≡ 1 = omega arith in ap (λ n. eqb n 1) e
starts_is false true type small = let e : (0 + 64 + type) / 128 % 2 ≡ 0 = omega arith in ap (λ n. eqb n 1) e
starts_is false false type small = let e : (0 + 0 + type) / 128 % 2 ≡ 0 = omega arith in ap (λ n. eqb n 1) e

ends_is : (first last : Bool) (type : ℕ) → type < 32 → has_end (fu_byte first last type) ≡ last
ends_is true true type small = let e : (128 + 64 + type) / 64 % 2 ≡ 1 = omega arith in ap (λ n. eqb n 1) e
ends_is true false type small = let e : (128 + 0 + type) / 64 % 2 ≡ 0 = omega arith in ap (λ n. eqb n 1) e
ends_is false true type small = let e : (0 + 64 + type) / 64 % 2 ≡ 1 = omega arith in ap (λ n. eqb n 1) e
ends_is false false type small = let e : (0 + 0 + type) / 64 % 2 ≡ 0 = omega arith in ap (λ n. eqb n 1) e

type_is : (first last : Bool) (type : ℕ) → type < 32 → fu_byte first last type % 32 ≡ type
type_is true true type small = omega arith
type_is true false type small = omega arith
type_is false true type small = omega arith
type_is false false type small = omega arith

begun_is : (header fu : ℕ) → header < 128 → fu % 32 ≡ header % 32 → begun_header (header / 32 % 4 * 32 + 28) fu ≡ header
begun_is header fu small same = omega arith

-- what an FU-A of a unit gives
fu_given : (header : ℕ) (first last : Bool) (part : List ℕ) (fragment : Fragment) → header < 128
    → given fragment (fu_a header first last part)
    ≡ gives (written_at last (put_behind first (header ∷ []) part fragment))
    (open_after last (put_behind first (header ∷ []) part fragment))
fu_given header first last part fragment small =
    let front : ℕ = header / 32 % 4 * 32 + 28 in
    let fu : ℕ = fu_byte first last (type_of header) in
    let type_small : header % 32 < 32 = omega arith in
    let is_fragment : front % 32 ≡ 28 = omega arith in
    let F : Bool → ℕ → Bool → Result Given PacketError =
    λ s h e. gives (written_at e (put_behind s (h ∷ []) part fragment))
    (open_after e (put_behind s (h ∷ []) part fragment)) in
    kind_is FragmentKind fragment front (fu ∷ part) (ap kind_at is_fragment)
    ∙ ap (λ s. F s (begun_header front fu) (has_end fu)) (starts_is first last (type_of header) type_small)
    ∙ ap (λ h. F first h (has_end fu)) (begun_is header fu small (type_is first last (type_of header) type_small))
    ∙ ap (F first header) (ends_is first last (type_of header) type_small)

abbrev fragments : ℕ → Bool → List (List ℕ) → List (List ℕ)
fragments header first parts = in_fragments (fu_a header) first parts

run_none : (run : Run) → run_behind [] run ≡ run
run_none run = refl

-- what the later fragments of a unit give, after the bytes that are open
later_run : (header : ℕ) (unit p : List ℕ) (ps : List (List ℕ)) (extra : CodecExtra) (qs : List (List ℕ)) → header < 128
    → (x : CodecExtra) × (read_all h264_format (Some unit) extra (fragments header false (p ∷ ps) ++ qs)
    ≡ run_behind (unit ++ joined (p ∷ ps)) (read_all h264_format None x qs))
later_run header unit p [] extra qs small =
    let g = given-run (Some unit) None extra (fu_a header false true p) (unit ++ p) qs
    (fu_given header false true p (Some unit) small) in
    (g.0, g.1 ∙ ap (λ t. run_behind (unit ++ t) (read_all h264_format None g.0 qs)) (sym (append-nil p)))
later_run header unit p (q ∷ ps) extra qs small =
    let g = given-run (Some unit) (Some (unit ++ p)) extra (fu_a header false false p) []
    (fragments header false (q ∷ ps) ++ qs) (fu_given header false false p (Some unit) small) in
    let l = later_run header (unit ++ p) q ps g.0 qs small in (
      l.0,
      g.1 ∙ run_none (read_all h264_format (Some (unit ++ p)) g.0 (fragments header false (q ∷ ps) ++ qs)) ∙ l.1
          ∙ ap (λ t. run_behind t (read_all h264_format None l.0 qs)) (append_assoc unit p (joined (q ∷ ps))),
    )

-- and all of them
fragments_run : (header : ℕ) (parts : List (List ℕ)) (extra : CodecExtra) (qs : List (List ℕ)) → header < 128
    → 0 < length parts
    → (x : CodecExtra) × (read_all h264_format None extra (fragments header true parts ++ qs)
    ≡ run_behind (behind_code (header ∷ joined parts)) (read_all h264_format None x qs))
fragments_run header [] extra qs small some = absurd (omega arith)
fragments_run header (p ∷ []) extra qs small some =
    let g = given-run None None extra (fu_a header true true p) (behind_code (header ∷ p)) qs
    (fu_given header true true p None small) in
    (g.0, g.1 ∙ ap (λ t. run_behind (behind_code (header ∷ t)) (read_all h264_format None g.0 qs)) (sym (append-nil p)))
fragments_run header (p ∷ q ∷ ps) extra qs small some =
    let g = given-run None (Some (behind_code (header ∷ p))) extra (fu_a header true false p) []
    (fragments header false (q ∷ ps) ++ qs) (fu_given header true false p None small) in
    let l = later_run header (behind_code (header ∷ p)) q ps g.0 qs small in (
      l.0,
      g.1 ∙ run_none (read_all h264_format (Some (behind_code (header ∷ p))) g.0
          (fragments header false (q ∷ ps) ++ qs)) ∙ l.1,
    )

-- the first fragment alone is a head
fu_head : (header : ℕ) (first last : Bool) (part : List ℕ) → h264_format.head (fu_a header first last part) ≡ first
fu_head header first last part =
    let type_small : header % 32 < 32 = omega arith in
    let is_fragment : (header / 32 % 4 * 32 + 28) % 32 ≡ 28 = omega arith in
    ap (λ type. begins_by (kind_at type) (fu_byte first last (type_of header) ∷ part)) is_fragment
    ∙ starts_is first last (type_of header) type_small

no_later_heads : (header : ℕ) (parts : List (List ℕ)) → NoHeads h264_format (fragments header false parts)
no_later_heads header [] = tt
no_later_heads header (p ∷ ps) = (fu_head header false (is_none_left ps) p, no_later_heads header ps)

pub fragments_bundle : (header : ℕ) (body : List ℕ) (parts : List (List ℕ)) → header < 128 → 0 < length parts
    → joined parts ≡ body → IsBundle h264_format (fragments header true parts) (behind_code (header ∷ body) ∷ [])
fragments_bundle header body [] small some whole = absurd (omega arith)
fragments_bundle header body (p ∷ ps) small some whole =
    (fu_head header true (is_none_left ps) p, no_later_heads header ps, omega arith, gives_all)
  where
    gives_all : GivesParts h264_format (fragments header true (p ∷ ps)) (behind_code (header ∷ body) ∷ [])
    gives_all extra qs =
        let g = fragments_run header (p ∷ ps) extra qs small some in (
          g.0,
          g.1 ∙ ap (λ t. run_behind (behind_code (header ∷ t)) (read_all h264_format None g.0 qs))
              (whole ∙ sym (append-nil body)),
        )
