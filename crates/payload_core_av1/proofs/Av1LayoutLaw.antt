-- What makes just the packets be read that are laid out by their elements.
use Rattle.std.proofs.Common.{◌≡◌, ℕ, ◌<◌, Bool, List, [], ◌∷◌, length, None, Some, Ok, Err, Option, refl, sym, ap}
use Rattle.std.proofs.Common.{◌∙◌, arith}
use Rattle.std.specs.Prelude.{◌||◌}
use Rattle.payload_core_base.specs.Format.{Fragment, Reading}
use Rattle.payload_core_base.specs.declared.error.PacketError.{PacketError}
use Rattle.payload_core_base.specs.declared.error.PacketError.TheVariants.{ErrAv1CorruptedPacket}
use Rattle.payload_core_base.specs.declared.extra.CodecExtra.{CodecExtra}
use Rattle.payload_core_base.specs.declared.extra.CodecExtra.TheVariants.{Av1}
use Rattle.payload_core_av1.specs.Av1Reading.{Begun, all_given, begun, complete, count_w, elements_of, has_n}
use Rattle.payload_core_av1.specs.Av1Reading.{has_y}
use Rattle.payload_core_av1.specs.Av1Reading.{has_z, opened, read_av1, read_elements, reading_of, was_keyframe}
use Rattle.payload_core_av1.specs.Av1Layout.{IsReadAs, LayoutLaw, ReadLaw, ShortLaw}
use Rattle.payload_core_av1.proofs.ElementsLaw.{elements-found, elements-read}
use Rattle.payload_core_av1.proofs.ObuLaw.{all-given-found, all-given-read}

pub long_read : (fragment : Fragment) (extra : CodecExtra) (first : ℕ) (body : List ℕ) → 0 < length body
    → read_av1 fragment extra (first ∷ body) ≡ read_elements first fragment extra (elements_of (count_w first) body)
long_read fragment extra first [] some = absurd (omega arith)
long_read fragment extra first (b ∷ bs) some = refl

pub layout_law : LayoutLaw
layout_law fragment after extra packet written keyframe is =
    let first : ℕ = is.first in
    let b : Begun = begun (has_z first) fragment is.elements in
    let k : Bool = was_keyframe extra || has_n first in
    ap (read_av1 fragment extra) is.laid_out ∙ long_read fragment extra first is.body is.some_body
    ∙ ap (read_elements first fragment extra) (elements-read (count_w first) is.body is.elements is.is_body)
    ∙ ap (λ o. reading_of o k (opened (has_y first) b.open_still b.elements))
    (all-given-read (complete (has_y first) b.elements) written is.are_given)
    ∙ ap (λ f. reading_of (Some written) k f) (sym is.is_after)
    ∙ ap (λ n. reading_of (Some written) (was_keyframe extra || n) after) (sym is.is_keyframe)

written_found : (o : Option (List ℕ)) (k : Bool) (f : Fragment) (r : Reading) → reading_of o k f ≡ Ok r
    → (o ≡ Some r.written) × (f ≡ r.fragment) × (r.extra ≡ Av1 (record { is_keyframe = k }))
written_found None k f r is = absurd (cc)
written_found (Some w) k f r is =
    let same : record { written = w; extra = Av1 (record { is_keyframe = k }); fragment = f } ≡ r = cc in (
      ap (λ (r : Reading). Some r.written) same,
      ap (λ (r : Reading). r.fragment) same,
      sym (ap (λ (r : Reading). r.extra) same),
    )

found : (fragment : Fragment) (extra : CodecExtra) (first : ℕ) (body : List ℕ) (o : Option (List (List ℕ)))
    (r : Reading) → 0 < length body → elements_of (count_w first) body ≡ o → read_elements first fragment extra o
    ≡ Ok r → IsReadAs fragment extra (first ∷ body) r
found fragment extra first body None r some e is = absurd (cc)
found fragment extra first body (Some es) r some e is =
    let b : Begun = begun (has_z first) fragment es in
    let w = written_found (all_given (complete (has_y first) b.elements)) (was_keyframe extra || has_n first)
    (opened (has_y first) b.open_still b.elements) r is in
    record {
      keyframe = has_n first;
      laid = record {
        first = first;
        body = body;
        elements = es;
        laid_out = refl;
        some_body = some;
        is_body = elements-found (count_w first) body es e;
        are_given = all-given-found (complete (has_y first) b.elements) r.written w.0;
        is_after = sym w.1;
        is_keyframe = refl;
      };
      extra_is = w.2;
    }

pub read_law : ReadLaw
read_law fragment extra [] r is = absurd (cc)
read_law fragment extra (first ∷ []) r is = absurd (cc)
read_law fragment extra (first ∷ b ∷ bs) r is =
    found fragment extra first (b ∷ bs) (elements_of (count_w first) (b ∷ bs)) r (omega arith) refl is

corrupted : (o : Option (List ℕ)) (k : Bool) (f : Fragment) (e : PacketError) → reading_of o k f ≡ Err e → e
    ≡ ErrAv1CorruptedPacket
corrupted None k f e is = cc
corrupted (Some w) k f e is = absurd (cc)

corrupted_elements : (first : ℕ) (fragment : Fragment) (extra : CodecExtra) (o : Option (List (List ℕ)))
    (e : PacketError) → read_elements first fragment extra o ≡ Err e → e ≡ ErrAv1CorruptedPacket
corrupted_elements first fragment extra None e is = cc
corrupted_elements first fragment extra (Some es) e is =
    let b : Begun = begun (has_z first) fragment es in
    corrupted (all_given (complete (has_y first) b.elements)) (was_keyframe extra || has_n first)
    (opened (has_y first) b.open_still b.elements) e is

pub short_law : ShortLaw
short_law fragment extra [] = ((λ short. refl), (λ e long is. absurd (omega arith)))
short_law fragment extra (first ∷ []) = ((λ short. refl), (λ e long is. absurd (omega arith)))
short_law fragment extra (first ∷ b ∷ bs) = (
  (λ short. absurd (omega arith)),
  (λ e long is. corrupted_elements first fragment extra
      (elements_of (count_w first) (b ∷ bs)) e is),
)
