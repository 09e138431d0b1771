-- Parts of VP8 payloads whose ids are moved on.
use Rattle.std.proofs.Common.{◌≡◌, ℕ, ◌<◌, ◌≤◌, refl, ◌∙◌, ap, ap₂, arith, Bool, true, false}
use Rattle.std.proofs.Common.{List, [], ◌∷◌, ◌++◌, length, drop, length-append}
use Rattle.std.proofs.lemmas.Bool.Decides.{nat_tests}
use Rattle.std.specs.Prelude.{Option, Some, Result, Ok, nat_le, nat_lt, if◌then◌else◌}
use Rattle.payload_core_vpx.specs.Vp8Descriptor.{parsed}
use Rattle.payload_core_vpx.specs.Vp8Shifts.{continuing}
use Rattle.payload_core_vpx.specs.declared.vp8_descriptor.Vp8Descriptor.{Vp8Descriptor}
use Rattle.payload_core_vpx.specs.declared.vp8_descriptor.Vp8DescriptorError.{Vp8DescriptorError}
use Rattle.payload_core_vpx.specs.declared.vp8_shift.Vp8Shift.{Vp8Shift}
use Rattle.rtp_media_forward.specs.Forwarding.{most_pieces}
use Rattle.rtp_media_forward.specs.Vp8Ids.{Idents, first_shift, no_shift, shift_at, shift_in, with_part}
use Rattle.rtp_media_forward.specs.declared.vp8_ids.Vp8Part.{Vp8Part}
use Rattle.rtp_media_forward.specs.declared.vp8_ids.Vp8Sent.{Vp8Sent}

at-last : (s : Vp8Shift) (ps : List Vp8Part) (p : Vp8Part) (number : ℕ) → p.first ≤ number
    → shift_in s (ps ++ p ∷ []) number ≡ p.shift
at-last s [] p number low =
    let e : nat_le p.first number ≡ true = grind (arith, nat_tests, low) in
    ap (λ (b : Bool). if b then p.shift else s) e
at-last s (q ∷ qs) p number low = at-last (if nat_le q.first number then q.shift else s) qs p number low

before-last : (s : Vp8Shift) (ps : List Vp8Part) (p : Vp8Part) (number : ℕ) → number < p.first
    → shift_in s (ps ++ p ∷ []) number ≡ shift_in s ps number
before-last s [] p number high =
    let e : nat_le p.first number ≡ false = grind (arith, nat_tests, high) in
    ap (λ (b : Bool). if b then p.shift else s) e
before-last s (q ∷ qs) p number high = before-last (if nat_le q.first number then q.shift else s) qs p number high

drop-first : (ps : List Vp8Part) (p : Vp8Part) → 1 < length (ps ++ p ∷ []) → drop 1 (ps ++ p ∷ []) ≡ drop 1 ps ++ p ∷ []
drop-first [] p some = absurd (omega arith)
drop-first (q ∷ qs) p some = refl

pub begins : (ids : Idents) (first : ℕ) (payload : List ℕ) (last : Vp8Sent) (d : Vp8Descriptor) → ids.last ≡ Some last
    → parsed payload ≡ Ok d → (number : ℕ) → first ≤ number
    → shift_at (with_part ids first payload) number ≡ continuing last.descriptor d
begins ids first payload last d is reads number low =
    by (nat_lt most_pieces (length (ids.parts ++ part ∷ []))) refl
    ∙ ap₂ (λ (o : Option Vp8Sent) (r : Result Vp8Descriptor Vp8DescriptorError). first_shift o r) is reads where
      part : Vp8Part
      part = record { first = first; shift = first_shift ids.last (parsed payload) }

      by : (b : Bool) → nat_lt most_pieces (length (ids.parts ++ part ∷ [])) ≡ b
          → shift_in no_shift (if b then drop 1 (ids.parts ++ part ∷ []) else ids.parts ++ part ∷ []) number
          ≡ part.shift
      by true e =
          let many : most_pieces < length (ids.parts ++ part ∷ []) = grind (arith, nat_tests, e) in
          ap (λ (ps : List Vp8Part). shift_in no_shift ps number)
          (drop-first ids.parts part (omega (arith, many))) ∙ at-last no_shift (drop 1 ids.parts) part number low
      by false e = at-last no_shift ids.parts part number low

pub stays-before : (ids : Idents) (first number : ℕ) (payload : List ℕ) → length ids.parts < 64 → number < first
    → shift_at (with_part ids first payload) number ≡ shift_at ids number
stays-before ids first number payload few high =
    let part : Vp8Part = record { first = first; shift = first_shift ids.last (parsed payload) } in
    let e : nat_lt most_pieces (length (ids.parts ++ part ∷ [])) ≡ false =
    grind (arith, nat_tests, few, length-append ids.parts (part ∷ [])) in
    ap (λ (b : Bool). shift_in no_shift (if b then drop 1 (ids.parts ++ part ∷ []) else ids.parts ++ part ∷ []) number)
    e ∙ before-last no_shift ids.parts part number high
