-- What a packing of VP8 tells of its ids.
use Rattle.std.proofs.Common.{◌≡◌, ℕ, Bool, true, false, [], ◌∷◌, length, get_or, Result, Ok, Err, refl, sym, ap}
use Rattle.std.proofs.Common.{◌∙◌, arith}
use Rattle.std.specs.List.{Contains}
use Rattle.payload_core_base.specs.Packing.{Packing, Sent}
use Rattle.payload_core_base.specs.Pieces.{pieces}
use Rattle.payload_core_base.specs.declared.error.PacketError.{PacketError}
use Rattle.media_types.specs.declared.codec.Codec.{Codec}
use Rattle.media_types.specs.declared.codec.Codec.TheVariants.{Vp8}
use Rattle.payload_core_vpx.specs.Vp8.{vp8_packing}
use Rattle.h26x_payload.specs.Codings.{Forms, Settings, coding_in, with_zero_id}

-- how long the first packet of a frame of one byte with the id 1 is
abbrev first_len : Result Sent PacketError → ℕ
first_len (Ok sent) = length (get_or sent.packets 0 [])
first_len (Err e) = 0

abbrev first_of : Packing → ℕ
first_of p = first_len (p.pack (record { number = 1; waiting = [] }) 10 (0 ∷ []))

with_ids : (zero_id : Bool) → first_of (vp8_packing true zero_id) ≡ 4
unfolding pieces
with_ids true = refl
with_ids false = refl

without_ids : (zero_id : Bool) → first_of (vp8_packing false zero_id) ≡ 2
unfolding pieces
without_ids true = refl
without_ids false = refl

-- packings that are the same both have ids, or neither has
pub same_ids : (one other zero_id others_zero : Bool) → vp8_packing one zero_id
    ≡ vp8_packing other others_zero → one ≡ other
same_ids true true zero_id others_zero same = refl
same_ids false false zero_id others_zero same = refl
same_ids true false zero_id others_zero same =
    absurd (omega (arith, sym (with_ids zero_id) ∙ ap first_of same ∙ without_ids others_zero))
same_ids false true zero_id others_zero same =
    absurd (omega (arith, sym (without_ids zero_id) ∙ ap first_of same ∙ with_ids others_zero))

only : (one codec : Codec) → Contains (one ∷ []) codec → one ≡ codec
only one codec of = let e : of.0 ≡ 0 = omega arith in ap (λ i. get_or (one ∷ []) i codec) (sym e) ∙ of.2

-- a packing of VP8 in some form, and that with the id 0
pub vp8-with_zero_id : (has_id zero_id new_has_id new_zero_id ids : Bool) (f : Forms) (s : Settings) (codec : Codec)
    → Contains (Vp8 ∷ []) codec → vp8_packing has_id zero_id ≡ (coding_in f s ids codec).packing → new_has_id ≡ has_id
    → new_zero_id ≡ true → vp8_packing new_has_id new_zero_id ≡ (coding_in (with_zero_id f) s ids codec).packing
vp8-with_zero_id has_id zero_id new_has_id new_zero_id ids f s codec of is same set =
    let e : Vp8 ≡ codec = only Vp8 codec of in
    let ids_are : has_id ≡ ids = same_ids has_id ids zero_id f.zero_id
    (is ∙ sym (ap (λ (k : Codec). (coding_in f s ids k).packing) e)) in
    ap (λ (h : Bool). vp8_packing h new_zero_id) (same ∙ ids_are) ∙ ap (vp8_packing ids) set
    ∙ ap (λ (k : Codec). (coding_in (with_zero_id f) s ids k).packing) e
