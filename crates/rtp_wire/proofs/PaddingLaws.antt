-- Padding that is taken off is what stood after the payload.
use Rattle.std.proofs.Common.{◌≡◌, ℕ, ◌+◌, ◌-◌, ◌<◌, ◌≤◌, Bool, true, false, ◌==◌, ◌||◌, refl, sym, ap, ◌∙◌, arith}
use Rattle.std.proofs.Common.{List, ◌++◌, length, take, drop, length-append, length-drop, Some, None}
use Rattle.std.specs.Prelude.{if◌then◌else◌, nat_lt, slice_index}
use Rattle.std.proofs.lemmas.Bool.Decides.{nat_tests}
use Rattle.std.proofs.lemmas.List.{take-append-drop, take_at, get_or-append_right}
use Rattle.rtp_wire.specs.Padding.{IsPadded, unpadded, without}

last-of : (body padding : List ℕ) → 0 < length padding →
    slice_index (body ++ padding) (length (body ++ padding) - 1) ≡ slice_index padding (length padding - 1)
last-of body padding some =
    let place : length (body ++ padding) - 1 ≡ length body + (length padding - 1) =
    omega (arith, length-append body padding) in
    let from : length body ≤ length body + (length padding - 1) = omega arith in
    let back : length body + (length padding - 1) - length body ≡ length padding - 1 = omega arith in
    ap (slice_index (body ++ padding)) place
    ∙ get_or-append_right body padding (length body) (length body + (length padding - 1)) 0 refl from
    ∙ ap (slice_index padding) back

none-left : (count : ℕ) (payload : List ℕ) → 0 < count → count ≤ length payload →
    ((count == 0) || nat_lt (length payload) count) ≡ false
none-left count payload some within = grind (arith, nat_tests)

pub taken_off : (payload body : List ℕ) → IsPadded payload body → unpadded true payload ≡ Some body
taken_off payload body (padding, spelled, is) =
    let last = last-of body padding is.some_byte ∙ is.counted in
    let split = length-append body padding in
    let fits : length padding ≤ length (body ++ padding) = omega (arith, split) in
    let kept : length (body ++ padding) - length padding ≡ length body = omega (arith, split) in
    ap (unpadded true) spelled
    ∙ ap (λ (n : ℕ). without n (body ++ padding)) last
    ∙ ap (λ (b : Bool). if b then None else Some (take (length (body ++ padding) - length padding) (body ++ padding)))
    (none-left (length padding) (body ++ padding) is.some_byte fits)
    ∙ ap (λ (n : ℕ). Some (take n (body ++ padding))) kept
    ∙ ap Some (take_at body padding (length body) refl)

stood-behind : (payload body : List ℕ) (count : ℕ) (refused : Bool) → slice_index payload (length payload - 1) ≡ count →
    ((count == 0) || nat_lt (length payload) count) ≡ refused →
    (if refused then None else Some (take (length payload - count) payload)) ≡ Some body → IsPadded payload body
stood-behind payload body count true last refuse given = absurd cc
stood-behind payload body count false last refuse given =
    let front : take (length payload - count) payload ≡ body = cc in
    let some : 0 < count = grind (arith, nat_tests) in
    let fits : count ≤ length payload = grind (arith, nat_tests) in
    let padding = drop (length payload - count) payload in
    let long : length padding ≡ count = omega (arith, length-drop (length payload - count) payload, fits) in
    let split : payload ≡ body ++ padding =
    sym (take-append-drop (length payload - count) payload) ∙ ap (λ (l : List ℕ). l ++ padding) front in
    let byte : 0 < length padding = omega (arith, long, some) in (
      padding,
      split,
      record {
        some_byte = byte;
        counted = sym (ap (λ (l : List ℕ). slice_index l (length l - 1)) split ∙ last-of body padding byte) ∙ last
            ∙ sym long;
      },
    )

pub was_padded : (payload body : List ℕ) → unpadded true payload ≡ Some body → IsPadded payload body
was_padded payload body given = stood-behind payload body _ _ refl refl given
