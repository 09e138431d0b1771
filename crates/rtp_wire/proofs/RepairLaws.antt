-- What a repair is read as.
use Rattle.std.proofs.Common.{◌≡◌, ◌≢◌, ℕ, zero, suc, ◌+◌, ◌-◌, ◌*◌, ◌/◌, ◌^◌, ◌<◌, ◌≤◌, refl, sym, ◌∙◌, ap, subst}
use Rattle.std.proofs.Common.{arith, Bool, true, false, true≢false, List, [], ◌∷◌, ◌++◌, length, take, drop}
use Rattle.std.proofs.Common.{length-append, length-take, length-drop, append_assoc}
use Rattle.std.specs.Prelude.{if◌then◌else◌, Option, Some, None, ◌==◌, ◌||◌, nat_lt, slice_index, option_and_then}
use Rattle.std.specs.Int.{w16, w32, to_be_bytes, from_be_bytes}
use Rattle.std.proofs.lemmas.Bool.Decides.{nat_tests}
use Rattle.std.proofs.lemmas.List.{take_at, drop_at}
use Rattle.std.proofs.lemmas.Nat.{from_be_bytes-to_be_bytes_2}
use Rattle.rtp_wire.specs.Values.{Numbering}
use Rattle.rtp_wire.specs.declared.header.RtpHeader.{RtpHeader}
use Rattle.rtp_wire.specs.Header.{header_in, header_of, payload_in, IsSpelled}
use Rattle.rtp_wire.specs.Layout.{Layout, bit, is_some_block, block_bytes, words, layout_bytes, IsBytes, IsLayout}
use Rattle.rtp_wire.specs.Padding.{unpadded, without}
use Rattle.rtp_wire.proofs.Found.{header_in-found}
use Rattle.rtp_wire.proofs.HeaderLaws.{header_in-layout}
use Rattle.rtp_wire.proofs.LengthsLemmas.{length-layout, length-words}
use Rattle.rtp_wire.specs.Repairs.{Wrapped, readdressed, readdressed_layout, repair_of, retyped, wrapped_in}

retyped-is : (pt : ℕ) (marker : Bool) (was : ℕ) → was < 128 → retyped pt (128 * bit marker + was)
    ≡ 128 * bit marker + pt
retyped-is pt true was h = omega arith
retyped-is pt false was h = omega arith

-- The repair of a datagram that a layout spells: the same layout under other keys, and the number's bytes after it.
pub repaired-layout : (pt number ssrc : ℕ) (l : Layout) (rest : List ℕ) → l.payload_type < 128 →
    repair_of pt number ssrc (length (layout_bytes l)) (layout_bytes l ++ rest)
    ≡ layout_bytes (readdressed_layout pt number ssrc l) ++ (to_be_bytes w16 l.number ++ rest)
repaired-layout pt number ssrc l rest fits =
    let first : ℕ = 128 + 32 * bit l.padding + 16 * bit (is_some_block l.extension) + length l.csrc in
    let second : retyped pt (128 * bit l.marker + l.payload_type) ≡ 128 * bit l.marker + pt =
    retyped-is pt l.marker l.payload_type fits in
    let tail : List ℕ = words l.csrc ++ block_bytes l.extension in
    let len : length (layout_bytes l) - 12 ≡ length tail =
    omega (arith, length-layout l, length-append (words l.csrc) (block_bytes l.extension), length-words l.csrc) in
    let middle : take (length (layout_bytes l) - 12) (tail ++ rest) ≡ tail =
    ap (λ (n : ℕ). take n (tail ++ rest)) len ∙ take_at tail rest (length tail) refl in
    let end : drop (length (layout_bytes l)) (layout_bytes l ++ rest) ≡ rest =
    drop_at (layout_bytes l) rest (length (layout_bytes l)) refl in
    λ i. first ∷ second i ∷ (to_be_bytes w16 number ++ (to_be_bytes w32 l.time ++ (to_be_bytes w32 ssrc
    ++ (middle i ++ (to_be_bytes w16 l.number ++ end i)))))

readdressed-sound : (pt number ssrc : ℕ) (l : Layout) → IsLayout l → pt < 128 → number < 2 ^ 16 → ssrc < 2 ^ 32
    → IsLayout (readdressed_layout pt number ssrc l)
readdressed-sound pt number ssrc l sound p n s = record {
  payload_type = p;
  number = n;
  time = sound.time;
  ssrc = s;
  few = sound.few;
  csrc = sound.csrc;
  extension = sound.extension;
}

-- It is no longer and no shorter.
pub readdressed-length : (pt number ssrc : ℕ) (l : Layout) → length (layout_bytes (readdressed_layout pt number ssrc l))
    ≡ length (layout_bytes l)
readdressed-length pt number ssrc l = length-layout (readdressed_layout pt number ssrc l) ∙ sym (length-layout l)

-- The repair is read as the datagram's header under the other keys.
pub reads-layout : (map : Numbering) (pt number ssrc : ℕ) (l : Layout) (rest : List ℕ) → IsLayout l → pt < 128
    → number < 2 ^ 16 → ssrc < 2 ^ 32 →
    header_in map (repair_of pt number ssrc (length (layout_bytes l)) (layout_bytes l ++ rest))
    ≡ Some (readdressed pt number ssrc (header_of map l))
reads-layout map pt number ssrc l rest sound p n s =
    ap (header_in map) (repaired-layout pt number ssrc l rest sound.payload_type)
    ∙ header_in-layout map (readdressed_layout pt number ssrc l) (to_be_bytes w16 l.number ++ rest)
    (readdressed-sound pt number ssrc l sound p n s)
    ∙ ap (λ (k : ℕ). Some (record (readdressed pt number ssrc (header_of map l)) { header_len = k }))
    (readdressed-length pt number ssrc l)

-- After it are the number's bytes and the payload.
pub payload-layout : (map : Numbering) (pt number ssrc : ℕ) (l : Layout) (rest : List ℕ) → l.payload_type < 128 →
    payload_in (header_of map l) (repair_of pt number ssrc (length (layout_bytes l)) (layout_bytes l ++ rest))
    ≡ to_be_bytes w16 l.number ++ rest
payload-layout map pt number ssrc l rest fits =
    ap (drop (length (layout_bytes l))) (repaired-layout pt number ssrc l rest fits)
    ∙ drop_at (layout_bytes (readdressed_layout pt number ssrc l)) (to_be_bytes w16 l.number ++ rest)
    (length (layout_bytes l)) (sym (readdressed-length pt number ssrc l))

-- Padding counts as much after two bytes more.
if-none : {A : Type 0} (b : Bool) (x y : A) → (if b then None else Some x) ≡ Some y → (b ≡ false) × (x ≡ y)
if-none true x y h = absurd cc
if-none false x y h = (refl, cc)

if-else : {A : Type 0} (b : Bool) (x y : A) → b ≡ false → (if b then x else y) ≡ y
if-else true x y h = absurd (true≢false h)
if-else false x y h = refl

neither : (a b : Bool) → (a || b) ≡ false → (a ≡ false) × (b ≡ false)
neither true b h = absurd (true≢false h)
neither false b h = (refl, h)

or-not : (a b : Bool) → a ≡ false → b ≡ false → (a || b) ≡ false
or-not true b h k = absurd (true≢false h)
or-not false b h k = k

not-zero : (n : ℕ) → (n == 0) ≡ false → 0 < n
not-zero n h = grind (arith, nat_tests)

not-below : (a b : ℕ) → nat_lt a b ≡ false → b ≤ a
not-below a b h = grind (arith, nat_tests)

zero-not : (n : ℕ) → 0 < n → (n == 0) ≡ false
zero-not n h = grind (arith, nat_tests)

below-not : (a b : ℕ) → b ≤ a → nat_lt a b ≡ false
below-not a b h = grind (arith, nat_tests)

without-behind : (a b count : ℕ) (xs body : List ℕ) → without count xs ≡ Some body
    → without count (a ∷ b ∷ xs) ≡ Some (a ∷ b ∷ body)
without-behind a b count xs body e =
    let was = if-none ((count == 0) || nat_lt (length xs) count) (take (length xs - count) xs) body e in
    let tests = neither (count == 0) (nat_lt (length xs) count) was.0 in
    let some : 0 < count = not-zero count tests.0 in
    let fits : count ≤ length xs = not-below (length xs) count tests.1 in
    let left : length (a ∷ b ∷ xs) - count ≡ suc (suc (length xs - count)) = omega (arith, some, fits) in
    if-else ((count == 0) || nat_lt (length (a ∷ b ∷ xs)) count) None
    (Some (take (length (a ∷ b ∷ xs) - count) (a ∷ b ∷ xs)))
    (or-not (count == 0) (nat_lt (length (a ∷ b ∷ xs)) count) tests.0
    (below-not (length (a ∷ b ∷ xs)) count (omega (arith, fits))))
    ∙ ap (λ (n : ℕ). Some (take n (a ∷ b ∷ xs))) left
    ∙ ap (λ (ys : List ℕ). Some (a ∷ b ∷ ys)) was.1

pub unpadded-behind : (padding : Bool) (a b : ℕ) (xs body : List ℕ) → unpadded padding xs ≡ Some body
    → unpadded padding (a ∷ b ∷ xs) ≡ Some (a ∷ b ∷ body)
unpadded-behind false a b xs body e = ap (λ (o : Option (List ℕ)). option_and_then (λ ys. Some (a ∷ b ∷ ys)) o) e
unpadded-behind true a b [] body e = absurd cc
unpadded-behind true a b (x ∷ xs) body e =
    let at : length (a ∷ b ∷ x ∷ xs) - 1 ≡ suc (suc (length (x ∷ xs) - 1)) = omega arith in
    ap (λ (k : ℕ). without (slice_index (a ∷ b ∷ x ∷ xs) k) (a ∷ b ∷ x ∷ xs)) at
    ∙ without-behind a b (slice_index (x ∷ xs) (length (x ∷ xs) - 1)) (x ∷ xs) body e

-- What the repair's payload wraps.
pub wraps-behind : (padding : Bool) (number byte : ℕ) (xs body : List ℕ) → number < 2 ^ 16
    → unpadded padding xs ≡ Some (byte ∷ body) →
    option_and_then wrapped_in (unpadded padding (to_be_bytes w16 number ++ xs))
    ≡ Some (record { number = number; payload = byte ∷ body })
wraps-behind padding number byte xs body fits e =
    ap (option_and_then wrapped_in) (unpadded-behind padding _ _ xs (byte ∷ body) e)
    ∙ ap (λ (n : ℕ). Some (record { number = n; payload = byte ∷ body })) (from_be_bytes-to_be_bytes_2 number fits)

-- The same of datagrams that are read.
module _ (map : Numbering) (d : List ℕ) (h : RtpHeader) (pt number ssrc : ℕ) (is : IsBytes d)
    (e : header_in map d ≡ Some h) where
  found : IsSpelled map d h
  found = header_in-found map d h is e

  repaired-is : repair_of pt number ssrc h.header_len d
      ≡ repair_of pt number ssrc (length (layout_bytes found.layout)) (layout_bytes found.layout ++ found.rest)
  repaired-is i = repair_of pt number ssrc (found.meaning i).header_len (found.spelling i)

  payload-is : payload_in h d ≡ found.rest
  payload-is = (λ i. payload_in (found.meaning i) (found.spelling i))
      ∙ drop_at (layout_bytes found.layout) found.rest (length (layout_bytes found.layout)) refl

  pub reads : pt < 128 → number < 2 ^ 16 → ssrc < 2 ^ 32 → header_in map (repair_of pt number ssrc h.header_len d)
      ≡ Some (readdressed pt number ssrc h)
  reads p n s = ap (header_in map) repaired-is
      ∙ reads-layout map pt number ssrc found.layout found.rest found.sound p n s
      ∙ ap (λ (x : RtpHeader). Some (readdressed pt number ssrc x)) (sym found.meaning)

  pub payload : payload_in h (repair_of pt number ssrc h.header_len d)
      ≡ to_be_bytes w16 h.sequence_number ++ payload_in h d
  payload = ap (λ (xs : List ℕ). payload_in h xs) repaired-is
      ∙ ap (λ (x : RtpHeader). payload_in x
      (repair_of pt number ssrc (length (layout_bytes found.layout)) (layout_bytes found.layout ++ found.rest)))
      found.meaning
      ∙ payload-layout map pt number ssrc found.layout found.rest found.sound.payload_type
      ∙ (λ i. to_be_bytes w16 (sym found.meaning i).sequence_number ++ sym payload-is i)

  pub wraps : (byte : ℕ) (body : List ℕ) → unpadded h.has_padding (payload_in h d) ≡ Some (byte ∷ body) →
      option_and_then wrapped_in (unpadded h.has_padding (payload_in h (repair_of pt number ssrc h.header_len d)))
      ≡ Some (record { number = h.sequence_number; payload = byte ∷ body })
  wraps byte body some =
      let fits : h.sequence_number < 2 ^ 16 =
      subst (λ (x : RtpHeader). x.sequence_number < 2 ^ 16) (sym found.meaning) found.sound.number in
      ap (λ (xs : List ℕ). option_and_then wrapped_in (unpadded h.has_padding xs)) payload
      ∙ wraps-behind h.has_padding h.sequence_number byte (payload_in h d) body fits some

  pub len : length (repair_of pt number ssrc h.header_len d) ≡ length d + 2
  len = ap length (repaired-is ∙ repaired-layout pt number ssrc found.layout found.rest found.sound.payload_type)
      ∙ omega (
        arith,
        length-append (layout_bytes (readdressed_layout pt number ssrc found.layout))
            (to_be_bytes w16 found.layout.number ++ found.rest),
        length-append (layout_bytes found.layout) found.rest,
        readdressed-length pt number ssrc found.layout,
        ap length found.spelling,
      )

-- A repair is two bytes longer than the datagram, wherever its header ends.
pub repair_length : (pt number ssrc header_len : ℕ) (d : List ℕ) → 12 ≤ header_len → header_len ≤ length d
    → length (repair_of pt number ssrc header_len d) ≡ length d + 2
repair_length pt number ssrc header_len d least fits =
    omega (
      arith,
      least,
      fits,
      length-append (take 4 (drop 4 d) ++ to_be_bytes w32 ssrc ++ take (header_len - 12) (drop 12 d))
          (slice_index d 2 ∷ slice_index d 3 ∷ drop header_len d),
      length-append (take 4 (drop 4 d) ++ to_be_bytes w32 ssrc) (take (header_len - 12) (drop 12 d)),
      length-append (take 4 (drop 4 d)) (to_be_bytes w32 ssrc),
      length-append (take 4 (drop 4 d)) (to_be_bytes w32 ssrc ++ take (header_len - 12) (drop 12 d)
          ++ (slice_index d 2 ∷ slice_index d 3 ∷ drop header_len d)),
      length-append (to_be_bytes w32 ssrc ++ take (header_len - 12) (drop 12 d))
          (slice_index d 2 ∷ slice_index d 3 ∷ drop header_len d),
      length-append (take (header_len - 12) (drop 12 d)) (slice_index d 2 ∷ slice_index d 3 ∷ drop header_len d),
      length-take 4 (drop 4 d),
      length-drop 4 d,
      length-take (header_len - 12) (drop 12 d),
      length-drop 12 d,
      length-drop header_len d,
    )
