-- What makes AMR-WB keep the codec law.
use Rattle.std.proofs.Common.{◌≡◌, ℕ, zero, suc, ◌+◌, ◌-◌, ◌*◌, ◌/◌, ◌%◌, ◌^◌, ◌<◌, ◌≤◌, Bool, true, false, ltb, eqb}
use Rattle.std.proofs.Common.{List, [], ◌∷◌, length, get_or, Option, Some, None, Err, if◌then◌else◌, refl, sym, ap}
use Rattle.std.proofs.Common.{subst, ◌∙◌, arith}
use mathlib.Core.Bool.{false≢true}
use Rattle.std.proofs.lemmas.Bool.{eq-eqb}
use Rattle.std.proofs.lemmas.Bool.Decides.{nat_tests}
use Rattle.std.proofs.lemmas.List.{append-nil}
use Rattle.std.proofs.lemmas.List.Elements.{All-cons, All-nil}
use Rattle.std.proofs.lemmas.List.FromFn.{get_or-map-range_with_len}
use Rattle.payload_core_base.specs.Law.{CodecLaw, SendsUnits, GivesFrom}
use Rattle.payload_core_base.specs.Format.{read_all, run_after}
use Rattle.payload_core_base.specs.Packing.{Sender}
use Rattle.payload_core_base.specs.declared.error.PacketError.TheVariants.{ErrPayloadTooLarge}
use Rattle.payload_core_base.specs.declared.extra.CodecExtra.{CodecExtra}
use Rattle.payload_core_base.proofs.FrameLemmas.{IsWhole, whole-frames}
use Rattle.payload_core_base.specs.Stateless.{sent_as, unit_of_piece}
use Rattle.payload_core_audio.specs.AmrWb.{IsSized, amr_wb_coding, amr_wb_format, amr_wb_packet, amr_wb_packing}
use Rattle.payload_core_audio.specs.AmrWb.{bit_of, byte_from, bytes_from, efficient_bit, entry_place, entry_size}
use Rattle.payload_core_audio.specs.AmrWb.{field_of, field_size, frames_from, frames_of, frames_up_to, header_at}
use Rattle.payload_core_audio.specs.AmrWb.{pack_sized, reading_of_frames, sample_size, size_if, speech_bits}
use Rattle.payload_core_audio.specs.AmrWb.{speech_of, speech_unit}
use Rattle.payload_core_audio.proofs.AmrWbLemmas.{aligned_len, efficient_len, behind_none, frames_go, last_found}
use Rattle.payload_core_audio.proofs.AmrWbLemmas.{next_entry}

pub bit_small : (bytes : List ℕ) (i : ℕ) → bit_of bytes i < 2
bit_small bytes i = omega arith

byte_bit : (r a b c d e f g h : ℕ) → r < 8 → a < 2 → b < 2 → c < 2 → d < 2 → e < 2 → f < 2 → g < 2 → h < 2
    → (a * 128 + b * 64 + c * 32 + d * 16 + e * 8 + f * 4 + g * 2 + h) / 2 ^ (7 - r) % 2
    ≡ get_or (a ∷ b ∷ c ∷ d ∷ e ∷ f ∷ g ∷ h ∷ []) r 0
byte_bit zero a b c d e f g h lt pa pb pc pd pe pf pg ph = omega arith
byte_bit (suc zero) a b c d e f g h lt pa pb pc pd pe pf pg ph = omega arith
byte_bit (suc (suc zero)) a b c d e f g h lt pa pb pc pd pe pf pg ph = omega arith
byte_bit (suc (suc (suc zero))) a b c d e f g h lt pa pb pc pd pe pf pg ph = omega arith
byte_bit (suc (suc (suc (suc zero)))) a b c d e f g h lt pa pb pc pd pe pf pg ph = omega arith
byte_bit (suc (suc (suc (suc (suc zero))))) a b c d e f g h lt pa pb pc pd pe pf pg ph = omega arith
byte_bit (suc (suc (suc (suc (suc (suc zero)))))) a b c d e f g h lt pa pb pc pd pe pf pg ph = omega arith
byte_bit (suc (suc (suc (suc (suc (suc (suc zero))))))) a b c d e f g h lt pa pb pc pd pe pf pg ph = omega arith
byte_bit (suc (suc (suc (suc (suc (suc (suc (suc r)))))))) a b c d e f g h lt pa pb pc pd pe pf pg ph =
    absurd (omega arith)

eight : (bit : ℕ → ℕ) (k r : ℕ) → r < 8 → get_or
    (bit (8 * k) ∷ bit (8 * k + 1) ∷ bit (8 * k + 2) ∷ bit (8 * k + 3) ∷ bit (8 * k + 4) ∷ bit (8 * k + 5)
    ∷ bit (8 * k + 6) ∷ bit (8 * k + 7) ∷ []) r 0 ≡ bit (8 * k + r)
eight bit k zero lt = let e : 8 * k ≡ 8 * k + 0 = omega arith in ap bit e
eight bit k (suc zero) lt = refl
eight bit k (suc (suc zero)) lt = refl
eight bit k (suc (suc (suc zero))) lt = refl
eight bit k (suc (suc (suc (suc zero)))) lt = refl
eight bit k (suc (suc (suc (suc (suc zero))))) lt = refl
eight bit k (suc (suc (suc (suc (suc (suc zero)))))) lt = refl
eight bit k (suc (suc (suc (suc (suc (suc (suc zero))))))) lt = refl
eight bit k (suc (suc (suc (suc (suc (suc (suc (suc r)))))))) lt = absurd (omega arith)

-- the bits of bytes that are made from bits
pub bit_from : (bit : ℕ → ℕ) (m i : ℕ) → i < 8 * m → ((j : ℕ) → bit j < 2) → bit_of (bytes_from bit m) i ≡ bit i
bit_from bit m i lt small =
    let k : ℕ = i / 8 in
    let r : ℕ = i % 8 in
    let within : k < m = omega arith in
    let few : r < 8 = omega arith in
    let whole : 8 * k + r ≡ i = omega arith in
    ap (λ b. b / 2 ^ (7 - r) % 2) (get_or-map-range_with_len (byte_from bit) 0 m k k 0 within (omega arith))
    ∙ byte_bit r (bit (8 * k)) (bit (8 * k + 1)) (bit (8 * k + 2)) (bit (8 * k + 3)) (bit (8 * k + 4))
    (bit (8 * k + 5)) (bit (8 * k + 6)) (bit (8 * k + 7)) few (small _) (small _) (small _) (small _) (small _)
    (small _) (small _) (small _)
    ∙ eight bit k r few
    ∙ ap bit whole

field_small : (bytes : List ℕ) (place size i : ℕ) → field_of bytes place size i < 2
field_small bytes place size i = by_test (ltb i size)
  where
    by_test : (b : Bool) → (if b then bit_of bytes (place + i) else 0) < 2
    by_test true = bit_small bytes (place + i)
    by_test false = omega arith

-- the same field elsewhere
same_field : (p q : List ℕ) (a b size : ℕ) → ((i : ℕ) → i < size → bit_of p (a + i) ≡ bit_of q (b + i))
    → speech_of p a size ≡ speech_of q b size
unfolding speech_of
same_field p q a b size same = ap (λ (f : ℕ → ℕ). bytes_from f ((size + 7) / 8)) (λ t i. at i (ltb i size) refl t)
  where
    at : (i : ℕ) (less : Bool) → ltb i size ≡ less → (if less then bit_of p (a + i) else 0)
        ≡ (if less then bit_of q (b + i) else 0)
    at i true e = same i (grind (arith, nat_tests))
    at i false e = refl

-- a packet whose only entry is that of a sample, with the sample's speech after it, gives the sample's frame
one_frame : (o : Bool) (packet sample : List ℕ) (size : ℕ) → Some size ≡ speech_bits (header_at sample 0 / 8)
    → entry_place o 1 + field_size o size ≤ 8 * length packet
    → bit_of packet (entry_place o 0) ≡ 0 → header_at sample 0 ≡ header_at packet (entry_place o 0)
    → speech_of packet (entry_place o 1) size ≡ speech_of sample 8 size
    → frames_of o packet ≡ Some (header_at sample 0 ∷ speech_of sample 8 size)
one_frame o packet sample size is room last header speech =
    let entry_room : entry_place o 0 + entry_size o ≤ 8 * length packet = omega (arith, next_entry o 0, room) in
    let found = last_found o packet 0 (entry_place o 0) refl entry_room (λ j lt. absurd (omega arith))
    (eq-eqb _ 0 last) in
    ap (frames_up_to o packet) found
    ∙ sym (behind_none (frames_from o packet (suc 0) 0 (entry_place o 1)))
    ∙ frames_go o packet 0 0 (entry_place o 1) (header_at sample 0) [] header size is room
    ∙ ap Some (append-nil (header_at sample 0 ∷ speech_of packet (entry_place o 1) size))
    ∙ ap (λ s. Some (header_at sample 0 ∷ s)) speech

header_back : (a b c d e : ℕ) → a < 2 → b < 2 → c < 2 → d < 2 → e < 2 → let h : ℕ =
    a * 64 + b * 32 + c * 16 + d * 8 + e * 4 in
    (h < 128) × (h ≡ h / 64 % 2 * 64 + h / 32 % 2 * 32 + h / 16 % 2 * 16 + h / 8 % 2 * 8 + h / 4 % 2 * 4)
header_back a b c d e pa pb pc pd pe = (omega arith, omega arith)

header_small : (sample : List ℕ) → (header_at sample 0 < 128)
    × (header_at sample 0 ≡ header_at sample 0 / 64 % 2 * 64 + header_at sample 0 / 32 % 2 * 32 + header_at sample 0
    / 16 % 2 * 16 + header_at sample 0 / 8 % 2 * 8 + header_at sample 0 / 4 % 2 * 4)
unfolding header_at
header_small sample = header_back (bit_of sample 1) (bit_of sample 2) (bit_of sample 3) (bit_of sample 4)
    (bit_of sample 5) (bit_small sample 1) (bit_small sample 2) (bit_small sample 3) (bit_small sample 4)
    (bit_small sample 5)

behind_two : (x y : ℕ) (bytes : List ℕ) (i : ℕ) → bit_of (x ∷ y ∷ bytes) (16 + i) ≡ bit_of bytes i
behind_two x y bytes i =
    let octet : (16 + i) / 8 ≡ suc (suc (i / 8)) = omega arith in
    let rest : (16 + i) % 8 ≡ i % 8 = omega arith in
    ap (λ n. get_or (x ∷ y ∷ bytes) n 0 / 2 ^ (7 - (16 + i) % 8) % 2) octet
    ∙ ap (λ n. get_or bytes (i / 8) 0 / 2 ^ (7 - n) % 2) rest

speech_bit : (sample : List ℕ) (size i : ℕ) → i < size → bit_of (speech_of sample 8 size) i ≡ bit_of sample (8 + i)
unfolding speech_of
speech_bit sample size i lt =
    let within : i < 8 * ((size + 7) / 8) = omega arith in
    let yes : ltb i size ≡ true = grind (arith, nat_tests) in
    bit_from (field_of sample 8 size) ((size + 7) / 8) i within (field_small sample 8 size)
    ∙ ap (λ (b : Bool). if b then bit_of sample (8 + i) else 0) yes

header_two : (x h : ℕ) (rest : List ℕ) → header_at (x ∷ h ∷ rest) 8
    ≡ h / 64 % 2 * 64 + h / 32 % 2 * 32 + h / 16 % 2 * 16 + h / 8 % 2 * 8 + h / 4 % 2 * 4
unfolding header_at
header_two x h rest = refl

aligned_back : (sample : List ℕ) (size : ℕ) → Some size ≡ speech_bits (header_at sample 0 / 8)
    → frames_of true (amr_wb_packet true sample size) ≡ Some (header_at sample 0 ∷ speech_of sample 8 size)
aligned_back sample size is =
    let packet : List ℕ = amr_wb_packet true sample size in
    let small = header_small sample in
    one_frame true packet sample size is (omega (arith, aligned_len sample size)) (omega (arith, small.0))
    (small.1 ∙ sym (header_two 240 (header_at sample 0) (speech_of sample 8 size)))
    (same_field packet sample 16 8 size (λ i lt. behind_two 240 (header_at sample 0) (speech_of sample 8 size) i
    ∙ speech_bit sample size i lt))

efficient_small : (sample : List ℕ) (size i : ℕ) → efficient_bit sample size i < 2
unfolding efficient_bit
efficient_small sample size i = by_tests (ltb i 4) (eqb i 4) (ltb i 10) (ltb i (size + 10))
  where
    by_tests : (a b c d : Bool) → (if a then 1
        else (if b then 0 else (if c then bit_of sample (i - 4) else (if d then bit_of sample (i - 2) else 0)))) < 2
    by_tests true b c d = omega arith
    by_tests false true c d = omega arith
    by_tests false false true d = bit_small sample (i - 4)
    by_tests false false false true = bit_small sample (i - 2)
    by_tests false false false false = omega arith

efficient_speech : (sample : List ℕ) (size i : ℕ) → i < size → efficient_bit sample size (10 + i)
    ≡ bit_of sample (8 + i)
unfolding efficient_bit
efficient_speech sample size i lt =
    let one : ltb (10 + i) 4 ≡ false = grind (arith, nat_tests) in
    let two : eqb (10 + i) 4 ≡ false = grind (arith, nat_tests) in
    let three : ltb (10 + i) 10 ≡ false = grind (arith, nat_tests) in
    let four : ltb (10 + i) (size + 10) ≡ true = grind (arith, nat_tests) in
    let same : 10 + i - 2 ≡ 8 + i = omega arith in
    ap (λ (a : Bool). if a then 1 else (if eqb (10 + i) 4 then 0
    else (if ltb (10 + i) 10 then bit_of sample (10 + i - 4)
    else (if ltb (10 + i) (size + 10) then bit_of sample (10 + i - 2) else 0)))) one
    ∙ ap (λ (a : Bool). if a then 0 else (if ltb (10 + i) 10 then bit_of sample (10 + i - 4)
    else (if ltb (10 + i) (size + 10) then bit_of sample (10 + i - 2) else 0))) two
    ∙ ap (λ (a : Bool). if a then bit_of sample (10 + i - 4)
    else (if ltb (10 + i) (size + 10) then bit_of sample (10 + i - 2) else 0)) three
    ∙ ap (λ (a : Bool). if a then bit_of sample (10 + i - 2) else 0) four
    ∙ ap (bit_of sample) same

efficient_clear : (sample : List ℕ) (size : ℕ) → efficient_bit sample size 4 ≡ 0
unfolding efficient_bit
efficient_clear sample size = refl

efficient_header : (packet sample : List ℕ) (size : ℕ)
    → ((i : ℕ) → i < 10 → bit_of packet i ≡ efficient_bit sample size i) → header_at sample 0 ≡ header_at packet 4
unfolding header_at efficient_bit
efficient_header packet sample size bits =
    let ft3 : bit_of packet 5 ≡ bit_of sample 1 = bits 5 (omega arith) in
    let ft2 : bit_of packet 6 ≡ bit_of sample 2 = bits 6 (omega arith) in
    let ft1 : bit_of packet 7 ≡ bit_of sample 3 = bits 7 (omega arith) in
    let ft0 : bit_of packet 8 ≡ bit_of sample 4 = bits 8 (omega arith) in
    let q : bit_of packet 9 ≡ bit_of sample 5 = bits 9 (omega arith) in
    ap (λ n. n * 64 + bit_of sample 2 * 32 + bit_of sample 3 * 16 + bit_of sample 4 * 8 + bit_of sample 5 * 4) (sym ft3)
    ∙ ap (λ n. bit_of packet 5 * 64 + n * 32 + bit_of sample 3 * 16 + bit_of sample 4 * 8 + bit_of sample 5 * 4)
    (sym ft2)
    ∙ ap (λ n. bit_of packet 5 * 64 + bit_of packet 6 * 32 + n * 16 + bit_of sample 4 * 8 + bit_of sample 5 * 4)
    (sym ft1)
    ∙ ap (λ n. bit_of packet 5 * 64 + bit_of packet 6 * 32 + bit_of packet 7 * 16 + n * 8 + bit_of sample 5 * 4)
    (sym ft0)
    ∙ ap (λ n. bit_of packet 5 * 64 + bit_of packet 6 * 32 + bit_of packet 7 * 16 + bit_of packet 8 * 8 + n * 4) (sym q)

efficient_back : (sample : List ℕ) (size : ℕ) → Some size ≡ speech_bits (header_at sample 0 / 8)
    → frames_of false (amr_wb_packet false sample size) ≡ Some (header_at sample 0 ∷ speech_of sample 8 size)
efficient_back sample size is =
    let packet : List ℕ = amr_wb_packet false sample size in
    let bits : (i : ℕ) → i < 8 * ((size + 17) / 8) → bit_of packet i ≡ efficient_bit sample size i =
    λ i lt. bit_from (efficient_bit sample size) ((size + 17) / 8) i lt (efficient_small sample size) in
    one_frame false packet sample size is (omega (arith, efficient_len sample size))
    (bits 4 (omega arith) ∙ efficient_clear sample size)
    (efficient_header packet sample size (λ i lt. bits i (omega arith)))
    (same_field packet sample 10 8 size (λ i lt. bits (10 + i) (omega arith) ∙ efficient_speech sample size i lt))

frames_back : (o : Bool) (sample : List ℕ) (size : ℕ) → Some size ≡ speech_bits (header_at sample 0 / 8)
    → frames_of o (amr_wb_packet o sample size) ≡ Some (header_at sample 0 ∷ speech_of sample 8 size)
frames_back true = aligned_back
frames_back false = efficient_back

some_byte : (o : Bool) (sample : List ℕ) (size : ℕ) → 0 < length (amr_wb_packet o sample size)
some_byte true sample size = omega (arith, aligned_len sample size)
some_byte false sample size = omega (arith, efficient_len sample size)

gives_frame : (o : Bool) (packet unit : List ℕ) (extra : CodecExtra) → frames_of o packet ≡ Some unit
    → GivesFrom (read_all (amr_wb_format o) None extra (packet ∷ [])) (unit_of_piece unit) 0
gives_frame o packet unit extra e =
    let P : Option (List ℕ) → Type 0 = λ f. GivesFrom
    (run_after None extra (reading_of_frames f None extra) (λ g y. read_all (amr_wb_format o) g y []))
    (unit_of_piece unit) 0 in
    let there : P (Some unit) = record { some_part = omega arith; no_fault = refl; written = refl; closed = refl } in
    subst P (sym e) there

by_test : (o : Bool) (sender : Sender) (limit : ℕ) (sample : List ℕ) (size : ℕ) (over : Bool) → over ≡ false
    → Some size ≡ speech_bits (header_at sample 0 / 8) → length (amr_wb_packet o sample size) ≤ limit
    → SendsUnits (amr_wb_coding o) limit (if over then Err ErrPayloadTooLarge
    else sent_as sender (amr_wb_packet o sample size ∷ []))
    (unit_of_piece (header_at sample 0 ∷ speech_of sample 8 size) ∷ []) sender
by_test o sender limit sample size true e is fits = absurd (false≢true (sym e))
by_test o sender limit sample size false e is fits =
    let packet : List ℕ = amr_wb_packet o sample size in
    let unit : List ℕ = header_at sample 0 ∷ speech_of sample 8 size in
    let whole : IsWhole (amr_wb_format o) packet (unit_of_piece unit) = record {
      head = refl;
      tail = λ marker. refl;
      gives = λ extra. gives_frame o packet unit extra (frames_back o sample size is);
    } in
    record {
      reached = tt;
      within = All-cons (λ (p : List ℕ). (0 < length p) × (length p ≤ limit)) packet []
          (some_byte o sample size, fits) (All-nil _);
      frames = whole-frames (amr_wb_packing o) (amr_wb_format o) (λ p. unit_of_piece unit) (packet ∷ [])
          (All-cons (λ (p : List ℕ). IsWhole (amr_wb_format o) p (unit_of_piece unit)) packet [] whole (All-nil _));
      leaves = refl;
    }

by_size : (o : Bool) (sender : Sender) (limit : ℕ) (sample : List ℕ) (size : Option ℕ) → sample_size sample ≡ size
    → IsSized o limit sample size → SendsUnits (amr_wb_coding o) limit (pack_sized o sender limit sample size)
    (unit_of_piece (speech_unit sample size) ∷ []) sender
by_size o sender limit sample None e sized = absurd sized
by_size o sender limit sample (Some size) e sized =
    by_test o sender limit sample size (ltb limit (length (amr_wb_packet o sample size))) (grind (arith, nat_tests))
    (its_size (speech_bits (header_at sample 0 / 8)) (length sample) size e) sized
  where
    its_size : (bits : Option ℕ) (count size : ℕ) → size_if bits count ≡ Some size → Some size ≡ bits
    its_size None count size e = cc
    its_size (Some n) count size e = within n count size (eqb count ((n + 7) / 8 + 1)) e
      where
        within : (n count size : ℕ) (same : Bool) → (if same then Some n else None) ≡ Some size → Some size ≡ Some n
        within n count size true e = sym e
        within n count size false e = cc

pub amr_wb_codec_law : (o : Bool) → CodecLaw (amr_wb_coding o)
amr_wb_codec_law o sender limit [] reached well_formed = absurd (omega (arith, well_formed.0))
amr_wb_codec_law o sender limit (b ∷ bs) reached well_formed =
    by_size o sender limit (b ∷ bs) (sample_size (b ∷ bs)) refl well_formed.1
