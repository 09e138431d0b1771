-- Blocks are laid out as pieces, and what is read is what the pieces say.
use Rattle.std.proofs.Common.{◌≡◌, ℕ, zero, suc, ◌+◌, ◌*◌, ◌-◌, ◌/◌, ◌%◌, ◌<◌, ◌≤◌, Bool, true, false, true≢false}
use Rattle.std.proofs.Common.{◌==◌, refl, sym, ap, ◌∙◌, ◌≢◌, arith, List, [], ◌∷◌, ◌++◌, length, take, drop}
use Rattle.std.proofs.Common.{length-take, length-drop, append_assoc, inl, inr}
use Rattle.std.specs.Prelude.{if◌then◌else◌, Some, None, nat_lt, ◌||◌, ◌⊎◌}
use Rattle.std.specs.List.{flat_map}
use Rattle.std.proofs.lemmas.Bool.Decides.{nat_tests}
use Rattle.std.proofs.lemmas.List.{take-append-drop}
use Rattle.rtp_wire.specs.declared.extension.Extension.{Extension}
use Rattle.rtp_wire.specs.declared.extension.Extension.TheVariants.{AbsoluteSendTime, AbsoluteCaptureTime}
use Rattle.rtp_wire.specs.declared.extension.Extension.TheVariants.{AudioLevel, VideoOrientation}
use Rattle.rtp_wire.specs.declared.extension.Extension.TheVariants.{TransportSequenceNumber, PlayoutDelay}
use Rattle.rtp_wire.specs.declared.extension.Extension.TheVariants.{VideoContentType, RtpStreamId}
use Rattle.rtp_wire.specs.declared.extension.Extension.TheVariants.{RepairedRtpStreamId, RtpMid}
use Rattle.rtp_wire.specs.declared.extension.Extension.TheVariants.{UnknownUri}
use Rattle.rtp_wire.specs.declared.values.ExtensionValues.{ExtensionValues}
use Rattle.rtp_wire.specs.Carried.{with_value}
use Rattle.rtp_wire.specs.Elements.{Element, Numbering, Step, padding, lookup, step}
use Rattle.rtp_wire.specs.Elements.{taken, values_from, with_element}
use Rattle.rtp_wire.specs.Values.{form_of_profile}
use Rattle.rtp_wire.specs.BlockLayout.{Piece, Padding, Holds, piece_text, IsPiece, ArePieces, AreBytes}
use Rattle.rtp_wire.specs.BlockLayout.{EndsElements, IsLaidOut, said_by_piece, said_by_pieces}
use Rattle.rtp_wire.specs.BlockLayout.{may_have_length}
use Rattle.rtp_wire.proofs.BlockLaws.{if-then, if-else, lt-of-no, step-element, values_from-end}
use Rattle.rtp_wire.proofs.BlockLaws.{values_from-step}

-- what a piece is read as
abbrev piece_step : Piece → List ℕ → Step
piece_step (Padding byte) rest = padding rest
piece_step (Holds e) rest = record { id = e.id; bytes = e.bytes; rest = rest }

step-piece : (one : Bool) (p : Piece) (rest : List ℕ) → IsPiece one p →
    step one (piece_text one p ++ rest) ≡ Some (piece_step p rest)
step-piece true (Padding byte) rest h =
    let number : byte / 16 ≡ 0 = omega (arith, h) in
    if-then (byte / 16 == 0) _ _ (ap (λ (k : ℕ). k == 0) number)
step-piece false (Padding byte) rest h = if-then (byte == 0) _ _ (ap (λ (k : ℕ). k == 0) h)
step-piece true (Holds e) rest h = step-element true e rest h
step-piece false (Holds e) rest h = step-element false e rest h

lt-yes : (a b : ℕ) → a < b → nat_lt a b ≡ true
lt-yes a b h = grind (arith, nat_tests)

-- an element that passes the end
taken-past : (id count : ℕ) (rest : List ℕ) → length rest < count → taken id count rest ≡ None
taken-past id count rest h = if-then (nat_lt (length rest) count) _ _ (lt-yes (length rest) count h)

eq-pos : (n : ℕ) → 1 ≤ n → (n == 0) ≡ false
eq-pos n h = grind (arith, nat_tests)

one-past : (b : ℕ) (rest : List ℕ) (is_end : Bool) → length rest < b % 16 + 1 →
    (if is_end then None else taken (b / 16) (b % 16 + 1) rest) ≡ None
one-past b rest true h = refl
one-past b rest false h = taken-past (b / 16) (b % 16 + 1) rest h

step-ends : (one : Bool) (end : List ℕ) → EndsElements one end → step one end ≡ None
step-ends true [] h = refl
step-ends true (b ∷ rest) (inl h) =
    if-else (b / 16 == 0) _ _ (eq-pos (b / 16) (omega (arith, h)))
    ∙ if-then (b / 16 == 15) _ _ (ap (λ (k : ℕ). k == 15) h)
step-ends true (b ∷ rest) (inr h) =
    if-else (b / 16 == 0) _ _ (eq-pos (b / 16) h.0) ∙ one-past b rest (b / 16 == 15) (omega (arith, h.1))
step-ends false [] h = refl
step-ends false (id ∷ []) h = if-else (id == 0) _ _ (eq-pos id h)
step-ends false (id ∷ count ∷ rest) h = if-else (id == 0) _ _ (eq-pos id h.0) ∙ taken-past id count rest h.1

said-by : (map : Numbering) (p : Piece) (rest : List ℕ) (v : ExtensionValues) →
    with_element (lookup map (piece_step p rest).id) (piece_step p rest).bytes v ≡ said_by_piece map p v
said-by map (Padding byte) rest v = refl
said-by map (Holds e) rest v = refl

rest-of : (p : Piece) (rest : List ℕ) → (piece_step p rest).rest ≡ rest
rest-of (Padding byte) rest = refl
rest-of (Holds e) rest = refl

pieces-read : (one : Bool) (map : Numbering) (pieces : List Piece) (end : List ℕ) (v : ExtensionValues) →
    ArePieces one pieces → EndsElements one end →
    values_from one map (length (flat_map (piece_text one) pieces ++ end)) (flat_map (piece_text one) pieces ++ end) v
    ≡ said_by_pieces map pieces v
pieces-read one map [] end v a e = values_from-end one map end v (step-ends one end e)
pieces-read one map (p ∷ ps) end v a e =
    let rest = flat_map (piece_text one) ps ++ end in
    let split : flat_map (piece_text one) (p ∷ ps) ++ end ≡ piece_text one p ++ rest =
    append_assoc (piece_text one p) (flat_map (piece_text one) ps) end in
    ap (λ (ys : List ℕ). values_from one map (length ys) ys v) split
    ∙ values_from-step one map (piece_text one p ++ rest) v (piece_step p rest) (step-piece one p rest a.0)
    ∙ ap (λ (ys : List ℕ). values_from one map (length ys) ys
    (with_element (lookup map (piece_step p rest).id) (piece_step p rest).bytes v)) (rest-of p rest)
    ∙ ap (values_from one map (length rest) rest) (said-by map p rest v)
    ∙ pieces-read one map ps end (said_by_piece map p v) a.1 e

pub laid_out-read : (one : Bool) (map : Numbering) (bytes : List ℕ) (pieces : List Piece) (end : List ℕ)
    (v : ExtensionValues) → IsLaidOut one bytes pieces end →
    values_from one map (length bytes) bytes v ≡ said_by_pieces map pieces v
laid_out-read one map bytes pieces end v h =
    ap (λ (ys : List ℕ). values_from one map (length ys) ys v) h.spelled
    ∙ pieces-read one map pieces end v h.are_pieces h.ends

-- ---- each block has a layout

AreBytes-drop : (n : ℕ) (bytes : List ℕ) → AreBytes bytes → AreBytes (drop n bytes)
AreBytes-drop zero bytes h = h
AreBytes-drop (suc n) [] h = h
AreBytes-drop (suc n) (b ∷ bytes) h = AreBytes-drop n bytes h.1

abbrev Layout : Bool → List ℕ → Type 0
Layout one bytes = (pieces : List Piece) × (end : List ℕ) × IsLaidOut one bytes pieces end

ended : (one : Bool) (bytes : List ℕ) → EndsElements one bytes → Layout one bytes
ended one bytes h = ([], bytes, record { spelled = refl; are_pieces = tt; ends = h })

behind : (one : Bool) (p : Piece) (rest bytes : List ℕ) → IsPiece one p → bytes ≡ piece_text one p ++ rest →
    Layout one rest → Layout one bytes
behind one p rest bytes is same (pieces, end, h) = (
  p ∷ pieces,
  end,
  record {
    spelled = same ∙ ap (λ (ys : List ℕ). piece_text one p ++ ys) h.spelled
        ∙ sym (append_assoc (piece_text one p) (flat_map (piece_text one) pieces) end);
    are_pieces = (is, h.are_pieces);
    ends = h.ends;
  },
)

-- an element with its bytes in front of what is after it
front : (k : ℕ) (rest : List ℕ) → k ≤ length rest → length (take k rest) ≡ k
front k rest h = omega (arith, length-take k rest)

-- in the one-byte form, by whether the number is 0 or 15, and whether the element passes the end
one-by : (b : ℕ) (rest : List ℕ) (is_zero is_last is_past : Bool) → b < 256 → (b / 16 == 0) ≡ is_zero →
    (b / 16 == 15) ≡ is_last → nat_lt (length rest) (b % 16 + 1) ≡ is_past →
    Layout true rest → Layout true (drop (b % 16 + 1) rest) → Layout true (b ∷ rest)
one-by b rest true is_last is_past low zero' last past next beyond =
    behind true (Padding b) rest (b ∷ rest) (grind (arith, nat_tests)) refl next
one-by b rest false true is_past low zero' last past next beyond =
    ended true (b ∷ rest) (inl (grind (arith, nat_tests)))
one-by b rest false false true low zero' last past next beyond =
    let is : 1 ≤ b / 16 = grind (arith, nat_tests) in
    let passes : length rest ≤ b % 16 = grind (arith, nat_tests) in
    ended true (b ∷ rest) (inr (is, passes))
one-by b rest false false false low zero' last past next beyond =
    let k = b % 16 + 1 in
    let e : Element = record { id = b / 16; bytes = take k rest } in
    let enough : k ≤ length rest = lt-of-no (length rest) k past in
    let count : length (take k rest) ≡ k = front k rest enough in
    let first : b ≡ 16 * (b / 16) + (length (take k rest) - 1) = omega (arith, count) in
    let some : 1 ≤ b / 16 = grind (arith, nat_tests) in
    let most : b / 16 ≤ 14 = grind (arith, nat_tests) in
    let short : b % 16 < 16 = omega arith in
    behind true (Holds e) (drop k rest) (b ∷ rest)
    (some, most, omega (arith, count), omega (arith, count, short))
    (λ i. first i ∷ sym (take-append-drop k rest) i) beyond

-- in the two-byte form
two-by : (id count : ℕ) (rest : List ℕ) (is_past : Bool) → 1 ≤ id → nat_lt (length rest) count ≡ is_past →
    Layout false (drop count rest) → Layout false (id ∷ count ∷ rest)
two-by id count rest true some past beyond =
    ended false (id ∷ count ∷ rest) (some, grind (arith, nat_tests))
two-by id count rest false some past beyond =
    let e : Element = record { id = id; bytes = take count rest } in
    let long : length (take count rest) ≡ count = front count rest (lt-of-no (length rest) count past) in
    behind false (Holds e) (drop count rest) (id ∷ count ∷ rest) some
    (λ i. id ∷ sym long i ∷ sym (take-append-drop count rest) i) beyond

layout-one : (n : ℕ) (bytes : List ℕ) → length bytes ≤ n → AreBytes bytes → Layout true bytes
layout-one n [] short are = ended true [] tt
layout-one zero (b ∷ rest) short are = absurd (omega arith)
layout-one (suc n) (b ∷ rest) short are =
    one-by b rest (b / 16 == 0) (b / 16 == 15) (nat_lt (length rest) (b % 16 + 1)) are.0 refl refl refl
    (layout-one n rest (omega arith) are.1)
    (layout-one n (drop (b % 16 + 1) rest) (omega (arith, length-drop (b % 16 + 1) rest))
    (AreBytes-drop (b % 16 + 1) rest are.1))

layout-two : (n : ℕ) (bytes : List ℕ) → length bytes ≤ n → Layout false bytes
layout-two n [] short = ended false [] tt
layout-two zero (b ∷ rest) short = absurd (omega arith)
layout-two (suc n) (zero ∷ rest) short =
    behind false (Padding 0) rest (0 ∷ rest) refl refl (layout-two n rest (omega arith))
layout-two (suc n) (suc id ∷ []) short = ended false (suc id ∷ []) (omega arith)
layout-two (suc n) (suc id ∷ count ∷ rest) short =
    two-by (suc id) count rest (nat_lt (length rest) count) (omega arith) refl
    (layout-two n (drop count rest) (omega (arith, length-drop count rest)))

pub layout-of : (one : Bool) (bytes : List ℕ) → AreBytes bytes →
    (pieces : List Piece) × (end : List ℕ) × IsLaidOut one bytes pieces end
layout-of true bytes are = layout-one (length bytes) bytes (omega arith) are
layout-of false bytes are = layout-two (length bytes) bytes (omega arith)

-- ---- values of a length that their extension hasn't

either-no : (x y : Bool) → (x || y) ≡ false → (x ≡ false) × (y ≡ false)
either-no true y h = absurd (true≢false h)
either-no false y h = (refl, h)

pub of_other_length : (ext : Extension) (bytes : List ℕ) (v : ExtensionValues) →
    may_have_length ext (length bytes) ≡ false → with_value ext bytes v ≡ v
of_other_length AbsoluteSendTime bytes v h = if-else (length bytes == 3) _ _ h
of_other_length AbsoluteCaptureTime bytes v h =
    let both = either-no (length bytes == 8) (length bytes == 16) h in
    if-else (length bytes == 8) _ _ both.0 ∙ if-else (length bytes == 16) _ _ both.1
of_other_length AudioLevel bytes v h = if-else (length bytes == 1) _ _ h
of_other_length VideoOrientation bytes v h = if-else (length bytes == 1) _ _ h
of_other_length TransportSequenceNumber bytes v h = if-else (length bytes == 2) _ _ h
of_other_length PlayoutDelay bytes v h = if-else (length bytes == 3) _ _ h
of_other_length VideoContentType bytes v h = if-else (length bytes == 1) _ _ h
of_other_length RtpStreamId bytes v h = absurd (true≢false h)
of_other_length RepairedRtpStreamId bytes v h = absurd (true≢false h)
of_other_length RtpMid bytes v h = absurd (true≢false h)
of_other_length (UnknownUri uri) bytes v h = refl

pub low_bits_of_orientation : (byte : ℕ) (v : ExtensionValues) →
    with_value VideoOrientation (byte ∷ []) v ≡ with_value VideoOrientation (byte % 4 ∷ []) v
low_bits_of_orientation byte v =
    let same : byte % 4 ≡ byte % 4 % 4 = omega arith in
    λ i. record v { video_orientation = Some (same i) }

-- ---- profiles

pub two_byte_profiles : (profile : ℕ) → 4096 ≤ profile → profile < 4112 → form_of_profile profile ≡ Some false
two_byte_profiles profile least most = grind (arith, nat_tests)

pub other_profiles : (profile : ℕ) → profile ≢ 48862 → (profile < 4096) ⊎ (4112 ≤ profile) → form_of_profile profile
    ≡ None
other_profiles profile other (inl h) = grind (arith, nat_tests)
other_profiles profile other (inr h) = grind (arith, nat_tests)
