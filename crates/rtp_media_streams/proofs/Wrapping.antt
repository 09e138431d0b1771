-- Payloads after older ones.
use Rattle.std.proofs.Common.{◌≡◌, ◌≢◌, ℕ, zero, suc, ◌+◌, ◌-◌, ◌%◌, ◌<◌, ◌≤◌, refl, sym, ◌∙◌, ap, subst, arith, Bool}
use Rattle.std.proofs.Common.{true, false, List, [], ◌∷◌, ◌++◌, length, map, reverse, take}
use Rattle.std.proofs.lemmas.Bool.Decides.{nat_tests}
use Rattle.std.proofs.lemmas.List.{length-map, length-reverse}
use Rattle.std.proofs.lemmas.List.Elements.{All-map, All-take}
use Rattle.std.proofs.lemmas.List.Sums.{sum_by-cons}
use Rattle.std.specs.Prelude.{All, Some, None, if◌then◌else◌, ◌==◌, nat_le, option_and_then}
use Rattle.payload_core_audio.specs.Red.{Block, HasRoom, IsRed, spelled}
use Rattle.payload_core_audio.specs.RedHistory.{AreDistances, Redundancy}
use Rattle.payload_core_audio.specs.RedReading.{items_of, primary_item, read_red, redundant_item}
use Rattle.payload_core_audio.specs.RedSending.{masked}
use Rattle.payload_core_audio.specs.RedWrapping.{IsLongestPrefix, IsWrap, bytes_of, levels}
use Rattle.payload_core_audio.proofs.LayoutLemmas.{red-read}
use Rattle.payload_core_audio.proofs.RedLawLemmas.{bytes-masked, bytes-reverse, longest-one, spelled-length}
use Rattle.payload_core_audio.proofs.WrapLemmas.{All-reverse, levels-few, levels-room}
use Rattle.payload_core_base.specs.Outgoing.{Outgoing}
use Rattle.rtp_media_streams.specs.Redundant.{behind_older, fitting, primary_of, unwrapped, wrapped}
use Rattle.rtp_media_streams.specs.declared.types.PayloadTypes.{PayloadTypes}

abbrev size_of : Block → ℕ
size_of b = 4 + length b.payload

-- what fits is a prefix, as long as there is room for
record IsFit (room : ℕ) (bs fit : List Block) : Type 0 where
  prefix : take (length fit) bs ≡ fit
  existing : length fit ≤ length bs
  within : bytes_of fit ≤ room
  longest : (m : ℕ) → length fit < m → m ≤ length bs → room < bytes_of (take m bs)

le-yes : (a b : ℕ) → nat_le a b ≡ true → a ≤ b
le-yes a b h = grind (arith, nat_tests)

le-no : (a b : ℕ) → nat_le a b ≡ false → b < a
le-no a b h = grind (arith, nat_tests)

fit : (room : ℕ) (bs : List Block) → IsFit room bs (fitting room bs)
fit room [] = record {
  prefix = refl;
  existing = omega arith;
  within = omega arith;
  longest =
      λ m more le. absurd (omega arith);
}
fit room (b ∷ bs) = go (nat_le (size_of b) room) refl (fit (room - size_of b) bs) where
  go : (t : Bool) → nat_le (size_of b) room ≡ t → IsFit (room - size_of b) bs (fitting (room - size_of b) bs)
      → IsFit room (b ∷ bs) (if t then b ∷ fitting (room - size_of b) bs else [])
  go true test ih = record {
    prefix = ap (λ xs. b ∷ xs) ih.prefix;
    existing = omega (arith, ih.existing);
    within = omega (
      arith,
      le-yes (size_of b) room test,
      ih.within,
      sum_by-cons size_of b (fitting (room - size_of b) bs),
    );
    longest = λ m more le. further m more le;
  } where
    further : (m : ℕ) → suc (length (fitting (room - size_of b) bs)) < m → m ≤ suc (length bs)
        → room < bytes_of (take m (b ∷ bs))
    further zero more le = absurd (omega arith)
    further (suc m) more le = omega (arith, ih.longest m (omega arith) (omega arith), sum_by-cons size_of b (take m bs))
  go false test ih = record {
    prefix = refl;
    existing = omega arith;
    within = omega arith;
    longest = λ m more le. further m more le;
  } where
    further : (m : ℕ) → 0 < m → m ≤ suc (length bs) → room < bytes_of (take m (b ∷ bs))
    further zero more le = absurd (omega arith)
    further (suc m) more le = omega (arith, le-no (size_of b) room test, sum_by-cons size_of b (take m bs))

fit-longest : (budget size : ℕ) (bs : List Block) → size + 1 ≤ budget
    → IsLongestPrefix budget size bs (length (fitting (budget - (size + 1)) bs))
fit-longest budget size bs le =
    let f = fit (budget - (size + 1)) bs in
    record {
      existing = f.existing;
      within = omega (arith, f.within, ap bytes_of f.prefix);
      longest = λ m more le'. omega (arith, f.longest m more le');
    }

-- the older payloads beside a payload
abbrev pub older : ℕ → Redundancy → Outgoing → List Block
older budget r p = fitting (budget - (length p.payload + 1)) (levels r.history r.distances p.time)

-- what is wrapped follows older payloads
behind-is : (pt budget : ℕ) (r : Redundancy) (p : Outgoing) (sent : List ℕ) → length p.payload + 1 ≤ budget
    → IsWrap r pt p.payload p.time budget sent → sent ≡ behind_older pt budget r p
behind-is pt budget r p sent le is =
    let w = is.wrapped le in
    let ls : List Block = levels r.history r.distances p.time in
    let f = fit (budget - (length p.payload + 1)) ls in
    let count : w.count ≡ length (older budget r p) =
    longest-one budget (length p.payload) ls w.count _ w.longest (fit-longest budget (length p.payload) ls le) in
    let same : take w.count ls ≡ older budget r p = ap (λ (n : ℕ). take n ls) count ∙ f.prefix in
    w.is_red.is_spelled ∙ ap (λ (bs : List Block). spelled (map masked (reverse bs)) (pt % 128) p.payload) same

-- and one that is too long for that goes out alone
pub wrap-is : (pt budget : ℕ) (r : Redundancy) (p : Outgoing) (sent : List ℕ)
    → IsWrap r pt p.payload p.time budget sent → sent ≡ wrapped pt budget r p
wrap-is pt budget r p sent is = go (nat_le (length p.payload + 1) budget) refl where
  go : (b : Bool) → nat_le (length p.payload + 1) budget ≡ b → sent
      ≡ (if b then behind_older pt budget r p else p.payload)
  go true e = behind-is pt budget r p sent (le-yes (length p.payload + 1) budget e) is
  go false e = is.unwrapped (le-no (length p.payload + 1) budget e)

-- if there is room for one byte more it is after older ones
wrapped-behind : (pt budget : ℕ) (r : Redundancy) (p : Outgoing) → length p.payload + 1 ≤ budget
    → wrapped pt budget r p ≡ behind_older pt budget r p
wrapped-behind pt budget r p le = go (nat_le (length p.payload + 1) budget) refl where
  go : (b : Bool) → nat_le (length p.payload + 1) budget ≡ b → (if b then behind_older pt budget r p else p.payload)
      ≡ behind_older pt budget r p
  go true e = refl
  go false e = absurd (omega (arith, le-no (length p.payload + 1) budget e, le))

-- and is laid out as a payload with redundancy
pub behind-red : (pt budget : ℕ) (r : Redundancy) (p : Outgoing) → AreDistances r.distances
    → IsRed (behind_older pt budget r p) (map masked (reverse (older budget r p))) (pt % 128) p.payload
behind-red pt budget r p are =
    let ls : List Block = levels r.history r.distances p.time in
    let os : List Block = older budget r p in
    let f = fit (budget - (length p.payload + 1)) ls in
    let R : Block → Type 0 = λ b. HasRoom (masked b) in
    let room : All R os = subst (All R) f.prefix
    (All-take R (length os) ls (levels-room r.history r.distances p.time)) in
    record {
      is_spelled = refl;
      few = omega (
        arith,
        length-map (reverse os) masked,
        length-reverse os,
        f.existing,
        levels-few r.history r.distances p.time are,
      );
      room = All-map HasRoom masked (reverse os) (All-reverse R os room);
      primary_pt = omega arith;
    }

behind-wrap : (pt budget : ℕ) (r : Redundancy) (p : Outgoing) → AreDistances r.distances
    → length p.payload + 1 ≤ budget → IsWrap r pt p.payload p.time budget (behind_older pt budget r p)
behind-wrap pt budget r p are le =
    let ls : List Block = levels r.history r.distances p.time in
    let f = fit (budget - (length p.payload + 1)) ls in
    record {
      wrapped = λ le'. record {
        count = length (older budget r p);
        longest = fit-longest budget (length p.payload) ls le;
        is_red = subst (λ (bs : List Block). IsRed (behind_older pt budget r p) (map masked (reverse bs)) (pt % 128)
            p.payload) (sym f.prefix) (behind-red pt budget r p are);
      };
      unwrapped = λ lt. absurd (omega (arith, lt, le));
    }

-- the primary payload is found after the others
find-primary : (pt : ℕ) (bs : List Block) (own : ℕ) (primary : List ℕ) → own ≡ pt
    → primary_of pt (map redundant_item bs ++ primary_item own primary ∷ []) ≡ Some primary
find-primary pt [] own primary same = found (own == pt) (eqb own pt same) where
  eqb : (a b : ℕ) → a ≡ b → (a == b) ≡ true
  eqb a b h = grind (arith, nat_tests)

  found : (t : Bool) → t ≡ true → (if t then Some primary else None) ≡ Some primary
  found true h = refl
  found false h = cc
find-primary pt (b ∷ bs) own primary same = find-primary pt bs own primary same

behind-brings : (types : PayloadTypes) (wire budget : ℕ) (r : Redundancy) (p : Outgoing) → types.pt < 128
    → wire ≢ types.pt → AreDistances r.distances →
    unwrapped types wire (behind_older types.pt budget r p) ≡ Some p.payload
behind-brings types wire budget r p small other are =
    let bs : List Block = map masked (reverse (older budget r p)) in
    let read : read_red (behind_older types.pt budget r p) ≡ Some (items_of bs (types.pt % 128) p.payload) =
    red-read _ bs (types.pt % 128) p.payload (behind-red types.pt budget r p are) in
    let low : types.pt % 128 ≡ types.pt = omega (arith, small) in
    differ (types.pt == wire) (neqb types.pt wire (λ e. other (sym e)))
    ∙ ap (option_and_then (primary_of types.pt)) read
    ∙ find-primary types.pt bs (types.pt % 128) p.payload low where
      neqb : (a b : ℕ) → a ≢ b → (a == b) ≡ false
      neqb a b h = grind (arith, nat_tests)

      differ : (t : Bool) → t ≡ false → (if t then Some (behind_older types.pt budget r p)
          else option_and_then (primary_of types.pt) (read_red (behind_older types.pt budget r p)))
          ≡ option_and_then (primary_of types.pt) (read_red (behind_older types.pt budget r p))
      differ true h = cc
      differ false h = refl

-- it stays within the budget
behind-within : (pt budget : ℕ) (r : Redundancy) (p : Outgoing) → length p.payload + 1 ≤ budget
    → length (behind_older pt budget r p) ≤ budget
behind-within pt budget r p le =
    let os : List Block = older budget r p in
    let f = fit (budget - (length p.payload + 1)) (levels r.history r.distances p.time) in
    omega (
      arith,
      spelled-length (map masked (reverse os)) (pt % 128) p.payload,
      bytes-masked (reverse os),
      bytes-reverse os,
      f.within,
    )

-- what is sent for a payload is its wrap
pub wrapped-wrap : (pt budget : ℕ) (r : Redundancy) (p : Outgoing) → AreDistances r.distances
    → IsWrap r pt p.payload p.time budget (wrapped pt budget r p)
wrapped-wrap pt budget r p are = go (nat_le (length p.payload + 1) budget) refl where
  go : (b : Bool) → nat_le (length p.payload + 1) budget ≡ b
      → IsWrap r pt p.payload p.time budget (if b then behind_older pt budget r p else p.payload)
  go true e = behind-wrap pt budget r p are (le-yes (length p.payload + 1) budget e)
  go false e = record {
    wrapped = λ le. absurd (omega (arith, le-no (length p.payload + 1) budget e, le));
    unwrapped = λ lt. refl;
  }

pub wrapped-brings : (types : PayloadTypes) (wire budget : ℕ) (r : Redundancy) (p : Outgoing) → types.pt < 128
    → wire ≢ types.pt → AreDistances r.distances → length p.payload + 1 ≤ budget →
    unwrapped types wire (wrapped types.pt budget r p) ≡ Some p.payload
wrapped-brings types wire budget r p small other are le =
    ap (unwrapped types wire) (wrapped-behind types.pt budget r p le)
    ∙ behind-brings types wire budget r p small other are

pub wrapped-within : (pt budget : ℕ) (r : Redundancy) (p : Outgoing) → length p.payload + 1 ≤ budget
    → length (wrapped pt budget r p) ≤ budget
wrapped-within pt budget r p le = omega (
  arith,
  ap length (wrapped-behind pt budget r p le),
  behind-within pt budget r p le,
)

-- one that has no byte more than the budget but one stays within it in either case
pub wrapped-short : (pt budget : ℕ) (r : Redundancy) (p : Outgoing) → length p.payload ≤ budget - 1
    → length (wrapped pt budget r p) ≤ budget
wrapped-short pt budget r p le = go (nat_le (length p.payload + 1) budget) refl where
  go : (b : Bool) → nat_le (length p.payload + 1) budget ≡ b
      → length (if b then behind_older pt budget r p else p.payload) ≤ budget
  go true e = behind-within pt budget r p (le-yes (length p.payload + 1) budget e)
  go false e = omega (arith, le)
