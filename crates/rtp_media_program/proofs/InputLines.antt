-- Lines of an input that goes on.
use Rattle.std.proofs.Common.{◌≡◌, ℕ, suc, ◌<◌, ◌==◌, nat_le, Bool, true, false, cond, List, [], ◌∷◌, ◌++◌, length}
use Rattle.std.proofs.Common.{map, None, Some, refl, sym, ◌∙◌, ap, arith, append_assoc, append-nil, length-append}
use Rattle.std.specs.List.{slice_split, flat_map, AllByRecursion}
use Rattle.std.proofs.lemmas.Option.{cond_some}
use Rattle.std.proofs.lemmas.Bool.Decides.{nat_tests}
use Rattle.rtp_media_program.specs.Input.{lines_of, kept, without_empty_last, longer, with_feed, HasNoFeed}
use Rattle.rtp_media_program.proofs.Splits.{slice_split-IsCons, IsCons}

abbrev is_feed : ℕ → Bool
is_feed byte = byte == 10

-- the first piece ends at the first line feed
split-feed : (tail rest : List ℕ) → HasNoFeed tail → slice_split is_feed (tail ++ 10 ∷ rest) ≡ tail
    ∷ slice_split is_feed rest
split-feed [] rest h = refl
split-feed (byte ∷ tail) rest h = let ih = split-feed tail rest h.1 in rw (h.0, ih) refl

split-whole : (tail : List ℕ) → HasNoFeed tail → slice_split is_feed tail ≡ tail ∷ []
split-whole [] h = refl
split-whole (byte ∷ tail) h = let ih = split-whole tail h.1 in rw (h.0, ih) refl

before_more : (piece : List ℕ) (pieces : List (List ℕ)) → IsCons pieces → without_empty_last (piece ∷ pieces) ≡ piece
    ∷ without_empty_last pieces
before_more piece pieces more = rw more.2 refl

-- a line that is ended by a line feed, and the lines after it
pub lines_of-feed : (tail rest : List ℕ) → HasNoFeed tail → lines_of (tail ++ 10 ∷ rest) ≡ kept tail ∷ lines_of rest
unfolding lines_of
lines_of-feed tail rest h =
    ap (λ pieces. map kept (without_empty_last pieces)) (split-feed tail rest h)
    ∙ ap (map kept) (before_more tail (slice_split is_feed rest) (slice_split-IsCons is_feed rest))

-- the end of input ends a line that isn't empty
lines_of-last : (byte : ℕ) (tail : List ℕ) → HasNoFeed (byte ∷ tail) → lines_of (byte ∷ tail) ≡ kept (byte ∷ tail) ∷ []
unfolding lines_of
lines_of-last byte tail h =
    ap (λ pieces. map kept (without_empty_last pieces)) (split-whole (byte ∷ tail) h)
    ∙ (let some : (suc (length tail) == 0) ≡ false = grind (arith, nat_tests) in rw some refl)

pub lines_of-some : (tail : List ℕ) → HasNoFeed tail → (tail ≡ [] → ⊥) → lines_of tail ≡ kept tail ∷ []
lines_of-some [] h some = absurd (some refl)
lines_of-some (byte ∷ tail) h some = lines_of-last byte tail h

pub kept-empty : (line : List ℕ) → kept line ≡ Some [] → line ≡ []
kept-empty line h = (cond_some (nat_le (length line) 1048576) line [] h).1

pub lines_of-nothing : lines_of [] ≡ []
unfolding lines_of
lines_of-nothing = refl

-- lines that are each ended, and then more
ended_lines : (lines : List (List ℕ)) (rest : List ℕ) → AllByRecursion HasNoFeed lines
    → lines_of (flat_map with_feed lines ++ rest) ≡ map kept lines ++ lines_of rest
ended_lines [] rest h = refl
ended_lines (line ∷ lines) rest h =
    ap lines_of (append_assoc (with_feed line) (flat_map with_feed lines) rest
    ∙ append_assoc line (10 ∷ []) (flat_map with_feed lines ++ rest))
    ∙ lines_of-feed line (flat_map with_feed lines ++ rest) h.0
    ∙ ap (λ others. kept line ∷ others) (ended_lines lines rest h.1)

pub lines_of-ended : (lines : List (List ℕ)) → AllByRecursion HasNoFeed lines → lines_of (flat_map with_feed lines)
    ≡ map kept lines
lines_of-ended lines h =
    ap lines_of (sym (append-nil (flat_map with_feed lines))) ∙ ended_lines lines [] h
    ∙ ap (λ last. map kept lines ++ last) lines_of-nothing ∙ append-nil (map kept lines)

pub lines_of-unended : (lines : List (List ℕ)) (byte : ℕ) (last : List ℕ) → AllByRecursion HasNoFeed lines
    → HasNoFeed (byte ∷ last)
    → lines_of (flat_map with_feed lines ++ byte ∷ last) ≡ map kept lines ++ kept (byte ∷ last) ∷ []
lines_of-unended lines byte last h more =
    ended_lines lines (byte ∷ last) h ∙ ap (λ others. map kept lines ++ others) (lines_of-last byte last more)

-- ---- one byte more

pub HasNoFeed-push : (tail : List ℕ) (byte : ℕ) → HasNoFeed tail → (byte == 10) ≡ false → HasNoFeed (tail ++ byte ∷ [])
HasNoFeed-push [] byte h other = (other, tt)
HasNoFeed-push (first ∷ tail) byte h other = (h.0, HasNoFeed-push tail byte h.1 other)

still_long : (few many : ℕ) → false ≡ nat_le few 1048576 → few < many → nat_le many 1048576 ≡ false
still_long few many e more = grind (arith, nat_tests)

-- a line that is too long stays so
longer_kept : (len : ℕ) (fits : Bool) (tail : List ℕ) (byte : ℕ) → fits ≡ nat_le len 1048576 → len ≡ length tail
    → longer (cond fits (Some tail) None) byte ≡ kept (tail ++ byte ∷ [])
longer_kept len true tail byte e same = refl
longer_kept len false tail byte e same =
    let long : nat_le (length (tail ++ byte ∷ [])) 1048576 ≡ false =
    still_long len _ e (omega (arith, length-append tail (byte ∷ []))) in
    rw long refl

pub longer-kept : (tail : List ℕ) (byte : ℕ) → longer (kept tail) byte ≡ kept (tail ++ byte ∷ [])
longer-kept tail byte = longer_kept (length tail) (nat_le (length tail) 1048576) tail byte refl refl

pub other_byte : (byte : ℕ) → (byte ≡ 10 → ⊥) → (byte == 10) ≡ false
other_byte byte other = grind (arith, nat_tests)
