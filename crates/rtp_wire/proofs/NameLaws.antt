-- Names kept in arrays.
use Rattle.std.proofs.Common.{◌≡◌, ℕ, zero, suc, ◌+◌, ◌-◌, ◌<◌, ◌≤◌, refl, sym, ◌∙◌, ap, arith, List, [], ◌∷◌, ◌++◌}
use Rattle.std.proofs.Common.{length, take, map, replicate, get_or, length-append, append_assoc}
use Rattle.std.proofs.Common.{set as set_at}
use Rattle.std.specs.Str.{IsUtf8}
use Rattle.std.proofs.lemmas.Bool.Decides.{nat_tests}
use Rattle.std.proofs.lemmas.List.{length-map, length-take, take-map, take-take, take_at}
use Rattle.std.proofs.lemmas.List.{map_more}
use Rattle.std.proofs.lemmas.Str.{IsUtf8-from_ascii}
use Rattle.std.proofs.lemmas.List as lists
use Rattle.rtp_wire.specs.Name.{name_byte, name_of, IsName, filled, IsKept}

name_byte-twice : (b : ℕ) → name_byte (name_byte b) ≡ name_byte b
name_byte-twice b = grind (arith, nat_tests)

name_byte-ascii : (b : ℕ) → name_byte b < 128
name_byte-ascii b = grind (arith, nat_tests)

map-twice : (xs : List ℕ) → map name_byte (map name_byte xs) ≡ map name_byte xs
map-twice [] = refl
map-twice (x ∷ xs) = rw (name_byte-twice x, map-twice xs) refl

pub length-name_of : (n : ℕ) (text : List ℕ) → length (name_of n text) ≤ n
length-name_of n text = omega (arith, length-map (take n text) name_byte, length-take n text)

-- what was made a name is one
pub name_of-name_of : (n : ℕ) (text : List ℕ) → name_of n (name_of n text) ≡ name_of n text
name_of-name_of n text = ap (map name_byte)
    (take-map name_byte n (take n text) ∙ ap (map name_byte) (take-take n n text (omega arith)))
    ∙ map-twice (take n text)

ascii-map : (xs : List ℕ) (i : ℕ) → get_or (map name_byte xs) i 0 < 128
ascii-map [] i = omega arith
ascii-map (x ∷ xs) zero = name_byte-ascii x
ascii-map (x ∷ xs) (suc i) = ascii-map xs i

pub IsUtf8-name : (n : ℕ) (text : List ℕ) → IsName n text → IsUtf8 text
IsUtf8-name n text named = IsUtf8-from_ascii text (λ i. rw (← named) (ascii-map (take n text) i))

pub length-IsName : (n : ℕ) (text : List ℕ) → IsName n text → length text ≤ n
length-IsName n text named = omega (arith, ap length named, length-name_of n text)

-- the front of filled bytes
pub take-filled : (n : ℕ) (text : List ℕ) → take (length text) (filled n text) ≡ text
take-filled n text = take_at text _ (length text) refl

-- one more byte in front of the zeros
pub fill_more : (n i : ℕ) (text : List ℕ) → i < n → i < length text →
    set_at (map name_byte (take i text) ++ replicate (n - i) 0) i (name_byte (get_or text i 0))
    ≡ map name_byte (take (i + 1) text) ++ replicate (n - (i + 1)) 0
fill_more n i text a b =
    let k : n - i ≡ suc (n - (i + 1)) = omega arith in
    let l : length (map name_byte (take i text)) ≡ i =
    omega (arith, length-map (take i text) name_byte, length-take i text) in
    rw (k, map_more name_byte text i 0 b) (lists.set_at (map name_byte (take i text)) 0 (replicate (n - (i + 1)) 0)
    (name_byte (get_or text i 0)) i l
    ∙ sym (append_assoc (map name_byte (take i text)) (name_byte (get_or text i 0) ∷ []) (replicate (n - (i + 1)) 0)))

-- what is written over zeros is kept
pub IsKept-filled : (limit : ℕ) (text : List ℕ) → IsName limit text → IsKept limit (length text) (filled limit text)
IsKept-filled limit text named = record {
  within = omega (arith, length-append text (replicate (limit - length text) 0));
  name = rw (take-filled limit text) named;
  zeros = rw (take-filled limit text) refl;
}

-- the name is the front of what is written over zeros
pub IsKept-name : (limit len : ℕ) (bytes text : List ℕ) → bytes ≡ filled limit (name_of limit text) → len
    ≡ length (name_of limit text) → IsKept limit len bytes
IsKept-name limit len bytes text e l = rw (e, l) (IsKept-filled limit (name_of limit text) (name_of-name_of limit text))
