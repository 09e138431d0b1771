-- How many levels have room.
use Rattle.std.proofs.Common.{◌≡◌, ℕ, ◌+◌, ◌<◌, ◌≤◌, List, get_or, length, take, sym, ap, ◌∙◌, arith}
use Rattle.std.proofs.lemmas.List.{take-take}
use Rattle.std.proofs.lemmas.List.Sums.{sum_by-take-le, sum_by_more}
use Rattle.payload_core_audio.specs.Red.{Block}
use Rattle.payload_core_audio.specs.RedWrapping.{IsLongestPrefix, bytes_of}

abbrev size_of : Block → ℕ
size_of b = 4 + length b.payload

-- one level more
pub bytes-more : (blocks : List Block) (i : ℕ) (b : Block) → i < length blocks → b ≡ get_or blocks i b
    → bytes_of (take (i + 1) blocks) ≡ bytes_of (take i blocks) + (4 + length b.payload)
bytes-more blocks i b lt is = sum_by_more size_of blocks i b lt
    ∙ ap (λ x. bytes_of (take i blocks) + size_of x) (sym is)

-- a longer prefix has no fewer bytes
bytes-longer : (blocks : List Block) (i m : ℕ) → i ≤ m → bytes_of (take i blocks) ≤ bytes_of (take m blocks)
bytes-longer blocks i m le = omega (
  arith,
  sum_by-take-le size_of (take m blocks) i,
  ap bytes_of (take-take i m blocks le),
)

-- the next level has no room
pub stops : (budget size left : ℕ) (blocks : List Block) (i : ℕ) (b : Block) → i < length blocks → b
    ≡ get_or blocks i b → 1 + bytes_of (take i blocks) + size + left ≡ budget → left < 4 + length b.payload
    → IsLongestPrefix budget size blocks i
stops budget size left blocks i b lt is whole short = record {
  existing = omega arith;
  within = omega (arith, whole);
  longest = λ m more le. omega (
    arith,
    whole,
    short,
    bytes-more blocks i b lt is,
    bytes-longer blocks (i + 1) m (omega arith),
  );
}
