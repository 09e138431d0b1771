-- Times of blocks, and lengths of segments.
use Rattle.std.proofs.Common.{◌≡◌, ℕ, zero, suc, ◌+◌, ◌-◌, ◌*◌, ◌/◌, ◌%◌, ◌<◌, ◌≤◌, [], ◌∷◌, ◌++◌, refl, arith}
use Rattle.std.proofs.Common.{replicate, fold, sum, ◌∙◌, if◌then◌else◌}
use Rattle.media_files.specs.Ebml.{element, u16_be}
use Rattle.media_files.specs.Mkv.{Block, simple_block}
use Rattle.media_files.specs.Ogg.{lacing}

rest-of : (n : ℕ) → n % 1000 ≡ n - 1000 * (n / 1000)
rest-of n = omega arith

pub block-own : (b : Block) → simple_block b ≡ element (0xa3 ∷ []) ((128 + b.track % 128)
    ∷ (u16_be (b.time - 1000 * (b.time / 1000)) ++ ((if b.is_key then 128 else 0) ∷ b.bytes)))
unfolding simple_block
block-own b = rw (← (rest-of b.time)) refl

pub block-after : (b : Block) → 1000 * (b.time / 1000) ≤ b.time
block-after b = omega arith

pub block-within : (b : Block) → b.time - 1000 * (b.time / 1000) < 1000
block-within b = omega arith

-- segments of 255, and one more
sum-from : (n last so_far : ℕ) → fold (λ (a : ℕ) (x : ℕ). a + x) so_far (replicate n 255 ++ last ∷ [])
    ≡ so_far + (255 * n + last)
sum-from zero last so_far = omega arith
sum-from (suc n) last so_far =
    let e : so_far + 255 + (255 * n + last) ≡ so_far + (255 * suc n + last) = omega arith in
    sum-from n last (so_far + 255) ∙ e

segments : (n last : ℕ) → sum (replicate n 255 ++ last ∷ []) ≡ 255 * n + last
segments n last = sum-from n last 0 ∙ omega arith

pub lacing-total : (len : ℕ) → sum (lacing len) ≡ len
lacing-total len =
    let h : sum (lacing len) ≡ 255 * (len / 255) + len % 255 = segments (len / 255) (len % 255) in omega arith
