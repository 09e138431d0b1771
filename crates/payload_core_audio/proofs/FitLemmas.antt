-- Blocks that fit.
use Rattle.std.proofs.Common.{◌≡◌, ◌<◌, ◌≤◌, Bool, true, false, cond, List, [], ◌∷◌, ◌++◌, map, length, take, refl}
use Rattle.std.proofs.Common.{sym, ap, subst, ◌∙◌, arith}
use Rattle.std.specs.Prelude.{All, filter}
use Rattle.std.proofs.lemmas.Bool.Decides.{nat_tests}
use Rattle.std.proofs.lemmas.List.{append-nil, get_or-map, length-map, length-take, take-append-le, take_all}
use Rattle.std.proofs.lemmas.List.Elements.{All-cons, All-map, All-nil, All-take, filter-append}
use Rattle.payload_core_audio.specs.Red.{Block, HasRoom}
use Rattle.payload_core_audio.specs.RedSending.{fits, masked, sent_blocks}

pub All-unmap : {X Y : Type 0} (P : Y → Type 0) (f : X → Y) (xs : List X) → All P (map f xs) → All (λ x. P (f x)) xs
All-unmap P f xs all = λ k d lt. subst P (get_or-map f xs k d (f d) lt) (all k (f d) (omega (arith, length-map xs f)))

room-fits : (b : Block) → fits b ≡ true → HasRoom (masked b)
room-fits b is = record {
  pt = omega arith;
  timestamp_offset = grind (arith, nat_tests);
  payload =
      grind (arith, nat_tests);
}

pub filter-room : (bs : List Block) → All (λ b. HasRoom (masked b)) (filter fits bs)
filter-room [] = All-nil _
filter-room (b ∷ bs) = by_test (fits b) refl (filter-room bs)
  where
    by_test : (t : Bool) → fits b ≡ t → All (λ b. HasRoom (masked b)) (filter fits bs)
        → All (λ b. HasRoom (masked b)) (cond t (b ∷ filter fits bs) (filter fits bs))
    by_test true e rest = All-cons (λ b. HasRoom (masked b)) b (filter fits bs) (room-fits b e) rest
    by_test false e rest = rest

pub kept-room : (bs : List Block) → All (λ b. HasRoom (masked b)) (take 32 (filter fits bs))
kept-room bs = All-take (λ b. HasRoom (masked b)) 32 (filter fits bs) (filter-room bs)

pub sent-room : (bs : List Block) → All HasRoom (sent_blocks bs)
sent-room bs = All-map HasRoom masked (take 32 (filter fits bs)) (kept-room bs)

pub sent-few : (bs : List Block) → length (sent_blocks bs) ≤ 32
sent-few bs = omega (arith, length-map (take 32 (filter fits bs)) masked, length-take 32 (filter fits bs))

-- one more that fits, if there is room for it
pub kept-more : (bs : List Block) (b : Block) → length (take 32 (filter fits bs)) < 32 → fits b ≡ true
    → take 32 (filter fits (bs ++ b ∷ [])) ≡ take 32 (filter fits bs) ++ b ∷ []
kept-more bs b short is =
    let fs : List Block = filter fits bs in
    let len = length-take 32 fs in
    let one : filter fits (b ∷ []) ≡ b ∷ [] = ap (λ t. cond t (b ∷ []) []) is in
    let few : length fs < 32 = omega (arith, len, short) in
    let all : length (fs ++ b ∷ []) ≤ 32 = grind (arith, Rattle.std.proofs.lemmas.Grind.common_steps) in
    ap (take 32) (filter-append fits bs (b ∷ []) ∙ ap (λ r. fs ++ r) one) ∙ take_all 32 (fs ++ b ∷ []) all
    ∙ ap (λ r. r ++ b ∷ []) (sym (take_all 32 fs (omega arith)))

-- one more that doesn't
pub kept-not : (bs : List Block) (b : Block) → fits b ≡ false → take 32 (filter fits (bs ++ b ∷ []))
    ≡ take 32 (filter fits bs)
kept-not bs b is =
    let fs : List Block = filter fits bs in
    let none : List Block = [] in
    ap (take 32) (filter-append fits bs (b ∷ []) ∙ ap (λ t. fs ++ cond t (b ∷ none) none) is ∙ append-nil fs)

-- one more if there is no room
pub kept-full : (bs : List Block) (b : Block) → 32 ≤ length (take 32 (filter fits bs))
    → take 32 (filter fits (bs ++ b ∷ [])) ≡ take 32 (filter fits bs)
kept-full bs b full =
    let fs : List Block = filter fits bs in
    ap (take 32) (filter-append fits bs (b ∷ []))
    ∙ take-append-le 32 fs (filter fits (b ∷ [])) (omega (arith, length-take 32 fs, full))
