-- A name that is copied over zeros.
use Rattle.std.proofs.Common.{◌≡◌, ◌≤◌, ℕ, List, ◌++◌, length, drop, replicate, ap}
use Rattle.std.proofs.lemmas.List.{drop-replicate}
use Rattle.rtp_wire.specs.Name.{IsName, filled}
use Rattle.rtp_wire.proofs.NameLaws.{length-IsName}

pub padded : (most : ℕ) (name : List ℕ) → name ++ drop (length name) (replicate most 0) ≡ filled most name
padded most name = ap (λ (rest : List ℕ). name ++ rest) (drop-replicate (length name) most 0)

pub short : (most : ℕ) (name : List ℕ) → IsName most name → length name ≤ most
short most name named = length-IsName most name named
