-- Options that are the same.
use Rattle.std.proofs.Common.{◌≡◌, Some, None}

pub some_same : {A : Type 0} {x y : A} → Some x ≡ Some y → x ≡ y
some_same e = cc

pub none_some : {A : Type 0} {x : A} → None ≡ Some x → ⊥
none_some e = cc
