use Rattle.std.proofs.Common.{◌≡◌, find}
use Rattle.std.specs.Array.Iter.{array_into_iter_items}
use Rattle.sdp_formats_values.specs.Keys.{is_name_of, key_named}
use Rattle.sdp_formats_values.proofs.key.Key.named.Given as goal

-- the parameters that are left name the same
abbrev pub invariant-loop-key : goal.invariant-loop-key
invariant-loop-key l = find (λ key. is_name_of key l.text) (array_into_iter_items l.key-iterator) ≡ key_named l.text
