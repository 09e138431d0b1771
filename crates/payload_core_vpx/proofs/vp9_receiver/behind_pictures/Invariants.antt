use Rattle.std.proofs.Common.{◌≡◌, ℕ, ◌+◌}
use Rattle.payload_core_vpx.specs.Vp9Descriptor.{behind_pictures}
use Rattle.payload_core_vpx.proofs.vp9_receiver.behind_pictures.Given as goal

-- after as many pictures as are left is what is looked for
abbrev pub invariant-loop : goal.invariant-loop
invariant-loop l = (n : ℕ) → l.counter + n ≡ l.count → behind_pictures n l.rest ≡ behind_pictures l.count l.text
