-- The key of repairs is beside a stream's SSRC.
use Rattle.std.proofs.Common.{◌≡◌, ◌≢◌, ℕ, ◌<◌, ◌^◌, Bool, true, false, refl, arith, ◌&&◌}
use Rattle.std.proofs.lemmas.Bool.Decides.{nat_tests}
use Rattle.std.specs.Prelude.{Option, Some, None, IfSome, ◌==◌, nat_le, not, if◌then◌else◌}
use Rattle.rtp_media_streams.specs.declared.types.RepairKey.{RepairKey}
use Rattle.rtp_media_ends.specs.Ends.{key_of}
use Rattle.rtp_media_ends.specs.Repairs.{IsKeyBeside}

pub key-beside : (ssrc : ℕ) (pt repair : Option ℕ) → IfSome (key_of ssrc pt repair) (λ key. key.ssrc < 2 ^ 32)
    → IsKeyBeside ssrc (key_of ssrc pt repair)
key-beside ssrc None repair low = tt
key-beside ssrc (Some pt) None low = tt
key-beside ssrc (Some pt) (Some repair) low = go (nat_le pt 127 && not (repair == ssrc)) refl low where
  small : (nat_le pt 127 && not (repair == ssrc)) ≡ true → pt < 128
  small h = grind (arith, nat_tests)

  other : (nat_le pt 127 && not (repair == ssrc)) ≡ true → repair ≢ ssrc
  other h = grind (arith, nat_tests)

  go : (b : Bool) → (nat_le pt 127 && not (repair == ssrc)) ≡ b
      → IfSome (if b then Some (record { ssrc = repair; pt = pt }) else None) (λ (key : RepairKey). key.ssrc < 2 ^ 32)
      → IsKeyBeside ssrc (if b then Some (record { ssrc = repair; pt = pt }) else None)
  go false e l = tt
  go true e l = (other e, small e, l)
