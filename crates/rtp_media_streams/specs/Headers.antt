-- Headers without extensions.
use Rattle.std.specs.Prelude.{ℕ, ◌+◌, ◌*◌, Bool, List, ◌∷◌, ◌++◌}
use Rattle.std.specs.Int.{w16, w32, to_be_bytes}
use Rattle.rtp_wire.specs.Layout.{bit}

-- V(2) P X CC(4); M PT(7); number(16); time(32); SSRC(32) (RFC 3550 5.1).
abbrev pub fixed_header : ℕ → ℕ → ℕ → Bool → ℕ → List ℕ
fixed_header ssrc pt number marker time =
    128 ∷ (128 * bit marker + pt) ∷ to_be_bytes w16 number ++ to_be_bytes w32 time ++ to_be_bytes w32 ssrc
