use Rattle.std.proofs.Common.{rules, ◌≡◌, ℕ, suc, zero, ◌+◌, ◌-◌, ◌<◌, refl, sym, ◌∙◌, ap, arith, true}
use Rattle.std.specs.Prelude.{if◌then◌else◌, Bool}
use Rattle.std.specs.List.{range_with_len}
use Rattle.rtp_wire.specs.Replay.{Window, accepts}
use Rattle.rtp_media_streams.specs.Missing.{first_taken}
use Rattle.rtp_media_streams.proofs.receiver.missing.lowest_taken.Goals as goal

-- a number that wasn't taken is passed over
passed : (w : Window) (a n b : ℕ) → a < b → n ≡ b - a → accepts w a ≡ true
    → first_taken w (range_with_len (a + 1) (b - (a + 1))) ≡ first_taken w (range_with_len a n)
passed w a zero b lt is e = absurd (omega (arith, lt, is))
passed w a (suc n) b lt is e =
    let less : b - (a + 1) ≡ n = omega (arith, lt, is) in
    ap (λ (m : ℕ). first_taken w (range_with_len (a + 1) m)) less
    ∙ sym (ap (λ (t : Bool). if t then first_taken w (range_with_len (a + 1) n) else a) e)

pub loop-number-preserved : goal.loop-number-preserved
loop-number-preserved c =
    passed c.args.window.now c.loop-number.number (c.get-greatest.result - c.loop-number.number) c.get-greatest.result
    (search rules) refl (search rules) ∙ c.loop-number.invariant
