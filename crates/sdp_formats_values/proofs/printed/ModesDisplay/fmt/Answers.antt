use Rattle.std.proofs.Common.{rules, ◌++◌, refl}
use Rattle.std.proofs.Output.{has_written_append}
use Rattle.sdp_formats_values.specs.PrintedParameters.{mode_text}
use Rattle.sdp_formats_values.proofs.Modes.{mode_written}
use Rattle.sdp_formats_values.proofs.printed.ModesDisplay.fmt.Goals as goal

pub loop-mode-preserved-then-has_mode : goal.loop-mode-preserved-then-has_mode
loop-mode-preserved-then-has_mode g c = λ plain.
    let i = c.loop-mode.invariant plain in (
      i.0 ++ mode_text c.loop-mode.is_first c.in-Some.mode.now,
      has_written_append _ _ _ _ _ _ i.1 (c.in_ok-write.ensures.writes i.1.plain refl),
      mode_written c.args.self.now.0 c.in-Some.mode.now c.loop-mode.left.now c.in-Some.after.now i.0 _
          c.loop-mode.is_first (search rules) (search rules) i.2,
    )
