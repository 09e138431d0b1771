use Rattle.std.proofs.Common.{◌≡◌, sym, subst, true, Bool, ◌↔◌}
use Rattle.rtp_media_ends.specs.Params.{IsSound}
use Rattle.rtp_media_ends.proofs.Rising.{sound_params}
use Rattle.rtp_media_ends.proofs.params.StreamParams.is_sound.Goals as goal

pub returns-clause-sound : goal.returns-clause-sound
returns-clause-sound c =
    subst (λ (b : Bool). (b ≡ true) ↔ IsSound c.args.red c.args.self.now) (sym c.passes.ensures)
    (sound_params c.args.red c.args.self.now)
