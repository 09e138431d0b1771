use Rattle.std.proofs.Common.{◌≡◌, drop}
use Rattle.std.specs.Prelude.{find}
use Rattle.sdp_formats_values.specs.MediaTypes.{is_channel}
use Rattle.sdp_formats_data.proofs.session.Sdp.sctp_init.Given as goal

-- the sections so far are of no data channels
abbrev pub invariant-loop-section : goal.invariant-loop-section
invariant-loop-section l =
    find (λ m. is_channel m.typ) (drop l.section-index l.sections) ≡ find (λ m. is_channel m.typ) l.fn.self.media_lines
