use Rattle.std.proofs.Common.{List, map, subst, sym}
use Rattle.sdp_formats_values.specs.declared.fingerprint.Fingerprint.{Fingerprint}
use Rattle.sdp_formats_data.specs.Preference.{IsFirstOfLowest}
use Rattle.sdp_formats_data.specs.Transport.{section_prints, session_prints}
use Rattle.sdp_formats_data.proofs.Preferred.{first_listed-some}
use Rattle.sdp_formats_data.proofs.session.Sdp.fingerprint.Goals as goal

pub returns-in-Some : goal.returns-in-Some
returns-in-Some c =
    let sdp = c.args.self.now in
    let found = c.in-Some.value.now in
    let first = first_listed-some (session_prints sdp.session) (map section_prints sdp.media_lines) found
    c.in-Some.ensures in
    subst (λ (l : List Fingerprint). IsFirstOfLowest l found) (sym first) c.in-Some.ensures
