use Rattle.std.proofs.Common.{subst, sym, ap, ◌∙◌}
use Rattle.std.specs.List.{filter_map}
use Rattle.sdp_formats_data.specs.Preference.{IsPreferred, best_of}
use Rattle.sdp_formats_data.specs.Sessions.{fingerprint_in}
use Rattle.sdp_formats_data.proofs.Preferred.{best_is_preferred}
use Rattle.sdp_formats_data.proofs.session.Session.fingerprint.Goals as goal

pub returns : goal.returns
returns c =
    let best = c.best_fingerprint.ensures ∙ ap (best_of fingerprint_in) c.as_slice.ensures in
    subst (IsPreferred (filter_map fingerprint_in c.args.self.now.attrs)) (sym best)
    (best_is_preferred fingerprint_in c.args.self.now.attrs)
