use Rattle.std.proofs.Common.{◌∙◌, ap, map, Ok}
use Rattle.rtp_media_schedules.specs.Samples.{canonical_units}
use Rattle.rtp_media_streams.specs.Rows.{format_of}
use Rattle.rtp_media_ends.proofs.Exact.{units-are}
use Rattle.rtp_media_forward.specs.Relayed.{relayed}
use Rattle.rtp_media_forward_runs.specs.Hops.{values_by}
use Rattle.rtp_media_forward_runs.specs.Published.{parts_of}
use Rattle.rtp_media_forward_runs.proofs.PublishedUnits.{all-read, all-writable, units-on-are}
use Rattle.rtp_media_forward_runs.proofs.published.published_law.Goals as goal

pub returns-clause-hears : goal.returns-clause-hears
returns-clause-hears c = λ e rx holding s own first ps has sender plain keeps are fits. record {
  receiver = has;
  sender = sender;
  plain = plain;
  read = all-read c.codec_law.ensures.codec_in_forms (format_of s.row) ps are;
  writable = all-writable c.codec_law.ensures.codec_in_forms (format_of s.row) own keeps ps are;
  numbers = fits;
}

pub returns-clause-exact : goal.returns-clause-exact
returns-clause-exact c = λ e rx holding s own first ps before hears foreign tame silent.
    c.forwarded_runs_law.ensures.exact e rx holding s own first (parts_of ps) before hears foreign tame silent
    ∙ units-are (canonical_units first (relayed (values_by s own) (parts_of ps)))
    ∙ ap (map Ok) (units-on-are (values_by s own) ps first)
