-- Parameters of sending streams.
use Rattle.std.specs.Prelude.{ℕ, List}
use Rattle.rtp_media_ends.specs.declared.StreamParams.{StreamParams}
use Rattle.jilqamur.specs.Values.{if_given}
use Rattle.jilqamur.specs.declared.params.WireStream.{WireStream}

-- The parameters of a sending stream.
abbrev pub params_of : WireStream → List ℕ → StreamParams
params_of w distances = record {
  first = w.first;
  mtu = w.mtu;
  limit = w.limit;
  red = if_given w.has_red distances;
  picture_id = if_given w.has_picture_id w.picture_id;
  for_browsers = w.for_browsers;
}
