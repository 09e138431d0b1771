-- Simulcasts (RFC 8853 5.1).
use Rattle.std.specs.Prelude.{ℕ, Bool, true, false, List, [], Option, Some, None, codes}
use Rattle.std.specs.Option.{option_map}
use Rattle.sdp_formats_grammar.specs.Bind.{◌>>=◌}
use Rattle.sdp_formats_grammar.specs.Form.{Form, told, made, cut, cut_maybe, each, only, separated}
use Rattle.sdp_formats_grammar.specs.Pieces.{head}
use Rattle.sdp_formats_grammar.specs.Split.{behind, parts}
use Rattle.sdp_formats_reader.specs.Names.{name}
use Rattle.sdp_formats_reader.specs.Rids.{way}
use Rattle.sdp_formats_reader.specs.declared.simulcasts.OneWay.{OneWay}
use Rattle.sdp_formats_values.specs.declared.streams.RestrictionId.{RestrictionId}
use Rattle.sdp_formats_values.specs.declared.streams.RidDirection.{RidDirection}
use Rattle.sdp_formats_values.specs.declared.streams.RidDirection.TheVariants.{Send, Recv}
use Rattle.sdp_formats_values.specs.declared.streams.Simulcast.{Simulcast}
use Rattle.sdp_formats_values.specs.declared.streams.SimulcastGroups.{SimulcastGroups}
use Rattle.sdp_formats_values.specs.declared.streams.SimulcastLayer.{SimulcastLayer}

abbrev pub make_id : Bool → List ℕ → RestrictionId
make_id active t = record { 0 = t; 1 = active }

-- A stream's name, after a tilde if the stream is initially paused.
abbrev pub untilded : List ℕ → Option (List ℕ) → Option RestrictionId
untilded t (Some rest) = option_map (make_id false) (name.reads rest)
untilded t None = option_map (make_id true) (name.reads t)

abbrev pub layer_name : List ℕ → Option RestrictionId
layer_name t = untilded t (behind (codes "~") t)

abbrev pub make_layer : RestrictionId → SimulcastLayer
make_layer id = record { restriction_id = id; attributes = None }

abbrev pub layer : List ℕ → Option SimulcastLayer
layer t = option_map make_layer (layer_name t)

-- The first of some alternatives.
abbrev pub first_layer : List ℕ → Option SimulcastLayer
first_layer t = each layer (parts 44 t) >>= head

abbrev pub groups : Form (List SimulcastLayer)
groups = separated 59 (told first_layer)

-- `DIRECTION LAYERS`
abbrev pub make_way : RidDirection × List SimulcastLayer → OneWay
make_way x = record { direction = x.0; layers = x.1 }

abbrev pub direction_layers : Form OneWay
direction_layers = made make_way (cut 32 (told way) groups)

-- Whether two directions are different.
abbrev pub differ : RidDirection → RidDirection → Bool
differ Send Send = false
differ Send Recv = true
differ Recv Send = true
differ Recv Recv = false

abbrev pub is_other : RidDirection → Option OneWay → Bool
is_other d None = true
is_other d (Some other) = differ other.direction d

abbrev pub other_layers : Option OneWay → List SimulcastLayer
other_layers None = []
other_layers (Some other) = other.layers

abbrev pub grouped : List SimulcastLayer → SimulcastGroups
grouped layers = record { 0 = layers }

abbrev pub sent : RidDirection → List SimulcastLayer → List SimulcastLayer → Simulcast
sent Send one other = record { send = grouped one; recv = grouped other; is_munged = false }
sent Recv one other = record { send = grouped other; recv = grouped one; is_munged = false }

-- `DIRECTION LAYERS[ DIRECTION LAYERS]` (RFC 8853 5.1)
abbrev pub simulcast : Form Simulcast
simulcast = made (λ x. sent x.0 x.1.0 (other_layers x.1.1))
    (only (λ x. is_other x.0 x.1.1) (cut 32 (told way) (cut_maybe 32 groups direction_layers)))
