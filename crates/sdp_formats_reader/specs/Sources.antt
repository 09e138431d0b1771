-- Header extensions, stream names, and sources.
use Rattle.std.specs.Prelude.{ℕ, ◌^◌, List, Option}
use Rattle.rtp_wire.specs.Kinds.{extension_of}
use Rattle.sdp_formats_grammar.specs.Form.{Form, told, any_text, number, made, cut, cut_maybe, separated}
use Rattle.sdp_formats_grammar.specs.Numbers.{number_below}
use Rattle.sdp_formats_values.specs.declared.streams.Msid.{Msid as Names}
use Rattle.sdp_formats_data.specs.declared.media.MediaAttribute.{MediaAttribute}
use Rattle.sdp_formats_data.specs.declared.media.MediaAttribute.TheVariants.{ExtMap, SsrcGroup, Ssrc}

-- `NUMBER[/DIRECTION] URI[ TEXT]` (RFC 8285 8)
abbrev pub extmap : Form MediaAttribute
extmap = made (λ x. ExtMap x.0.0 (extension_of x.1.0))
    (cut 32 (cut_maybe 47 (number (2 ^ 8)) any_text) (cut_maybe 32 any_text any_text))

-- `STREAM TRACK` (RFC 8830 2)
abbrev pub make_names : List ℕ × List ℕ → Names
make_names x = record { stream_id = x.0; track_id = x.1 }

abbrev pub msid : Form Names
msid = made make_names (cut 32 any_text any_text)

-- `SSRC ATTRIBUTE:TEXT` (RFC 5576 4.1)
abbrev pub ssrc : Form MediaAttribute
ssrc = made (λ x. Ssrc x.0 x.1.0 x.1.1) (cut 32 (number (2 ^ 32)) (cut 58 any_text any_text))

-- The number of a source.
abbrev pub ssrc_number : List ℕ → Option ℕ
ssrc_number t = number_below (2 ^ 32) t

-- `SEMANTICS SSRC ..` (RFC 5576 4.2)
abbrev pub ssrc_group : Form MediaAttribute
ssrc_group = made (λ x. SsrcGroup x.0 x.1) (cut 32 any_text (separated 32 (told ssrc_number)))
