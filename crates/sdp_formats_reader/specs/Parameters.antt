-- Format parameters (RFC 8866 6.15): the first form that matches.
use Rattle.std.specs.Prelude.{ℕ, ◌^◌, List, [], ◌∷◌, Option, Some, None, codes, if◌then◌else◌}
use Rattle.sdp_formats_grammar.specs.Form.{Form, told, number, made, after, cut, separated, either}
use Rattle.sdp_formats_grammar.specs.Numbers.{has_digits_alone, number_below}
use Rattle.sdp_formats_reader.specs.PairsSay.{pair_list}
use Rattle.sdp_formats_values.specs.Params.{params_of}
use Rattle.sdp_formats_values.specs.declared.param.FormatParam.{FormatParam}
use Rattle.sdp_formats_values.specs.declared.param.FormatParam.TheVariants.{BarePtList, BareRange, Unknown}
use Rattle.sdp_formats_reader.specs.Maps.{payload_type}
use Rattle.sdp_formats_data.specs.declared.media.MediaAttribute.{MediaAttribute}
use Rattle.sdp_formats_data.specs.declared.media.MediaAttribute.TheVariants.{Fmtp}

-- `KEY=VALUE;..`
abbrev pub key_values : Form (List FormatParam)
key_values = made params_of pair_list

-- `NUMBER/NUMBER..`: the first
abbrev pub slash_list : Form (List FormatParam)
slash_list = made (λ x. BarePtList x.0 ∷ []) (cut 47 (number (2 ^ 8)) (separated 47 (told (number_below (2 ^ 8)))))

-- `0-NUMBER`, digits only
abbrev pub plain_byte : List ℕ → Option ℕ
plain_byte t = if has_digits_alone t then number_below (2 ^ 8) t else None

abbrev pub range : Form (List FormatParam)
range = made (λ n. BareRange n ∷ []) (after (codes "0-") (told plain_byte))

-- Any text, even an empty one.
abbrev pub unknown_values : List FormatParam
unknown_values = Unknown ∷ []

abbrev pub anything : Form (List FormatParam)
anything = told (λ t. Some unknown_values)

abbrev pub parameters : Form (List FormatParam)
parameters = either key_values (either slash_list (either range anything))

-- `TYPE PARAMETERS`
abbrev pub listed_fmtp : Form MediaAttribute
listed_fmtp = made (λ x. Fmtp x.0 x.1) (cut 32 payload_type parameters)

-- `TYPE` alone
abbrev pub bare_fmtp : Form MediaAttribute
bare_fmtp = made (λ pt. Fmtp pt unknown_values) payload_type

abbrev pub fmtp : Form MediaAttribute
fmtp = either listed_fmtp bare_fmtp
