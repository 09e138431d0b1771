-- The lines `o=` and `m=` (RFC 8866 5.2 and 5.14).
use Rattle.std.specs.Prelude.{ℕ, ◌^◌, ◌==◌, Bool, ◌||◌, List, [], ◌∷◌, Option, Some, None, length, is_some, unwrap_or}
use Rattle.std.specs.Prelude.{codes, if◌then◌else◌}
use Rattle.std.specs.Option.{option_map, option_or}
use Rattle.std.specs.Str.{bytes_eq}
use Rattle.sdp_formats_grammar.specs.Form.{Form, told, any_text, some_text, made, cut, each}
use Rattle.sdp_formats_grammar.specs.Numbers.{has_digits_alone, number_below}
use Rattle.sdp_formats_grammar.specs.Split.{behind, parts}
use Rattle.sdp_formats_grammar.specs.Tables.{Table, word_of}
use Rattle.sdp_formats_reader.specs.declared.media.MediaHead.{MediaHead}
use Rattle.sdp_formats_values.specs.declared.media_type.MediaType.{MediaType}
use Rattle.sdp_formats_values.specs.declared.media_type.MediaType.TheVariants.{Audio, Video, Application, Unknown}
use Rattle.sdp_formats_values.specs.declared.media_type.Proto.{Proto}
use Rattle.sdp_formats_values.specs.declared.media_type.Proto.TheVariants.{Srtp, Sctp}

-- Only digits, no plus.
abbrev pub session_number : List ℕ → Option ℕ
session_number t = if has_digits_alone t then number_below (2 ^ 64) t else None

-- `USER NUMBER TEXT` (RFC 8866 5.2)
abbrev pub origin : Form ℕ
origin = made (λ x. x.1.0) (cut 32 any_text (cut 32 (told session_number) any_text))

abbrev pub is_begun : List ℕ → Bool
is_begun t = is_some (behind (codes "audio") t)
    || (is_some (behind (codes "video") t) || is_some (behind (codes "application") t))

abbrev pub unknown_type : List ℕ → Option MediaType
unknown_type t = if is_begun t then None else option_map Unknown (some_text t)

-- The kinds that are known.
abbrev pub media_types : Table MediaType
media_types = (codes "audio", Audio) ∷ (codes "video", Video) ∷ (codes "application", Application) ∷ []

-- A known media type, or a word that doesn't begin with one.
abbrev pub media_type : List ℕ → Option MediaType
media_type t = option_or (word_of media_types t) (unknown_type t)

-- RTP with feedback over DTLS (RFC 5764 8), or SCTP over DTLS, also by its older name (RFC 8841 4)
abbrev pub protos : Table Proto
protos = (codes "UDP/TLS/RTP/SAVPF", Srtp) ∷ (codes "DTLS/SCTP", Sctp) ∷ (codes "UDP/DTLS/SCTP", Sctp) ∷ []

abbrev pub proto : List ℕ → Option Proto
proto t = word_of protos t

abbrev pub pt_number : List ℕ → Option ℕ
pt_number t = number_below (2 ^ 8) t

-- Payload types separated by blanks; none if one isn't a number; no leading blank.
abbrev pub formats : List ℕ → Option (List ℕ)
formats t =
    if length t == 0 then Some []
    else if is_some (behind (codes " ") t) then None
    else Some (unwrap_or (each pt_number (parts 32 t)) [])

abbrev pub make_head : MediaType × List ℕ × Proto × List ℕ → MediaHead
make_head x = record { typ = x.0; disabled = bytes_eq x.1 (codes "0"); proto = x.2; pts = x.3 }

-- `KIND PORT PROTOCOL TYPE ..` (RFC 8866 5.14)
abbrev pub media_line : Form MediaHead
media_line = made (λ x. make_head (x.0, x.1.0, x.1.1.0, x.1.1.1))
    (cut 32 (told media_type) (cut 32 any_text (cut 32 (told proto) (told formats))))
