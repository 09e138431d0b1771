-- Values as they are printed.
use Rattle.std.specs.Prelude.{ℕ, Bool, true, false, ◌==◌, List, [], ◌∷◌, ◌++◌, map, length, codes, if◌then◌else◌}
use Rattle.sdp_formats_grammar.specs.Joined.{spelled, joined, octet_text}
use Rattle.sdp_formats_values.specs.declared.fingerprint.Fingerprint.{Fingerprint}
use Rattle.sdp_formats_values.specs.declared.streams.RidDirection.{RidDirection}
use Rattle.sdp_formats_values.specs.declared.streams.RidDirection.TheVariants.{Send, Recv}
use Rattle.sdp_formats_values.specs.declared.streams.RestrictionId.{RestrictionId}
use Rattle.sdp_formats_values.specs.declared.streams.Msid.{Msid}
use Rattle.sdp_formats_values.specs.declared.streams.SimulcastLayer.{SimulcastLayer}
use Rattle.sdp_formats_values.specs.declared.streams.SimulcastGroups.{SimulcastGroups}
use Rattle.sdp_formats_values.specs.declared.streams.Simulcast.{Simulcast}

-- The end of a line (RFC 8866 5).
abbrev pub line_end : List ℕ
line_end = 13 ∷ 10 ∷ []

-- `FUNCTION XX:XX:..` (RFC 8122 5)
abbrev pub fingerprint_text : Fingerprint → List ℕ
fingerprint_text f = spelled (f.hash_func ∷ codes " " ∷ joined (codes ":") (map octet_text f.bytes) ∷ [])

abbrev pub way_text : RidDirection → List ℕ
way_text Send = codes "send"
way_text Recv = codes "recv"

-- A stream's name, after a tilde if the stream is initially paused (RFC 8853 5.1).
abbrev pub name_of : Bool → List ℕ → List ℕ
name_of true name = name
name_of false name = codes "~" ++ name

abbrev pub name_text : RestrictionId → List ℕ
name_text id = name_of id.1 id.0

abbrev pub layer_text : SimulcastLayer → List ℕ
layer_text l = name_text l.restriction_id

abbrev pub layers_text : SimulcastGroups → List ℕ
layers_text g = joined (codes ";") (map layer_text g.0)

abbrev pub is_empty : {A : Type 0} → List A → Bool
is_empty xs = length xs == 0

-- `a=simulcast:send A;B recv C` (RFC 8853 5.1)
abbrev pub ways_text : Bool → Bool → List ℕ → List ℕ → List ℕ
ways_text true true send recv = []
ways_text false true send recv = spelled (codes "a=simulcast:send " ∷ send ∷ line_end ∷ [])
ways_text true false send recv = spelled (codes "a=simulcast:recv " ∷ recv ∷ line_end ∷ [])
ways_text false false send recv = spelled (codes "a=simulcast:send " ∷ send ∷ codes " recv " ∷ recv ∷ line_end ∷ [])

unfoldable pub simulcast_text : Simulcast → List ℕ
simulcast_text s = if s.is_munged then []
    else ways_text (is_empty s.send.0) (is_empty s.recv.0) (layers_text s.send) (layers_text s.recv)

abbrev pub msid_text : Msid → List ℕ
msid_text m = spelled (m.stream_id ∷ codes " " ∷ m.track_id ∷ [])
