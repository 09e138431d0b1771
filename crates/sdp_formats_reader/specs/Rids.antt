-- Restrictions of RTP streams (`a=rid`, RFC 8851 4).
use Rattle.std.specs.Prelude.{ℕ, true, List, [], ◌∷◌, Option, Some, None, is_some, codes, if◌then◌else◌}
use Rattle.std.specs.Option.{option_map}
use Rattle.std.specs.Str.{bytes_eq}
use Rattle.sdp_formats_grammar.specs.Bind.{◌>>=◌}
use Rattle.sdp_formats_grammar.specs.Form.{Form, told, some_text, made, cut, cut_maybe}
use Rattle.sdp_formats_grammar.specs.Split.{halves, behind}
use Rattle.sdp_formats_reader.specs.Pairs.{restrictions_of}
use Rattle.sdp_formats_values.specs.declared.Pair.{Pair}
use Rattle.sdp_formats_reader.specs.Maps.{payload_type}
use Rattle.sdp_formats_reader.specs.Names.{name}
use Rattle.sdp_formats_reader.specs.declared.rids.Limits.{Limits}
use Rattle.sdp_formats_values.specs.declared.streams.RidDirection.{RidDirection}
use Rattle.sdp_formats_values.specs.declared.streams.RidDirection.TheVariants.{Send, Recv}
use Rattle.sdp_formats_values.specs.declared.streams.RestrictionId.{RestrictionId}
use Rattle.sdp_formats_data.specs.declared.media.MediaAttribute.{MediaAttribute}
use Rattle.sdp_formats_data.specs.declared.media.MediaAttribute.TheVariants.{Rid}

-- Which way a stream goes.
abbrev pub way : List ℕ → Option RidDirection
way t = if bytes_eq t (codes "send") then Some Send else if bytes_eq t (codes "recv") then Some Recv else None

abbrev pub make_limits : List ℕ → List Pair → Limits
make_limits types pairs = record { pt = types; restriction = pairs }

abbrev pub no_limits : Limits
no_limits = make_limits [] []

-- After a payload type: nothing, or a blank and at least one restriction.
abbrev pub later_limits : Option (List ℕ) → Option (List Pair)
later_limits None = Some []
later_limits (Some t) = some_text t >>= restrictions_of

abbrev pub of_type : ℕ → Option (List ℕ)
of_type pt = Some (pt ∷ [])

-- A payload type up to a blank, and restrictions.
unfoldable pub typed_limits : List ℕ → Option Limits
typed_limits t = do
  pt ← payload_type.reads (halves 32 t).0
  pairs ← later_limits (halves 32 t).1
  types ← of_type pt
  Some (make_limits types pairs)

-- Restrictions without payload types; the first key must not begin with p.
abbrev pub untyped_limits : List ℕ → Option Limits
untyped_limits t = if is_some (behind (codes "p") t) then None else option_map (make_limits []) (restrictions_of t)

abbrev pub limits_behind : List ℕ → Option (List ℕ) → Option Limits
limits_behind t (Some rest) = typed_limits rest
limits_behind t None = untyped_limits t

-- `pt=TYPE` and restrictions, or restrictions alone
abbrev pub limits_of : List ℕ → Option Limits
limits_of t = limits_behind t (behind (codes "pt=") t)

abbrev pub maybe_limits : Option Limits → Limits
maybe_limits None = no_limits
maybe_limits (Some l) = l

abbrev pub make_id : List ℕ → RestrictionId
make_id t = record { 0 = t; 1 = true }

abbrev pub make_rid : RestrictionId → RidDirection → Limits → MediaAttribute
make_rid id d l = Rid id d l.pt l.restriction

-- `NAME DIRECTION[ LIMITS]` (RFC 8851 4)
abbrev pub rid : Form MediaAttribute
rid = made (λ x. make_rid (make_id x.0) x.1.0 (maybe_limits x.1.1))
    (cut 32 name (cut_maybe 32 (told way) (told limits_of)))
