-- Rows: a payload type with its codec and feedback.
use Rattle.std.specs.Prelude.{ℕ, Bool, true, false, Option, None}
use Rattle.media_types.specs.Codecs.{is_video_codec}
use Rattle.sdp_formats_rows.specs.declared.spec.CodecSpec.{CodecSpec}

-- A row: its payload type, RTX type (RFC 4588), codec, feedback, RED type (RFC 2198), and whether an exchange has
-- locked it.
pub record Row : Type 0 where
  pub pt : ℕ
  pub resend : Option ℕ
  pub spec : CodecSpec
  pub transport_cc : Bool
  pub nack : Bool
  pub pli : Bool
  pub fir : Bool
  pub remb : Bool
  pub red : Option ℕ
  pub locked : Bool

-- A new row: transport-wide feedback on, the other feedback on for video only, no RED type, unlocked.
abbrev pub new_row : ℕ → Option ℕ → CodecSpec → Row
new_row pt resend spec = record {
  pt = pt;
  resend = resend;
  spec = spec;
  transport_cc = true;
  nack = is_video_codec spec.codec;
  pli = is_video_codec spec.codec;
  fir = is_video_codec spec.codec;
  remb = is_video_codec spec.codec;
  red = None;
  locked = false;
}
