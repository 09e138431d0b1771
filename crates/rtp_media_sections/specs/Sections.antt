-- Sections as an end wants them, and what the sections of a text say.
use Rattle.std.specs.Prelude.{ℕ, Bool, true, not, ◌&&◌, ◌==◌, length, zip, List, [], ◌∷◌, ◌++◌}
use Rattle.std.specs.List.{list_all, list_any}
use Rattle.std.specs.Str.{bytes_eq}
use Rattle.media_types.specs.Codecs.{is_audio_kind, is_video_kind}
use Rattle.media_types.specs.declared.codec.MediaKind.{MediaKind}
use Rattle.media_types.specs.declared.codec.MediaKind.TheVariants.{Audio, Video}
use Rattle.rtp_wire.specs.declared.direction.Direction.{Direction}
use Rattle.rtp_wire.specs.declared.extension.Extension.{Extension}
use Rattle.sdp_formats_rows.specs.Rows.{Row}
use Rattle.rtp_media_sections.specs.Repairs.{are_sound_pairs}
use Rattle.rtp_media_sections.specs.declared.sections.Source.{Source}

-- A section as an end wants it: its mid, its kind, its direction, the SSRCs the end sends under, and (SSRC, RTX SSRC)
-- pairs.
pub record Wanted : Type 0 where
  pub mid : List ℕ
  pub kind : MediaKind
  pub dir : Direction
  pub ssrcs : List ℕ
  pub repairs : List (ℕ × ℕ)

-- Whether its repairs fit its SSRCs.
abbrev pub is_sound : Wanted → Bool
is_sound w = are_sound_pairs w.ssrcs w.repairs

abbrev pub are_sound : List Wanted → Bool
are_sound sections = list_all is_sound sections

-- What a section of a text says: its mid and kind; whether it is audio or video over RTP and not rejected by port 0;
-- its direction; its rows with their RTX and RED types; its header extension lines, in order; and its sources, each
-- once, with the SSRC it repairs, if any.
pub record Section : Type 0 where
  pub mid : List ℕ
  pub kind : MediaKind
  pub is_media : Bool
  pub dir : Direction
  pub rows : List Row
  pub extmaps : List (ℕ × Extension)
  pub sources : List Source

abbrev pub same_kind : MediaKind → MediaKind → Bool
same_kind Audio b = is_audio_kind b
same_kind Video b = is_video_kind b

-- Whether a wanted section has this name and kind.
abbrev pub has_shape : List ℕ → MediaKind → Wanted → Bool
has_shape mid kind w = bytes_eq mid w.mid && same_kind kind w.kind

abbrev pub is_wanted : Section × Wanted → Bool
is_wanted p = has_shape p.0.mid p.0.kind p.1

-- Whether the sections of a text have the names and kinds of the wanted ones, in the same order.
abbrev pub corresponds : List Section → List Wanted → Bool
corresponds sections wanted = length sections == length wanted && list_all is_wanted (zip sections wanted)

abbrev pub has_mid : List ℕ → Wanted → Bool
has_mid mid w = bytes_eq w.mid mid

-- Whether no mid occurs twice, or is among the earlier ones.
abbrev pub are_distinct : List Wanted → List Wanted → Bool
are_distinct before [] = true
are_distinct before (w ∷ rest) = not (list_any (has_mid w.mid) before) && are_distinct (before ++ w ∷ []) rest
