-- Matroska files (RFC 9559).
use Rattle.std.specs.Prelude.{ℕ, ◌+◌, ◌*◌, ◌/◌, ◌%◌, ◌==◌, ◌<◌, ◌≤◌, ◌⊎◌, Bool, List, [], ◌∷◌, ◌++◌, length, codes}
use Rattle.std.specs.Prelude.{if◌then◌else◌}
use Rattle.media_files.specs.Ebml.{u16_be, element, element_front, uint, double}
use Rattle.media_files.specs.declared.mkv_tracks.MkvCodec.{MkvCodec}
use Rattle.media_files.specs.declared.mkv_tracks.MkvCodec.TheVariants.{Vp8, Vp9, Av1, Avc, Hevc, Opus, Acm}
use Rattle.media_files.specs.declared.mkv_tracks.MkvMedia.{MkvMedia}
use Rattle.media_files.specs.declared.mkv_tracks.MkvMedia.TheVariants.{Video, Audio}

-- The names of codecs (draft-ietf-cellar-codec).
abbrev pub codec_id : MkvCodec → List ℕ
codec_id Vp8 = codes "V_VP8"
codec_id Vp9 = codes "V_VP9"
codec_id Av1 = codes "V_AV1"
codec_id Avc = codes "V_MPEG4/ISO/AVC"
codec_id Hevc = codes "V_MPEGH/ISO/HEVC"
codec_id Opus = codes "A_OPUS"
codec_id Acm = codes "A_MS/ACM"

-- A track: its codec, what the codec needs beside the blocks, how many nanoseconds of its front are not heard and how
-- many have to be decoded after a seek, and what it carries.
pub record Track : Type 0 where
  pub codec : MkvCodec
  pub private : List ℕ
  pub delay : ℕ
  pub preroll : ℕ
  pub media : MkvMedia

-- A block: the number of its track, its time in milliseconds, whether it can be decoded alone, and its bytes.
pub record Block : Type 0 where
  pub track : ℕ
  pub time : ℕ
  pub is_key : Bool
  pub bytes : List ℕ

-- The EBML header (RFC 8794 11.2, RFC 9559 10): versions, lengths of IDs and sizes, document type and its versions.
unfoldable pub ebml_versions : List ℕ
ebml_versions = uint (0x42 ∷ (0x86 ∷ [])) 1 ++ (uint (0x42 ∷ (0xf7 ∷ [])) 1 ++ (uint (0x42 ∷ (0xf2 ∷ [])) 4
    ++ uint (0x42 ∷ (0xf3 ∷ [])) 8))

unfoldable pub document_type : List ℕ
document_type = element (0x42 ∷ (0x82 ∷ [])) (codes "matroska") ++ (uint (0x42 ∷ (0x87 ∷ [])) 4
    ++ uint (0x42 ∷ (0x85 ∷ [])) 2)

unfoldable pub ebml_header : List ℕ
ebml_header = element (0x1a ∷ (0x45 ∷ (0xdf ∷ (0xa3 ∷ [])))) (ebml_versions ++ document_type)

-- The information (RFC 9559 5.1.2): a tick is a millisecond, the duration, and what wrote the file.
unfoldable pub clock_of : ℕ → List ℕ
clock_of duration = uint (0x2a ∷ (0xd7 ∷ (0xb1 ∷ []))) 1000000 ++ double (0x44 ∷ (0x89 ∷ [])) duration

unfoldable pub writers : List ℕ
writers = element (0x4d ∷ (0x80 ∷ [])) (codes "media_files") ++ element (0x57 ∷ (0x41 ∷ [])) (codes "media_files")

unfoldable pub info : ℕ → List ℕ
info duration = element (0x15 ∷ (0x49 ∷ (0xa9 ∷ (0x66 ∷ [])))) (clock_of duration ++ writers)

-- What a track carries (RFC 9559 5.1.4.1.28 and 29): 1 for video, with its width and height; 2 for audio, with samples
-- a second and channels.
abbrev pub kind_of : MkvMedia → ℕ
kind_of (Video width height) = 1
kind_of (Audio rate channels) = 2

unfoldable pub media_element : MkvMedia → List ℕ
media_element (Video width height) =
    element (0xe0 ∷ []) (uint (0xb0 ∷ []) width ++ uint (0xba ∷ []) height)
media_element (Audio rate channels) =
    element (0xe1 ∷ []) (double (0xb5 ∷ []) rate ++ uint (0x9f ∷ []) channels)

abbrev pub private_element : List ℕ → List ℕ
private_element bytes = if length bytes == 0 then [] else element (0x63 ∷ (0xa2 ∷ [])) bytes

-- A track (RFC 9559 5.1.4.1): its number, which is its identity too, its kind, no lacing, its codec.
unfoldable pub track_front : ℕ → Track → List ℕ
track_front number t = uint (0xd7 ∷ []) number ++ (uint (0x73 ∷ (0xc5 ∷ [])) number
    ++ (uint (0x83 ∷ []) (kind_of t.media) ++ uint (0x9c ∷ []) 0))

unfoldable pub track_codec : Track → List ℕ
track_codec t = element (0x86 ∷ []) (codec_id t.codec) ++ (private_element t.private
    ++ (uint (0x56 ∷ (0xaa ∷ [])) t.delay ++ uint (0x56 ∷ (0xbb ∷ [])) t.preroll))

unfoldable pub track_entry : ℕ → Track → List ℕ
track_entry number t =
    element (0xae ∷ []) (track_front number t ++ (track_codec t ++ media_element t.media))

-- The tracks, numbered from this on.
abbrev pub track_entries : ℕ → List Track → List ℕ
track_entries number [] = []
track_entries number (t ∷ tracks) = track_entry number t ++ track_entries (number + 1) tracks

-- A block (RFC 9559 10.1): its track, how many milliseconds after its cluster it begins, whether it is a key.
unfoldable pub simple_block : Block → List ℕ
simple_block b = element (0xa3 ∷ []) ((128 + b.track % 128) ∷ (u16_be (b.time % 1000)
    ++ ((if b.is_key then 128 else 0) ∷ b.bytes)))

-- A cluster has blocks of one second, one after another (RFC 9559 5.1.3).
unfoldable pub cluster : ℕ → List ℕ → List ℕ
cluster second blocks =
    element (0x1f ∷ (0x43 ∷ (0xb6 ∷ (0x75 ∷ [])))) (uint (0xe7 ∷ []) (1000 * second) ++ blocks)

-- With a block of the next second, what is written of the blocks of the second before, and which of them stay in front
-- of it: those of another second are a cluster.
abbrev pub closed : ℕ → ℕ → List ℕ → List ℕ
closed second next before = if next == second then [] else cluster second before

abbrev pub kept : ℕ → ℕ → List ℕ → List ℕ
kept second next before = if next == second then before else []

-- The clusters of these blocks, of which the first goes on after blocks of its second that are there already.
abbrev pub clusters_after : ℕ → List ℕ → List Block → List ℕ
clusters_after second before [] = cluster second before
clusters_after second before (b ∷ blocks) = closed second (b.time / 1000) before
    ++ clusters_after (b.time / 1000) (kept second (b.time / 1000) before ++ simple_block b) blocks

unfoldable pub segment : ℕ → List Track → List Block → List ℕ
segment duration tracks blocks = info duration
    ++ (element (0x16 ∷ (0x54 ∷ (0xae ∷ (0x6b ∷ [])))) (track_entries 1 tracks) ++ clusters_after 0 [] blocks)

-- The file: its header, and a segment of information, tracks and clusters.
unfoldable pub mkv_file : ℕ → List Track → List Block → List ℕ
mkv_file duration tracks blocks =
    ebml_header ++ element (0x18 ∷ (0x53 ∷ (0x80 ∷ (0x67 ∷ [])))) (segment duration tracks blocks)

-- What a segment has in front of its clusters.
unfoldable pub segment_front : ℕ → List Track → List ℕ
segment_front duration tracks =
    info duration ++ element (0x16 ∷ (0x54 ∷ (0xae ∷ (0x6b ∷ [])))) (track_entries 1 tracks)

-- What a file has in front of clusters of this many bytes.
unfoldable pub mkv_front : ℕ → List Track → ℕ → List ℕ
mkv_front duration tracks len =
    ebml_header ++ (element_front (0x18 ∷ (0x53 ∷ (0x80 ∷ (0x67 ∷ [])))) (length (segment_front duration tracks) + len)
    ++ segment_front duration tracks)

-- More than 126 tracks, a duration that a double can't say exactly, or a segment that eight bytes can't say the length
-- of.
abbrev pub IsTooMuch : ℕ → List Track → List Block → Type 0
IsTooMuch duration tracks blocks = (126 < length tracks) ⊎ (9007199254740992 ≤ duration)
    ⊎ (72057594037927935 ≤ length (segment duration tracks blocks))
