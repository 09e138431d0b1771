-- The file of some frames.
use Rattle.std.proofs.Common.{◌≡◌, ◌++◌, ◌<◌, ◌≤◌, inr, ℕ, List, [], length, map, get_or, refl}
use Rattle.std.proofs.lemmas.List.{get_or-map, length-map}
use Rattle.media_files.specs.Ivf.{ivf_file, ivf_frames, ivf_header, picture_size, Size, first_time, framed, IsTooMuch}
use Rattle.media_files.specs.Ivf.{span_of, ticks_of}
use Rattle.media_files.specs.Units.{Timed, timed}
use Rattle.media_files.specs.declared.ivf.IvfCodec.{IvfCodec}
use Rattle.media_files.specs.declared.units.TimedUnit.{TimedUnit}

-- after its header the frames are
pub ivf_file-begun : (codec : IvfCodec) (rate ticks first : ℕ) (size : Size) (frames : List Timed) (fresh out : List ℕ)
    → fresh ≡ [] → out ≡ fresh ++ ivf_header codec size rate ticks → size ≡ picture_size codec frames
    → ticks ≡ ticks_of (length frames) (span_of frames) → first ≡ first_time frames
    → out ++ ivf_frames codec first first frames ≡ ivf_file codec rate frames
unfolding ivf_file
ivf_file-begun codec rate ticks first size frames fresh out none made as_seen as_long at_first =
    rw (made, none, as_seen, as_long, at_first) refl

-- a frame too long for its header
pub too-long : (codec : IvfCodec) (frames : List TimedUnit) (i : ℕ) (d : TimedUnit) → i < length frames
    → 4294967296 ≤ length (framed codec (get_or frames i d).bytes.now) → IsTooMuch codec (map timed frames)
too-long codec frames i d below long = inr (
  i,
  timed (get_or frames i d),
  rw length-map below,
  get_or-map timed frames i d (timed (get_or frames i d)) below,
  long,
)
