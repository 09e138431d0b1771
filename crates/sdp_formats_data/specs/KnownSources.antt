-- What is known of each source after some of the attributes have been read.
use Rattle.std.specs.Prelude.{ℕ, List, Option, codes, option_copied}
use Rattle.std.specs.BTreeMap as tree
use Rattle.std.specs.BTreeMap.{BTreeMap}
use Rattle.std.specs.Borrow.{Bor}
use Rattle.std.specs.List.{filter_map, last_or}
use Rattle.std.specs.Ordering.{nat_cmp}
use Rattle.sdp_formats_data.specs.Sources.{name_given, repaired_in, stream_in, track_in, value_in}
use Rattle.sdp_formats_data.specs.declared.known.Known.{Known}
use Rattle.sdp_formats_data.specs.declared.media.MediaAttribute.{MediaAttribute}
use Rattle.sdp_formats_values.specs.declared.streams.SsrcInfo.{SsrcInfo}

-- The word for a source.
abbrev pub word_at : BTreeMap ℕ (Bor (List ℕ)) → ℕ → Option (List ℕ)
word_at words source = option_copied (tree.get nat_cmp words source)

-- The source that another one repairs, as known so far.
abbrev pub repaired_at : BTreeMap ℕ ℕ → ℕ → Option ℕ
repaired_at repaired source = tree.get nat_cmp repaired source

-- What is known of a source after these attributes too: for each item, the last value counts.
abbrev pub info_with : Known → List MediaAttribute → ℕ → SsrcInfo
info_with known attrs source = record {
  ssrc = source;
  repairs = last_or (repaired_at known.repaired source) (filter_map (repaired_in source) attrs);
  cname = last_or (word_at known.cnames source) (filter_map (value_in (codes "cname") source) attrs);
  stream_id = name_given (last_or (word_at known.streams source) (filter_map (stream_in source) attrs));
  track_id = name_given (last_or (word_at known.tracks source) (filter_map (track_in source) attrs));
}
