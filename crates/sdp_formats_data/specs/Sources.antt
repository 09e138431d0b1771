-- What a section says of its sources (RFC 5576).
use Rattle.std.specs.Prelude.{ℕ, ◌==◌, Bool, ◌&&◌, List, [], ◌∷◌, ◌++◌, map, Option, Some, None, codes, nat_eq}
use Rattle.std.specs.Prelude.{if◌then◌else◌}
use Rattle.std.specs.Cmp.Lexicographic.{pointwise}
use Rattle.std.specs.List.{filter_map, last_or}
use Rattle.std.specs.Option.{option_flatten, option_map}
use Rattle.std.specs.Str.{str_eq_ignore_ascii_case, trim}
use Rattle.sdp_formats_grammar.specs.Split.{halves}
use Rattle.sdp_formats_data.specs.Distinct.{distinct}
use Rattle.sdp_formats_data.specs.declared.media.MediaAttribute.{MediaAttribute}
use Rattle.sdp_formats_data.specs.declared.media.MediaAttribute.TheVariants as a
use Rattle.sdp_formats_values.specs.declared.streams.SsrcInfo.{SsrcInfo}

-- The last value that any attribute gives.
abbrev pub last_of : {A B : Type 0} → (A → Option B) → List A → Option B
last_of f xs = last_or None (filter_map f xs)

-- The word for "no stream": a hyphen, with optional white space around it (RFC 8830 2).
abbrev pub is_no_stream : List ℕ → Bool
is_no_stream word = pointwise nat_eq (trim word) (codes "-")

-- The stream name in a word, without surrounding white space.
unfoldable pub name_in : List ℕ → Option (List ℕ)
name_in word = if is_no_stream word then None else Some (trim word)

abbrev pub name_given : Option (List ℕ) → Option (List ℕ)
name_given word = option_flatten (option_map name_in word)

-- The stream's word: everything before the first blank.
abbrev pub stream_word : List ℕ → List ℕ
stream_word value = (halves 32 value).0

-- The track's word: everything between the first and the second blank, if there is a blank.
abbrev pub track_word : List ℕ → Option (List ℕ)
track_word value = option_map stream_word ((halves 32 value).1)

-- The source that an `a=ssrc` line speaks of.
unfoldable pub source_in : MediaAttribute → Option ℕ
source_in (a.Ssrc ssrc attr value) = Some ssrc
source_in _ = None

-- The value that an `a=ssrc` line gives this source for this attribute name, in any ASCII case.
unfoldable pub value_in : List ℕ → ℕ → MediaAttribute → Option (List ℕ)
value_in word source (a.Ssrc ssrc attr value) =
    if (ssrc == source) && str_eq_ignore_ascii_case attr word then Some value else None
value_in word source _ = None

abbrev pub stream_in : ℕ → MediaAttribute → Option (List ℕ)
stream_in source attribute = option_map stream_word (value_in (codes "msid") source attribute)

abbrev pub track_in : ℕ → MediaAttribute → Option (List ℕ)
track_in source attribute = option_flatten (option_map track_word (value_in (codes "msid") source attribute))

-- A group of two: the repaired source and its RTX source.
abbrev pub pair_of : List ℕ → Option (ℕ × ℕ)
pair_of (repaired ∷ repairing ∷ []) = Some (repaired, repairing)
pair_of _ = None

-- The pair of a FID group, `FID` in any ASCII case (RFC 4588 8.3).
unfoldable pub repair_in : MediaAttribute → Option (ℕ × ℕ)
repair_in (a.SsrcGroup semantics ssrcs) =
    if str_eq_ignore_ascii_case semantics (codes "fid") then pair_of ssrcs else None
repair_in _ = None

abbrev pub repairing_in : MediaAttribute → Option ℕ
repairing_in attribute = option_map (λ p. p.1) (repair_in attribute)

-- The source that this one repairs.
abbrev pub repaired_if : ℕ → ℕ × ℕ → Option ℕ
repaired_if source p = if p.1 == source then Some p.0 else None

abbrev pub repaired_in : ℕ → MediaAttribute → Option ℕ
repaired_in source attribute = option_flatten (option_map (repaired_if source) (repair_in attribute))

-- What the attributes say of a source: for each item, the last value counts.
abbrev pub info_of : List MediaAttribute → ℕ → SsrcInfo
info_of attrs source = record {
  ssrc = source;
  repairs = last_of (repaired_in source) attrs;
  cname = last_of (value_in (codes "cname") source) attrs;
  stream_id = name_given (last_of (stream_in source) attrs);
  track_id = name_given (last_of (track_in source) attrs);
}

-- The sources that attributes name: those of `a=ssrc` lines first, then RTX sources, each once.
abbrev pub sources_of : List MediaAttribute → List ℕ
sources_of attrs = distinct (filter_map source_in attrs ++ filter_map repairing_in attrs)

abbrev pub infos_of : List MediaAttribute → List SsrcInfo
infos_of attrs = map (info_of attrs) (sources_of attrs)
