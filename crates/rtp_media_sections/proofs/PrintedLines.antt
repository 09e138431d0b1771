-- A printable section lists its rows, and has no fault.
use Rattle.std.proofs.Common.{◌≡◌, ◌≤◌, ◌<◌, ◌^◌, ℕ, Bool, true, false, ◌||◌, ◌==◌, List, [], ◌∷◌, map, codes, refl}
use Rattle.std.proofs.Common.{Option, Some, None, IfSome, arith, if◌then◌else◌}
use Rattle.std.specs.List.{count_by, list_any}
use Rattle.media_types.specs.declared.codec.MediaKind.{MediaKind}
use Rattle.media_types.specs.declared.codec.MediaKind.TheVariants as kinds
use Rattle.rtp_media_sections.specs.Extensions.{extmap_line}
use Rattle.rtp_media_sections.specs.Lines.{line_of, pair_line, source_line, source_lines, type_of}
use Rattle.rtp_media_sections.specs.Repairs.{pair_of, repair_in, repairs_in}
use Rattle.rtp_media_sections.specs.Sections.{Section}
use Rattle.rtp_media_sections.specs.declared.sections.Source.{Source}
use Rattle.rtp_wire.specs.Kinds.{uri_of}
use Rattle.rtp_wire.specs.declared.direction.Direction.{Direction}
use Rattle.rtp_wire.specs.declared.direction.Direction.TheVariants as way
use Rattle.rtp_wire.specs.declared.extension.Extension.{Extension}
use Rattle.sdp_formats_data.specs.Media.{direction_attribute, is_mid}
use Rattle.sdp_formats_data.specs.declared.media.MediaAttribute.{MediaAttribute}
use Rattle.sdp_formats_data.specs.declared.media.MediaAttribute.TheVariants as line
use Rattle.sdp_formats_laws.proofs.KnownUris.{extension_own, uri_own}
use Rattle.sdp_formats_laws.proofs.Lists.{none_append}
use Rattle.sdp_formats_laws.proofs.Printed.{lacks}
use Rattle.sdp_formats_laws.proofs.SoundParams.{each_append}
use Rattle.sdp_formats_laws.specs.Printable.{IsText, IsWord}
use Rattle.sdp_formats_laws.specs.Printable as printable
use Rattle.sdp_formats_laws.specs.Rows.{EachListsRows, HasOneOfEach, IsMedia, ListsRows}
use Rattle.sdp_formats_laws.specs.RowsBack.{names_type}
use Rattle.sdp_formats_data.specs.Consistency.{is_direction_of, is_setup}
use Rattle.sdp_formats_rounds.specs.Members.{IsEach}
use Rattle.rtp_media_sections.proofs.Lists.{count_past}
use Rattle.rtp_media_sections.proofs.Names.{name_text}
use Rattle.rtp_media_sections.proofs.Quiet.{IsQuiet, quiet_rest}
use Rattle.rtp_media_sections.specs.PrintableSections.{IsLowPair}
use Rattle.rtp_media_sections.specs.PrintedSections.{IsLowSource, IsPrintable, IsPrintableEntry, named, with_names}

is_media : (kind : MediaKind) → IsMedia (type_of kind)
is_media kinds.Audio = tt
is_media kinds.Video = tt

-- the lines before and after the rows
direction_printable : (d : Direction) → printable.IsPrintable (direction_attribute d)
direction_printable way.SendOnly = tt
direction_printable way.RecvOnly = tt
direction_printable way.SendRecv = tt
direction_printable way.Inactive = tt

direction_silent : (d : Direction) → names_type (direction_attribute d) ≡ false
direction_silent way.SendOnly = refl
direction_silent way.RecvOnly = refl
direction_silent way.SendRecv = refl
direction_silent way.Inactive = refl

entry_printable : (entry : ℕ × Extension) → IsPrintableEntry entry → printable.IsPrintable (extmap_line (named entry))
entry_printable entry h =
    (h.0, rw (uri_own (uri_of entry.1)) h.1, extension_own (uri_of entry.1))

entries_printable : (exts : List (ℕ × Extension)) → IsEach IsPrintableEntry exts
    → IsEach printable.IsPrintable (map extmap_line (map named exts))
entries_printable [] h = tt
entries_printable (e ∷ exts) h = (entry_printable e h.0, entries_printable exts h.1)

entries_silent : (exts : List (ℕ × Extension)) → list_any names_type (map extmap_line exts) ≡ false
entries_silent [] = refl
entries_silent (e ∷ exts) = entries_silent exts

cname : IsText (codes "cname")
cname = ((λ e. cc), lacks 10 (codes "cname") refl, lacks 13 (codes "cname") refl)

name_for_clocks : IsText (codes "str0m")
name_for_clocks = ((λ e. cc), lacks 10 (codes "str0m") refl, lacks 13 (codes "str0m") refl)

sources_printable : (sources : List Source) → IsEach IsLowSource sources
    → IsEach printable.IsPrintable (map source_line sources)
sources_printable [] h = tt
sources_printable (s ∷ sources) h =
    ((h.0.0, cname, lacks 58 (codes "cname") refl, name_for_clocks), sources_printable sources h.1)

sources_silent : (sources : List Source) → list_any names_type (map source_line sources) ≡ false
sources_silent [] = refl
sources_silent (s ∷ sources) = sources_silent sources

-- groups
group_word : IsWord (codes "FID")
group_word = (
  ((λ e. cc), lacks 10 (codes "FID") refl, lacks 13 (codes "FID") refl),
  lacks 32 (codes "FID") refl,
)

pairs_low : (sources : List Source) → IsEach IsLowSource sources → IsEach IsLowPair (repairs_in sources)
pairs_low [] h = tt
pairs_low (s ∷ sources) h =
    each_append IsLowPair (repair_in s) (repairs_in sources) (one s.repairs h.0.1) (pairs_low sources h.1)
  where
    unless : (b : Bool) (n : ℕ) → n < 2 ^ 32 → IsEach IsLowPair (if b then [] else (n, s.ssrc) ∷ [])
    unless true n low = tt
    unless false n low = ((low, h.0.0), tt)

    one : (o : Option ℕ) → IfSome o (λ n. n < 2 ^ 32) → IsEach IsLowPair (pair_of s.ssrc o)
    one None low = tt
    one (Some n) low = unless (n == s.ssrc) n low

pairs_printable : (pairs : List (ℕ × ℕ)) → IsEach IsLowPair pairs
    → IsEach printable.IsPrintable (map pair_line pairs)
pairs_printable [] h = tt
pairs_printable (p ∷ pairs) h = ((group_word, (h.0.0, (h.0.1, tt))), pairs_printable pairs h.1)

pairs_silent : (pairs : List (ℕ × ℕ)) → list_any names_type (map pair_line pairs) ≡ false
pairs_silent [] = refl
pairs_silent (p ∷ pairs) = pairs_silent pairs

behind_printable : (sources : List Source) → IsEach IsLowSource sources
    → IsEach printable.IsPrintable (source_lines sources)
behind_printable sources h =
    each_append printable.IsPrintable (map pair_line (repairs_in sources)) (map source_line sources)
    (pairs_printable (repairs_in sources) (pairs_low sources h)) (sources_printable sources h)

behind_silent : (sources : List Source) → list_any names_type (source_lines sources) ≡ false
behind_silent sources =
    none_append names_type (map pair_line (repairs_in sources)) (map source_line sources)
    (pairs_silent (repairs_in sources)) (sources_silent sources)

-- the lines before the rows
abbrev front : Section → List MediaAttribute
front s = line.Mid s.mid ∷ direction_attribute s.dir ∷ map extmap_line (map named s.extmaps)

pub lists_rows : (s : Section) → IsPrintable s → ListsRows (line_of (with_names s)) s.rows
unfolding line_of
lists_rows s h = record {
  media = is_media s.kind;
  bandwidth = tt;
  some = h.some_row;
  plain = h.plain;
  sized = h.sized;
  distinct = h.apart;
  types = refl;
  others = front s;
  behind = source_lines s.sources;
  attributes = refl;
  others_printable = (
    (name_text s.mid h.some_name h.name, h.name),
    (direction_printable s.dir, entries_printable s.extmaps h.extmaps),
  );
  behind_printable = behind_printable s.sources h.sources;
  others_silent = (λ i. direction_silent s.dir i || entries_silent (map named s.extmaps) i);
  behind_silent = behind_silent s.sources;
}

-- one name, one direction, no setup
mid_quiet : IsQuiet is_mid
unfolding is_mid
mid_quiet = record {
  extmap = λ id ext. refl;
  rtpmap = λ pt value. refl;
  rtcp_fb = λ pt value. refl;
  fmtp = λ pt values. refl;
  ssrc = λ n attr value. refl;
  group = λ semantics ssrcs. refl;
}

setup_quiet : IsQuiet is_setup
unfolding is_setup
setup_quiet = record {
  extmap = λ id ext. refl;
  rtpmap = λ pt value. refl;
  rtcp_fb = λ pt value. refl;
  fmtp = λ pt values. refl;
  ssrc = λ n attr value. refl;
  group = λ semantics ssrcs. refl;
}

direction_quiet : IsQuiet is_direction_of
unfolding is_direction_of
direction_quiet = record {
  extmap = λ id ext. refl;
  rtpmap = λ pt value. refl;
  rtcp_fb = λ pt value. refl;
  fmtp = λ pt values. refl;
  ssrc = λ n attr value. refl;
  group = λ semantics ssrcs. refl;
}

one_name : (mid : List ℕ) (d : Direction) (rest : List MediaAttribute) → list_any is_mid rest ≡ false
    → count_by is_mid (line.Mid mid ∷ direction_attribute d ∷ rest) ≡ 1
unfolding is_mid
one_name mid way.SendOnly rest e = count_past is_mid 1 rest e
one_name mid way.RecvOnly rest e = count_past is_mid 1 rest e
one_name mid way.SendRecv rest e = count_past is_mid 1 rest e
one_name mid way.Inactive rest e = count_past is_mid 1 rest e

no_setup : (mid : List ℕ) (d : Direction) (rest : List MediaAttribute) → list_any is_setup rest ≡ false
    → count_by is_setup (line.Mid mid ∷ direction_attribute d ∷ rest) ≡ 0
unfolding is_setup
no_setup mid way.SendOnly rest e = count_past is_setup 0 rest e
no_setup mid way.RecvOnly rest e = count_past is_setup 0 rest e
no_setup mid way.SendRecv rest e = count_past is_setup 0 rest e
no_setup mid way.Inactive rest e = count_past is_setup 0 rest e

one_direction : (mid : List ℕ) (d : Direction) (rest : List MediaAttribute) → list_any is_direction_of rest ≡ false
    → count_by is_direction_of (line.Mid mid ∷ direction_attribute d ∷ rest) ≡ 1
unfolding is_direction_of
one_direction mid way.SendOnly rest e = count_past is_direction_of 1 rest e
one_direction mid way.RecvOnly rest e = count_past is_direction_of 1 rest e
one_direction mid way.SendRecv rest e = count_past is_direction_of 1 rest e
one_direction mid way.Inactive rest e = count_past is_direction_of 1 rest e

none_at_most : (n : ℕ) → n ≡ 0 → n ≤ 1
none_at_most n e = omega arith

one_of_each : (s : Section) → HasOneOfEach (line_of s)
unfolding line_of
one_of_each s = record {
  name = one_name s.mid s.dir _ (quiet_rest is_mid mid_quiet s.extmaps s.rows s.sources);
  setup = none_at_most _
      (no_setup s.mid s.dir _ (quiet_rest is_setup setup_quiet s.extmaps s.rows s.sources));
  direction = λ rtp. one_direction s.mid s.dir _
      (quiet_rest is_direction_of direction_quiet s.extmaps s.rows s.sources);
}

pub each_lists : (ss : List Section) → IsEach IsPrintable ss
    → EachListsRows (map line_of (map with_names ss)) (map (λ s. s.rows) ss)
each_lists [] h = tt
each_lists (s ∷ ss) h = (lists_rows s h.0, each_lists ss h.1)

pub each_once : (ss : List Section) → IsEach HasOneOfEach (map line_of ss)
each_once [] = tt
each_once (s ∷ ss) = (one_of_each s, each_once ss)
