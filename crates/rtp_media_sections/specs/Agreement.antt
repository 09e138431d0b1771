-- What an exchange agreed on, and which streams that allows.
use Rattle.std.specs.Prelude.{◌≡◌, ℕ, Bool, true, false, ◌&&◌, ◌==◌, List, [], ◌∷◌, Option, Some, None, filter, find}
use Rattle.std.specs.BTreeSet.{BTreeSet, contains}
use Rattle.std.specs.Ordering.{nat_cmp}
use Rattle.std.specs.Str.{bytes_eq}
use Rattle.std.specs.Prelude.{length, nat_le, not, zip}
use Rattle.std.specs.List.{list_all, list_any}
use Rattle.std.specs.Option.{option_map}
use Rattle.media_types.specs.declared.codec.MediaKind.{MediaKind}
use Rattle.rtp_wire.specs.Direction.{sends, receives}
use Rattle.rtp_wire.specs.Maps.{empty_map}
use Rattle.rtp_wire.specs.Values.{Numbering}
use Rattle.media_types.specs.declared.codec.MediaKind.TheVariants.{Audio}
use Rattle.sdp_formats_rows.specs.Codecs.{is_codec}
use Rattle.sdp_formats_rows.specs.DefaultRows.{opus_row}
use Rattle.sdp_formats_rows.specs.declared.format.FormatParams.{FormatParams}
use Rattle.sdp_formats_rows.specs.declared.spec.CodecSpec.{CodecSpec}
use Rattle.sdp_formats_rows.specs.Rows.{Row}
use Rattle.sdp_formats_rows.specs.Same.{same, same_flag}
use Rattle.rtp_media_sections.specs.Extensions.{map_of_extmaps}
use Rattle.rtp_media_sections.specs.Lines.{repairs_of, ssrcs_of}
use Rattle.rtp_media_sections.specs.Sections.{Section, Wanted, are_distinct, has_shape}

-- A section as agreed: its mid and kind; the answer's rows and extension map; the SSRCs each end names in it, and their
-- (SSRC, RTX SSRC) pairs; whether media flows from this end and to it; and whether its rows were taken from a text of
-- its own afterwards, and need not be those under which the end's rows are locked.
pub record Agreed : Type 0 where
  pub mid : List ℕ
  pub kind : MediaKind
  pub rows : List Row
  pub map : Numbering
  pub own_ssrcs : List ℕ
  pub remote_ssrcs : List ℕ
  pub own_repairs : List (ℕ × ℕ)
  pub remote_repairs : List (ℕ × ℕ)
  pub sends : Bool
  pub receives : Bool
  pub by_text : Bool

abbrev pub is_agreed : Agreed × Wanted → Bool
is_agreed p = has_shape p.0.mid p.0.kind p.1

-- Whether the wanted sections start with the agreed ones, by mid and kind.
abbrev pub begins_with : List Wanted → List Agreed → Bool
begins_with wanted agreed = nat_le (length agreed) (length wanted) && list_all is_agreed (zip agreed wanted)

-- Whether an exchange of these sections may follow: there is at least one, no mid occurs twice, and they start with the
-- agreed ones.
abbrev pub may_follow : List Agreed → List Wanted → Bool
may_follow agreed wanted = not (length wanted == 0) && (are_distinct [] wanted && begins_with wanted agreed)

-- What both fixed ends have agreed on: section `0`, Opus with payload type 111, no header extensions, SSRC 44 on both
-- sides.
abbrev pub fixed_section : Agreed
fixed_section = record {
  mid = 48 ∷ [];
  kind = Audio;
  rows = opus_row false ∷ [];
  map = empty_map;
  own_ssrcs = 44 ∷ [];
  remote_ssrcs = 44 ∷ [];
  own_repairs = [];
  remote_repairs = [];
  sends = true;
  receives = true;
  by_text = false;
}

-- An agreed section: mid, kind, rows and extensions from the answer; SSRCs and RTX pairs from what this end wanted and
-- from the other end's text; and the directions of flow.
abbrev pub agreed : Wanted → Section → Section → Bool → Bool → Agreed
agreed w remote answer from to = record {
  mid = answer.mid;
  kind = answer.kind;
  rows = answer.rows;
  map = map_of_extmaps answer.extmaps;
  own_ssrcs = w.ssrcs;
  remote_ssrcs = ssrcs_of remote;
  own_repairs = w.repairs;
  remote_repairs = repairs_of remote;
  sends = from;
  receives = to;
  by_text = false;
}

-- What the answering end agrees on: media flows as the answer says.
unfoldable pub agreed_by_answer : Wanted → Section → Section → Agreed
agreed_by_answer w offer answer = agreed w offer answer (sends answer.dir) (receives answer.dir)

-- What the offering end agrees on: media flows as far as both its offer and the answer allow.
unfoldable pub agreed_by_accept : Wanted → Section → Agreed
agreed_by_accept w answer =
    agreed w answer answer (receives answer.dir && sends w.dir) (sends answer.dir && receives w.dir)

-- The agreed section of a name.
abbrev pub section_of : List Agreed → List ℕ → Option Agreed
section_of agreed mid = find (λ a. bytes_eq a.mid mid) agreed

-- The first row of a payload type.
abbrev pub row_in : List Row → ℕ → Option Row
row_in rows pt = find (λ row. row.pt == pt) rows

abbrev pub row_of_section : Option Agreed → ℕ → Option Row
row_of_section None pt = None
row_of_section (Some a) pt = row_in a.rows pt

-- The row with this payload type in the agreed section with this mid.
abbrev pub agreed_row_of : List Agreed → List ℕ → ℕ → Option Row
agreed_row_of agreed mid pt = row_of_section (section_of agreed mid) pt

-- The map of header extensions of the answer's section of a name.
abbrev pub agreed_map_of : List Agreed → List ℕ → Option Numbering
agreed_map_of agreed mid = option_map (λ a. a.map) (section_of agreed mid)

abbrev pub own_repairs_in : Option Agreed → List (ℕ × ℕ)
own_repairs_in None = []
own_repairs_in (Some a) = a.own_repairs

abbrev pub remote_repairs_in : Option Agreed → List (ℕ × ℕ)
remote_repairs_in None = []
remote_repairs_in (Some a) = a.remote_repairs

-- The (SSRC, RTX SSRC) pairs that this end, or the other one, names in the section with this mid.
abbrev pub own_repairs_of : List Agreed → List ℕ → List (ℕ × ℕ)
own_repairs_of agreed mid = own_repairs_in (section_of agreed mid)

abbrev pub remote_repairs_of : List Agreed → List ℕ → List (ℕ × ℕ)
remote_repairs_of agreed mid = remote_repairs_in (section_of agreed mid)

-- The section of a name among those of a text.
abbrev pub said_of : List Section → List ℕ → Option Section
said_of sections mid = find (λ s. bytes_eq s.mid mid) sections

abbrev pub row_of_said : Option Section → ℕ → Option Row
row_of_said None pt = None
row_of_said (Some s) pt = row_in s.rows pt

-- The row of a payload type in a text's section of a name.
abbrev pub row_of_text : List Section → List ℕ → ℕ → Option Row
row_of_text sections mid pt = row_of_said (said_of sections mid) pt

-- The map of header extensions of a text's section of a name.
abbrev pub map_of_text : List Section → List ℕ → Option Numbering
map_of_text sections mid = option_map (λ s. map_of_extmaps s.extmaps) (said_of sections mid)

-- Whether an SSRC is among these.
abbrev pub is_named : List ℕ → ℕ → Bool
is_named ssrcs ssrc = list_any (λ s. s == ssrc) ssrcs

-- The set holds exactly the SSRCs of the list.
abbrev pub IsSetOf : List ℕ → BTreeSet ℕ → Type 0
IsSetOf ssrcs set = (ssrc : ℕ) → contains nat_cmp set ssrc ≡ is_named ssrcs ssrc

-- The same codec, clock rate and number of channels.
abbrev pub same_codec : CodecSpec → CodecSpec → Bool
same_codec a b = is_codec a.codec b.codec && ((a.clock_rate == b.clock_rate) && same a.channels b.channels)

-- The same payload layout.
abbrev pub same_layout : FormatParams → FormatParams → Bool
same_layout a b = same_flag a.octet_align b.octet_align && same a.sprop_max_don_diff b.sprop_max_don_diff

-- Whether two rows are the same to a stream: codec, clock rate, channels, layout, decoding order numbers and RED type.
abbrev pub means_same : Row → Row → Bool
means_same a b = same_codec a.spec b.spec && (same_layout a.spec.format b.spec.format && same a.red b.red)

-- Whether one of an end's own rows is locked with the agreed row's payload type and is the same to a stream.
unfoldable pub own_row_agrees : List Row → Row → Bool
own_row_agrees own row = list_any (λ r. r.locked && ((r.pt == row.pt) && means_same r row)) own

-- Whether an end has a row under some type: one of its own locked rows has the same codec, clock rate, channels and
-- payload layout.
unfoldable pub has_alike : List Row → Row → Bool
has_alike own row = list_any (λ r. r.locked && (same_codec r.spec row.spec
    && same_layout r.spec.format row.spec.format)) own

-- An agreed section with the rows that a text's section lists, as far as the end has them.
abbrev pub taken_from : List Row → Option Section → Agreed → Agreed
taken_from own None a = a
taken_from own (Some s) a = record a { rows = filter (has_alike own) s.rows; by_text = true }

-- Whether a text's section is that of an agreed one, and isn't rejected.
abbrev pub is_text_of : Agreed → Section → Bool
is_text_of a s = s.is_media && bytes_eq s.mid a.mid

-- An agreed section with the rows of a text's section of its name.
abbrev pub with_text : List Row → List Section → Agreed → Agreed
with_text own sections a = taken_from own (find (is_text_of a) sections) a

-- The agreed rows are exactly those that the text's sections list, and so are the extension maps.
pub record AgreesOn (sections : List Section) (agreed : List Agreed) : Type 0 where
  pub rows : (mid : List ℕ) (pt : ℕ) → agreed_row_of agreed mid pt ≡ row_of_text sections mid pt
  pub maps : (mid : List ℕ) → agreed_map_of agreed mid ≡ map_of_text sections mid
