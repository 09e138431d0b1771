-- What a section of an answer lists: of the types that the offer lists in this section those that the end has, as the
-- section says them, whatever other sections say (RFC 3264 6.1, RFC 8829 5.3.1).
use Rattle.std.specs.Prelude.{ℕ, Bool, true, false, not, ◌&&◌, ◌==◌, List, [], ◌∷◌, ◌++◌, codes, filter, find, map}
use Rattle.std.specs.Prelude.{nat_eq, Option, None, Some, is_some, if◌then◌else◌}
use Rattle.std.specs.Cmp.Lexicographic.{pointwise}
use Rattle.std.specs.List.{flat_map, list_any}
use Rattle.std.specs.Option.{option_map, option_or}
use Rattle.rtp_media_sections.specs.Answered.{has_pt}
use Rattle.rtp_media_sections.specs.Lines.{mid_of, row_lines, types_listed}
use Rattle.sdp_formats_data.specs.Media.{is_mid}
use Rattle.sdp_formats_data.specs.declared.media.MediaAttribute.{MediaAttribute}
use Rattle.sdp_formats_data.specs.declared.media.MediaAttribute.TheVariants as line
use Rattle.sdp_formats_data.specs.declared.media.MediaLine.{MediaLine}
use Rattle.sdp_formats_grammar.specs.Split.{behind}
use Rattle.sdp_formats_reader.specs.AsRead.{as_read}
use Rattle.sdp_formats_rows.specs.Rows.{Row}
use Rattle.sdp_formats_rows.specs.Scores.{score}
use Rattle.sdp_formats_section_rows.specs.SectionRows.{listed, rows_of}
use Rattle.rtp_media_browsers.specs.Following.{is_of_type, section_named}

abbrev pub is_listed : List ℕ → ℕ → Bool
is_listed types pt = list_any (λ t. t == pt) types

abbrev pub is_text : List ℕ → Option (List ℕ) → Bool
is_text words None = false
is_text words (Some text) = pointwise nat_eq text words

-- Whether an attribute gives a payload type this feedback, or all types of the section (RFC 4585 4.2).
unfoldable pub gives_feedback : ℕ → List ℕ → MediaAttribute → Bool
gives_feedback pt words (line.RtcpFb t value) = t == pt && pointwise nat_eq value words
gives_feedback pt words (line.Unused value) = is_text words (behind (codes "rtcp-fb:* ") value)
gives_feedback pt words _ = false

abbrev pub has_feedback : MediaLine → ℕ → List ℕ → Bool
has_feedback m pt words = list_any (gives_feedback pt words) m.attrs

-- Both sections give their types this feedback.
abbrev pub both_give : MediaLine → Row → MediaLine → Row → List ℕ → Bool
both_give offered o own a words = has_feedback offered o.pt words && has_feedback own a.pt words

-- The offered type of retransmissions, or of redundancy, if the section lists it and the end has one too.
abbrev pub linked_type : List ℕ → Option ℕ → Option ℕ → Option ℕ
linked_type types None own = None
linked_type types (Some t) None = None
linked_type types (Some t) (Some own) = if is_listed types t then Some t else None

-- The end's row as the section that offers it says it.
abbrev pub listed_row : MediaLine → MediaLine → Row → Row → Row
listed_row offered own o a = record a {
  pt = o.pt;
  resend = linked_type offered.pts o.resend a.resend;
  red = linked_type offered.pts o.red a.red;
  transport_cc = both_give offered o own a (codes "transport-cc");
  nack = both_give offered o own a (codes "nack");
  pli = both_give offered o own a (codes "nack pli");
  fir = both_give offered o own a (codes "ccm fir");
  remb = both_give offered o own a (codes "goog-remb");
}

-- Whether a row means an offered one: the codec, and parameters that match.
abbrev pub fits : Row → Row → Bool
fits o a = is_some (score o.spec a.spec)

abbrev pub is_same_type : Row → Row → Bool
is_same_type o a = (a.pt == o.pt) && fits o a

-- A row under a number of another section.
abbrev pub is_other_type : List Row → Row → Row → Bool
is_other_type offered o a = not (has_pt offered a.pt) && fits o a

-- The end's row for an offered one.
abbrev pub row_for : List Row → List Row → Row → Option Row
row_for offered own o = option_or (find (is_same_type o) own) (find (is_other_type offered o) own)

unfoldable pub row_listed : MediaLine → MediaLine → List Row → List Row → Row → List Row
row_listed offered own os as' o = if is_listed offered.pts o.pt
    then listed (option_map (listed_row offered own o) (row_for os as' o)) else []

-- The rows that the answer lists, given those of the offered section and those of the end's.
abbrev pub rows_among : MediaLine → MediaLine → List Row → List Row → List Row
rows_among offered own os as' = flat_map (row_listed offered own os as') os

abbrev pub rows_listed : MediaLine → MediaLine → List Row
rows_listed offered own = rows_among offered own (rows_of offered.pts offered.attrs) (rows_of own.pts own.attrs)

-- A line of a source (RFC 5576 4).
unfoldable pub is_of_source : MediaAttribute → Bool
is_of_source (line.Ssrc ssrc attr value) = true
is_of_source (line.SsrcGroup semantics ssrcs) = true
is_of_source _ = false

-- A line that says neither the name, nor a type, nor a source.
abbrev pub is_other : MediaAttribute → Bool
is_other a = not (is_mid a) && (not (is_of_type a) && not (is_of_source a))

-- The section with these rows, its types in the order of others (RFC 3264 6.1).
unfoldable pub with_rows : List ℕ → List Row → MediaLine → MediaLine
with_rows order rows m = record m {
  pts = filter (is_listed (types_listed rows)) order;
  attrs = line.Mid (mid_of m) ∷ (filter is_other m.attrs ++ (map as_read (row_lines rows)
      ++ filter is_of_source m.attrs));
}

-- A section of an answer, if this one was offered.
abbrev pub with_offered : Option MediaLine → MediaLine → MediaLine
with_offered None m = m
with_offered (Some offered) m = with_rows offered.pts (rows_listed offered m) m

abbrev pub listed_for : Bool → List MediaLine → MediaLine → MediaLine
listed_for is_answer olds m = if is_answer then with_offered (section_named olds (mid_of m)) m else m
