-- The rows of such lines have channels of eight bits.
use Rattle.std.proofs.Common.{◌≡◌, ◌==◌, ◌++◌, ℕ, Bool, true, false, List, [], ◌∷◌, map, Option, Some, None}
use Rattle.std.proofs.Common.{IfSome, refl, sym, subst, if◌then◌else◌}
use Rattle.std.specs.List.{flat_map, fold}
use Rattle.std.specs.Option.{option_map}
use Rattle.media_types.specs.declared.codec.Codec.TheVariants.{CN, G722, PCMA, PCMU}
use Rattle.rtp_media_sections.specs.Lines.{remote_of, section_of}
use Rattle.sdp_formats_data.specs.declared.media.MediaAttribute.{MediaAttribute}
use Rattle.sdp_formats_data.specs.declared.media.MediaAttribute.TheVariants.{RtpMap}
use Rattle.sdp_formats_data.specs.declared.media.MediaLine.{MediaLine}
use Rattle.sdp_formats_data.specs.declared.media.RtpMap as rtp_map
use Rattle.sdp_formats_laws.proofs.SoundParams.{each_append}
use Rattle.sdp_formats_rows.specs.Formats.{no_format}
use Rattle.sdp_formats_rows.specs.declared.format.FormatParams.{FormatParams}
use Rattle.sdp_formats_rounds.specs.Members.{IsEach}
use Rattle.sdp_formats_rows.specs.Codecs.{is_codec, spec_of, static_spec}
use Rattle.sdp_formats_rows.specs.Rows.{Row}
use Rattle.sdp_formats_rows.specs.declared.spec.CodecSpec.{CodecSpec}
use Rattle.sdp_formats_section_rows.specs.Given.{format_given}
use Rattle.sdp_formats_section_rows.specs.Mapped.{is_mapped, mappings, mappings_in, static_mapping, with_static}
use Rattle.sdp_formats_section_rows.specs.Maps.{spec_of_map, unless_one}
use Rattle.sdp_formats_section_rows.specs.SectionRows.{has_row, listed, row_of, rows_given, rows_of}
use Rattle.rtp_media_sections.proofs.NarrowLines.{IsNarrowLine}
use Rattle.rtp_media_sections.proofs.SizedRounds.{AreNarrowRows, IsNarrow, IsNarrowRow}

-- of mappings
abbrev AreNarrow : {M : Type 0} → List M → (M → rtp_map.RtpMap) → Type 0
AreNarrow [] told = Unit {0}
AreNarrow (m ∷ ms) told = IsNarrow (told m).channels × AreNarrow ms told

append_narrow : {M : Type 0} (told : M → rtp_map.RtpMap) (xs ys : List M) → AreNarrow xs told → AreNarrow ys told
    → AreNarrow (xs ++ ys) told
append_narrow told [] ys h k = k
append_narrow told (x ∷ xs) ys h k = (h.0, append_narrow told xs ys h.1 k)

lines_narrow : (attrs : List MediaAttribute) → IsEach IsNarrowLine attrs
    → AreNarrow (mappings_in attrs) (λ m. m.map)
lines_narrow [] h = tt
lines_narrow (RtpMap pt value ∷ attrs) h = (h.0, lines_narrow attrs h.1)
lines_narrow (a ∷ attrs) h = lines_narrow attrs h.1

abbrev HasNone : CodecSpec → Type 0
HasNone spec = spec.channels ≡ None

spec_if : (b : Bool) (spec : CodecSpec) (o : Option CodecSpec) → HasNone spec → IfSome o HasNone
    → IfSome (if b then Some spec else o) HasNone
spec_if true spec o h k = h
spec_if false spec o h k = k

static_none : (pt : ℕ) → IfSome (static_spec pt) HasNone
static_none pt =
    spec_if (pt == 0) (spec_of PCMU 8000 no_format) _ refl
    (spec_if (pt == 8) (spec_of PCMA 8000 no_format) _ refl
    (spec_if (pt == 9) (spec_of G722 16000 no_format) _ refl
    (spec_if (pt == 13) (spec_of CN 8000 no_format) None refl tt)))

static_narrow : (pt : ℕ) (o : Option CodecSpec) → IfSome o HasNone → AreNarrow (static_mapping pt o) (λ m. m.map)
static_narrow pt None h = tt
static_narrow pt (Some spec) h = (subst IsNarrow (sym h) tt, tt)

folded : {M : Type 0} (step : List M → ℕ → List M) (told : M → rtp_map.RtpMap)
    → ((maps : List M) (pt : ℕ) → AreNarrow maps told → AreNarrow (step maps pt) told) → (pts : List ℕ)
    (maps : List M) → AreNarrow maps told → AreNarrow (fold step maps pts) told
folded step told each [] maps h = h
folded step told each (pt ∷ pts) maps h = folded step told each pts (step maps pt) (each maps pt h)

with_narrow : (pt : ℕ) (maps new : _) → new ≡ with_static maps pt → AreNarrow maps (λ m. m.map)
    → AreNarrow new (λ m. m.map)
unfolding with_static
with_narrow pt maps new same h = subst (λ l. AreNarrow l (λ m. m.map)) (sym same) (at (is_mapped maps pt))
  where
    at : (b : Bool) → AreNarrow (if b then maps else maps ++ static_mapping pt (static_spec pt)) (λ m. m.map)
    at true = h
    at false = append_narrow (λ m. m.map) maps (static_mapping pt (static_spec pt)) h
        (static_narrow pt (static_spec pt) (static_none pt))

all_narrow : (pts : List ℕ) (attrs : List MediaAttribute) → IsEach IsNarrowLine attrs
    → AreNarrow (mappings pts attrs) (λ m. m.map)
all_narrow pts attrs h =
    folded with_static (λ m. m.map) (λ maps pt k. with_narrow pt maps (with_static maps pt) refl k) pts
    (mappings_in attrs) (lines_narrow attrs h)

-- of rows
less_narrow : (o : Option ℕ) → IsNarrow o → IsNarrow (unless_one o)
less_narrow None h = tt
less_narrow (Some n) h = at (n == 1)
  where
    at : (b : Bool) → IsNarrow (if b then None else Some n)
    at true = tt
    at false = h

spec_narrow : (m : rtp_map.RtpMap) (f : FormatParams) → IsNarrow m.channels → IsNarrow (spec_of_map m f).channels
spec_narrow m f h = at (is_codec m.codec G722)
  where
    at : (b : Bool) → (let spec : CodecSpec = if b
        then record { codec = m.codec; clock_rate = 16000; channels = unless_one m.channels; format = f }
        else record { codec = m.codec; clock_rate = m.clock_rate; channels = m.channels; format = f }
        in IsNarrow spec.channels)
    at true = less_narrow m.channels h
    at false = h

row_narrow : (attrs : List MediaAttribute) (maps m : _) (o : Option FormatParams) (rows : List Row)
    → rows ≡ listed (option_map (row_of attrs maps m) o) → IsNarrow m.map.channels → IsEach IsNarrowRow rows
row_narrow attrs maps m None rows same h = subst (IsEach IsNarrowRow) (sym same) tt
row_narrow attrs maps m (Some f) rows same h =
    subst (IsEach IsNarrowRow) (sym same) (spec_narrow m.map f h, tt)

given_narrow : (pts : List ℕ) (attrs : List MediaAttribute) (maps m : _) (rows : List Row)
    → rows ≡ rows_given pts attrs maps m → IsNarrow m.map.channels → IsEach IsNarrowRow rows
unfolding rows_given
given_narrow pts attrs maps m rows same h = subst (IsEach IsNarrowRow) (sym same) (at (has_row pts m))
  where
    at : (b : Bool) → IsEach IsNarrowRow (listed (if b
        then option_map (row_of attrs maps m) (format_given m.map.codec m.pt attrs) else None))
    at true = row_narrow attrs maps m (format_given m.map.codec m.pt attrs) _ refl h
    at false = tt

each_narrow : (pts : List ℕ) (attrs : List MediaAttribute) (maps ms : _) (rows : List Row)
    → rows ≡ flat_map (rows_given pts attrs maps) ms → AreNarrow ms (λ m. m.map) → IsEach IsNarrowRow rows
each_narrow pts attrs maps [] rows same h = subst (IsEach IsNarrowRow) (sym same) tt
each_narrow pts attrs maps (m ∷ ms) rows same h =
    subst (IsEach IsNarrowRow) (sym same)
    (each_append IsNarrowRow (rows_given pts attrs maps m) (flat_map (rows_given pts attrs maps) ms)
    (given_narrow pts attrs maps m (rows_given pts attrs maps m) refl h.0)
    (each_narrow pts attrs maps ms (flat_map (rows_given pts attrs maps) ms) refl h.1))

rows_narrow : (pts : List ℕ) (attrs : List MediaAttribute) → IsEach IsNarrowLine attrs
    → IsEach IsNarrowRow (rows_of pts attrs)
rows_narrow pts attrs h =
    each_narrow pts attrs (mappings pts attrs) (mappings pts attrs) (rows_of pts attrs) refl (all_narrow pts attrs h)

pub sections_narrow : (ms : List MediaLine) → IsEach (λ (m : MediaLine). IsEach IsNarrowLine m.attrs) ms
    → IsEach AreNarrowRows (map remote_of (map section_of ms))
unfolding section_of
sections_narrow [] h = tt
sections_narrow (m ∷ ms) h = (rows_narrow m.pts m.attrs h.0, sections_narrow ms h.1)
