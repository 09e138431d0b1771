-- Sections are read as they are printed.
use Rattle.std.proofs.Common.{◌≡◌, ◌^◌, ℕ, Bool, true, false, cond, List, [], ◌∷◌, ◌++◌, Option, Some, None}
use Rattle.std.proofs.Common.{codes, decimal, map, refl, sym, ◌∙◌, ap, subst, append_assoc, ⊎_elim, lit<, lit≤, arith}
use Rattle.std.specs.Option.{option_map}
use Rattle.std.specs.Fmt.{digits}
use Rattle.std.specs.Str.{bytes_eq}
use Rattle.std.proofs.lemmas.Bool.Decides.{nat_tests}
use Rattle.sdp_formats_grammar.specs.Exact.{told-exact, made-exact, after-exact, cut-exact}
use Rattle.sdp_formats_grammar.specs.Form.{IsExact, any_text, some_text, cut, told}
use Rattle.sdp_formats_grammar.specs.Joined.{maybe_text}
use Rattle.sdp_formats_grammar.specs.Split.{Lacks}
use Rattle.sdp_formats_reader.specs.Heads.{media_type, proto, formats, make_head}
use Rattle.sdp_formats_reader.specs.Lines.{connection_line, bandwidth_line, head_line, passed}
use Rattle.sdp_formats_reader.specs.declared.media.MediaHead.{MediaHead}
use Rattle.sdp_formats_reader.specs.AttributesChoice.{attribute_line, media_attribute}
use Rattle.sdp_formats_reader.specs.Grammar.{SectionSays}
use Rattle.sdp_formats_reader.specs.AsRead.{as_read}
use Rattle.sdp_formats_grammar.specs.Line.{LineOf}
use Rattle.sdp_formats_grammar.specs.Step.{Stops, Begins, Many, Perhaps}
use Rattle.sdp_formats_values.specs.MediaTypes.{proto_text, is_channel}
use Rattle.sdp_formats_values.specs.PrintedValues.{line_end, is_empty}
use Rattle.sdp_formats_values.specs.Lists.{bandwidth_text, numbers_text, named}
use Rattle.sdp_formats_data.specs.PrintedMedia.{section_text, attribute_text, attributes_text}
use Rattle.sdp_formats_data.specs.PrintedMedia.{formats_text}
use Rattle.sdp_formats_values.specs.MediaTypes.{media_type_text}
use Rattle.sdp_formats_data.specs.declared.media.MediaAttribute.{MediaAttribute}
use Rattle.sdp_formats_data.specs.declared.media.MediaLine.{MediaLine}
use Rattle.sdp_formats_values.specs.declared.media_type.MediaType.{MediaType}
use Rattle.sdp_formats_values.specs.declared.media_type.MediaType.TheVariants.{Audio, Video, Application, Unknown}
use Rattle.sdp_formats_values.specs.declared.media_type.Proto.{Proto}
use Rattle.sdp_formats_values.specs.declared.media_type.Proto.TheVariants.{Srtp, Sctp}
use Rattle.sdp_formats_values.specs.declared.bandwidth.Bandwidth.{Bandwidth}
use Rattle.sdp_formats_laws.proofs.Heads.{bandwidth, bandwidth-exact, connection, connection-exact, formats_read}
use Rattle.sdp_formats_laws.proofs.Printed.{IsPrintedAs, named_line, named_by, printed_line, lacks}
use Rattle.sdp_formats_laws.proofs.PlainKinds.{lacks_two}
use Rattle.sdp_formats_laws.proofs.PartedKinds.{lacks_numbers}
use Rattle.sdp_formats_laws.proofs.Readings.{cut_reads}
use Rattle.sdp_formats_laws.proofs.Stopping.{first, stops, other_start, first_of, begins_as}
use Rattle.sdp_formats_laws.proofs.Whole.{ListsComeBack, printed}
use Rattle.sdp_formats_laws.specs.Printable.{IsPrintable, AreBelow}
use Rattle.sdp_formats_laws.specs.ReadTexts.{section_as_read}
use Rattle.sdp_formats_rounds.specs.Members.{IsEach}
use Rattle.sdp_formats_laws.specs.PrintableTexts.{IsPrintableBandwidth, IsPrintableSection, AreFormats}
use Rattle.sdp_formats_laws.specs.PrintableTexts.{LineComesBack, HasLinesThatComeBack}

-- what may follow a section: another, or nothing
abbrev pub IsTail : List ℕ → Type 0
IsTail t = (c : ℕ) → (109 ≡ c → ⊥) → first t ≡ Some c → ⊥

-- a line of a bandwidth doesn't begin if another letter is
pub no_bandwidth : (t : List ℕ) → (first t ≡ Some 98 → ⊥) → Stops (LineOf bandwidth_line.Says) t
no_bandwidth t other = stops _ t (λ content b s same. other (sym same ∙ ap first s.1.1))

pub perhaps_bandwidth : (b : Option Bandwidth) (t : List ℕ) → IsPrintableBandwidth b → (first t ≡ Some 98 → ⊥)
    → Perhaps (LineOf bandwidth_line.Says) (maybe_text [] (option_map bandwidth_text b) ++ t) b t
perhaps_bandwidth None t h other = (refl, no_bandwidth t other)
perhaps_bandwidth (Some b) t h other =
    printed_line bandwidth_line bandwidth-exact b (bandwidth_text b) t (bandwidth b h.0 h.1 h.2)

-- a form's text that is a word or two, and what is read of it
abbrev pub IsSaid : {A : Type 0} → (List ℕ → Option A) → List ℕ → A → Type 0
IsSaid read t a = (read t ≡ Some a) × Lacks 10 t × Lacks 13 t

type_said : (typ : MediaType) (pts : List ℕ) → AreFormats typ pts
    → IsSaid media_type (media_type_text typ) typ × Lacks 32 (media_type_text typ)
type_said Audio pts h =
    ((refl, lacks 10 (codes "audio") refl, lacks 13 (codes "audio") refl), lacks 32 (codes "audio") refl)
type_said Video pts h =
    ((refl, lacks 10 (codes "video") refl, lacks 13 (codes "video") refl), lacks 32 (codes "video") refl)
type_said Application pts h = (
  (refl, lacks 10 (codes "application") refl, lacks 13 (codes "application") refl),
  lacks 32 (codes "application") refl,
)
type_said (Unknown word) [] h = absurd h
type_said (Unknown word) (pt ∷ pts) h = ((h.1, h.0.0.1, h.0.0.2), h.0.1)

proto_said : (p : Proto) → IsSaid proto (proto_text p) p × Lacks 32 (proto_text p)
proto_said Srtp = (
  (refl, lacks 10 (codes "UDP/TLS/RTP/SAVPF") refl, lacks 13 (codes "UDP/TLS/RTP/SAVPF") refl),
  lacks 32 (codes "UDP/TLS/RTP/SAVPF") refl,
)
proto_said Sctp = (
  (refl, lacks 10 (codes "UDP/DTLS/SCTP") refl, lacks 13 (codes "UDP/DTLS/SCTP") refl),
  lacks 32 (codes "UDP/DTLS/SCTP") refl,
)

some_there : {A : Type 0} (x : A) (xs : List A) → is_empty (x ∷ xs) ≡ false
some_there x xs = grind (arith, nat_tests)

numbers_said : (pt : ℕ) (pts : List ℕ) → AreBelow (2 ^ 8) (pt ∷ pts)
    → IsSaid formats (cond (is_empty (pt ∷ pts)) (codes "0") (numbers_text (codes " ") (pt ∷ pts))) (pt ∷ pts)
numbers_said pt pts h = subst
    (λ b. IsSaid formats (cond b (codes "0") (numbers_text (codes " ") (pt ∷ pts))) (pt ∷ pts))
    (sym (some_there pt pts)) (
      formats_read pt pts h,
      lacks_numbers 10 (2 ^ 8) pt pts (lit< tt) (λ e. cc) (lit≤ tt) h,
      lacks_numbers 13 (2 ^ 8) pt pts (lit< tt) (λ e. cc) (lit≤ tt) h,
    )

formats_said : (m : MediaLine) (typ : MediaType) (pts : List ℕ) → AreFormats typ pts
    → IsSaid formats (cond (is_channel typ) (codes "webrtc-datachannel")
    (cond (is_empty pts) (codes "0") (numbers_text (codes " ") pts))) pts
formats_said m Audio [] h = absurd h
formats_said m Audio (pt ∷ pts) h = numbers_said pt pts h
formats_said m Video [] h = absurd h
formats_said m Video (pt ∷ pts) h = numbers_said pt pts h
formats_said m Application pts h = subst (λ p. IsSaid formats (codes "webrtc-datachannel") p) (sym h)
    (refl, lacks 10 (codes "webrtc-datachannel") refl, lacks 13 (codes "webrtc-datachannel") refl)
formats_said m (Unknown word) [] h = absurd h
formats_said m (Unknown word) (pt ∷ pts) h = numbers_said pt pts h.2

abbrev pub port_text : Bool → List ℕ
port_text disabled = decimal (cond disabled 0 9)

port_said : (disabled : Bool) → IsSaid some_text (port_text disabled) (port_text disabled)
    × Lacks 32 (port_text disabled) × (bytes_eq (port_text disabled) (codes "0") ≡ disabled)
unfolding digits
port_said true = ((refl, lacks 10 (codes "0") refl, lacks 13 (codes "0") refl), lacks 32 (codes "0") refl, refl)
port_said false = ((refl, lacks 10 (codes "9") refl, lacks 13 (codes "9") refl), lacks 32 (codes "9") refl, refl)

head-exact : IsExact head_line
head-exact = after-exact (codes "m=") _ (made-exact _ _ (cut-exact 32 _ _ (told-exact _)
    (cut-exact 32 _ _ (told-exact _) (cut-exact 32 _ _ (told-exact _) (told-exact _)))))

abbrev pub head_of : MediaLine → MediaHead
head_of m = make_head (m.typ, port_text m.disabled, m.proto, m.pts)

abbrev pub head_body : MediaLine → List ℕ
head_body m = media_type_text m.typ ++ 32 ∷ (port_text m.disabled ++ 32 ∷ (proto_text m.proto ++ 32 ∷ formats_text m))

lacks_four : (c : ℕ) (s t u v : List ℕ) → (32 ≡ c → ⊥) → Lacks c s → Lacks c t → Lacks c u → Lacks c v
    → Lacks c (s ++ 32 ∷ (t ++ 32 ∷ (u ++ 32 ∷ v)))
lacks_four c s t u v other a b d e = lacks_two c 32 s (t ++ 32 ∷ (u ++ 32 ∷ v)) a other
    (lacks_two c 32 t (u ++ 32 ∷ v) b other (lacks_two c 32 u v d other e))

-- the line `m=`
head_printed : (m : MediaLine) → AreFormats m.typ m.pts
    → IsPrintedAs head_line (named (codes "m=") (head_body m)) (head_of m)
unfolding formats_text
head_printed m h =
    let typ = type_said m.typ m.pts h in
    let port = port_said m.disabled in
    let way = proto_said m.proto in
    let fmts = formats_said m m.typ m.pts h in
    named_line head_line (codes "m=") (head_body m) (head_of m) (named_by (codes "m=") refl)
    (lacks_four 10 _ _ _ _ (λ e. cc) typ.0.1 port.0.1 way.0.1 fmts.1)
    (lacks_four 13 _ _ _ _ (λ e. cc) typ.0.2 port.0.2 way.0.2 fmts.2)
    (ap (option_map (λ x. make_head (x.0, x.1.0, x.1.1.0, x.1.1.1)))
    (cut_reads 32 (told media_type) (cut 32 any_text (cut 32 (told proto) (told formats))) (media_type_text m.typ)
    (port_text m.disabled ++ 32 ∷ (proto_text m.proto ++ 32 ∷ formats_text m)) m.typ
    (port_text m.disabled, (m.proto, m.pts)) typ.1 typ.0.0
    (cut_reads 32 any_text (cut 32 (told proto) (told formats)) (port_text m.disabled)
    (proto_text m.proto ++ 32 ∷ formats_text m) (port_text m.disabled) (m.proto, m.pts) port.1 port.0.0
    (cut_reads 32 (told proto) (told formats) (proto_text m.proto) (formats_text m) m.proto m.pts way.1 way.0.0
    fmts.0))))

section_shape : (typ port way fmts conn bw attrs rest end : List ℕ)
    → (typ ++ 32 ∷ (port ++ 32 ∷ (way ++ 32 ∷ (fmts ++ (end ++ (conn ++ (end ++ (bw ++ attrs)))))))) ++ rest
    ≡ ((typ ++ 32 ∷ (port ++ 32 ∷ (way ++ 32 ∷ fmts))) ++ end) ++ ((conn ++ end) ++ (bw ++ (attrs ++ rest)))
section_shape typ port way fmts conn bw attrs rest end = simp append_assoc

section_spelled : (m : MediaLine) (rest : List ℕ) → section_text m ++ rest
    ≡ named (codes "m=") (head_body m) ++ ((codes "c=IN IP4 0.0.0.0" ++ line_end)
    ++ (maybe_text [] (option_map bandwidth_text m.bw) ++ (attributes_text m.attrs ++ rest)))
unfolding section_text
section_spelled m rest = ap (λ t. codes "m=" ++ t)
    (section_shape (media_type_text m.typ) (port_text m.disabled) (proto_text m.proto) (formats_text m)
    (codes "c=IN IP4 0.0.0.0") (maybe_text [] (option_map bandwidth_text m.bw)) (attributes_text m.attrs) rest line_end)

-- attributes, up to another section or the end
pub attributes_many : (attrs : List MediaAttribute) (rest : List ℕ) → IsEach LineComesBack attrs → IsTail rest
    → Many (LineOf attribute_line.Says) (attributes_text attrs ++ rest) (map as_read attrs) rest
attributes_many attrs rest h tail = (
  begins_as (LineOf attribute_line.Says) attribute_text as_read LineComesBack (λ x r p. p r) attrs rest h,
  other_start 97 (61 ∷ []) media_attribute rest (tail 97 (λ e. omega (e, arith))),
)

-- printable ones
each_printed : ListsComeBack → IsExact attribute_line → (attrs : List MediaAttribute) → IsEach IsPrintable attrs
    → IsEach LineComesBack attrs
each_printed back exact [] h = tt
each_printed back exact (a ∷ attrs) h = (
  λ rest. printed_line attribute_line exact (as_read a) (attribute_text a) rest (printed back a h.0),
  each_printed back exact attrs h.1,
)

pub sections_printed : ListsComeBack → IsExact attribute_line → (ms : List MediaLine) → IsEach IsPrintableSection ms
    → IsEach HasLinesThatComeBack ms
sections_printed back exact [] h = tt
sections_printed back exact (m ∷ ms) h =
    ((h.0.0, h.0.1, each_printed back exact m.attrs h.0.2), sections_printed back exact ms h.1)

-- what follows a bandwidth is an attribute or another section, or nothing
not_98 : (attrs : List MediaAttribute) (t rest : List ℕ) → Begins (LineOf attribute_line.Says) t attrs rest
    → IsTail rest
    → first t ≡ Some 98 → ⊥
not_98 attrs t rest begins tail e = ⊎_elim
    (λ (a : first t ≡ Some 97). letters 97 98 (λ n. omega (n, arith)) (sym a ∙ e))
    (λ (r : rest ≡ t). tail 98 (λ n. omega (n, arith)) (ap first r ∙ e))
    (first_of 97 (61 ∷ []) media_attribute t attrs rest begins)
  where
    letters : (a b : ℕ) → (a ≡ b → ⊥) → Some a ≡ Some b → ⊥
    letters a b other e = other (cc)

pub section_says : (m : MediaLine) (rest : List ℕ) → HasLinesThatComeBack m → IsTail rest
    → SectionSays (section_text m ++ rest) (section_as_read m) rest
unfolding SectionSays
section_says m rest h tail =
    let four = attributes_text m.attrs ++ rest in
    let three = maybe_text [] (option_map bandwidth_text m.bw) ++ four in
    let two = (codes "c=IN IP4 0.0.0.0" ++ line_end) ++ three in
    let many = attributes_many m.attrs rest h.2 tail in
    subst (λ t. SectionSays t (section_as_read m) rest) (sym (section_spelled m rest)) (
      head_of m,
      two,
      printed_line head_line head-exact (head_of m) (named (codes "m=") (head_body m)) two
          (head_printed m h.0),
      (refl, sym (port_said m.disabled).2, refl, refl),
      Some passed,
      three,
      printed_line connection_line connection-exact passed (codes "c=IN IP4 0.0.0.0" ++ line_end) three connection,
      four,
      perhaps_bandwidth m.bw four h.1 (not_98 (map as_read m.attrs) four rest many.0 tail),
      many,
    )
