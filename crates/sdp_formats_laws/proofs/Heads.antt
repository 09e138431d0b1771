-- The header of a session and the line `m=` are read as they are printed.
use Rattle.std.proofs.Common.{◌≡◌, ◌<◌, ◌≤◌, ◌^◌, ℕ, Bool, true, false, ◌&&◌, ◌==◌, cond, List, [], ◌∷◌, ◌++◌, length}
use Rattle.std.proofs.Common.{Some, None, codes, decimal, map, refl, ◌∙◌, ap, arith, lit<, lit≤}
use Rattle.std.specs.Char.{is_ascii_digit}
use Rattle.std.specs.List.{list_all}
use Rattle.std.specs.Option.{option_map, unwrap_or, is_some}
use Rattle.std.specs.Str.Parse.{AllDigits}
use Rattle.std.proofs.lemmas.Bool.Decides.{nat_tests}
use Rattle.std.proofs.lemmas.Str.Parse.{digit_from_value}
use Rattle.std.proofs.lemmas.Fmt.{digits_decimal, decimal_nonempty}
use Rattle.sdp_formats_grammar.specs.Cuts.{other_byte}
use Rattle.sdp_formats_grammar.specs.Exact.{told-exact, made-exact, after-exact, cut-exact}
use Rattle.sdp_formats_grammar.specs.Form.{IsExact, any_text, some_text, cut, each, told}
use Rattle.sdp_formats_grammar.specs.Joined.{each_behind}
use Rattle.sdp_formats_grammar.specs.Numbers.{number_below}
use Rattle.sdp_formats_grammar.specs.Split.{Lacks, behind, parts}
use Rattle.sdp_formats_reader.specs.Heads.{session_number, formats, pt_number}
use Rattle.sdp_formats_reader.specs.Lines.{version_line, origin_line, name_line, bandwidth_line, times_line}
use Rattle.sdp_formats_reader.specs.Lines.{connection_line, passed, make_bandwidth}
use Rattle.sdp_formats_values.specs.PrintedValues.{line_end}
use Rattle.sdp_formats_values.specs.Lists.{bandwidth_text, numbers_text, named}
use Rattle.sdp_formats_values.specs.declared.bandwidth.Bandwidth.{Bandwidth}
use Rattle.sdp_formats_laws.proofs.Decimals.{own, number_below-decimal, Lacks-decimal}
use Rattle.sdp_formats_laws.proofs.Printed.{IsPrintedAs, named_line, named_by, fixed_line, two_parts, at_text}
use Rattle.sdp_formats_laws.proofs.Printed.{text_some}
use Rattle.sdp_formats_laws.proofs.Printed.{lacks}
use Rattle.sdp_formats_laws.proofs.PlainKinds.{lacks_two, no_feed, no_return}
use Rattle.sdp_formats_laws.proofs.Readings.{cut_reads, AreRead, list_reads}
use Rattle.sdp_formats_laws.specs.Printable.{IsText, AreBelow}

text-exact : IsExact any_text
text-exact = told-exact some_text

pub version-exact : IsExact version_line
version-exact = after-exact (codes "v=") _ (told-exact _)

pub origin-exact : IsExact origin_line
origin-exact = after-exact (codes "o=") _
    (made-exact _ _ (cut-exact 32 _ _ text-exact (cut-exact 32 _ _ (told-exact _) text-exact)))

pub name-exact : IsExact name_line
name-exact = after-exact (codes "s=") _ (made-exact _ _ text-exact)

pub times-exact : IsExact times_line
times-exact = after-exact (codes "t=") _ (told-exact _)

pub connection-exact : IsExact connection_line
connection-exact = after-exact (codes "c=") _ (made-exact _ _ text-exact)

pub bandwidth-exact : IsExact bandwidth_line
bandwidth-exact = made-exact _ _ (after-exact (codes "b=") _ (cut-exact 58 _ _ text-exact text-exact))

pub version : IsPrintedAs version_line (codes "v=0" ++ line_end) passed
version = fixed_line version_line (codes "v=0") passed refl refl

pub name : IsPrintedAs name_line (codes "s=-" ++ line_end) passed
name = fixed_line name_line (codes "s=-") passed refl refl

pub times : IsPrintedAs times_line (codes "t=0 0" ++ line_end) passed
times = fixed_line times_line (codes "t=0 0") passed refl refl

pub connection : IsPrintedAs connection_line (codes "c=IN IP4 0.0.0.0" ++ line_end) passed
connection = fixed_line connection_line (codes "c=IN IP4 0.0.0.0") passed refl refl

-- digits
digit_test : (c : ℕ) (b : Bool) → 48 ≤ c → c ≤ 57 → b ≡ true → (is_ascii_digit c && b) ≡ true
digit_test c b low high rest = grind (arith, nat_tests)

digits_test : (ds : List ℕ) → AllDigits 10 ds → list_all is_ascii_digit ds ≡ true
digits_test [] h = refl
digits_test (d ∷ ds) h = let range = digit_from_value d h.0 in
    digit_test d (list_all is_ascii_digit ds) (omega arith) (omega arith) (digits_test ds h.1)

session_number_reads : (n : ℕ) → n < 2 ^ 64 → session_number (decimal n) ≡ Some n
session_number_reads n small = ap (λ b. cond b (number_below (2 ^ 64) (decimal n)) None)
    (digits_test (decimal n) (digits_decimal own n small)) ∙ number_below-decimal (2 ^ 64) n small (lit≤ tt)

abbrev pub after_number : List ℕ
after_number = codes "2 IN IP4 0.0.0.0"

-- the originator with the session's number
pub originator : (n : ℕ) → n < 2 ^ 64
    → IsPrintedAs origin_line (named (codes "o=str0m-0.25.0 ") (decimal n ++ 32 ∷ after_number)) n
originator n small = named_line origin_line (codes "o=str0m-0.25.0 ") (decimal n ++ 32 ∷ after_number) n
    (named_by (codes "o=str0m-0.25.0 ") refl)
    (lacks_two 10 32 (decimal n) after_number (no_feed n small) (λ e. cc) (lacks 10 after_number refl))
    (lacks_two 13 32 (decimal n) after_number (no_return n small) (λ e. cc) (lacks 13 after_number refl))
    (ap (option_map (λ x. x.1.0)) (cut_reads 32 any_text (cut 32 (told session_number) any_text) (codes "str0m-0.25.0")
    (decimal n ++ 32 ∷ after_number) (codes "str0m-0.25.0") (n, after_number)
    (lacks 32 (codes "str0m-0.25.0") refl) refl
    (cut_reads 32 (told session_number) any_text (decimal n) after_number n after_number
    (Lacks-decimal 32 n (lit< tt) small) (session_number_reads n small) refl)))

pub bandwidth : (b : Bandwidth) → IsText b.typ → Lacks 58 b.typ → IsText b.val
    → IsPrintedAs bandwidth_line (bandwidth_text b) b
bandwidth b typ colon val = at_text bandwidth_line _ _ _ (two_parts (codes "b=") b.typ b.val 58)
    (named_line bandwidth_line (codes "b=") (b.typ ++ 58 ∷ b.val) b (named_by (codes "b=") refl)
    (lacks_two 10 58 b.typ b.val typ.1 (λ e. cc) val.1) (lacks_two 13 58 b.typ b.val typ.2 (λ e. cc) val.2)
    (ap (option_map make_bandwidth) (cut_reads 58 any_text any_text b.typ b.val b.typ b.val colon
    (text_some b.typ typ.0) (text_some b.val val.0))))

-- payload types with blanks between
types_read : (pts : List ℕ) → AreBelow (2 ^ 8) pts → AreRead 32 pt_number decimal pts
types_read [] h = tt
types_read (pt ∷ pts) h = (
  Lacks-decimal 32 pt (lit< tt) (omega (h.0, arith)),
  number_below-decimal (2 ^ 8) pt h.0 (lit≤ tt),
  types_read pts h.1,
)

not_blank : (t : List ℕ) → Lacks 32 t → 0 < length t → (more : List ℕ)
    → (is_some (behind (codes " ") (t ++ more)) ≡ false) × ((length (t ++ more) == 0) ≡ false)
not_blank [] h some more = absurd (omega arith)
not_blank (b ∷ t) h some more = (ap is_some (other_byte b 32 _ _ h.0), grind (arith, nat_tests))

formats_by : (t : List ℕ) (empty blank : Bool) (pts : List ℕ) → empty ≡ false → blank ≡ false
    → each pt_number (parts 32 t) ≡ Some pts
    → cond empty (Some []) (cond blank None (Some (unwrap_or (each pt_number (parts 32 t)) []))) ≡ Some pts
formats_by t empty blank pts filled none h =
    ap (λ b. cond b (Some []) (cond blank None (Some (unwrap_or (each pt_number (parts 32 t)) [])))) filled
    ∙ ap (λ b. cond b None (Some (unwrap_or (each pt_number (parts 32 t)) []))) none
    ∙ ap (λ o. Some (unwrap_or o [])) h

pub formats_read : (pt : ℕ) (pts : List ℕ) → AreBelow (2 ^ 8) (pt ∷ pts)
    → formats (numbers_text (codes " ") (pt ∷ pts)) ≡ Some (pt ∷ pts)
formats_read pt pts h =
    let t = numbers_text (codes " ") (pt ∷ pts) in
    let small : pt < 2 ^ 64 = omega (h.0, arith) in
    let two = not_blank (decimal pt) (Lacks-decimal 32 pt (lit< tt) small) (decimal_nonempty pt small)
    (each_behind (codes " ") (map decimal pts)) in
    formats_by t (length t == 0) (is_some (behind (codes " ") t)) (pt ∷ pts) two.1 two.0
    (list_reads 32 pt_number decimal pt pts (types_read (pt ∷ pts) h))
