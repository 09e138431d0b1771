-- What holds of an end at any time.
use Rattle.std.proofs.Common.{◌≡◌, ◌<◌, ◌^◌, ◌==◌, ◌&&◌, ◌||◌, ◌++◌, ℕ, suc, Bool, true, false, not, cond}
use Rattle.std.proofs.Common.{List, [], ◌∷◌, length, Option, Some, None, Ok, refl, map, subst, arith, inl}
use Rattle.std.specs.List.{list_all, list_any}
use Rattle.std.specs.Option.{option_map}
use Rattle.std.proofs.lemmas.Bool.Decides.{nat_tests}
use Rattle.rtp_wire.specs.Maps.{empty_map}
use Rattle.rtp_wire.specs.Values.{Numbering}
use Rattle.sdp_formats_laws.proofs.Lists.{neither}
use Rattle.sdp_formats_laws.specs.PrintedParameters.{RowsAreAsPlainAsTheirOthers}
use Rattle.sdp_formats_data.specs.declared.session.Sdp.{Sdp}
use Rattle.sdp_formats_data.specs.declared.session.Session.{Session}
use Rattle.sdp_formats_reader.specs.Writable.{IsWritableSession}
use Rattle.sdp_formats_rounds.specs.Laws.{is_distinct, rounds}
use Rattle.sdp_formats_rounds.specs.Members.{IsEach}
use Rattle.sdp_formats_rounds.specs.Ranges.{IsSized}
use Rattle.rtp_media_sections.specs.ReadRounds.{ReadSectionsKeepRows}
use Rattle.sdp_formats_rows.specs.DefaultRows.{opus_row}
use Rattle.rtp_media_sections.specs.Extensions.{is_writable_map}
use Rattle.rtp_media_sections.specs.Lines.{remote_of, types_listed}
use Rattle.sdp_formats_rows.specs.Plain.{is_plain}
use Rattle.sdp_formats_rows.specs.Rows.{Row}
use Rattle.rtp_media_sections.specs.Sections.{Section}
use Rattle.rtp_media_exchange.specs.Exchanges.{IsKept, bare_session, fixed}
use Rattle.rtp_media_exchange.specs.Refusals.{first_repeated, is_among, row_refusal, types_refusal}
use Rattle.rtp_media_exchange.specs.Says.{SaysSections}
use Rattle.rtp_media_exchange.specs.declared.errors.EndError.TheVariants as fault

-- rows of which none is refused are plain
rows_plain : (place : ℕ) (rows : List Row) → row_refusal place rows ≡ None → list_all is_plain rows ≡ true
rows_plain place [] e = refl
rows_plain place (row ∷ rows) e = at (is_plain row) e (rows_plain (suc place) rows)
  where
    at : (b : Bool) → cond b (row_refusal (suc place) rows) (Some (fault.RowNotPlain place)) ≡ None
        → (row_refusal (suc place) rows ≡ None → list_all is_plain rows ≡ true)
        → (b && list_all is_plain rows) ≡ true
    at true f later = later f
    at false f later = absurd (cc f)

-- types that are after others
other_way : (t u : ℕ) → (t == u) ≡ false → (u == t) ≡ false
other_way t u e = grind (arith, nat_tests)

one_less : (before : List ℕ) (t u : ℕ) → is_among (before ++ t ∷ []) u ≡ false
    → (is_among before u ≡ false) × ((t == u) ≡ false)
one_less [] t u e = (refl, (neither (t == u) false e).0)
one_less (b ∷ before) t u e =
    let two = neither (b == u) (is_among (before ++ t ∷ []) u) e in
    let less = one_less before t u two.1 in
    ((λ i. two.0 i || less.0 i), less.1)

none_less : (before : List ℕ) (t : ℕ) (rest : List ℕ) → list_any (is_among (before ++ t ∷ [])) rest ≡ false
    → (list_any (is_among before) rest ≡ false) × (is_among rest t ≡ false)
none_less before t [] e = (refl, refl)
none_less before t (u ∷ rest) e =
    let two = neither (is_among (before ++ t ∷ []) u) (list_any (is_among (before ++ t ∷ [])) rest) e in
    let one = one_less before t u two.0 in
    let less = none_less before t rest two.1 in
    ((λ i. one.0 i || less.0 i), (λ i. other_way t u one.1 i || less.1 i))

apart : (before types : List ℕ) → first_repeated before types ≡ None
    → (is_distinct types ≡ true) × (list_any (is_among before) types ≡ false)
apart before [] e = (refl, refl)
apart before (t ∷ rest) e = at (is_among before t) e (apart (before ++ t ∷ []) rest)
  where
    at : (b : Bool) → cond b (Some t) (first_repeated (before ++ t ∷ []) rest) ≡ None
        → (first_repeated (before ++ t ∷ []) rest ≡ None
        → (is_distinct rest ≡ true) × (list_any (is_among (before ++ t ∷ [])) rest ≡ false))
        → ((not (is_among rest t) && is_distinct rest) ≡ true) × ((b || list_any (is_among before) rest) ≡ false)
    at true f later = absurd (cc f)
    at false f later =
        let more = later f in
        let less = none_less before t rest more.1 in
        ((λ i. not (less.1 i) && more.0 i), less.0)

none_repeated : (o : Option ℕ) → option_map fault.TypesNotDistinct o ≡ None → o ≡ None
none_repeated None e = refl
none_repeated (Some t) e = absurd (cc e)

-- an end that was made
pub new_kept : (session : Session) (exts : Numbering) (rows : List Row) → session.id < 2 ^ 64
    → IsWritableSession session → length exts ≡ 16 → is_writable_map exts ≡ true → row_refusal 0 rows ≡ None
    → types_refusal rows ≡ None → IsEach IsSized rows → IsKept session exts rows
new_kept session exts rows id writable numbers words plain types sized = record {
  id = id;
  writable = writable;
  numbers = numbers;
  words = words;
  printable = record {
    plain = rows_plain 0 rows plain;
    apart = (apart [] (types_listed rows) (none_repeated (first_repeated [] (types_listed rows)) types)).0;
    sized = sized;
  };
}

-- a fixed end
pub fixed_kept : RowsAreAsPlainAsTheirOthers → IsKept (bare_session 0) empty_map fixed.config.rows
unfolding fixed
fixed_kept law = record {
  id = omega arith;
  writable = (tt, λ k d low. absurd (omega (arith, low)));
  numbers = refl;
  words = refl;
  printable = record {
    plain = λ i. law (record (opus_row false) { locked = true }) (omega arith, tt, tt, tt, tt, tt, tt, tt, tt, tt)
        (inl (refl, refl)) i && true;
    apart = refl;
    sized = ((omega arith, omega arith, omega arith), tt);
  };
}

-- an end after the rounds with the sections of a text
pub rounds_kept : ReadSectionsKeepRows → (session : Session) (exts : Numbering) (rows after : List Row)
    (text : List ℕ) (sections : List Section) → SaysSections text sections
    → rounds (map remote_of sections) rows ≡ Ok after → IsKept session exts rows → IsKept session exts after
rounds_kept law session exts rows after text sections says settled kept =
    let said : Sdp = record { session = says.says.says.0; media_lines = says.lines } in
    record {
      id = kept.id;
      writable = kept.writable;
      numbers = kept.numbers;
      words = kept.words;
      printable = law text said says.says.says.1 says.says.says.2 rows after kept.printable
          (subst (λ (ss : List Section). rounds (map remote_of ss) rows ≡ Ok after) says.sections_are settled);
    }
