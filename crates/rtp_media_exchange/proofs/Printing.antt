-- The text of an answer says the sections that were printed.
use Rattle.std.proofs.Common.{◌≡◌, ◌≢◌, ◌==◌, ◌&&◌, ℕ, Bool, true, false, cond, List, [], ◌∷◌}
use Rattle.std.proofs.Common.{length, map, Option, Some, None, refl, ◌∙◌, ap, sym, arith}
use Rattle.std.specs.Prelude.{IsTrue, find, zip}
use Rattle.std.specs.List.{list_all, list_any}
use Rattle.std.proofs.lemmas.Bool.{false≢true}
use Rattle.std.proofs.lemmas.Bool.Decides.{nat_tests}
use Rattle.std.proofs.lemmas.Slice.Eq.{bytes_eq-Decides}
use Rattle.media_types.specs.declared.codec.MediaKind.{MediaKind}
use Rattle.media_types.specs.declared.codec.MediaKind.TheVariants.{Audio, Video}
use Rattle.rtp_wire.specs.Values.{Numbering}
use Rattle.sdp_formats_data.specs.PrintedSession.{sdp_text}
use Rattle.sdp_formats_data.specs.declared.session.Sdp.{Sdp}
use Rattle.sdp_formats_laws.proofs.Lists.{neither}
use Rattle.sdp_formats_rounds.specs.Members.{IsEach}
use Rattle.rtp_media_sections.specs.PrintableSections.{AnsweredSectionsArePrintable, ArePrintable}
use Rattle.rtp_media_sections.specs.PrintableSections.{OfferedSectionsArePrintable}
use Rattle.rtp_media_sections.specs.PrintedSections.{IsPrintable, SaysRead, TextsSaySections}
use Rattle.rtp_media_sections.specs.PrintedSections.{as_read}
use Rattle.rtp_media_sections.specs.Agreement.{agreed_by_answer}
use Rattle.rtp_media_sections.specs.Answered.{answered_rows, answered_section}
use Rattle.rtp_media_sections.specs.Extensions.{is_writable_map}
use Rattle.sdp_formats_rows.specs.Kinds.{rows_of_kind}
use Rattle.sdp_formats_rows.specs.Rows.{Row}
use Rattle.rtp_media_sections.specs.Sections.{Section, Wanted, corresponds, has_shape, is_wanted, same_kind}
use Rattle.rtp_media_exchange.specs.Answering.{HasWidths, read_back}
use Rattle.rtp_media_exchange.specs.Exchanges.{Exchanged, IsKept, answered_agreement}
use Rattle.rtp_media_exchange.specs.Offers.{answer_of, answered_sections, offer_of, offered_sections, sdp_of}
use Rattle.rtp_media_exchange.specs.Refusals.{answers_none, is_nameless, lists_none, no_answer, no_common_row_of}
use Rattle.rtp_media_exchange.specs.Refusals.{no_row_of, not_written}
use Rattle.rtp_media_exchange.specs.Says.{SaysSections}
use Rattle.rtp_media_exchange.specs.declared.errors.ExchangeError.TheVariants as error

-- a section with a name that answers an offered one
some_name : (w : Wanted) → is_nameless w ≡ false → w.mid ≢ []
some_name w e = λ none. false≢true (sym e ∙ ap (λ (mid : List ℕ). length mid == 0) none)

some_row : (rows : List Row) (o : Section) → answers_none rows o ≡ false → answered_rows rows o ≢ []
some_row rows o e = λ none. false≢true (sym e ∙ ap (λ (rs : List Row). length rs == 0) none)

abbrev WithMap : Numbering → List Row → Type 0
WithMap exts rows = (length exts ≡ 16) × (is_writable_map exts ≡ true) × ArePrintable rows

one_printable : AnsweredSectionsArePrintable → (exts : Numbering) (rows : List Row) → WithMap exts rows → (w : Wanted)
    (o : Section) → HasWidths w → is_nameless w ≡ false → answers_none rows o ≡ false
    → IsPrintable (answered_section exts rows w o)
one_printable law exts rows kept w o widths named lists =
    law exts rows w o (record {
      numbers = kept.0;
      writable = kept.1;
      some_name = some_name w named;
      name = widths.0;
      ssrcs = widths.1;
      repairs = widths.2;
    }) kept.2 (some_row rows o lists)

none_found : (rows : List Row) (o : Section) (os : List Section) → find (answers_none rows) (o ∷ os) ≡ None
    → (answers_none rows o ≡ false) × (find (answers_none rows) os ≡ None)
none_found rows o os e = at (answers_none rows o) e
  where
    at : (b : Bool) → cond b (Some o) (find (answers_none rows) os) ≡ None
        → (b ≡ false) × (find (answers_none rows) os ≡ None)
    at true f = absurd (cc f)
    at false f = (refl, f)

each_printable : AnsweredSectionsArePrintable → (exts : Numbering) (rows : List Row) → WithMap exts rows
    → (ws : List Wanted) (os : List Section) → IsEach HasWidths ws → list_any is_nameless ws ≡ false
    → find (answers_none rows) os ≡ None → IsEach IsPrintable (answered_sections exts rows ws os)
each_printable law exts rows kept [] os widths named lists = tt
each_printable law exts rows kept (w ∷ ws) [] widths named lists = tt
each_printable law exts rows kept (w ∷ ws) (o ∷ os) widths named lists =
    let names = neither (is_nameless w) (list_any is_nameless ws) named in
    let found = none_found rows o os lists in (
      one_printable law exts rows kept w o widths.0 names.0 found.0,
      each_printable law exts rows kept ws os widths.1 names.1 found.1,
    )

none_lacks : (o : Option Section) → no_common_row_of o ≡ None → o ≡ None
none_lacks None e = refl
none_lacks (Some s) e = absurd (cc e)

is_written : (b : Bool) → cond b (Some error.NotWritable) None ≡ None → b ≡ false
is_written true e = absurd (cc e)
is_written false e = refl

-- what is read of a text, as it says it
of_read : (text : List ℕ) (sections : List Section) → SaysRead text sections → SaysSections text sections
of_read text sections read = record {
  lines = read.said.media_lines;
  says = record {
    says = (read.said.session, [], read.says);
    only = λ others s. ap (λ (sdp : Sdp). sdp.media_lines)
        (read.only (record { session = s.0; media_lines = others }) s.1 s.2);
  };
  sections_are = sym read.sections_are;
}

pub answer_says : AnsweredSectionsArePrintable → TextsSaySections → (x : Exchanged) (rows : List Row)
    (wanted : List Wanted) (offer : List Section) → IsKept x.session x.wanted rows → IsEach HasWidths wanted
    → no_answer rows offer ≡ None → not_written wanted ≡ None
    → SaysSections (sdp_text (answer_of x rows wanted offer))
    (map as_read (answered_sections x.wanted rows wanted offer))
unfolding answer_of
answer_says printable texts x rows wanted offer kept widths listed written =
    let answer : List Section = answered_sections x.wanted rows wanted offer in
    let names = is_written (list_any is_nameless wanted) written in
    let lists = none_lacks (find (answers_none rows) offer) listed in
    of_read (sdp_text (sdp_of x.session answer)) (map as_read answer)
    (texts x.session answer kept.id kept.writable
    (each_printable printable x.wanted rows (kept.numbers, kept.words, kept.printable) wanted offer widths names lists))

-- the text of an offer
listed_row : (rows : List Row) (w : Wanted) → lists_none rows w ≡ false → rows_of_kind w.kind true rows ≢ []
listed_row rows w e = λ none. false≢true (sym e ∙ ap (λ (rs : List Row). length rs == 0) none)

none_listed : (rows : List Row) (w : Wanted) (ws : List Wanted) → find (lists_none rows) (w ∷ ws) ≡ None
    → (lists_none rows w ≡ false) × (find (lists_none rows) ws ≡ None)
none_listed rows w ws e = at (lists_none rows w) e
  where
    at : (b : Bool) → cond b (Some w) (find (lists_none rows) ws) ≡ None
        → (b ≡ false) × (find (lists_none rows) ws ≡ None)
    at true f = absurd (cc f)
    at false f = (refl, f)

each_offered : OfferedSectionsArePrintable → (exts : Numbering) (rows : List Row) → WithMap exts rows
    → (ws : List Wanted) → IsEach HasWidths ws → list_any is_nameless ws ≡ false
    → find (lists_none rows) ws ≡ None → IsEach IsPrintable (offered_sections exts rows ws)
each_offered law exts rows kept [] widths named lists = tt
each_offered law exts rows kept (w ∷ ws) widths named lists =
    let names = neither (is_nameless w) (list_any is_nameless ws) named in
    let found = none_listed rows w ws lists in (
      law exts rows w (record {
        numbers = kept.0;
        writable = kept.1;
        some_name = some_name w names.0;
        name = widths.0.0;
        ssrcs = widths.0.1;
        repairs = widths.0.2;
      }) kept.2 (listed_row rows w found.0),
      each_offered law exts rows kept ws widths.1 names.1 found.1,
    )

none_without : (o : Option Wanted) → no_row_of o ≡ None → o ≡ None
none_without None e = refl
none_without (Some w) e = absurd (cc e)

pub offer_says : OfferedSectionsArePrintable → TextsSaySections → (x : Exchanged) (wanted : List Wanted)
    → IsKept x.session x.wanted x.config.rows → IsEach HasWidths wanted
    → no_row_of (find (lists_none x.config.rows) wanted) ≡ None → not_written wanted ≡ None
    → SaysSections (sdp_text (offer_of x wanted)) (map as_read (offered_sections x.wanted x.config.rows wanted))
unfolding offer_of
offer_says printable texts x wanted kept widths listed written =
    let offer : List Section = offered_sections x.wanted x.config.rows wanted in
    let names = is_written (list_any is_nameless wanted) written in
    let lists = none_without (find (lists_none x.config.rows) wanted) listed in
    of_read (sdp_text (sdp_of x.session offer)) (map as_read offer)
    (texts x.session offer kept.id kept.writable
    (each_offered printable x.wanted x.config.rows (kept.numbers, kept.words, kept.printable) wanted widths names
    lists))

-- its sections are of the wanted names and kinds
kind_own : (kind : MediaKind) → same_kind kind kind ≡ true
kind_own Audio = refl
kind_own Video = refl

shape_own : (w : Wanted) → has_shape w.mid w.kind w ≡ true
shape_own w = λ i. (bytes_eq-Decides w.mid w.mid).1 refl i && kind_own w.kind i

all_wanted : (exts : Numbering) (rows : List Row) (ws : List Wanted) (os : List Section) → length ws ≡ length os
    → list_all is_wanted (zip (map as_read (answered_sections exts rows ws os)) ws) ≡ true
unfolding answered_section
all_wanted exts rows [] os e = refl
all_wanted exts rows (w ∷ ws) [] e = absurd (omega (arith, e))
all_wanted exts rows (w ∷ ws) (o ∷ os) e =
    λ i. shape_own w i && all_wanted exts rows ws os (omega (arith, e)) i

pub as_many : (exts : Numbering) (rows : List Row) (ws : List Wanted) (os : List Section) → length ws ≡ length os
    → length ws ≡ length (answered_sections exts rows ws os)
as_many exts rows [] os e = refl
as_many exts rows (w ∷ ws) [] e = absurd (omega (arith, e))
as_many exts rows (w ∷ ws) (o ∷ os) e = omega (arith, as_many exts rows ws os (omega (arith, e)))

pub as_many_read : (sections : List Section) → length (map as_read sections) ≡ length sections
as_many_read [] = refl
as_many_read (s ∷ sections) = omega (arith, as_many_read sections)

one_length : (a b : ℕ) → a ≡ b → (a == b) ≡ true
one_length a b e = grind (arith, nat_tests)

pub answer_corresponds : (exts : Numbering) (rows : List Row) (ws : List Wanted) (os : List Section)
    → length ws ≡ length os → IsTrue (corresponds (map as_read (answered_sections exts rows ws os)) ws)
answer_corresponds exts rows ws os e =
    let answer : List Section = answered_sections exts rows ws os in
    let same = one_length (length (map as_read answer)) (length ws)
    (as_many_read answer ∙ sym (as_many exts rows ws os e)) in
    (λ i. same i && all_wanted exts rows ws os e i)

-- what is agreed on is what it says
pub same_agreement : (ws : List Wanted) (os answer : List Section)
    → answered_agreement ws os (map read_back answer) ≡ answered_agreement ws os (map as_read answer)
unfolding agreed_by_answer
same_agreement [] os answer = refl
same_agreement (w ∷ ws) [] answer = refl
same_agreement (w ∷ ws) (o ∷ os) [] = refl
same_agreement (w ∷ ws) (o ∷ os) (a ∷ answer) =
    λ i. agreed_by_answer w o (as_read a) ∷ same_agreement ws os answer i
