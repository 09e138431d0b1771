-- Answers as they were written.
use Rattle.std.proofs.Common.{◌≡◌, ◌∙◌, ℕ, true, List, None, Ok, length, map, ap, refl, subst, sym}
use Rattle.std.specs.Prelude.{IsTrue}
use Rattle.sdp_formats_data.specs.PrintedSession.{sdp_text}
use Rattle.sdp_formats_data.specs.declared.session.Session.{Session}
use Rattle.sdp_formats_rounds.specs.Members.{IsEach}
use Rattle.rtp_media_sections.specs.PrintableSections.{AnsweredSectionsArePrintable}
use Rattle.rtp_media_sections.specs.PrintedSections.{TextsSaySections, as_read}
use Rattle.rtp_media_sections.specs.ReadRounds.{ReadSectionsKeepRows}
use Rattle.rtp_media_sections.specs.WantedSections.{AnsweredSectionsNameWanted}
use Rattle.rtp_media_sections.specs.Agreement.{Agreed, AgreesOn}
use Rattle.rtp_media_exchange.specs.Answering.{HasWidths, read_back}
use Rattle.rtp_media_exchange.specs.Exchanges.{Exchanged, IsKept, answered_agreement, with_agreement}
use Rattle.sdp_formats_rounds.specs.Laws.{rounds}
use Rattle.rtp_media_sections.specs.Lines.{remote_of}
use Rattle.rtp_media_exchange.specs.Offers.{Answers, answer_of, answered_sections, sdp_of}
use Rattle.rtp_media_exchange.specs.Refusals.{no_answer, not_written}
use Rattle.sdp_formats_rows.specs.Rows.{Row}
use Rattle.rtp_media_exchange.specs.Says.{AgreesOnText, SaysSections}
use Rattle.rtp_media_sections.specs.Sections.{Section, Wanted, are_sound, corresponds}
use Rattle.rtp_media_exchange.proofs.Agreeing.{answered_agrees}
use Rattle.rtp_media_exchange.proofs.Keeping.{rounds_kept}
use Rattle.rtp_media_exchange.proofs.Printing.{answer_corresponds, answer_says, as_many, as_many_read}
use Rattle.rtp_media_exchange.proofs.Printing.{same_agreement}
use Rattle.rtp_media_exchange.proofs.Requested.{are_answers}

-- the text of the sections of an answer
pub answer_text : (x : Exchanged) (rows : List Row) (wanted : List Wanted) (offer : List Section) (session : Session)
    (answer : List Section) → session ≡ x.session → answer ≡ answered_sections x.wanted rows wanted offer
    → sdp_text (sdp_of session answer) ≡ sdp_text (answer_of x rows wanted offer)
unfolding answer_of
answer_text x rows wanted offer session answer same_session is =
    ap (λ (s : Session). sdp_text (sdp_of s answer)) same_session
    ∙ ap (λ (a : List Section). sdp_text (sdp_of x.session a)) is

-- what the text of an answer says
pub says_printed : AnsweredSectionsArePrintable → TextsSaySections → ReadSectionsKeepRows → (x : Exchanged)
    (text : List ℕ) (wanted : List Wanted) (offer : List Section) (rows : List Row) → SaysSections text offer
    → rounds (map remote_of offer) x.config.rows ≡ Ok rows → IsKept x.session x.wanted x.config.rows
    → IsEach HasWidths wanted → no_answer rows offer ≡ None → not_written wanted ≡ None
    → SaysSections (sdp_text (answer_of x rows wanted offer))
    (map as_read (answered_sections x.wanted rows wanted offer))
says_printed printable texts keep x text wanted offer rows says rounds_are kept widths listed written =
    answer_says printable texts x rows wanted offer
    (rounds_kept keep x.session x.wanted x.config.rows rows text offer says rounds_are kept) widths listed written

-- an answer that was written, and what is agreed by it
pub written : AnsweredSectionsNameWanted → (x : Exchanged) (text : List ℕ) (wanted : List Wanted)
    (offer : List Section) (rows : List Row) (answer : List ℕ) (agreed : List Agreed) (after : Exchanged)
    → SaysSections text offer → rounds (map remote_of offer) x.config.rows ≡ Ok rows
    → answer ≡ sdp_text (answer_of x rows wanted offer)
    → SaysSections (sdp_text (answer_of x rows wanted offer))
    (map as_read (answered_sections x.wanted rows wanted offer))
    → length wanted ≡ length offer → are_sound wanted ≡ true → IsTrue (corresponds offer wanted)
    → agreed ≡ answered_agreement wanted offer (map read_back (answered_sections x.wanted rows wanted offer))
    → after ≡ with_agreement x rows agreed → Answers x text wanted answer after
written law x text wanted offer rows answer agreed after says rounds_are text_is said_is same sound shapes agreed_is
    is =
    let printed : List Section = answered_sections x.wanted rows wanted offer in
    record {
      offer = offer;
      offer_is = says;
      rows = rows;
      rounds_are = rounds_are;
      text_is = text_is;
      said = map as_read printed;
      printed = refl;
      said_is = subst (λ t. SaysSections t (map as_read printed)) (sym text_is) said_is;
      said_corresponds = answer_corresponds x.wanted rows wanted offer same;
      are_answers = are_answers law x.wanted rows wanted offer same sound shapes;
      after_is = is ∙ ap (with_agreement x rows) (agreed_is ∙ same_agreement wanted offer printed);
    }

pub agrees : (x : Exchanged) (wanted : List Wanted) (offer : List Section) (rows : List Row) (answer : List ℕ)
    (agreed : List Agreed) → answer ≡ sdp_text (answer_of x rows wanted offer)
    → SaysSections (sdp_text (answer_of x rows wanted offer))
    (map as_read (answered_sections x.wanted rows wanted offer))
    → length wanted ≡ length offer
    → agreed ≡ answered_agreement wanted offer (map read_back (answered_sections x.wanted rows wanted offer))
    → AgreesOnText answer agreed
agrees x wanted offer rows answer agreed text_is said_is same agreed_is =
    let printed : List Section = answered_sections x.wanted rows wanted offer in
    let said : List Section = map as_read printed in
    record {
      sections = said;
      says = subst (λ t. SaysSections t said) (sym text_is) said_is;
      agrees = subst (λ (a : List Agreed). AgreesOn said a)
          (sym (agreed_is ∙ same_agreement wanted offer printed))
          (answered_agrees wanted offer said same
          (as_many x.wanted rows wanted offer same ∙ sym (as_many_read printed)));
    }
