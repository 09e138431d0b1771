-- What printed sections say of wanted ones.
use Rattle.std.proofs.Common.{◌≡◌, ◌==◌, true, List, [], ◌∷◌, length, map, refl, arith}
use Rattle.std.specs.Prelude.{IsTrue, zip}
use Rattle.std.specs.List.{list_all}
use Rattle.std.specs.Str.{bytes_eq}
use Rattle.std.proofs.lemmas.Slice.Eq.{bytes_eq-Decides}
use Rattle.rtp_wire.specs.Values.{Numbering}
use Rattle.sdp_formats_laws.proofs.Lists.{both}
use Rattle.rtp_media_sections.specs.PrintedSections.{as_read}
use Rattle.rtp_media_sections.specs.WantedSections.{AnsweredSectionsNameWanted, OfferedSectionsNameWanted}
use Rattle.rtp_media_sections.specs.Answered.{answered_section}
use Rattle.rtp_media_sections.specs.Offered.{offered_section}
use Rattle.sdp_formats_rows.specs.Rows.{Row}
use Rattle.rtp_media_sections.specs.Sections.{Section, Wanted, are_sound, corresponds, is_sound, is_wanted, same_kind}
use Rattle.rtp_media_exchange.specs.Offers.{answered_sections, offered_sections}
use Rattle.rtp_media_exchange.specs.Requests.{AreAnswers, AreOffers, IsAnswerOf, IsOfferOf}

one_offer : OfferedSectionsNameWanted → (exts : Numbering) (rows : List Row) (w : Wanted) → is_sound w ≡ true
    → IsOfferOf (as_read (offered_section exts rows w)) w
unfolding offered_section
one_offer law exts rows w sound = record { names = law exts rows w sound; dir = refl }

pub are_offers : OfferedSectionsNameWanted → (exts : Numbering) (rows : List Row) (ws : List Wanted)
    → are_sound ws ≡ true → AreOffers (map as_read (offered_sections exts rows ws)) ws
are_offers law exts rows [] sound = tt
are_offers law exts rows (w ∷ ws) sound =
    let two = both (is_sound w) (are_sound ws) sound in
    (one_offer law exts rows w two.0, are_offers law exts rows ws two.1)

one_answer : AnsweredSectionsNameWanted → (exts : Numbering) (rows : List Row) (w : Wanted) (o : Section)
    → is_sound w ≡ true → is_wanted (o, w) ≡ true → IsAnswerOf (as_read (answered_section exts rows w o)) w o
unfolding answered_section
one_answer law exts rows w o sound shape = record {
  names = law exts rows w o sound;
  dir = refl;
  offer_mid = (bytes_eq-Decides o.mid w.mid).0 (both (bytes_eq o.mid w.mid) (same_kind o.kind w.kind) shape).0;
}

each_answer : AnsweredSectionsNameWanted → (exts : Numbering) (rows : List Row) (ws : List Wanted) (os : List Section)
    → length ws ≡ length os → are_sound ws ≡ true → list_all is_wanted (zip os ws) ≡ true
    → AreAnswers (map as_read (answered_sections exts rows ws os)) ws os
each_answer law exts rows [] [] same sound shapes = tt
each_answer law exts rows [] (o ∷ os) same sound shapes = absurd (omega (arith, same))
each_answer law exts rows (w ∷ ws) [] same sound shapes = absurd (omega (arith, same))
each_answer law exts rows (w ∷ ws) (o ∷ os) same sound shapes =
    let two = both (is_sound w) (are_sound ws) sound in
    let shape = both (is_wanted (o, w)) (list_all is_wanted (zip os ws)) shapes in (
      one_answer law exts rows w o two.0 shape.0,
      each_answer law exts rows ws os (omega (arith, same)) two.1 shape.1,
    )

pub are_answers : AnsweredSectionsNameWanted → (exts : Numbering) (rows : List Row) (ws : List Wanted)
    (os : List Section) → length ws ≡ length os → are_sound ws ≡ true → IsTrue (corresponds os ws)
    → AreAnswers (map as_read (answered_sections exts rows ws os)) ws os
are_answers law exts rows ws os same sound shapes =
    each_answer law exts rows ws os same sound
    (both (length os == length ws) (list_all is_wanted (zip os ws)) shapes).1
